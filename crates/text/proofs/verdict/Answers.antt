use Rattle.text.proofs.Judged.{refused_verdict, accepted_verdict}
use Rattle.text.proofs.verdict.Goals as goal

pub returns-in_err-judge-clause-value : goal.returns-in_err-judge-clause-value
returns-in_err-judge-clause-value c =
    refused_verdict c.args.table.now c.in_err-judge.field-0.0 c.from_residual.result c.in_err-judge.ensures.result_value
    c.from_residual.ensures.1

pub returns-clause-value : goal.returns-clause-value
returns-clause-value c =
    let b = c.bounds.ensures in
    (accepted_verdict c.args.table.now c.in_ok-judge.field-0 c.in_ok-judge.ensures.result_value c.bounds.result b.answer_value b.table_value b.figures_value).0

pub returns-clause-within : goal.returns-clause-within
returns-clause-within c =
    let b = c.bounds.ensures in
    (accepted_verdict c.args.table.now c.in_ok-judge.field-0 c.in_ok-judge.ensures.result_value c.bounds.result b.answer_value b.table_value b.figures_value).1
