-- A refusal's buffer.
use Rattle.std.proofs.Common.{ℕ, List, length, replicate, ◌≡◌, ◌∙◌, true, Result, Ok, Err, sym, ap, arith}
use Rattle.std.specs.Result.{is_err}
use Rattle.rules.specs.declared.Refusal.{Refusal}
use Rattle.rules.specs.Replies.{judging_reply}
use Rattle.rules.specs.Table.{view_of}
use Rattle.rules.specs.Judgement.{judge as judged, buffer}
use Rattle.rules.proofs.Sheet.Asking.{buffer-of, leaves-refused}
use Rattle.judge.proofs.judge.Goals as goal

refused-left : (s : List ℕ) (lent : ℕ) (r : Result ℕ Refusal) → is_err r ≡ true → judging_reply r ≡ judged s lent
    → buffer s lent ≡ replicate lent 255
refused-left s lent (Ok n) e h = cc
refused-left s lent (Err x) e h = buffer-of s lent _ (sym h) ∙ leaves-refused (view_of s) lent _ _

pub returns-then-is_err-clause-sheet_after : goal.returns-then-is_err-clause-sheet_after
returns-then-is_err-clause-sheet_after c =
    let s = c.args.table.now in
    let lent = length c.args.sheet.now in
    let r = c.accept-answer in
    c.fill.ensures
    ∙ ap (λ (n : ℕ). replicate n 255) (omega arith)
    ∙ sym (refused-left s lent r.result (sym c.is_err.ensures.value ∙ c.if-is_err.true) r.ensures.result_value)
