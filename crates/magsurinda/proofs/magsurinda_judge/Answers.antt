use Rattle.std.proofs.Common.{rules, [], ◌∷◌, length}
use Rattle.rules.proofs.Small.{judge-small}
use Rattle.magsurinda.specs.Packed.{only}
use Rattle.magsurinda.proofs.Packing.{refusal-fits, packed_is}
use Rattle.magsurinda.proofs.magsurinda_judge.Goals as goal

pub map_or_else-requires-clause-default_callable : goal.map_or_else-requires-clause-default_callable
map_or_else-requires-clause-default_callable c =
    refusal-fits (λ length. length ∷ []) c.judge.result (judge-small c.args.table.now (length c.args.sheet.now))
    c.judge.ensures.result_value

pub returns-clause-value : goal.returns-clause-value
returns-clause-value c =
    packed_is (λ length. length ∷ []) only c.judge.result c.judge.ensures.result_value c.map_or_else.result
    (λ x is. search rules) (λ r is. search rules)
