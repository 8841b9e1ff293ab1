use Rattle.std.proofs.Common.{rules, [], ◌∷◌}
use Rattle.rules.proofs.Small.{label_small}
use Rattle.magsurinda.specs.Packed.{stretch}
use Rattle.magsurinda.proofs.Packing.{refusal-fits, grant-fits, packed_is}
use Rattle.magsurinda.proofs.magsurinda_label.Goals as goal

pub map_or_else-requires-clause-default_callable : goal.map_or_else-requires-clause-default_callable
map_or_else-requires-clause-default_callable c =
    refusal-fits (λ label. label.start ∷ label.length ∷ []) c.ask.result (label_small c.args.roll.now c.args.number) c.ask.ensures

pub map_or_else-requires-clause-f_callable : goal.map_or_else-requires-clause-f_callable
map_or_else-requires-clause-f_callable c =
    grant-fits (λ label. label.start ∷ label.length ∷ []) c.ask.result (label_small c.args.roll.now c.args.number) c.ask.ensures

pub returns : goal.returns
returns c =
    packed_is (λ label. label.start ∷ label.length ∷ []) stretch c.ask.result c.ask.ensures c.map_or_else.result
    (λ x is. search rules) (λ r is. search rules)
