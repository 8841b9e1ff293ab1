use Rattle.std.proofs.Common.{rules, [], ◌∷◌}
use Rattle.rules.proofs.Small.{wire-small}
use Rattle.magsurinda.specs.Packed.{figures}
use Rattle.magsurinda.proofs.Packing.{refusal-fits, grant-fits, packed_is}
use Rattle.magsurinda.proofs.magsurinda_ask_wire.Goals as goal

pub map_or_else-requires-clause-default_callable : goal.map_or_else-requires-clause-default_callable
map_or_else-requires-clause-default_callable c =
    refusal-fits (λ wire. wire.backlog ∷ wire.delay ∷ []) c.ask_wire.result (wire-small c.args.sheet.now c.args.wire)
    c.ask_wire.ensures

pub map_or_else-requires-clause-f_callable : goal.map_or_else-requires-clause-f_callable
map_or_else-requires-clause-f_callable c =
    grant-fits (λ wire. wire.backlog ∷ wire.delay ∷ []) c.ask_wire.result (wire-small c.args.sheet.now c.args.wire)
    c.ask_wire.ensures

pub returns : goal.returns
returns c =
    packed_is (λ wire. wire.backlog ∷ wire.delay ∷ []) figures c.ask_wire.result c.ask_wire.ensures c.map_or_else.result
    (λ x is. search rules) (λ r is. search rules)
