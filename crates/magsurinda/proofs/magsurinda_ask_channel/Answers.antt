use Rattle.std.proofs.Common.{rules, [], ◌∷◌}
use Rattle.rules.proofs.Small.{channel-small}
use Rattle.magsurinda.specs.Packed.{only}
use Rattle.magsurinda.proofs.Packing.{refusal-fits, packed_is}
use Rattle.magsurinda.proofs.magsurinda_ask_channel.Goals as goal

pub unwrap_or_else-requires : goal.unwrap_or_else-requires
unwrap_or_else-requires c =
    refusal-fits (λ delay. delay ∷ []) c.ask_channel.result (channel-small c.args.sheet.now c.args.channel) c.ask_channel.ensures

pub returns : goal.returns
returns c =
    packed_is (λ delay. delay ∷ []) only c.ask_channel.result c.ask_channel.ensures c.unwrap_or_else.result
    (λ x is. search rules) (λ r is. search rules)
