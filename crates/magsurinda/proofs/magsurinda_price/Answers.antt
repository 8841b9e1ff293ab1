use Rattle.std.proofs.Common.{rules, [], ◌∷◌}
use Rattle.rules.proofs.Small.{price-small}
use Rattle.magsurinda.specs.Packed.{only}
use Rattle.magsurinda.proofs.Packing.{refusal-fits, packed_is}
use Rattle.magsurinda.proofs.magsurinda_price.Goals as goal

pub unwrap_or_else-requires : goal.unwrap_or_else-requires
unwrap_or_else-requires c =
    refusal-fits (λ bytes. bytes ∷ []) c.price.result (price-small c.args.framing c.args.payload) c.price.ensures

pub returns : goal.returns
returns c =
    packed_is (λ bytes. bytes ∷ []) only c.price.result c.price.ensures c.unwrap_or_else.result
    (λ x is. search rules) (λ r is. search rules)
