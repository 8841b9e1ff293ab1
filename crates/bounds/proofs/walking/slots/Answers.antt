use Rattle.std.proofs.Common.{ℕ, ◌∙◌, ap, arith}
use Rattle.rules.specs.Words.{up}
use Rattle.bounds.proofs.Ceil.{up-ceil}
use Rattle.bounds.proofs.walking.slots.Goals as goal

pub returns : goal.returns
returns c =
    c.div_ceil.ensures ∙ up-ceil _ c.args.rate c.requires ∙ ap (λ (n : ℕ). up n c.args.rate) (omega arith)
