use Rattle.std.proofs.Common.{refl}
use Rattle.rules.specs.Decoded.{no_figures}
use Rattle.bounds.proofs.walking.no_figures.Goals as goal

pub returns : goal.returns
unfolding no_figures
returns c = refl
