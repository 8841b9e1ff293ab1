use Rattle.std.proofs.Common.{refl}
use Rattle.rules.specs.Decoded.{no_table}
use Rattle.table.proofs.none.Goals as goal

pub returns : goal.returns
unfolding no_table
returns c = refl
