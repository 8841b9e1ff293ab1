-- The prices of the channels before channel k.
use Rattle.std.proofs.Common.{ℕ, ◌≡◌, ◌<◌, get_or}
use Rattle.bounds.specs.Stages.{channel_in}
use Rattle.bounds.proofs.walking.prices.Given as goal

abbrev pub invariant-loop-k : goal.invariant-loop-k
invariant-loop-k l = (k : ℕ) → k < l.k → get_or l.price k 0 ≡ (channel_in l.table k).price
