-- The sum of the shares of the channels so far.
use Rattle.std.proofs.Common.{◌≡◌, take}
use Rattle.rules.specs.Words.{total}
use Rattle.bounds.specs.Stages.{share_in}
use Rattle.bounds.proofs.walking.burst.Given as goal

abbrev pub invariant-loop-k : goal.invariant-loop-k
invariant-loop-k l = l.sum ≡ total (share_in l.table l.jitter) (take l.k-index l.k-items)
