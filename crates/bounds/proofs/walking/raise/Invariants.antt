-- The channels so far are raised.
use Rattle.std.proofs.Common.{take}
use Rattle.bounds.specs.Stages.{Raised}
use Rattle.bounds.proofs.walking.raise.Given as goal

abbrev pub invariant-loop-k : goal.invariant-loop-k
invariant-loop-k l = Raised (take l.k-index l.channels) l.by l.fn.known l.known
