-- The delays of the channels below k are put.
use Rattle.std.proofs.Common.{◌≡◌}
use Rattle.rules.specs.Words.{entries}
use Rattle.rules.specs.Sheet.{with_channels}
use Rattle.sheet.proofs.put_channels.Given as goal

abbrev pub invariant-loop-k : goal.invariant-loop-k
invariant-loop-k l = l.sheet ≡ with_channels l.counts.wires (entries l.end) l.k l.fn.sheet
