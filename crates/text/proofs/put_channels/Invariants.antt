-- The lines so far are put.
use Rattle.std.proofs.Common.{length}
use Rattle.rules.specs.Decoded.{end_in}
use Rattle.rules.specs.Text.{word, lines, Put}
use Rattle.text.specs.Rows.{deadline_in}
use Rattle.text.proofs.put_channels.Given as goal

abbrev pub invariant-loop-k : goal.invariant-loop-k
invariant-loop-k l =
    Put l.fn.lent l.at (lines (word "channel") (end_in l.bounded.figures) (deadline_in l.bounded.table) (length l.yielded)) l.end l.lent
