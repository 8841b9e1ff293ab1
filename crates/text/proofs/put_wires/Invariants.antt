-- The first i lines are put.
use Rattle.rules.specs.Decoded.{backlog_in, delay_in}
use Rattle.rules.specs.Text.{word, lines, Put}
use Rattle.text.proofs.put_wires.Given as goal

abbrev pub invariant-loop-i : goal.invariant-loop-i
invariant-loop-i l =
    Put l.fn.lent l.at (lines (word "link") (backlog_in l.bounded.figures) (delay_in l.bounded.figures) l.i) l.end l.lent
