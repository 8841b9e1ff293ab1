-- The figures of the wires below w are put.
use Rattle.std.proofs.Common.{◌≡◌}
use Rattle.rules.specs.Sheet.{with_wires}
use Rattle.sheet.specs.Writing.{backlogs, delays}
use Rattle.sheet.proofs.put_wires.Given as goal

abbrev pub invariant-loop-w : goal.invariant-loop-w
invariant-loop-w l = l.sheet ≡ with_wires (backlogs l.figures) (delays l.figures) l.w l.fn.sheet
