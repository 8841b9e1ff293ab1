-- The numbers so far are put.
use Rattle.std.proofs.Common.{take}
use Rattle.rules.specs.Text.{spaced, Put}
use Rattle.words.proofs.put_numbers.Given as goal

abbrev pub invariant-loop-number : goal.invariant-loop-number
invariant-loop-number l = Put l.fn.lent l.at (spaced (take l.number-index l.numbers)) l.end l.lent
