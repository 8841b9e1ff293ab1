-- The search from the start is the search from wire w, and the array holds the wires below w.
use Rattle.std.proofs.Common.{ℕ, List, length, ◌≡◌}
use Rattle.rules.specs.declared.Wire.{Wire}
use Rattle.rules.specs.Table.{view_of}
use Rattle.rules.specs.Reading.{wire_tests}
use Rattle.rules.specs.Decoded.{column, no_wire, wire_of}
use Rattle.rules.proofs.Tables.Search.{FromHere}
use Rattle.table.proofs.wires_of.Given as goal

pub record Here (s : List ℕ) (n : ℕ) (array : List Wire) (w : ℕ) : Type 0 where
  pub search : FromHere (wire_tests s) n w
  pub long : length array ≡ n
  pub wires : array ≡ column no_wire n w (wire_of (view_of s))

abbrev pub invariant-loop-w : goal.invariant-loop-w
invariant-loop-w l = Here l.s l.n l.wire-items l.w
