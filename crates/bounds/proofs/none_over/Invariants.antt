-- Test 12 from the start is that from wire w.
use Rattle.rules.specs.Table.{View}
use Rattle.rules.specs.Judgement.{load_test}
use Rattle.rules.proofs.Tables.Search.{FromHere}
use Rattle.bounds.specs.Stages.{AsRead}
use Rattle.bounds.proofs.none_over.Given as goal

abbrev pub invariant-loop-w : goal.invariant-loop-w
invariant-loop-w l = (t : View) → AsRead t l.filing.table.now → FromHere (load_test t) t.wires l.w
