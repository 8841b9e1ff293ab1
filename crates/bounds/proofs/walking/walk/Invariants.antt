-- Test 13 from the start is that from wire w, and everything before wire w is worked out.
use Rattle.rules.specs.Table.{View}
use Rattle.rules.specs.Judgement.{room_test}
use Rattle.rules.proofs.Tables.Search.{FromHere}
use Rattle.bounds.specs.Stages.{ToWalk}
use Rattle.bounds.proofs.Wires.{Walking}
use Rattle.bounds.proofs.walking.walk.Given as goal

abbrev pub invariant-loop-w : goal.invariant-loop-w
invariant-loop-w l =
    record {
      search : (t : View) → ToWalk t l.filing.table.now → FromHere (room_test t) t.wires l.w;
      walking : (t : View) → ToWalk t l.filing.table.now → Walking t l.w l.figures l.jitter;
    }
