use Rattle.std.proofs.Common.{◌<◌, arith}
use Rattle.rules.specs.Judgement.{room_test}
use Rattle.rules.proofs.Tables.Search.{from_start, from_next, from-stop, from_end}
use Rattle.rules.proofs.Tests.{gate_through}
use Rattle.rules.proofs.Bounds.Judgement.{room-gate}
use Rattle.bounds.proofs.Read.{table-told, wire-less}
use Rattle.bounds.proofs.Wires.{walking_start, walking-ends}
use Rattle.bounds.proofs.Walk.{some-hyper, rate_at_least, rate_at_most, gathers, bytes_fit, over-stops}
use Rattle.bounds.proofs.Walk.{passed, spent-fits, spare-jitters, spare-ends, next}
use Rattle.bounds.proofs.walking.walk.Goals as goal

pub loop-w-init : goal.loop-w-init
loop-w-init c =
    record {
      search = λ t to. from_start (room_test t) t.wires;
      walking = λ t to. walking_start t _ c.requires.none;
    }

pub burst-requires-clause-gathers : goal.burst-requires-clause-gathers
burst-requires-clause-gathers c =
    let to = c.requires.to_walk.1 in
    let under = c.args.filing.now.all _ to.read in
    gathers to under c.loop-w.w (omega arith) (c.loop-w.invariant.walking _ to)

pub nonzero_div-own : goal.nonzero_div-own
nonzero_div-own c = let to = c.requires.to_walk.1 in some-hyper to (c.args.filing.now.all _ to.read)

pub hold-requires : goal.hold-requires
hold-requires c =
    let to = c.requires.to_walk.1 in
    let under = c.args.filing.now.all _ to.read in
    let w = c.loop-w.w in
    let l : w < c.args.filing.now.table.now.wires = omega arith in
    (rate_at_least to under w l, rate_at_most to under w l)

pub overflow_add-backlog : goal.overflow_add-backlog
overflow_add-backlog c =
    let to = c.requires.to_walk.1 in
    let under = c.args.filing.now.all _ to.read in
    omega (
      arith,
      bytes_fit to under c.loop-w.w (omega arith) (c.loop-w.invariant.walking _ to) c.burst.ensures c.hold.ensures,
    )

pub returns-then-from-backlog-clause-answered : goal.returns-then-from-backlog-clause-answered
returns-then-from-backlog-clause-answered c = λ t to.
    (let under = c.args.filing.now.all t to.read in
    let w = c.loop-w.w in
    let l : w < c.args.filing.now.table.now.wires = omega arith in
    from-stop (room_test t) t.wires w (wire-less to.read w l) (c.loop-w.invariant.search t to)
    (over-stops to under w l (c.loop-w.invariant.walking t to) c.burst.ensures c.hold.ensures (omega arith)))

pub slots-delay-requires : goal.slots-delay-requires
slots-delay-requires c =
    let to = c.requires.to_walk.1 in
    omega (arith, rate_at_least to (c.args.filing.now.all _ to.read) c.loop-w.w (omega arith))

pub raise-requires : goal.raise-requires
raise-requires c =
    let to = c.requires.to_walk.1 in
    let under = c.args.filing.now.all _ to.read in
    rw c.saturating_sub.ensures
    (spare-jitters to under c.loop-w.w (omega arith) (c.loop-w.invariant.walking _ to) c.burst.ensures c.hold.ensures
    (omega arith) c.slots-delay.ensures c.channels-channels.ensures)

pub overflow_add-delay : goal.overflow_add-delay
overflow_add-delay c =
    let to = c.requires.to_walk.1 in
    let under = c.args.filing.now.all _ to.read in
    omega (
      arith,
      spent-fits to under c.loop-w.w (omega arith) (c.loop-w.invariant.walking _ to) c.burst.ensures c.hold.ensures
          (omega arith) c.slots-delay.ensures,
    )

pub raise-requires-in-loop-w : goal.raise-requires-in-loop-w
raise-requires-in-loop-w c =
    let to = c.requires.to_walk.1 in
    let under = c.args.filing.now.all _ to.read in
    rw c.from-in-loop-w.ensures
    (spare-ends to under c.loop-w.w (omega arith) (c.loop-w.invariant.walking _ to) c.burst.ensures c.hold.ensures
    (omega arith) c.slots-delay.ensures c.channels-channels.ensures)

pub loop-w-preserved : goal.loop-w-preserved
loop-w-preserved c =
    let w = c.loop-w.w in
    let l : w < c.args.filing.now.table.now.wires = omega arith in
    record {
      search = λ t to.
          (let under = c.args.filing.now.all t to.read in
          from_next (room_test t) t.wires w (wire-less to.read w l) (c.loop-w.invariant.search t to)
          (gate_through (room-gate t w)
          (passed to under w l (c.loop-w.invariant.walking t to) c.burst.ensures c.hold.ensures (omega arith))));
      walking = λ t to.
          (let under = c.args.filing.now.all t to.read in
          next to under w l (c.loop-w.invariant.walking t to) c.burst.ensures c.hold.ensures (omega arith)
          c.slots-delay.ensures c.channels-channels.ensures (rw c.saturating_sub.ensures at c.raise.ensures)
          (rw c.from-in-loop-w.ensures at c.raise-in-loop-w.ensures));
    }

pub returns-clause-answered : goal.returns-clause-answered
returns-clause-answered c = λ t to.
    from_end (room_test t) t.wires c.loop-w.w (omega (arith, (table-told to.read).wires)) (c.loop-w.invariant.search t to)

pub returns-clause-figures_value : goal.returns-clause-figures_value
returns-clause-figures_value c = λ t to.
    walking-ends t to.read.sound c.loop-w.w (omega (arith, (table-told to.read).wires)) c.loop-w.figures c.loop-w.jitter
    (c.loop-w.invariant.walking t to)
