use Rattle.std.proofs.Common.{ℕ, List, ◌≡◌, ◌<◌, get_or, arith}
use Rattle.bounds.specs.declared.filing.Filed.{Filed}
use Rattle.rules.specs.declared.Table.{Table}
use Rattle.rules.specs.Table.{View}
use Rattle.rules.specs.Bounds.{part, on, load, load_of}
use Rattle.rules.specs.Decoded.{no_wire}
use Rattle.rules.specs.Judgement.{load_test}
use Rattle.rules.proofs.Tests.{gate_through}
use Rattle.rules.proofs.Tables.Search.{from_next, from-stop, from_end}
use Rattle.rules.proofs.Bounds.Judgement.{load-gate, load-stops}
use Rattle.bounds.specs.Stages.{AsRead, FiledBelow}
use Rattle.bounds.proofs.Hops.{holds-load}
use Rattle.bounds.proofs.Read.{blank, table-told, wire-less, wire-small, limit, limit_fits}
use Rattle.bounds.proofs.none_over.Goals as goal

-- the load that is filed
load_told : {t : View} {r : Table} {filed : List Filed} → AsRead t r → FiledBelow t t.channels filed → (w : ℕ) → w < r.wires
    → (get_or filed w blank).load ≡ load t w
unfolding load load_of
load_told {t} {r} {filed} read under w l =
    holds-load (on t w) (part t) t.channels (get_or filed w blank) (under.wire w blank (wire-small read w l))

pub overflow_mul-wire : goal.overflow_mul-wire
overflow_mul-wire c = omega (arith, limit_fits c.requires.1 c.loop-w.w (omega arith) no_wire)

pub returns-then-wire-table : goal.returns-then-wire-table
returns-then-wire-table c = λ t read.
    (let under = c.args.filing.now.all t read in
    let w = c.loop-w.w in
    let l : w < c.args.filing.now.table.now.wires = omega arith in
    from-stop (load_test t) t.wires w (wire-less read w l) (c.loop-w.invariant t read)
    (load-stops t w (omega (arith, limit read w l no_wire, load_told read under w l))))

pub loop-w-preserved : goal.loop-w-preserved
loop-w-preserved c = λ t read.
    (let under = c.args.filing.now.all t read in
    let w = c.loop-w.w in
    let l : w < c.args.filing.now.table.now.wires = omega arith in
    from_next (load_test t) t.wires w (wire-less read w l) (c.loop-w.invariant t read)
    (gate_through (load-gate t w) (omega (arith, limit read w l no_wire, load_told read under w l))))

pub returns : goal.returns
returns c = λ t read.
    from_end (load_test t) t.wires c.loop-w.w (omega (arith, (table-told read).wires)) (c.loop-w.invariant t read)
