use Rattle.std.proofs.Common.{ℕ, ◌≡◌, ◌∙◌, ap, arith}
use Rattle.std.proofs.Math.ListN.{length-set}
use Rattle.std.proofs.Math.Seq.{length-take-le}
use Rattle.rules.specs.Numbers.{wires_most}
use Rattle.rules.specs.Replies.{each}
use Rattle.rules.specs.Table.{view_of}
use Rattle.rules.specs.Reading.{wire_tests}
use Rattle.rules.specs.Decoded.{column, no_wire, wire_of}
use Rattle.rules.proofs.Tables.Columns.{column-set}
use Rattle.rules.proofs.Tables.Search.{from_start, from_next, from-stop, from_end}
use Rattle.table.proofs.Answers.{handed}
use Rattle.table.proofs.Columns.{column_first, column_whole}
use Rattle.table.proofs.wires_of.Goals as goal

pub loop-w-init : goal.loop-w-init
loop-w-init c =
    let s = c.args.s.now in
    record {
      search = from_start (wire_tests s) c.args.n;
      long = length-take-le c.args.n c.args.wires.now (omega arith);
      wires = rw c.requires.none (column_first no_wire wires_most (wire_of (view_of s)) c.args.n c.requires.most);
    }

pub loop-w-preserved : goal.loop-w-preserved
loop-w-preserved c =
    let s = c.args.s.now in
    let w = c.loop-w.w in
    let here = c.loop-w.invariant in
    record {
      search = from_next (wire_tests s) c.args.n w (omega arith) here.search c.in_ok-wire.ensures.answered;
      long = length-set c.loop-w.wire-items w c.in_ok-wire.field-0 ∙ here.long;
      wires = column-set no_wire c.args.n (wire_of (view_of s)) w (omega arith) here.wires c.in_ok-wire.ensures.told;
    }

pub returns-clause-answered : goal.returns-clause-answered
returns-clause-answered c =
    let here = c.loop-w.invariant in
    from_end (wire_tests c.args.s.now) c.args.n c.loop-w.w (omega arith) here.search

pub returns-clause-told : goal.returns-clause-told
returns-clause-told c =
    let here = c.loop-w.invariant in
    let e : c.loop-w.w ≡ c.args.n = omega arith in
    let n = c.args.n in
    let f = wire_of (view_of c.args.s.now) in
    rw c.requires.none
    (column_whole no_wire wires_most f n c.requires.most c.loop-w.wire-items
    (here.wires ∙ ap (λ (k : ℕ). column no_wire n k f) e))

pub returns-in_err-wire-clause-answered : goal.returns-in_err-wire-clause-answered
returns-in_err-wire-clause-answered c =
    let f = wire_tests c.args.s.now in
    let n = c.args.n in
    handed (each f 0 n) (λ rest. rest) c.from_residual.result c.in_err-wire.field-0.0 c.from_residual.ensures.1
    (from-stop f n c.loop-w.w (omega arith) c.loop-w.invariant.search c.in_err-wire.ensures.answered)
