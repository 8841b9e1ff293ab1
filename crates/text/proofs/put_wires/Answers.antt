use Rattle.std.proofs.Common.{ap, refl, arith}
use lib.Seq.{get_or-take}
use Rattle.rules.specs.declared.WireFigures.{WireFigures}
use Rattle.rules.specs.Decoded.{no_wire_figures, backlog_in, delay_in}
use Rattle.rules.specs.Text.{word}
use Rattle.text.proofs.Rows.{put_none, put_more}
use Rattle.text.proofs.put_wires.Goals as goal

pub loop-i-init : goal.loop-i-init
loop-i-init c = put_none c.args.lent.now c.args.at (word "link") _ _ c.requires.at_bound

pub loop-i-preserved : goal.loop-i-preserved
unfolding word
loop-i-preserved c =
    let b = c.args.bounded.now in
    let i = c.loop-i.i in
    let row = get_or-take b.table.wires b.figures.wire i no_wire_figures (omega arith) in
    put_more (word "link") (backlog_in b.figures) (delay_in b.figures) i refl
    (ap (λ (r : WireFigures). r.backlog) row) (ap (λ (r : WireFigures). r.delay) row)
    c.loop-i.invariant c.put_line-end.ensures.value c.put_line-end.ensures.lent_after
