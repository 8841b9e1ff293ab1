use Rattle.std.proofs.Common.{ℕ, List, ◌+◌, refl, ◌∙◌, ap, arith}
use Rattle.bits.specs.Field.{wrote_field}
use Rattle.rules.specs.Numbers.{backlog_bits, delay_bits}
use Rattle.rules.specs.Sheet.{figures_at, with_wires}
use Rattle.rules.proofs.Sheet.Putting.{wire-put}
use Rattle.sheet.specs.Writing.{backlogs, delays}
use Rattle.sheet.proofs.put_wires.Goals as goal

pub loop-w-init : goal.loop-w-init
unfolding with_wires
loop-w-init c = refl

pub overflow_add-at : goal.overflow_add-at
unfolding figures_at
overflow_add-at c = omega arith

pub loop-w-preserved : goal.loop-w-preserved
unfolding figures_at
loop-w-preserved c =
    let a = c.args in
    let w = c.loop-w.w in
    let f = a.figures.now in
    let at = c.figures_at-at.result in
    c.write-in-loop-w.ensures.s_after
    ∙ ap (λ (s : List ℕ). wrote_field s (at + backlog_bits) delay_bits (delays f w)) c.write.ensures.s_after
    ∙ wire-put a.sheet.now c.loop-w.sheet at (backlogs f) (delays f) w c.loop-w.invariant
    c.figures_at-at.ensures (omega arith) (c.requires.backlog_fits w (omega arith)) (c.requires.delay_fits w (omega arith))
