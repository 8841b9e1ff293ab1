use Rattle.std.proofs.Common.{◌∙◌, refl, sym, ap, add-one, arith}
use Rattle.rules.specs.Words.{every}
use Rattle.rules.specs.Roll.{behind, length_at, sound_at, sound_labels}
use Rattle.rules.proofs.Sheet.Fitting.{every-false}
use Rattle.roll.proofs.Ends.{nothing, found, faulty}
use Rattle.roll.proofs.end_of.Goals as goal

pub loop-init : goal.loop-init
unfolding every length_at
loop-init c = record { sound = refl; there = refl }

pub returns-in_err-at : goal.returns-in_err-at
returns-in_err-at c =
    let roll = c.args.roll.now in
    let n = c.args.n in
    let fault = nothing (sound_at roll c.loop.at) (behind roll c.loop.at) c.in_err-at.ensures in
    c.from_residual.ensures
    ∙ faulty (sound_labels roll n) (length_at roll n)
    (every-false (λ j. sound_at roll (length_at roll j)) n c.loop.counter (omega arith)
    (ap (sound_at roll) (sym c.loop.invariant.there) ∙ fault))

pub loop-preserved : goal.loop-preserved
unfolding every length_at
loop-preserved c =
    let roll = c.args.roll.now in
    let inv = c.loop.invariant in
    let end = found (sound_at roll c.loop.at) (behind roll c.loop.at) c.in_ok-at.at c.in_ok-at.ensures in
    record {
      sound = rw (add-one, inv.sound) (ap (sound_at roll) (sym inv.there) ∙ end.0);
      there = end.1 ∙ ap (behind roll) inv.there ∙ sym (ap (length_at roll) (add-one c.loop.counter));
    }
