-- The part that `ask` names.
use Rattle.std.proofs.Common.{ℕ, List, [], ◌∷◌, ◌≡◌, ◌+◌, ◌-◌, ◌≤◌, length, take, drop, ap, ap₂, arith}
use Rattle.rules.specs.Replies.{granted, refusal_reply}
use Rattle.rules.specs.Roll.{ask_label, stretch_start, stretch_length}
use Rattle.rules.proofs.Roll.{ask-inside}
use Rattle.roll.proofs.label.Goals as goal

-- of a label that was granted
module _ (roll : List ℕ) (number start count : ℕ) (is : granted (start ∷ count ∷ []) ≡ ask_label roll number) where
  starts : start ≡ stretch_start (ask_label roll number)
  unfolding stretch_start
  starts = ap stretch_start is

  counts : count ≡ stretch_length (ask_label roll number)
  unfolding stretch_length
  counts = ap stretch_length is

  inside : start + count ≤ length roll
  inside = omega (arith, starts, counts, ask-inside roll number)

pub overflow_add-result : goal.overflow_add-result
overflow_add-result c =
    let r = c.in-Ok.field-0 in
    omega (arith, inside c.args.roll.now c.args.number r.start r.length c.in-Ok.ensures)

pub slice_bounds-result-end : goal.slice_bounds-result-end
slice_bounds-result-end c =
    let r = c.in-Ok.field-0 in
    omega (arith, inside c.args.roll.now c.args.number r.start r.length c.in-Ok.ensures)

pub returns-in-Ok-clause-value : goal.returns-in-Ok-clause-value
returns-in-Ok-clause-value c =
    let roll = c.args.roll.now in
    let r = c.in-Ok.field-0 in
    let n = counts roll c.args.number r.start r.length c.in-Ok.ensures in
    let many : r.start + r.length - r.start ≡ stretch_length (ask_label roll c.args.number) = omega (arith, n) in
    ap₂ (λ (n i : ℕ). take n (drop i roll)) many (starts roll c.args.number r.start r.length c.in-Ok.ensures)

pub returns-in-Ok-clause-place : goal.returns-in-Ok-clause-place
returns-in-Ok-clause-place c =
    let r = c.in-Ok.field-0 in
    let e = starts c.args.roll.now c.args.number r.start r.length c.in-Ok.ensures in
    ap (λ (n : ℕ). (c.args.roll.ref_ptr.0, n)) (omega (arith, e))

pub returns-in-Err-clause-value : goal.returns-in-Err-clause-value
unfolding stretch_start stretch_length
returns-in-Err-clause-value c =
    let roll = c.args.roll.now in
    let is : refusal_reply c.in-Err.field-0 ≡ ask_label roll c.args.number = c.in-Err.ensures in
    ap₂ (λ (n i : ℕ). take n (drop i roll)) (ap stretch_length is) (ap stretch_start is)

pub returns-in-Err-clause-place : goal.returns-in-Err-clause-place
unfolding stretch_start
returns-in-Err-clause-place c =
    let is : refusal_reply c.in-Err.field-0 ≡ ask_label c.args.roll.now c.args.number = c.in-Err.ensures in
    let e : 0 ≡ stretch_start (ask_label c.args.roll.now c.args.number) = ap stretch_start is in
    ap (λ (n : ℕ). (c.args.roll.ref_ptr.0, n)) (omega (arith, e))
