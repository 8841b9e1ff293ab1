-- Each return by the tests that led there.
use Rattle.std.proofs.Common.{ℕ, ◌≡◌, ◌∙◌, Some, None, refl, sym, ap, arith}
use Rattle.std.specs.Prelude.{Option, Result, Ok, Err, IsErrAnd}
use Rattle.std.specs.Option.{ok_or}
use Rattle.rules.specs.declared.Refusal.{Refusal}
use Rattle.rules.specs.declared.Refusal.TheVariants as refusal
use Rattle.rules.specs.declared.Stretch.{Stretch}
use Rattle.rules.specs.Replies.{refusal_reply, label_reply}
use Rattle.roll.proofs.Ends.{not_sound, not_there, before, short, asked}
use Rattle.roll.proofs.ask.Goals as goal

-- what a `?` hands on
handed_on : (a : Result Stretch Refusal) (r : Refusal) → IsErrAnd a (λ e. e ≡ r) → label_reply a ≡ refusal_reply r
handed_on (Ok x) r h = absurd h
handed_on (Err e) r h = ap refusal_reply h

refusal_of : (o : Option ℕ) (r s : Refusal) → Err s ≡ ok_or o r → s ≡ r
refusal_of None r s e = cc
refusal_of (Some x) r s e = cc

pub returns-in_err-count : goal.returns-in_err-count
returns-in_err-count c =
    let e = c.in_err-count.ensures in
    let r = refusal_of c.count_of.result refusal.Roll c.in_err-count.field-0.0 e.value in
    handed_on c.from_residual.result refusal.Roll (rw r at c.from_residual.ensures.1)
    ∙ sym (not_sound c.args.roll.now c.args.number (sym e.ok_part ∙ c.count_of.ensures))

pub returns-then-count-number : goal.returns-then-count-number
returns-then-count-number c =
    let count = sym c.in_ok-count.ensures.ok_part ∙ c.count_of.ensures in
    sym (not_there c.args.roll.now c.in_ok-count.count c.args.number count (omega arith))

pub unwrap-at-requires : goal.unwrap-at-requires
unwrap-at-requires c =
    let count = sym c.in_ok-count.ensures.ok_part ∙ c.count_of.ensures in
    rw (c.end_of.ensures, before c.args.roll.now c.in_ok-count.count c.args.number count (omega arith)) refl

pub overflow_add-result : goal.overflow_add-result
overflow_add-result c =
    let count = sym c.in_ok-count.ensures.ok_part ∙ c.count_of.ensures in
    let at = sym c.unwrap-at.ensures ∙ c.end_of.ensures in
    omega (arith, short c.args.roll.now c.in_ok-count.count c.args.number count (omega arith) c.unwrap-at.result at)

pub bounds-roll-at : goal.bounds-roll-at
bounds-roll-at c =
    let count = sym c.in_ok-count.ensures.ok_part ∙ c.count_of.ensures in
    let at = sym c.unwrap-at.ensures ∙ c.end_of.ensures in
    omega (arith, short c.args.roll.now c.in_ok-count.count c.args.number count (omega arith) c.unwrap-at.result at)

pub returns : goal.returns
returns c =
    let count = sym c.in_ok-count.ensures.ok_part ∙ c.count_of.ensures in
    let at = sym c.unwrap-at.ensures ∙ c.end_of.ensures in
    rw c.wide.ensures (asked c.args.roll.now c.in_ok-count.count c.args.number count (omega arith) c.unwrap-at.result at)
