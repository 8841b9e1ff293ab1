-- What was found late, in the search of test 14.
use Rattle.std.proofs.Common.{ℕ, zero, suc, List, length, get_or, take, ◌≡◌, ◌∙◌, ◌≤◌, ◌<◌, Bool, true, false}
use Rattle.std.proofs.Common.{Some, None, not, sym, ap, add-one, arith}
use Rattle.std.specs.List.{position, position_or_len}
use Rattle.std.proofs.lemmas.List.{get_or-take, length-take}
use Rattle.std.proofs.lemmas.List.Quantifiers.{position-Some}
use Rattle.std.proofs.lemmas.List.Sums.{prefix_len_passes}
use Rattle.std.proofs.lemmas.Slice.Zip.{get_or-zip, length-zip}
use native.Mathlib.Decide.{dec_lt}
use borrow.Author.Tests.{ltb-true, ltb-false, lt-ltb, not-true}
use Rattle.rules.specs.declared.Bounded.{Bounded}
use Rattle.rules.specs.declared.Channel.{Channel}
use Rattle.rules.specs.declared.Figures.{Figures}
use Rattle.rules.specs.Numbers.{channels_most}
use Rattle.rules.specs.Replies.{Reply}
use Rattle.rules.specs.Table.{View}
use Rattle.rules.specs.Bounds.{end_to_end}
use Rattle.rules.specs.Decoded.{column, no_channel, channel_of, figures_of}
use Rattle.rules.specs.Judgement.{deadline_test, deadline_tests}
use Rattle.rules.proofs.Tests.{Through, Stops, gate_through}
use Rattle.rules.proofs.Tables.Columns.{length-column, entry_at}
use Rattle.rules.proofs.Tables.Search.{FromHere, from_start, from_next, from-stop, from_end}
use Rattle.rules.proofs.Tables.Told.{Told, told, channel_at}
use Rattle.rules.proofs.Bounds.Judgement.{deadline-gate, deadline-stops}
use Rattle.judge.specs.Stages.{BoundsOf, is_late, ends_of}
use Rattle.judge.proofs.in_time.Goals as goal

-- where no entry passes, each fails
none_passes : {A : Type 0} (test : A → Bool) (a : List A) (d : A) → position test a ≡ None → (k : ℕ) → k < length a
    → test (get_or a k d) ≡ false
none_passes test a d e k l =
    elim (dec_lt (position_or_len test a) (length a)) [
      | yes m ↦ absurd (cc (e, lt-ltb _ _ m))
      | no o ↦ not-true _ (prefix_len_passes (λ x. not (test x)) a k d (omega arith))
    ]

-- a search comes to item i where the tests of the items before it pass
comes : (f : ℕ → Reply → Reply) (m i : ℕ) → i ≤ m → ((k : ℕ) → k < i → Through (f k)) → FromHere f m i
comes f m zero l h = from_start f m
comes f m (suc i) l h =
    rw (← add-one i)
    (from_next f m i (omega arith) (comes f m i (omega arith) (λ k less. h k (omega arith))) (h i (omega arith)))

module _ (t : View) (b : Bounded) (of : BoundsOf t b) where
  read : Told t b.table
  read = told t b.table of.table

  ends : b.figures.end ≡ column 0 channels_most t.channels (end_to_end t)
  unfolding figures_of
  ends = ap (λ (f : Figures). f.end) of.figures

  abbrev none : Channel × ℕ
  none = (no_channel, 0)

  channels_long : length b.table.channel ≡ channels_most
  channels_long =
      ap (λ (a : List Channel). length a) read.channel
      ∙ length-column no_channel channels_most (channel_of t) t.channels

  ends_long : length b.figures.end ≡ channels_most
  ends_long = ap (λ (a : List ℕ). length a) ends ∙ length-column 0 channels_most (end_to_end t) t.channels

  first : length (take b.table.channels b.table.channel) ≡ t.channels
  first = length-take b.table.channels b.table.channel ∙ omega (arith, read.channels, channels_long, of.sound.channels_at_most)

  long : length (ends_of b) ≡ t.channels
  long =
      length-zip (take b.table.channels b.table.channel) b.figures.end
      ∙ omega (arith, first, ends_long, of.sound.channels_at_most)

  module _ (k : ℕ) (l : k < t.channels) where
    entry : get_or (ends_of b) k none ≡ (get_or b.table.channel k no_channel, get_or b.figures.end k 0)
    entry =
        get_or-zip (take b.table.channels b.table.channel) b.figures.end k none (omega (arith, first))
        (omega (arith, ends_long, of.sound.channels_at_most))
        ∙ rw (get_or-take b.table.channels b.table.channel k no_channel (omega (arith, read.channels)))

    deadline : (get_or (ends_of b) k none).0.deadline ≡ t.deadline k
    deadline = ap (λ (p : Channel × ℕ). p.0.deadline) entry ∙ (channel_at t of.sound b.table read k no_channel l).deadline

    end : (get_or (ends_of b) k none).1 ≡ end_to_end t k
    end =
        ap (λ (p : Channel × ℕ). p.1) entry
        ∙ entry_at 0 channels_most t.channels (end_to_end t) b.figures.end ends of.sound.channels_at_most k 0 l

    passes : is_late (get_or (ends_of b) k none) ≡ false → Through (deadline_test t k)
    passes e = gate_through (deadline-gate t k) (omega (arith, ltb-false _ _ e, deadline, end))

    fails : is_late (get_or (ends_of b) k none) ≡ true → Stops (deadline_test t k) 14 k
    fails e = deadline-stops t k (omega (arith, ltb-true _ _ e, deadline, end))

  is_found : (k : ℕ) → position is_late (ends_of b) ≡ Some k → Stops (deadline_tests t) 14 k
  is_found k e =
      let p = position-Some is_late (ends_of b) k none e in
      let l : k < t.channels = omega (arith, p.0, long) in
      from-stop (deadline_test t) t.channels k l
      (comes (deadline_test t) t.channels k (omega arith) (λ i m. passes i (omega arith) (p.2 i m))) (fails k l p.1)

  is_none : position is_late (ends_of b) ≡ None → Through (deadline_tests t)
  is_none e =
      from_end (deadline_test t) t.channels t.channels (omega arith)
      (comes (deadline_test t) t.channels t.channels (omega arith)
      (λ i m. passes i m (none_passes is_late (ends_of b) none e i (omega (arith, long)))))

pub returns-in-Some : goal.returns-in-Some
returns-in-Some c = λ t of. is_found t c.args.bounded.now of c.in-Some.channel (sym c.in-Some.ensures)

pub returns-in-None : goal.returns-in-None
returns-in-None c = λ t of. is_none t c.args.bounded.now of (sym c.in-None.ensures)
