-- Where labels end, by what was found of them.
use Rattle.std.proofs.Common.{ℕ, zero, suc, List, [], ◌∷◌, Bool, true, false, Some, None, ◌≡◌, ◌∙◌, ◌+◌, ◌-◌, ◌≤◌, ◌<◌}
use Rattle.std.proofs.Common.{length, get_or, eqb, take, drop, refl, sym, ap, add-one, arith}
use Rattle.std.proofs.lemmas.List.{get_or-drop}
use Rattle.std.proofs.lemmas.List.Folds.{list_all_more}
use lib.ListN.{length-drop}
use borrow.Author.Tests.{lt-ltb, le-ltb}
use Rattle.std.specs.Bool.{then_some}
use Rattle.std.specs.List.{list_all, slice_range}
use Rattle.rules.specs.Words.{between, every}
use Rattle.rules.specs.Numbers.{channels_most}
use Rattle.rules.specs.Replies.{granted, refused, test}
use Rattle.rules.specs.Roll.{behind, label_most, labels, length_at, sound_at, sound_labels, sound_roll, ask_label}
use Rattle.rules.proofs.Sheet.Fitting.{every_true, true-every}
use Rattle.rules.proofs.Roll.{none, past, inside, fits, roll-none, roll-told}
use Rattle.rules.proofs.Ranges.{between-told}

pub faulty : (b : Bool) (n : ℕ) → b ≡ false → None ≡ then_some b n
faulty b n e = rw e refl

pub nothing : (b : Bool) (n : ℕ) → None ≡ then_some b n → b ≡ false
nothing true n e = cc
nothing false n e = refl

pub found : (b : Bool) (n m : ℕ) → Some m ≡ then_some b n → (b ≡ true) × (m ≡ n)
found true n m e = (refl, cc)
found false n m e = cc

-- a test of each entry
every_entry : (p : ℕ → Bool) (xs : List ℕ) (n : ℕ) → n ≤ length xs → every (λ i. p (get_or xs i 0)) n ≡ list_all p (take n xs)
unfolding every
every_entry p xs zero h = refl
every_entry p xs (suc n) h = rw (every_entry p xs n (omega arith), ← add-one n, list_all_more p xs n 0 (omega arith)) refl

every_part : (p : ℕ → Bool) (xs : List ℕ) (from n : ℕ) → from + n ≤ length xs
    → every (λ i. p (get_or xs (from + i) 0)) n ≡ list_all p (slice_range xs from (from + n))
every_part p xs from n h =
    let e : from + n - from ≡ n = omega arith in
    let all = every_entry p (drop from xs) n (omega (arith, length-drop from xs)) in
    simp get_or-drop at all ∙ ap (λ (m : ℕ). list_all p (take m (drop from xs))) (sym e)

-- the label whose length byte stands at `at`
module _ (roll : List ℕ) (at : ℕ) where
  pub not-there : get_or roll at 0 ≡ 0 → None ≡ then_some (sound_at roll at) (behind roll at)
  not-there e = faulty (sound_at roll at) (behind roll at) (none roll at (omega (arith, e)))

  module _ (count : ℕ) (is : count ≡ get_or roll at 0) where
    pub miscounted : between 1 count label_most ≡ false → None ≡ then_some (sound_at roll at) (behind roll at)
    unfolding sound_at
    miscounted h = rw (rw is at h) refl

    module _ (counted : between 1 count label_most ≡ true) where
      pub cut-off : (at + 1 + count ≤ length roll → ⊥) → None ≡ then_some (sound_at roll at) (behind roll at)
      cut-off h =
          let c = between-told 1 count label_most counted in
          faulty (sound_at roll at) (behind roll at)
          (past roll at (omega (arith, c.0, is)) (omega (arith, c.1, is)) (omega (arith, h, is)))

      pub printed : (end : ℕ) (part : List ℕ) (b : Bool) → end ≡ at + 1 + count → end ≤ length roll
          → part ≡ slice_range roll (at + 1) end → b ≡ list_all (λ byte. between 32 byte 126) part
          → then_some b (at + 1 + count) ≡ then_some (sound_at roll at) (behind roll at)
      printed end part b at-end short e h =
          let c = between-told 1 count label_most counted in
          let each : every (λ i. between 32 (get_or roll (at + 1 + i) 0) 126) count ≡ b
          = every_part (λ byte. between 32 byte 126) roll (at + 1) count (omega (arith, short, at-end)) ∙ rw (h, e, at-end) refl in
          rw (
            inside roll at (omega (arith, c.0, is)) (omega (arith, c.1, is)) (omega (arith, short, at-end, is)) b (sym (rw is at each)),
            is,
          )
          refl

-- the whole roll, by what was found of its labels
module _ (roll : List ℕ) where
  pub no-count : get_or roll 0 0 ≡ 0 → None ≡ then_some (sound_roll roll) (labels roll)
  no-count e = faulty (sound_roll roll) (labels roll) (roll-none roll (omega (arith, e)))

  module _ (count : ℕ) (is : count ≡ get_or roll 0 0) where
    pub uncounted : between 1 count channels_most ≡ false → None ≡ then_some (sound_roll roll) (labels roll)
    unfolding sound_roll
    uncounted h = rw (rw is at h) refl

    module _ (counted : between 1 count channels_most ≡ true) where
      pub mislabelled : None ≡ then_some (sound_labels roll count) (length_at roll count)
          → None ≡ then_some (sound_roll roll) (labels roll)
      unfolding sound_roll
      mislabelled e = rw (rw is at counted, rw is at (nothing (sound_labels roll count) (length_at roll count) e)) refl

      pub labelled : (end : ℕ) → Some end ≡ then_some (sound_labels roll count) (length_at roll count)
          → then_some (eqb end (length roll)) count ≡ then_some (sound_roll roll) (labels roll)
      unfolding sound_roll
      labelled end e =
          let f = found (sound_labels roll count) (length_at roll count) end e in
          rw (f.1, is, rw is at counted, rw is at f.0) refl

  -- asking it for label k
  pub not_sound : (k : ℕ) → None ≡ then_some (sound_roll roll) (labels roll) → ask_label roll k ≡ refused 21 0
  unfolding ask_label test
  not_sound k e = rw (nothing (sound_roll roll) (labels roll) e) refl

  module _ (count k : ℕ) (e : Some count ≡ then_some (sound_roll roll) (labels roll)) where
    is : (sound_roll roll ≡ true) × (count ≡ labels roll)
    is = found (sound_roll roll) (labels roll) count e

    pub not_there : count ≤ k → ask_label roll k ≡ refused 22 0
    unfolding ask_label test
    not_there h = rw (is.0, le-ltb k (labels roll) (omega (arith, is.1))) refl

    module _ (less : k < count) where
      pub before : sound_labels roll k ≡ true
      before =
          every_true (λ j. sound_at roll (length_at roll j)) k (λ j h.
          true-every (λ i. sound_at roll (length_at roll i)) (labels roll) (roll-told roll is.0).2 j (omega (arith, is.1)))

      module _ (at : ℕ) (f : Some at ≡ then_some (sound_labels roll k) (length_at roll k)) where
        there : at ≡ length_at roll k
        there = (found (sound_labels roll k) (length_at roll k) at f).1

        pub short : at + 1 ≤ length roll
        short = omega (arith, there, fits roll is.0 k (omega (arith, is.1)))

        pub asked : granted ((at + 1) ∷ get_or roll at 0 ∷ []) ≡ ask_label roll k
        unfolding ask_label test
        asked = rw (is.0, lt-ltb k (labels roll) (omega (arith, is.1)), there) refl
