-- Laws of the label roll: what a sound label and a sound roll have; a sound roll is its count and its labels, each behind its
-- length byte; two with the same count and labels are the same bytes; no proper prefix or extension of one is sound.
use mathlib.Core.Path.{◌≡◌, refl, sym, ap, ap₂, ◌∙◌}
use mathlib.Core.Bool.{Bool, true, false}
use mathlib.Core.List.{List, [], ◌∷◌, ◌++◌, map}
use Prim.Native.Nat.{ℕ, zero, suc, ◌+◌, ◌*◌, ◌≤◌, ◌<◌}
use native.Mathlib.Omega.{arith}
use native.Mathlib.Numerals.{add-one}
use lib.Dec.{eqb}
use lib.ListN.{length, get_or, take, drop, replicate, length-drop, length-append}
use lib.Seq.{take-length, take-suc, take-add, drop-cons, length-take-le, get_or-take, take-append_seam}
use Rattle.std.proofs.lemmas.Bool.Decides.{nat_tests}
use Rattle.std.proofs.lemmas.Grind.{common_steps}
use Rattle.std.proofs.lemmas.Bool.{false_from_ne_true}
use Rattle.rules.specs.Words.{between, every, only, gathered}
use Rattle.rules.proofs.Sheet.Fitting.{true-every}
use Rattle.rules.specs.Numbers.{channels_most}
use Rattle.rules.specs.Replies.{Reply, granted, refused, test}
use Rattle.rules.specs.Roll.{label_most, roll_longest, labels, behind, length_at, label_length, label}
use Rattle.rules.specs.Roll.{sound_at, sound_labels, sound_roll, ask_label, stretch_start, stretch_length}
use Rattle.rules.proofs.Machine.Played.{gathered-same}

pub between_is : (low x high : ℕ) → low ≤ x → x ≤ high → between low x high ≡ true
between_is low x high a b = grind (arith, nat_tests)

pub between-below : (low x high : ℕ) → x < low → between low x high ≡ false
between-below low x high a = grind (arith, nat_tests)

pub between-above : (low x high : ℕ) → low ≤ x → high < x → between low x high ≡ false
between-above low x high a b = grind (arith, nat_tests)

-- the label whose length byte stands at `at`
module _ (roll : List ℕ) (at : ℕ) where
  abbrev count : ℕ
  count = get_or roll at 0

  abbrev printed : Bool
  printed = every (λ i. between 32 (get_or roll (at + 1 + i) 0) 126) count

  pub none : count < 1 → sound_at roll at ≡ false
  unfolding sound_at
  none h = grind (arith, nat_tests)

  module _ (some : 1 ≤ count) where
    pub long : label_most < count → sound_at roll at ≡ false
    unfolding sound_at
    long h = grind (arith, nat_tests)

    module _ (short : count ≤ label_most) where
      pub past : length roll < behind roll at → sound_at roll at ≡ false
      unfolding sound_at
      past h = grind (arith, nat_tests)

      pub inside : behind roll at ≤ length roll → (b : Bool) → b ≡ printed → sound_at roll at ≡ b
      unfolding sound_at
      inside h b e = grind (arith, nat_tests)

  -- what a sound label has
  pub told : sound_at roll at ≡ true → (1 ≤ count) × (count ≤ label_most) × (behind roll at ≤ length roll) × (printed ≡ true)
  unfolding sound_at
  told e = grind (arith, nat_tests)

-- what stands for a number where a test fails, and where it does not
pub only_none : (b : Bool) (x : ℕ) → only b x ≡ 0 → 1 ≤ x → b ≡ false
only_none b x e h = grind (arith, common_steps)

pub only-some : (b : Bool) (x : ℕ) → (only b x ≡ 0 → ⊥) → b ≡ true
only-some b x ne = grind (arith, common_steps)

-- where the length byte of label n can stand at most
pub length_at-most : (roll : List ℕ) (n : ℕ) → sound_labels roll n ≡ true → length_at roll n ≤ 1 + (1 + label_most) * n
unfolding every length_at
length_at-most roll zero e = omega arith
length_at-most roll (suc n) e =
    grind (arith, common_steps, length_at-most roll n, told roll (length_at roll n))

-- the whole roll
module _ (roll : List ℕ) where
  pub roll-none : labels roll < 1 → sound_roll roll ≡ false
  unfolding sound_roll
  roll-none h = grind (arith, nat_tests)

  module _ (some : 1 ≤ labels roll) where
    pub roll_many : channels_most < labels roll → sound_roll roll ≡ false
    unfolding sound_roll
    roll_many h = grind (arith, nat_tests)

    -- it ends where its labels do, and 0 stands for the end of those with a fault
    pub roll-ends : labels roll ≤ channels_most → 1 ≤ length roll
        → eqb (only (sound_labels roll (labels roll)) (length_at roll (labels roll))) (length roll) ≡ sound_roll roll
    unfolding sound_roll
    roll-ends h l =
        grind (arith, nat_tests)

  -- what a sound roll has
  pub roll-told : sound_roll roll ≡ true
      → (1 ≤ labels roll) × (labels roll ≤ channels_most) × (sound_labels roll (labels roll) ≡ true)
      × (length_at roll (labels roll) ≡ length roll)
  unfolding sound_roll
  roll-told e =
      grind (arith, nat_tests)

-- what is granted is a part of the roll
pub ask-inside : (roll : List ℕ) (number : ℕ)
    → stretch_start (ask_label roll number) + stretch_length (ask_label roll number) ≤ length roll
unfolding ask_label test stretch_start stretch_length
ask-inside roll number =
    grind (
      arith,
      nat_tests,
      roll-told roll,
      true-every (λ k. sound_at roll (length_at roll k)) (labels roll),
      told roll (length_at roll number),
    )

abbrev pub piece : List ℕ → ℕ → List ℕ
piece roll k = label_length roll k ∷ label roll k

module _ (roll : List ℕ) (is : sound_roll roll ≡ true) where
  -- of each label
  pub fits : (k : ℕ) → k < labels roll → behind roll (length_at roll k) ≤ length roll
  fits k l =
      (told roll (length_at roll k)
      (true-every (λ j. sound_at roll (length_at roll j)) (labels roll) (roll-told roll is).2 k l)).2

  pub label-length : (k : ℕ) → k < labels roll → length (label roll k) ≡ label_length roll k
  label-length k l =
      length-take-le (label_length roll k) (drop (length_at roll k + 1) roll)
      (omega (arith, length-drop (length_at roll k + 1) roll, fits k l))

  -- up to the length byte of label n
  up_to : (n : ℕ) → n ≤ labels roll → take (length_at roll n) roll ≡ labels roll ∷ gathered (piece roll) n
  unfolding length_at gathered
  up_to zero h = take-suc roll 0 0 (omega (arith, fits 0 (roll-told roll is).0))
  up_to (suc n) h =
      let at = length_at roll n in
      let c = get_or roll at 0 in
      let room = fits n (omega arith) in
      let e : at + 1 + c ≡ at + suc c = omega arith in
      ap (λ (m : ℕ). take m roll) e
      ∙ take-add at (suc c) roll
      ∙ ap₂ (λ (a b : List ℕ). a ++ b) (up_to n (omega arith))
      (ap (take (suc c)) (drop-cons roll at 0 (omega (arith, room)))
      ∙ ap (λ (m : ℕ). c ∷ take c (drop m roll)) (sym (add-one at)))

  pub whole : roll ≡ labels roll ∷ gathered (piece roll) (labels roll)
  whole =
      sym (take-length roll)
      ∙ ap (λ (m : ℕ). take m roll) (sym (roll-told roll is).3)
      ∙ up_to (labels roll) (omega arith)

pub same-labels : (a b : List ℕ) → sound_roll a ≡ true → sound_roll b ≡ true → labels a ≡ labels b
    → ((k : ℕ) → k < labels a → label a k ≡ label b k) → a ≡ b
same-labels a b p q n h =
    whole a p
    ∙ ap₂ (λ (m : ℕ) (l : List ℕ). m ∷ l) n
    (gathered-same (piece a) (piece b) (labels a) (λ k l.
    let e = h k l in
    ap₂ (λ (c : ℕ) (l : List ℕ). c ∷ l)
    (sym (label-length a p k l) ∙ ap length e ∙ label-length b q k (omega arith)) e)
    ∙ ap (gathered (piece b)) n)
    ∙ sym (whole b q)

-- of a sound roll and a sound prefix of it the length bytes stand at the same places
module _ (s : List ℕ) (n : ℕ) (less : n < length s) (is : sound_roll s ≡ true) (cut : sound_roll (take n s) ≡ true) where
  short : length (take n s) ≡ n
  short = length-take-le n s (omega arith)

  counted : labels (take n s) ≡ labels s
  counted = get_or-take n s 0 0 (omega (arith, short, fits (take n s) cut 0 (roll-told (take n s) cut).0))

  placed : (k : ℕ) → k ≤ labels s → length_at (take n s) k ≡ length_at s k
  unfolding length_at
  placed zero h = refl
  placed (suc k) h =
      grind (
        arith,
        short,
        counted,
        fits (take n s) cut k,
        placed k,
        get_or-take n s (length_at (take n s) k) 0,
      )

  absurd-cut : ⊥
  absurd-cut =
      grind (arith, short, counted, (roll-told s is).3, (roll-told (take n s) cut).3, placed (labels s))

pub prefix_faulty : (s : List ℕ) (n : ℕ) → n < length s → sound_roll s ≡ true → sound_roll (take n s) ≡ false
prefix_faulty s n l is = false_from_ne_true (sound_roll (take n s)) (absurd-cut s n l is)

pub extension_faulty : (s more : List ℕ) → 0 < length more → sound_roll s ≡ true → sound_roll (s ++ more) ≡ false
extension_faulty s more l is =
    false_from_ne_true (sound_roll (s ++ more)) (λ e.
    absurd-cut (s ++ more) (length s) (omega (arith, length-append s more)) e (ap sound_roll (take-append_seam s more) ∙ is))

-- each gets 21
pub faulty_21 : (s : List ℕ) (number : ℕ) → sound_roll s ≡ false → ask_label s number ≡ refused 21 0
unfolding ask_label test
faulty_21 s number e = rw e

-- a sound roll is no longer than the longest
pub roll_longest_lem : (roll : List ℕ) → sound_roll roll ≡ true → length roll ≤ roll_longest
roll_longest_lem roll is =
    let h = roll-told roll is in
    omega (arith, h.3, h.1, length_at-most roll (labels roll) h.2)

-- ---- a few rolls

-- two labels, "A" and "bc"
abbrev two : List ℕ
two = 2 ∷ 1 ∷ 65 ∷ 2 ∷ 98 ∷ 99 ∷ []

abbrev replies : List ℕ → List Reply
replies roll = ask_label roll 0 ∷ ask_label roll 1 ∷ ask_label roll 2 ∷ []

-- each label's stretch, and 22 for a number that is not below the count
pub labels-of_two : replies two ≡ granted (2 ∷ 1 ∷ []) ∷ granted (4 ∷ 2 ∷ []) ∷ refused 22 0 ∷ []
unfolding ask_label sound_roll sound_at length_at every test
labels-of_two = refl

-- 21 for any fault, whatever is asked: none at all, no label, a label of 0 and one of 25 bytes, bytes 31 and 127, a byte too few
-- and one too many
abbrev faulty : List (List ℕ)
faulty =
    []
    ∷ (0 ∷ [])
    ∷ (1 ∷ 0 ∷ [])
    ∷ (1 ∷ 25 ∷ replicate 25 65)
    ∷ (1 ∷ 1 ∷ 31 ∷ [])
    ∷ (1 ∷ 1 ∷ 127 ∷ [])
    ∷ (2 ∷ 1 ∷ 65 ∷ 2 ∷ 98 ∷ [])
    ∷ (2 ∷ 1 ∷ 65 ∷ 2 ∷ 98 ∷ 99 ∷ 100 ∷ [])
    ∷ (129 ∷ gathered (λ k. 1 ∷ 65 ∷ []) 129)
    ∷ []

pub faults : map replies faulty ≡ replicate 9 (refused 21 0 ∷ refused 21 0 ∷ refused 21 0 ∷ [])
unfolding ask_label sound_roll sound_at length_at every gathered test
faults = refl

-- the longest label and the ends of the bytes are taken
pub ends-taken : (ask_label (1 ∷ 24 ∷ replicate 24 126) 0 ≡ granted (2 ∷ 24 ∷ [])) × (ask_label (1 ∷ 1 ∷ 32 ∷ []) 0 ≡ granted (2 ∷ 1 ∷ []))
unfolding ask_label sound_roll sound_at length_at every test
ends-taken = (refl, refl)
