-- Laws of the numbers that are in: how many they are, and what holds of them and of sums over them.
use mathlib.Core.Path.{◌≡◌, refl, sym, ap, ◌∙◌}
use mathlib.Core.Bool.{Bool, true, false, or-true, or-false}
use mathlib.Core.Logic.{inl, inr}
use mathlib.Core.List.{List, [], ◌∷◌}
use Prim.Native.Nat.{ℕ, zero, suc, ◌+◌, ◌^◌, ◌≤◌, ◌<◌}
use native.Mathlib.Numerals.{add-one}
use native.Mathlib.Omega.{arith}
use native.Mathlib.Decide.{ℕ_discrete}
use lib.ListN.{length, get_or, set, take, length-append, length-set}
use lib.Seq.{take-suc, get_or-set_same, get_or-set_other}
use lib.Dec.{ltb, eqb}
use borrow.Author.Tests.{lt-ltb, eq-eqb, ne_eqb}
use Rattle.std.proofs.lemmas.Bool.{cases_Bool}
use Rattle.std.specs.List.{All}
use Rattle.std.proofs.lemmas.List.Elements.{All-nil, All-cons, All-append, All-get_or}
use Rattle.rules.specs.Words.{sum, total, only, some}
use Rattle.rules.specs.Numbers.{channels_most}
use Rattle.rules.proofs.Sums.{sum_same, sum-alone, sum-none, total-append}
use Rattle.bounds.specs.Filed.{those, with_last, tally}
use Rattle.bounds.specs.Stages.{raised_by, Spare, Raised}

total-last : (f : ℕ → ℕ) (ok : Bool) (k : ℕ) (xs : List ℕ) → total f (with_last ok k xs) ≡ total f xs + only ok (f k)
unfolding total
total-last f true k xs = omega (arith, total-append f xs (k ∷ []))
total-last f false k xs = omega arith

length-last : (ok : Bool) (k : ℕ) (xs : List ℕ) → length (with_last ok k xs) ≡ length xs + only ok 1
length-last true k xs = length-append xs (k ∷ [])
length-last false k xs = omega arith

only-one : (b : Bool) → only b 1 ≤ 1
only-one true = omega arith
only-one false = omega arith

only-none : (b : Bool) → only b 0 ≡ 0
only-none true = refl
only-none false = refl

module _ (inside : ℕ → Bool) where
  pub length-those : (c : ℕ) → length (those inside c) ≤ c
  unfolding those
  length-those zero = omega arith
  length-those (suc c) = omega (arith, length-last (inside c) c (those inside c), only-one (inside c), length-those c)

  pub total-those : (f : ℕ → ℕ) (c : ℕ) → total f (those inside c) ≡ tally inside f c
  unfolding those total sum
  total-those f zero = refl
  total-those f (suc c) = total-last f (inside c) c (those inside c) ∙ ap (λ (n : ℕ). n + only (inside c) (f c)) (total-those f c)

  pub some-those : (c : ℕ) → some inside c ≡ ltb 0 (length (those inside c))
  unfolding those some
  some-those zero = refl
  some-those (suc c) = elim (cases_Bool (inside c)) [
    | inl e ↦
        rw (e, length-last true c (those inside c), lt-ltb 0 (length (those inside c) + 1) (omega arith))
        (or-true (some inside c))
    | inr e ↦ rw e (or-false (some inside c) ∙ some-those c)
  ]

  pub all-those : (P : ℕ → Type 0) (c : ℕ) → ((k : ℕ) → k < c → inside k ≡ true → P k) → All P (those inside c)
  unfolding those
  all-those P zero h = All-nil P
  all-those P (suc c) h = elim (cases_Bool (inside c)) [
    | inl e ↦
        rw e
        (All-append P (those inside c) (c ∷ []) (all-those P c (λ k l. h k (omega arith)))
        (All-cons P c [] (h c (omega arith) e) (All-nil P)))
    | inr e ↦ rw e (all-those P c (λ k l. h k (omega arith)))
  ]

  -- each of them raised by d
  pub raised-those : (m d k : ℕ) → k < m → raised_by (those inside m) d k ≡ only (inside k) d
  raised-those m d k l =
      total-those (λ x. only (eqb x k) d) m
      ∙ sum-alone (λ x. only (inside x) (only (eqb x k) d)) m k l (λ x o. rw (ne_eqb x k o) (only-none (inside x)))
      ∙ rw (eq-eqb k k refl)

  pub raised-past : (m d k : ℕ) → m ≤ k → raised_by (those inside m) d k ≡ 0
  raised-past m d k l =
      total-those (λ x. only (eqb x k) d) m
      ∙ sum_same (λ x. only (inside x) (only (eqb x k) d)) (λ x. 0) m
      (λ x h. let o : x ≡ k → ⊥ = λ e. omega arith in rw (ne_eqb x k o) (only-none (inside x)))
      ∙ sum-none m

-- ---- part of a list

pub total-take : (f : ℕ → ℕ) (i : ℕ) (xs : List ℕ) → total f (take i xs) ≤ total f xs
unfolding total
total-take f zero xs = omega arith
total-take f (suc i) [] = omega arith
total-take f (suc i) (x ∷ xs) = omega (arith, total-take f i xs)

pub total-more : (f : ℕ → ℕ) (i : ℕ) (xs : List ℕ) → i < length xs
    → total f (take (i + 1) xs) ≡ total f (take i xs) + f (get_or xs i 0)
unfolding total
total-more f i xs l = rw (add-one, take-suc xs i 0 l) (omega (arith, total-append f (take i xs) (get_or xs i 0 ∷ [])))

-- ---- each of a list's channels raised by d

module _ (d : ℕ) (before : List ℕ) where
  pub raised-start : Raised [] d before before
  unfolding total
  raised-start = record { same_length = refl; raised = λ k l. omega arith }

module _ (channels : List ℕ) (d : ℕ) (before : List ℕ) (spare : Spare channels d before) (i : ℕ) (l : i < length channels)
    (after : List ℕ) (r : Raised (take i channels) d before after) (k : ℕ) (e : k ≡ get_or channels i 0) where
  here : k < channels_most
  here = rw e (All-get_or (λ x. x < channels_most) channels i 0 l spare.below)

  more : (x : ℕ) → raised_by (take (i + 1) channels) d x ≡ raised_by (take i channels) d x + only (eqb k x) d
  more x =
      total-more (λ y. only (eqb y x) d) i channels l
      ∙ ap (λ (y : ℕ). raised_by (take i channels) d x + only (eqb y x) d) (sym e)

  pub raised-fits : get_or after k 0 + d < 2 ^ 64
  raised-fits =
      let this : only (eqb k k) d ≡ d = rw (eq-eqb k k refl) in
      omega (
        arith,
        r.raised k here,
        more k,
        this,
        total-take (λ y. only (eqb y k) d) (i + 1) channels,
        spare.fits k here,
      )

  pub raised-next : length after ≡ channels_most → Raised (take (i + 1) channels) d before (set after k (get_or after k 0 + d))
  raised-next long =
      record {
        same_length = length-set after k _ ∙ r.same_length;
        raised = λ x m. elim (ℕ_discrete x k) [
          | yes q ↦
              (let this : only (eqb k x) d ≡ d = rw (q, eq-eqb k k refl) in
              rw (q, get_or-set_same after k (get_or after k 0 + d) 0 (omega (arith, here)))
              (omega (arith, r.raised k here, more k, rw q at this)))
          | no o ↦
              (let other : only (eqb k x) d ≡ 0 = rw (ne_eqb k x (λ z. o (sym z))) in
              get_or-set_other after k x _ 0 o ∙ omega (arith, r.raised x m, more x, other))
        ];
      }
