-- Laws of a column: an array that is filled from the front, one store an entry.
use mathlib.Core.Path.{◌≡◌, refl, sym, ap, ◌∙◌}
use mathlib.Core.Bool.{cond}
use mathlib.Core.List.{List}
use Prim.Native.Nat.{ℕ, zero, suc, ◌+◌, ◌≤◌, ◌<◌}
use native.Mathlib.Omega.{arith}
use lib.ListN.{length, get_or, set, replicate, length-set}
use lib.ListN.{length-replicate, get_or-replicate}
use lib.Seq.{ext_get_or}
use lib.Dec.{ltb}
use Rattle.std.proofs.lemmas.Bool.Decides.{nat_tests}
use Rattle.std.proofs.lemmas.Grind.{common_steps}
use Rattle.rules.specs.Words.{listed}
use Rattle.rules.specs.Decoded.{column}

pub length-listed : {A : Type 0} (f : ℕ → A) (n : ℕ) → length (listed f n) ≡ n
unfolding listed
length-listed f zero = refl
length-listed f (suc n) = grind (arith, common_steps, length-listed f n)

pub get_or-listed : {A : Type 0} (f : ℕ → A) (n i : ℕ) (d : A) → i < n → get_or (listed f n) i d ≡ f i
unfolding listed
get_or-listed f zero i d l = absurd (omega arith)
get_or-listed f (suc n) i d l = grind (arith, common_steps, length-listed f n, get_or-listed f n i d)

module _ {A : Type 0} (none : A) (places : ℕ) (f : ℕ → A) where
  pub length-column : (n : ℕ) → length (column none places n f) ≡ places
  unfolding column
  length-column n = length-listed (λ i. cond (ltb i n) (f i) none) places

  pub column-at : (n i : ℕ) (d : A) → i < n → i < places → get_or (column none places n f) i d ≡ f i
  unfolding column
  column-at n i d l h = grind (arith, nat_tests, get_or-listed (λ i. cond (ltb i n) (f i) none) places i d)

  pub column-past : (n i : ℕ) (d : A) → n ≤ i → i < places → get_or (column none places n f) i d ≡ none
  unfolding column
  column-past n i d l h = grind (arith, nat_tests, get_or-listed (λ i. cond (ltb i n) (f i) none) places i d)

  -- an array that has these entries is the column
  pub column-told : (n : ℕ) (a : List A) → length a ≡ places
      → ((i : ℕ) → i < n → i < places → get_or a i none ≡ f i) → ((i : ℕ) → n ≤ i → i < places → get_or a i none ≡ none)
      → a ≡ column none places n f
  column-told n a e front back =
      ext_get_or none a (column none places n f) (e ∙ sym (length-column n)) (λ i l.
      grind (arith, front i, back i, column-at n i none, column-past n i none))

  pub column-none : replicate places none ≡ column none places 0 f
  column-none =
      column-told 0 (replicate places none) (length-replicate places none) (λ i l h. absurd (omega arith))
      (λ i l h. get_or-replicate places i none none h)

  pub column-set : (n : ℕ) {x : A} {a : List A} → n < places → a ≡ column none places n f → x ≡ f n
      → set a n x ≡ column none places (n + 1) f
  column-set n {x} {a} h q e =
      let long : length a ≡ places = ap length q ∙ length-column n in
      column-told (n + 1) (set a n x) (length-set a n x ∙ long)
      (λ i l m. grind (arith, common_steps, q, e, long, column-at n i none))
      (λ i l m. grind (arith, common_steps, q, long, column-past n i none))

-- an entry of a column that an array is
pub entry_at : {A : Type 0} (none : A) (places n : ℕ) (f : ℕ → A) (a : List A) → a ≡ column none places n f → n ≤ places
    → (i : ℕ) (d : A) → i < n → get_or a i d ≡ f i
entry_at {A} none places n f a e h i d l = ap (λ (x : List A). get_or x i d) e ∙ column-at none places f n i d l (omega arith)
