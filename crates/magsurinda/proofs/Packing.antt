-- A reply as its cases are packed, and their bounds.
use mathlib.Core.Path.{◌≡◌, refl}
use mathlib.Core.List.{List}
use Prim.Native.Nat.{ℕ, ◌/◌, ◌%◌, ◌^◌, ◌<◌}
use native.Mathlib.Omega.{arith}
use Rattle.std.specs.Prelude.{Result, Ok, Err}
use Rattle.rules.specs.declared.Refusal.{Refusal}
use Rattle.rules.specs.Replies.{Reply, refusal_number, refusal_place, reply_of}
use Rattle.rules.proofs.Small.{Small, Low, small-granted, small-refused}
use Rattle.magsurinda.specs.Packed.{packing, packed}

-- of an answer with this reply
module _ {A : Type 0} (values : A → List ℕ) {reply : Reply} where
  pub refusal-fits : {P : List ℕ → Type 0} (a : Result A Refusal) → Small P reply → reply_of values a ≡ reply
      → (r : Refusal) → a ≡ Err r → (refusal_number r < 256) × (refusal_place r < 256)
  refusal-fits a small e r is =
      let low : Low (refusal_number r) (refusal_place r) = small-refused (rw (← e, is) at small) in
      omega arith

  pub grant-fits : {P : List ℕ → Type 0} (a : Result A Refusal) → Small P reply → reply_of values a ≡ reply
      → (x : A) → a ≡ Ok x → P (values x)
  grant-fits a small e x is = small-granted (rw (← e, is) at small)

  -- packed as what was granted is, or as the refusal is
  pub packed_is : (value : List ℕ → ℕ) (a : Result A Refusal) → reply_of values a ≡ reply → (n : ℕ)
      → ((x : A) → a ≡ Ok x → n ≡ value (values x))
      → ((r : Refusal) → a ≡ Err r → n ≡ packing (refusal_number r) (refusal_place r) 0) → n ≡ packed value reply
  unfolding packed
  packed_is value (Ok x) e n granted refused = rw (← e) (omega (arith, granted x refl))
  packed_is value (Err r) e n granted refused = rw (← e) (refused r refl)

-- the parts, taken apart again
pub unpacked : (number place value : ℕ) → place < 2 ^ 8 → value < 2 ^ 48
    → (packing number place value / 2 ^ 56 ≡ number) × (packing number place value / 2 ^ 48 % 2 ^ 8 ≡ place)
    × (packing number place value % 2 ^ 48 ≡ value)
unpacked number place value a b = omega arith
