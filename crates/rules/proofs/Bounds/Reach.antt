-- Laws of routes as they are walked: what the wires below one add up to, and a route's wires hop by hop.
use mathlib.Core.Path.{◌≡◌, refl, ap, ◌∙◌}
use mathlib.Core.Bool.{true, false, ◌||◌}
use mathlib.Core.List.{List, [], ◌∷◌, ◌++◌}
use Prim.Native.Nat.{ℕ, zero, suc, ◌+◌, ◌*◌, ◌≤◌, ◌<◌}
use native.Mathlib.Numerals.{add-one}
use native.Mathlib.Omega.{arith}
use lib.ListN.{length, get_or, take}
use lib.Seq.{take-suc}
use lib.Dec.{ltb, eqb}
use Rattle.std.proofs.lemmas.Grind.{common_steps}
use Rattle.std.proofs.lemmas.Bool.Decides.{nat_tests}
use Rattle.std.proofs.lemmas.Bool.{false≢true}
use Rattle.rules.specs.Words.{total, only, has}
use Rattle.rules.specs.Bounds.{along}
use Rattle.rules.specs.Sound.{Climbs}
use Rattle.rules.proofs.Bounds.Routes.{climbs-least}

-- the sum of f over the wires of a route below w
unfoldable pub reach : (ℕ → ℕ) → List ℕ → ℕ → ℕ
reach f xs w = total (λ x. only (ltb x w) (f x)) xs

module _ (f : ℕ → ℕ) where
  reach_out : (x w : ℕ) (xs : List ℕ) → w ≤ x → reach f (x ∷ xs) w ≡ reach f xs w
  unfolding reach total
  reach_out x w xs l = grind (arith, nat_tests)

  reach_in : (x w : ℕ) (xs : List ℕ) → x < w → reach f (x ∷ xs) w ≡ f x + reach f xs w
  unfolding reach total
  reach_in x w xs l = grind (arith, nat_tests)

  -- the wires from w on add nothing
  reach_above : (n least w : ℕ) (xs : List ℕ) → Climbs n least xs → w ≤ least → reach f xs w ≡ 0
  unfolding reach total
  reach_above n least w [] c l = refl
  reach_above n least w (x ∷ xs) c l =
      reach_out x w xs (omega (arith, c.1)) ∙ reach_above n (suc x) w xs c.2 (omega (arith, c.1))

  -- at the wires of a route, it is what the definitions go by
  pub along-reach : (n least w : ℕ) (xs : List ℕ) → Climbs n least xs → has w xs ≡ true → along f xs w ≡ reach f xs w
  unfolding has along
  along-reach n least w [] c h = absurd (false≢true h)
  along-reach n least w (x ∷ xs) c h =
      grind (
        arith,
        nat_tests,
        reach_out x w xs,
        reach_above n (suc x) w xs c.2,
        reach_in x w xs,
        climbs-least n (suc x) w xs c.2,
        along-reach n (suc x) w xs c.2,
      )

  pub reach_next : (n least w : ℕ) (xs : List ℕ) → Climbs n least xs → reach f xs (w + 1) ≡ reach f xs w + only (has w xs) (f w)
  unfolding reach has total
  reach_next n least w [] c = refl
  reach_next n least w (x ∷ xs) c =
      let above = reach_above n (suc x) w xs c.2 in
      grind (arith, nat_tests, reach_above n (suc x) (w + 1) xs c.2, above, reach_next n (suc x) w xs c.2)

  pub reach_start : (xs : List ℕ) → reach f xs 0 ≡ 0
  unfolding reach total
  reach_start [] = refl
  reach_start (x ∷ xs) = reach_out x 0 xs (omega arith) ∙ reach_start xs

  pub reach-end : (n least : ℕ) (xs : List ℕ) → Climbs n least xs → reach f xs n ≡ total f xs
  unfolding reach total
  reach-end n least [] c = refl
  reach-end n least (x ∷ xs) c = reach_in x n xs c.0 ∙ ap (λ (a : ℕ). f x + a) (reach-end n (suc x) xs c.2)

  pub reach-most : (most w : ℕ) (xs : List ℕ) → ((x : ℕ) → x < w → f x ≤ most) → reach f xs w ≤ length xs * most
  unfolding reach total
  reach-most most w [] h = omega arith
  reach-most most w (x ∷ xs) h = grind (arith, nat_tests, reach-most most w xs h, h x)

-- ---- the hops of a route

climbs-at : (n least i : ℕ) (xs : List ℕ) → Climbs n least xs → i < length xs → (least ≤ get_or xs i 0) × (get_or xs i 0 < n)
climbs-at n least i [] c l = absurd (omega arith)
climbs-at n least zero (x ∷ xs) c l = (c.1, c.0)
climbs-at n least (suc i) (x ∷ xs) c l = grind (arith, climbs-at n (suc x) i xs c.2)

pub hop-below : (n i : ℕ) (xs : List ℕ) → Climbs n 0 xs → i < length xs → get_or xs i 0 < n
hop-below n i xs c l = (climbs-at n 0 i xs c l).1

-- a hop's wire is not among those before it
pub hop_new : (n least i : ℕ) (xs : List ℕ) → Climbs n least xs → i < length xs → has (get_or xs i 0) (take i xs) ≡ false
unfolding has
hop_new n least i [] c l = absurd (omega arith)
hop_new n least zero (x ∷ xs) c l = refl
hop_new n least (suc i) (x ∷ xs) c l =
    grind (arith, nat_tests, climbs-at n (suc x) i xs c.2, hop_new n (suc x) i xs c.2)

has_last : (w x : ℕ) (xs : List ℕ) → has w (xs ++ (x ∷ [])) ≡ has w xs || eqb x w
unfolding has
has_last w x [] = grind (arith, common_steps)
has_last w x (y ∷ ys) = grind (arith, common_steps, has_last w x ys)

module _ (xs : List ℕ) (i : ℕ) (l : i < length xs) where
  has_more : (w : ℕ) → has w (take (i + 1) xs) ≡ has w (take i xs) || eqb (get_or xs i 0) w
  has_more w = rw (add-one, take-suc xs i 0 l) (has_last w (get_or xs i 0) (take i xs))

  pub hop-there : has (get_or xs i 0) (take (i + 1) xs) ≡ true
  hop-there = grind (arith, nat_tests, has_more (get_or xs i 0))

  pub hop_others : (w : ℕ) → (w ≡ get_or xs i 0 → ⊥) → has w (take (i + 1) xs) ≡ has w (take i xs)
  hop_others w o = grind (arith, nat_tests, has_more w)
