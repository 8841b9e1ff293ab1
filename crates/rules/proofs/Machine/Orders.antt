-- "In any order" is exactly equality of counts; "among" is exactly counts that are no larger.
use mathlib.Core.Path.{◌≡◌, refl}
use mathlib.Core.Bool.{Bool, true, ◌&&◌}
use mathlib.Core.Logic.{inl, inr}
use mathlib.Core.List.{List, [], ◌∷◌}
use Prim.Native.Nat.{ℕ, ◌+◌, ◌≤◌, ◌<◌}
use native.Mathlib.Omega.{arith}
use lib.Dec.{eqb}
use Rattle.std.proofs.lemmas.Bool.Decides.{nat_tests}
use Rattle.std.proofs.lemmas.Bool.{cases_Bool}
use Rattle.rules.specs.Words.{total, gathered, only}
use Rattle.rules.specs.Machine.{Frame, Put, here, later, AnyOrder, none, more}
use Rattle.rules.specs.Promise.{Among}
use Rattle.rules.proofs.Sums.{sum-grows, total-append, total-gathered}

-- the two frames are the same
abbrev pub same : Frame → Frame → Bool
same f x = eqb f.channel x.channel && (eqb f.born x.born && eqb f.size x.size)

-- how often a list holds a frame
abbrev pub count : Frame → List Frame → ℕ
count f xs = total (λ (x : Frame). only (same f x) 1) xs

same_true : (f x : Frame) → same f x ≡ true → f ≡ x
same_true f x e =
    let channels : f.channel ≡ x.channel = grind (arith, nat_tests) in
    let borns : f.born ≡ x.born = grind (arith, nat_tests) in
    let sizes : f.size ≡ x.size = grind (arith, nat_tests) in
    λ i. record { channel = channels i; born = borns i; size = sizes i }

same_self : (f : Frame) → same f f ≡ true
same_self f = grind (arith, nat_tests)

put-total : (g : Frame → ℕ) {x : Frame} {ys zs : List Frame} → Put x ys zs → total g zs ≡ g x + total g ys
unfolding total
put-total g here = refl
put-total g (later p) = omega (arith, put-total g p)

pub any_order-total : (g : Frame → ℕ) {xs ys : List Frame} → AnyOrder xs ys → total g xs ≡ total g ys
unfolding total
any_order-total g none = refl
any_order-total g (more o p) = omega (arith, any_order-total g o, put-total g p)

-- a frame that a list holds can be taken out of it
taken : (x : Frame) (zs : List Frame) → 0 < count x zs → (ys : List Frame) × Put x ys zs
unfolding total
taken x [] h = absurd (omega arith)
taken x (z ∷ zs) h =
    elim (cases_Bool (same x z)) [
      | inl e ↦ (zs, rw (same_true x z e) here)
      | inr e ↦ (let rest = taken x zs (omega (arith, rw e at h)) in (z ∷ rest.0, later rest.1))
    ]

pub any_order_complete : (xs ys : List Frame) → ((f : Frame) → count f xs ≡ count f ys) → AnyOrder xs ys
unfolding total
any_order_complete [] [] h = none
any_order_complete [] (y ∷ ys) h = absurd (omega (arith, rw (same_self y) at (h y)))
any_order_complete (x ∷ xs) zs h =
    let out = taken x zs (omega (arith, rw (same_self x) at (h x))) in
    more (any_order_complete xs out.0 (λ f. omega (arith, h f, put-total (λ (y : Frame). only (same f y) 1) out.1)))
    out.1

pub order_self : (xs : List Frame) → AnyOrder xs xs
order_self [] = none
order_self (x ∷ xs) = more (order_self xs) here

among-total : (g : Frame → ℕ) (xs ys : List Frame) → Among xs ys → total g xs ≤ total g ys
among-total g xs ys a = omega (arith, any_order-total g a.1, total-append g xs a.0)

-- among what a stream brings before a slot, so among what it brings before a later one
pub among_before :
    (xs : List Frame) (stream : ℕ → List Frame) (a n : ℕ) → Among xs (gathered stream a) → a ≤ n →
    (f : Frame) → count f xs ≤ count f (gathered stream n)
among_before xs stream a n within l f =
    let one : Frame → ℕ = λ x. only (same f x) 1 in
    omega (
      arith,
      among-total one xs (gathered stream a) within,
      total-gathered one stream a,
      total-gathered one stream n,
      sum-grows (λ (i : ℕ). total one (stream i)) a n l,
    )

among-more : (x : Frame) (xs ys zs : List Frame) → Among xs ys → Put x ys zs → Among (x ∷ xs) zs
among-more x xs ys zs a p = (a.0, more a.1 p)

pub among_complete : (xs ys : List Frame) → ((f : Frame) → count f xs ≤ count f ys) → Among xs ys
unfolding total
among_complete [] ys h = (ys, order_self ys)
among_complete (x ∷ xs) zs h =
    let out = taken x zs (omega (arith, rw (same_self x) at (h x))) in
    among-more x xs out.0 zs
    (among_complete xs out.0 (λ f. omega (arith, h f, put-total (λ (y : Frame). only (same f y) 1) out.1))) out.1
