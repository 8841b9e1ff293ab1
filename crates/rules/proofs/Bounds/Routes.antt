-- Routes that climb: where a wire's frames come from, and what the wires before it add up to.
use mathlib.Core.Path.{◌≡◌, refl}
use mathlib.Core.Bool.{true, false}
use mathlib.Core.Logic.{◌⊎◌, inl, inr}
use mathlib.Core.List.{List, [], ◌∷◌}
use Prim.Native.Nat.{ℕ, suc, ◌+◌, ◌≤◌, ◌<◌}
use native.Mathlib.Decide.{ℕ_discrete}
use native.Mathlib.Omega.{arith}
use lib.ListN.{length}
use borrow.Author.Tests.{eq-eqb, ne_eqb}
use Rattle.std.proofs.lemmas.Grind.{common_steps}
use Rattle.std.proofs.lemmas.Bool.Decides.{nat_tests}
use Rattle.std.proofs.lemmas.Bool.{false≢true}
use Rattle.rules.specs.Words.{total, has}
use Rattle.rules.specs.Table.{Source, nowhere, release, wire, source_after, source, last_wire}
use Rattle.rules.specs.Bounds.{along}
use Rattle.rules.specs.Sound.{Climbs}

pub climbs-least : (n least w : ℕ) (xs : List ℕ) → Climbs n least xs → has w xs ≡ true → least ≤ w
unfolding has
climbs-least n least w [] c h = absurd (false≢true h)
climbs-least n least w (x ∷ xs) c h = grind (arith, nat_tests, climbs-least n (suc x) w xs c.2)

pub climbs-below : (n least w : ℕ) (xs : List ℕ) → Climbs n least xs → has w xs ≡ true → w < n
unfolding has
climbs-below n least w [] c h = absurd (false≢true h)
climbs-below n least w (x ∷ xs) c h = grind (arith, nat_tests, climbs-below n (suc x) w xs c.2)

-- Only the wires below w count.
pub along-same :
    (f g : ℕ → ℕ) (n least w : ℕ) (xs : List ℕ) → Climbs n least xs → has w xs ≡ true →
    ((v : ℕ) → v < w → f v ≡ g v) → along f xs w ≡ along g xs w
unfolding has along
along-same f g n least w [] c h e = refl
along-same f g n least w (x ∷ xs) c h e =
    grind (arith, nat_tests, e x, climbs-least n (suc x) w xs c.2, along-same f g n (suc x) w xs c.2)

pub along-add : (f g : ℕ → ℕ) (w : ℕ) (xs : List ℕ) → along (λ v. f v + g v) xs w ≡ along f xs w + along g xs w
unfolding along
along-add f g w [] = refl
along-add f g w (x ∷ xs) = grind (arith, nat_tests, along-add f g w xs)

-- Where frames come to a wire of the route from: the route begins there, or v is the wire before it.
pub record Follows (xs : List ℕ) (found : Source) (v w : ℕ) : Type 0 where
  pub from : found ≡ wire v
  pub there : has v xs ≡ true
  pub less : v < w
  pub adds : (f : ℕ → ℕ) → along f xs w ≡ along f xs v + f v

pub record Begins (xs : List ℕ) (w : ℕ) : Type 0 where
  pub from : source xs w ≡ release
  pub adds : (f : ℕ → ℕ) → along f xs w ≡ 0

nowhere-after : (v w : ℕ) (xs : List ℕ) → has w xs ≡ false → source_after v xs w ≡ nowhere
unfolding has source_after
nowhere-after v w [] h = refl
nowhere-after v w (x ∷ xs) h = grind (arith, nat_tests, nowhere-after x w xs)

pub nowhere-off : (w : ℕ) (xs : List ℕ) → has w xs ≡ false → source xs w ≡ nowhere
unfolding has source
nowhere-off w [] h = refl
nowhere-off w (x ∷ xs) h = grind (arith, nat_tests, nowhere-after x w xs)

along-at : (f : ℕ → ℕ) (x w : ℕ) (xs : List ℕ) → x ≡ w → along f (x ∷ xs) w ≡ 0
unfolding along
along-at f x w xs e = rw (eq-eqb x w e) refl

along-past : (f : ℕ → ℕ) (x w : ℕ) (xs : List ℕ) → ¬ (x ≡ w) → along f (x ∷ xs) w ≡ f x + along f xs w
unfolding along
along-past f x w xs d = rw (ne_eqb x w d) refl

follows-after :
    (n w x : ℕ) (xs : List ℕ) → Climbs n (suc x) xs → has w xs ≡ true → (v : ℕ) × Follows (x ∷ xs) (source_after x xs w) v w
unfolding has source_after
follows-after n w x [] c h = absurd (false≢true h)
follows-after n w x (y ∷ ys) c h =
    elim (ℕ_discrete y w) [
      | yes e ↦ (
        x,
        record {
          from = grind (arith, nat_tests);
          there = grind (arith, nat_tests);
          less = omega (arith, c.1);
          adds = λ f. grind (arith, nat_tests, along-past f x w (y ∷ ys), along-at f y w ys, along-at f x x (y ∷ ys));
        },
      )
      | no d ↦
          (let step = follows-after n w y ys c.2 (rw (ne_eqb y w d) at h) in
          let v = step.0 in
          let above : suc x ≤ v = climbs-least n (suc x) v (y ∷ ys) c step.1.there in (
            v,
            record {
              from = grind (arith, nat_tests, step.1.from);
              there = grind (arith, nat_tests, step.1.there);
              less = step.1.less;
              adds = λ f.
                  grind (arith, step.1.less, along-past f x w (y ∷ ys), along-past f x v (y ∷ ys), step.1.adds f);
            },
          ))
    ]

pub follows : (n least w : ℕ) (xs : List ℕ) → Climbs n least xs → has w xs ≡ true
    → Begins xs w ⊎ ((v : ℕ) × Follows xs (source xs w) v w)
unfolding has source
follows n least w [] c h = absurd (false≢true h)
follows n least w (x ∷ xs) c h =
    elim (ℕ_discrete x w) [
      | yes e ↦ inl (record { from = rw (eq-eqb x w e) refl; adds = λ f. along-at f x w xs e })
      | no d ↦
          (let step = follows-after n w x xs c.2 (rw (ne_eqb x w d) at h) in
          inr (step.0, rw (ne_eqb x w d) step.1))
    ]

-- The last wire ends the route.
pub last-there : (xs : List ℕ) → 1 ≤ length xs → has (last_wire xs) xs ≡ true
unfolding has last_wire
last-there [] l = absurd (omega arith)
last-there (x ∷ []) l = grind (arith, nat_tests)
last-there (x ∷ y ∷ ys) l = grind (arith, common_steps, last-there (y ∷ ys))

pub last-total :
    (f : ℕ → ℕ) (n least : ℕ) (xs : List ℕ) → 1 ≤ length xs → Climbs n least xs →
    total f xs ≡ along f xs (last_wire xs) + f (last_wire xs)
unfolding total last_wire
last-total f n least [] l c = absurd (omega arith)
last-total f n least (x ∷ []) l c = omega (arith, along-at f x x [] refl)
last-total f n least (x ∷ y ∷ ys) l c =
    let z = last_wire (y ∷ ys) in
    omega (
      arith,
      last-total f n (suc x) (y ∷ ys) (omega arith) c.2,
      along-past f x z (y ∷ ys) (omega (arith, climbs-least n (suc x) z (y ∷ ys) c.2 (last-there (y ∷ ys) (omega arith)))),
    )

pub route-same : (f g : ℕ → ℕ) (xs : List ℕ) → ((v : ℕ) → has v xs ≡ true → f v ≡ g v) → total f xs ≡ total g xs
unfolding total has
route-same f g [] e = refl
route-same f g (x ∷ xs) e =
    omega (arith, e x (grind (arith, nat_tests)), route-same f g xs (λ v there. e v (grind (arith, common_steps))))
