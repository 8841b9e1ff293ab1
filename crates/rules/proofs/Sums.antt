-- Ascending induction. Laws of sums and tests over numbers below a bound, and of totals over lists.
use mathlib.Core.Path.{◌≡◌, refl, ap, sym}
use mathlib.Core.Bool.{Bool, false}
use mathlib.Core.List.{List, [], ◌∷◌, ◌++◌, map}
use Prim.Native.Nat.{ℕ, zero, suc, ◌+◌, ◌-◌, ◌*◌, ◌≤◌, ◌<◌}
use native.Mathlib.Nat.{add-zero, add-suc}
use native.Mathlib.Omega.{arith}
use Rattle.std.proofs.lemmas.Grind.{common_steps}
use Rattle.rules.specs.Words.{sum, total, gathered, some}

-- ascending: what holds of a number where it holds of all below, holds
pub ascend : (P : ℕ → Type 0) → ((w : ℕ) → ((v : ℕ) → v < w → P v) → P w) → (w : ℕ) → P w
ascend P step w = step w (below w)
  where
    below : (n v : ℕ) → v < n → P v
    below zero v l = absurd (omega arith)
    below (suc n) v l = step v (λ u less. below n u (omega arith))

-- one number more
pub sum-next : (f : ℕ → ℕ) (a b : ℕ) → a ≡ suc b → sum f a ≡ sum f b + f b
unfolding sum
sum-next f a b e = ap (sum f) e

pub sum-le : (f g : ℕ → ℕ) (n : ℕ) → ((i : ℕ) → i < n → f i ≤ g i) → sum f n ≤ sum g n
unfolding sum
sum-le f g zero h = omega arith
sum-le f g (suc n) h = omega (arith, sum-le f g n (λ i l. h i (omega arith)), h n (omega arith))

pub sum_same : (f g : ℕ → ℕ) (n : ℕ) → ((i : ℕ) → i < n → f i ≡ g i) → sum f n ≡ sum g n
unfolding sum
sum_same f g zero h = refl
sum_same f g (suc n) h = omega (arith, sum_same f g n (λ i l. h i (omega arith)), h n (omega arith))

pub sum-add : (f g : ℕ → ℕ) (n : ℕ) → sum (λ i. f i + g i) n ≡ sum f n + sum g n
unfolding sum
sum-add f g zero = omega arith
sum-add f g (suc n) = omega (arith, sum-add f g n)

pub sum-scale : (c : ℕ) (f : ℕ → ℕ) (n : ℕ) → sum (λ i. c * f i) n ≡ c * sum f n
unfolding sum
sum-scale c f zero = omega arith
sum-scale c f (suc n) = omega (arith, sum-scale c f n)

pub sum-const : (a n : ℕ) → sum (λ i. a) n ≡ n * a
unfolding sum
sum-const a zero = omega arith
sum-const a (suc n) = omega (arith, sum-const a n)

pub sum-none : (n : ℕ) → sum (λ i. 0) n ≡ 0
unfolding sum
sum-none zero = refl
sum-none (suc n) = omega (arith, sum-none n)

pub sum-swap : (f : ℕ → ℕ → ℕ) (m n : ℕ) → sum (λ i. sum (f i) m) n ≡ sum (λ j. sum (λ i. f i j) n) m
unfolding sum
sum-swap f m zero = sym (sum-none m)
sum-swap f m (suc n) = omega (arith, sum-swap f m n, sum-add (λ j. sum (λ i. f i j) n) (f n) m)

-- a sum to a + n, cut at a
pub sum-cut : (f : ℕ → ℕ) (a n : ℕ) → sum f (a + n) ≡ sum f a + sum (λ i. f (a + i)) n
unfolding sum
sum-cut f a zero = omega (arith, ap (λ (x : ℕ). sum f x) (add-zero a))
sum-cut f a (suc n) = omega (arith, sum-cut f a n, ap (λ (x : ℕ). sum f x) (add-suc a n))

pub sum-grows : (f : ℕ → ℕ) (a b : ℕ) → a ≤ b → sum f a ≤ sum f b
unfolding sum
sum-grows f a b l =
    let e : a + (b - a) ≡ b = omega arith in
    omega (arith, sum-cut f a (b - a), ap (sum f) e)

pub sum-has : (f : ℕ → ℕ) (n k : ℕ) → k < n → f k ≤ sum f n
unfolding sum
sum-has f n k l = omega (arith, sum-grows f (suc k) n l)

-- only the k-th counts
pub sum-alone : (f : ℕ → ℕ) (n k : ℕ) → k < n → ((i : ℕ) → ¬ (i ≡ k) → f i ≡ 0) → sum f n ≡ f k
unfolding sum
sum-alone f n k l h = go n l
  where
    before : (n : ℕ) → n ≤ k → sum f n ≡ 0
    before zero l = refl
    before (suc n) l = omega (arith, before n (omega arith), h n (omega arith))

    go : (n : ℕ) → k < n → sum f n ≡ f k
    go zero l = absurd (omega arith)
    go (suc n) l = grind (arith, before n, go n, h n)

-- some number below n passes a test, or none does
module _ (f : ℕ → Bool) where
  pub some-none : (n : ℕ) → some f n ≡ false → (k : ℕ) → k < n → f k ≡ false
  unfolding some
  some-none zero e k l = absurd (omega arith)
  some-none (suc n) e k l = grind (arith, common_steps, some-none n)

  pub none-some : (n : ℕ) → ((k : ℕ) → k < n → f k ≡ false) → some f n ≡ false
  unfolding some
  none-some zero h = refl
  none-some (suc n) h = rw (none-some n (λ k l. h k (omega arith)), h n (omega arith)) refl

module _ {A : Type 0} where
  pub total-append : (g : A → ℕ) (xs ys : List A) → total g (xs ++ ys) ≡ total g xs + total g ys
  unfolding total
  total-append g [] ys = omega arith
  total-append g (x ∷ xs) ys = omega (arith, total-append g xs ys)

  pub total-gathered : (g : A → ℕ) (f : ℕ → List A) (n : ℕ) → total g (gathered f n) ≡ sum (λ i. total g (f i)) n
  unfolding sum total gathered
  total-gathered g f zero = refl
  total-gathered g f (suc n) = omega (arith, total-append g (gathered f n) (f n), total-gathered g f n)

  pub total-same : (g h : A → ℕ) (xs : List A) → ((x : A) → g x ≡ h x) → total g xs ≡ total h xs
  unfolding total
  total-same g h [] e = refl
  total-same g h (x ∷ xs) e = omega (arith, e x, total-same g h xs e)

  pub total-none : (g : A → ℕ) (xs : List A) → ((x : A) → g x ≡ 0) → total g xs ≡ 0
  unfolding total
  total-none g [] e = refl
  total-none g (x ∷ xs) e = omega (arith, e x, total-none g xs e)

  pub total-empty : (xs : List A) → total (λ x. 1) xs ≡ 0 → xs ≡ []
  unfolding total
  total-empty [] e = refl
  total-empty (x ∷ xs) e = absurd (omega arith)

pub total-map : {A B : Type 0} (g : B → ℕ) (f : A → B) (xs : List A) → total g (map f xs) ≡ total (λ x. g (f x)) xs
unfolding total
total-map g f [] = refl
total-map g f (x ∷ xs) = ap (λ (n : ℕ). g (f x) + n) (total-map g f xs)
