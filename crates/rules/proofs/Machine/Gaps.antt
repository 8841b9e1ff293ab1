-- What comes at least a period apart, at most `most` each time, brings little in a window.
use mathlib.Core.Path.{◌≡◌, ap}
use Prim.Native.Nat.{ℕ, zero, suc, ◌+◌, ◌*◌, ◌≤◌, ◌<◌}
use native.Mathlib.Nat.{add-suc, mul-le-mul_left}
use native.Mathlib.Decide.{dec_le}
use native.Mathlib.Omega.{arith}
use Rattle.rules.specs.Words.{sum}

module _
    (f : ℕ → ℕ) (most period : ℕ) (small : (s : ℕ) → f s ≤ most)
    (apart : (s later : ℕ) → s < later → 0 < f s → 0 < f later → s + period ≤ later)
  where
    -- before one that comes m slots after slot a
    ahead : (a n m : ℕ) → n ≤ m → 0 < f (a + m) → period * sum f (a + n) ≤ period * sum f a + most * m
    unfolding sum
    ahead a zero m l h = grind arith
    ahead a (suc n) m l h =
        let next : period * sum f (a + suc n) ≡ period * (sum f (a + n) + f (a + n))
        = ap (λ (x : ℕ). period * sum f x) (add-suc a n) in
        elim (dec_le (f (a + n)) 0) [
          | yes none ↦
              (let z : f (a + n) ≡ 0 = omega arith in omega (arith, ahead a n m (omega arith) h, ap (λ (x : ℕ). period * x) z))
          | no some ↦
              omega (
                arith,
                ahead a n n (omega arith) (omega arith),
                mul-le-mul_left period (small (a + n)),
                mul-le-mul_left {m = n + period} {n = m} most
                    (omega (arith, apart (a + n) (a + m) (omega arith) (omega arith) h)),
              )
        ]

    -- in slot a and n further slots
    pub window-most : (a n : ℕ) → period * sum f (suc (a + n)) ≤ period * sum f a + most * (period + n)
    unfolding sum
    window-most a zero =
        grind (arith, mul-le-mul_left period (small (a + 0)))
    window-most a (suc n) =
        elim (dec_le (f (a + suc n)) 0) [
          | yes none ↦
              (let z : f (a + suc n) ≡ 0 = omega arith in
              omega (
                arith,
                window-most a n,
                ap (λ (x : ℕ). period * x) z,
                ap (λ (x : ℕ). period * sum f x) (add-suc a n),
              ))
          | no some ↦
              omega (arith, ahead a (suc n) (suc n) (omega arith) (omega arith), mul-le-mul_left period (small (a + suc n)))
        ]
