-- Rounding up is the library's.
use mathlib.Core.Path.{◌≡◌}
use Prim.Native.Nat.{ℕ, ◌+◌, ◌*◌, ◌≤◌, ◌<◌}
use native.Mathlib.Nat.{mul-le-mul_right}
use native.Mathlib.Omega.{arith}
use Rattle.std.specs.Int.{div_ceil}
use Rattle.std.proofs.lemmas.Grind.{div_ceil_times}
use Rattle.rules.specs.Words.{up}

-- no two multiples are in one stretch of b numbers
one_multiple : (a b p q : ℕ) → a ≤ p * b → p * b < a + b → a ≤ q * b → q * b < a + b → p < q → ⊥
one_multiple a b p q l m n o h = let e : (p + 1) * b ≤ q * b = mul-le-mul_right b (omega arith) in omega (arith, e)

pub up-ceil : (a b : ℕ) → 1 ≤ b → div_ceil a b ≡ up a b
up-ceil a b l =
    let p = div_ceil a b in
    let q = up a b in
    let h = div_ceil_times a b (omega arith) in
    let low : a ≤ q * b = omega arith in
    let high : q * b < a + b = omega arith in
    omega (arith, one_multiple a b p q h.0 h.1 low high, one_multiple a b q p low high h.0 h.1)
