-- A number has no digits beyond 64.
use Rattle.std.proofs.Common.{ℕ, ◌≡◌, ◌∙◌, ◌/◌, ◌%◌, ◌^◌, ◌≤◌, ◌<◌, sym, ap, arith}
use native.Mathlib.Nat.{div-eq_of_lt, mod-eq_of_lt, zero-mod}
use lib.Pow.{pow_mono, shr_le}

pub none_beyond : (n behind width : ℕ) → n < 2 ^ 64 → 64 ≤ behind → 0 ≡ n / 2 ^ behind % 2 ^ width
none_beyond n behind width fits far =
    let none : n / 2 ^ behind ≡ 0 = div-eq_of_lt (omega (arith, pow_mono {i = 64} {j = behind} far, fits)) in
    sym (ap (λ (x : ℕ). x % 2 ^ width) none ∙ zero-mod (2 ^ width))

pub all_within : (n behind width : ℕ) → n < 2 ^ 64 → 64 ≤ width → n / 2 ^ behind ≡ n / 2 ^ behind % 2 ^ width
all_within n behind width fits wide =
    sym (mod-eq_of_lt (omega (arith, shr_le n behind, pow_mono {i = 64} {j = width} wide, fits)))
