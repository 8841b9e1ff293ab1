use Rattle.std.proofs.Common.{ℕ, List, ◌≡◌, ◌∙◌, ◌+◌, ◌-◌, ◌*◌, ◌/◌, ◌%◌, ◌^◌, ◌≤◌, ◌<◌, length, ap, arith}
use native.Mathlib.Nat.{mod-lt}
use lib.Pow.{pow_pos, pow_mono, shl_exact}
use Rattle.bits.specs.Field.{field, put_field}
use Rattle.bits.proofs.Laws.{new-lt, put-cut}
use Rattle.bits.proofs.put_in.Goals as goal

-- Of at most eight bytes, n in the whole, with t bits behind the field of width w at `at`.
module _ (s : List ℕ) (at w t n old number : ℕ) (few : length s ≤ 8) (ends : at + w + t ≡ 8 * length s)
    (all : n ≡ field s 0 (8 * length s)) (part : old ≡ n / 2 ^ t % 2 ^ w) (low : number < 2 ^ w) where
  abbrev bits : ℕ
  bits = 8 * length s

  abbrev bytes : ℕ
  bytes = field s 0 bits

  -- the shifts to the left lose nothing
  up : (x : ℕ) → x < 2 ^ w → x * 2 ^ t % 2 ^ 64 ≡ x * 2 ^ t
  up x l = shl_exact w t 64 l (omega arith)

  same : old * 2 ^ t % 2 ^ 64 ≡ bytes / 2 ^ t % 2 ^ w * 2 ^ t
  same =
      let e : old ≡ bytes / 2 ^ t % 2 ^ w = part ∙ ap (λ (m : ℕ). m / 2 ^ t % 2 ^ w) all in
      ap (λ (x : ℕ). x * 2 ^ t % 2 ^ 64) e ∙ up (bytes / 2 ^ t % 2 ^ w) (mod-lt _ (pow_pos w))

  made : n - old * 2 ^ t % 2 ^ 64 + number * 2 ^ t % 2 ^ 64 ≡ bytes - bytes / 2 ^ t % 2 ^ w * 2 ^ t + number * 2 ^ t
  made = omega (arith, same, up number low, all)

  fits : n - old * 2 ^ t % 2 ^ 64 + number * 2 ^ t % 2 ^ 64 < 2 ^ 64
  fits =
      omega (
        arith,
        made,
        new-lt s 0 bits at w t (omega arith) (omega arith) number low,
        pow_mono {i = bits} {j = 64} (omega arith),
      )

  done : put_field s 0 bits (n - old * 2 ^ t % 2 ^ 64 + number * 2 ^ t % 2 ^ 64) ≡ put_field s at w number
  done = ap (λ (m : ℕ). put_field s 0 bits m) made ∙ put-cut s 0 bits at w t (omega arith) (omega arith) number low

pub overflow_add-n : goal.overflow_add-n
overflow_add-n c =
    let a = c.args in
    omega (
      arith,
      fits a.bytes.now a.at a.width c.behind-behind.result c.gather-n.result c.trim-old.result a.number
          (omega arith) (omega arith) c.gather-n.ensures c.trim-old.ensures (omega arith),
    )

pub returns : goal.returns
returns c =
    let a = c.args in
    c.scatter.ensures
    ∙ done a.bytes.now a.at a.width c.behind-behind.result c.gather-n.result c.trim-old.result a.number
    (omega arith) (omega arith) c.gather-n.ensures c.trim-old.ensures (omega arith)
