-- The reply in 64 bits: refusal number × 2^56 + place × 2^48 + value; number 0 when granted, value 0 when refused.
use Rattle.std.specs.Prelude.{List, ℕ, ◌+◌, ◌*◌, ◌^◌, get_or}
use Rattle.rules.specs.Replies.{Reply, granted, refused}

abbrev pub packing : ℕ → ℕ → ℕ → ℕ
packing number place value = number * 2 ^ 56 + place * 2 ^ 48 + value

unfoldable pub packed : (List ℕ → ℕ) → Reply → ℕ
packed value (granted values) = packing 0 0 (value values)
packed value (refused number place) = packing number place 0

-- The value is the sheet's length, the end-to-end delay or the price,
abbrev pub only : List ℕ → ℕ
only values = get_or values 0 0

-- or backlog × 2^24 + delay.
abbrev pub figures : List ℕ → ℕ
figures values = get_or values 0 0 * 2 ^ 24 + get_or values 1 0

-- or a label's start × 2^16 + its length.
abbrev pub stretch : List ℕ → ℕ
stretch values = get_or values 0 0 * 2 ^ 16 + get_or values 1 0
