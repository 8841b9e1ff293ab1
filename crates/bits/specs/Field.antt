-- Fields of bits in bytes, most significant bit first.
use Rattle.std.specs.Prelude.{List, Bool, Option, Some, None, ◌&&◌, cond, ℕ, zero, suc, ◌+◌, ◌-◌, ◌*◌, ◌/◌, ◌%◌, ◌^◌, ◌<◌, length, get_or, set, leb, ltb}

-- bit i of a byte string: bit 0 is the most significant of byte 0
unfoldable pub bit : List ℕ → ℕ → ℕ
bit s i = get_or s (i / 8) 0 / 2 ^ (7 - i % 8) % 2

-- the number in the w bits that start at bit at
unfoldable pub field : List ℕ → ℕ → ℕ → ℕ
field s at zero = 0
field s at (suc w) = 2 * field s at w + bit s (at + w)

-- w bits that start at bit at do not go past the end
abbrev pub within : List ℕ → ℕ → ℕ → Bool
within s at w = leb (at + w) (8 * length s)

-- a byte whose bit of value 2 ^ k is put to b
abbrev pub byte_with : ℕ → ℕ → ℕ → ℕ
byte_with x k b = x / 2 ^ suc k * 2 ^ suc k + b * 2 ^ k + x % 2 ^ k

-- the byte string whose bit i is put to b
unfoldable pub put_bit : List ℕ → ℕ → ℕ → List ℕ
put_bit s i b = set s (i / 8) (byte_with (get_or s (i / 8) 0) (7 - i % 8) b)

-- the byte string whose w bits from bit at hold the number v
unfoldable pub put_field : List ℕ → ℕ → ℕ → ℕ → List ℕ
put_field s at zero v = s
put_field s at (suc w) v = put_bit (put_field s at w (v / 2)) (at + w) (v % 2)

-- a list of bytes: what is past its end counts as 0
abbrev pub Bytes : List ℕ → Type 0
Bytes s = (i : ℕ) → get_or s i 0 < 256

-- the widest field that is served
abbrev pub widest : ℕ
widest = 57

-- a field that is served, of bits that are all there
abbrev pub served : List ℕ → ℕ → ℕ → Bool
served s at w = leb w widest && within s at w

-- what reading a field finds
abbrev pub taken_of : List ℕ → ℕ → ℕ → Option ℕ
taken_of s at w = cond (served s at w) (Some (field s at w)) None

-- the number that was found, and 0 where nothing was
abbrev pub number_of : Option ℕ → ℕ
number_of (Some n) = n
number_of None = 0

-- the number v can be written to the field
abbrev pub field_fits : List ℕ → ℕ → ℕ → ℕ → Bool
field_fits s at w v = served s at w && ltb v (2 ^ w)

-- the byte string after v was written to the field, or refused
abbrev pub wrote_field : List ℕ → ℕ → ℕ → ℕ → List ℕ
wrote_field s at w v = cond (field_fits s at w v) (put_field s at w v) s
