-- A few fields, read, written or past the end, that antt computes.
use mathlib.Core.Path.{◌≡◌, refl}
use mathlib.Core.Bool.{true, false}
use mathlib.Core.List.{[], ◌∷◌}
use lib.ListN.{replicate}
use Rattle.bits.specs.Field.{bit, field, within, put_bit, put_field, served}

-- the four low bits of the first byte, then the four high ones of the second
pub middle : field (0x12 ∷ 0x34 ∷ []) 4 8 ≡ 0x23
unfolding field bit
middle = refl

pub first_bit : field (0x80 ∷ 0 ∷ []) 0 9 ≡ 256
unfolding field bit
first_bit = refl

pub put-middle : put_field (0xff ∷ 0xff ∷ []) 4 8 0x23 ≡ 0xf2 ∷ 0x3f ∷ []
unfolding put_field put_bit
put-middle = refl

pub last_bits : within (0 ∷ 0 ∷ []) 4 12 ≡ true
last_bits = refl

pub past_the_end : within (0 ∷ 0 ∷ []) 4 13 ≡ false
past_the_end = refl

-- 57 bits of eight bytes are served, and no more, though they are there
pub widest-served : served (replicate 8 0) 0 57 ≡ true
widest-served = refl

pub wider_not-served : served (replicate 8 0) 0 58 ≡ false
wider_not-served = refl
