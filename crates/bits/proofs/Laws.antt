-- Laws of bits and fields, over lists of numbers. Where no bound on a byte is asked, the list need not be of bytes.
use Rattle.std.proofs.Common.{◌≡◌, refl, sym, ap, ap₂, subst, ◌∙◌, ◌≢◌, ◌⊎◌, inl, inr, true, List, [], ◌∷◌, ◌++◌, ℕ, zero}
use Rattle.std.proofs.Common.{suc, ◌+◌, ◌-◌, ◌*◌, ◌/◌, ◌%◌, ◌^◌, ◌≤◌, ◌<◌, zero-lt-suc, add-zero, add-suc, pow-suc, mod-lt}
use Rattle.std.proofs.Common.{div-one, mul-le-mul_right, arith, length, get_or, set, take}
use Rattle.std.proofs.Common.{replicate, length-set, get_or-set_same, get_or-set_other, get_or-take, ext_get_or, pow_mono}
use Rattle.std.proofs.Common.{pow_pos, pow-add, shr_lt, shr-shr, le-leb, leb-true, lt-ltb, Some, w64, get_or-append-add}
use Rattle.std.proofs.Common.{length-take-le, drop-drop, append_assoc, append-nil, drop-cons, suc-add, drop}
use Rattle.std.proofs.lemmas.List.{set-append_left, set-append_right, set_at, drop_all}
use Rattle.std.proofs.lemmas.List.Edits.{get_or-between, split_between, length-between}
use Rattle.std.proofs.lemmas.Nat.Bits.{bit_at_cat_low, bit_at_cat_high, same_from_bits_below}
use Rattle.std.proofs.lemmas.Slice.{between_to_end}
use Rattle.std.specs.Int.{bit_at, byte_at, bytes_high_first, to_be_bytes}
use Rattle.std.specs.List.{between}
use borrow.Rule.Slice.PartMut.{put_mid}
use lib.Arith.{digits_lt, digits_mod}
use lib.ListN.{get_or-append}
use lib.Pow.{split, high, low, mod-mod-pow, field as Pow·field}
use lib.Seq.{set_out, set-get_or}
use native.Mathlib.Decide.{ℕ_discrete, dec_lt}
use native.Mathlib.Nat.{pow-succ', div-div-eq-div-mul, le_dest, zero-div, div-eq_of_lt}
use Rattle.bits.specs.Field.{bit, field, within, byte_with, put_bit, put_field, Bytes, widest, served, taken_of, number_of}
use Rattle.bits.specs.Field.{field_fits, wrote_field}

-- ---- one binary digit of a number

module _ (x k b : ℕ) (two : b < 2) where
  low-lt : b * 2 ^ k + x % 2 ^ k < 2 ^ suc k
  low-lt = omega (arith, mul-le-mul_right {m = b} {n = 1} (2 ^ k) (omega arith), mod-lt x (pow_pos k), pow-suc 2 k)

  byte_high : byte_with x k b ≡ x / 2 ^ suc k * 2 ^ suc k + (b * 2 ^ k + x % 2 ^ k)
  byte_high = omega arith

  byte_low : byte_with x k b ≡ (x / 2 ^ suc k * 2 + b) * 2 ^ k + x % 2 ^ k
  byte_low = omega (arith, ap (λ (p : ℕ). x / 2 ^ suc k * p) (pow-suc 2 k))

  digit-same : byte_with x k b / 2 ^ k % 2 ≡ b
  digit-same =
      ap (λ (y : ℕ). y / 2 ^ k % 2) byte_low
      ∙ ap (λ (y : ℕ). y % 2) (high (x / 2 ^ suc k * 2 + b) k (mod-lt x (pow_pos k)))
      ∙ digits_mod (x / 2 ^ suc k) two

  digit-other : (j : ℕ) → j ≢ k → byte_with x k b / 2 ^ j % 2 ≡ x / 2 ^ j % 2
  digit-other j ne = elim (dec_lt j k) [
    | yes l ↦
        ap (λ (y : ℕ). bit_at y j) byte_low
        ∙ bit_at_cat_low (x / 2 ^ suc k * 2 + b) k (x % 2 ^ k) j l
        ∙ sym (bit_at_cat_low (x / 2 ^ k) k (x % 2 ^ k) j l)
        ∙ ap (λ (y : ℕ). bit_at y j) (split x k)
    | no n ↦
        let l : suc k ≤ j = omega arith in
        ap (λ (y : ℕ). bit_at y j) byte_high
        ∙ bit_at_cat_high (x / 2 ^ suc k) (suc k) (b * 2 ^ k + x % 2 ^ k) j low-lt l
        ∙ sym (bit_at_cat_high (x / 2 ^ suc k) (suc k) (x % 2 ^ suc k) j (mod-lt x (pow_pos (suc k))) l)
        ∙ ap (λ (y : ℕ). bit_at y j) (split x (suc k))
  ]

  -- a byte stays a byte
  pub byte-lt : k < 8 → x < 256 → byte_with x k b < 256
  byte-lt l h =
      let j : ℕ = (le_dest l).0 in
      let e : j + suc k ≡ 8 = omega (arith, (le_dest l).1) in
      let top : 2 ^ j * 2 ^ suc k ≡ 256 = sym (pow-add 2 j (suc k)) ∙ ap (λ (m : ℕ). 2 ^ m) e in
      let q : x / 2 ^ suc k < 2 ^ j = shr_lt j (suc k) (rw (pow-add, top) h) in
      omega (arith, digits_lt q low-lt, top)

-- ---- bits

pub bit-lt : (s : List ℕ) (i : ℕ) → bit s i < 2
unfolding bit
bit-lt s i = mod-lt _ (zero-lt-suc 1)

pub length-put_bit : (s : List ℕ) (i b : ℕ) → length (put_bit s i b) ≡ length s
unfolding put_bit
length-put_bit s i b = length-set s (i / 8) _

pub bit-put_bit : (s : List ℕ) (i b : ℕ) → i < 8 * length s → b < 2 → bit (put_bit s i b) i ≡ b
unfolding bit put_bit
bit-put_bit s i b h two = rw (get_or-set_same s (i / 8) _ 0 (omega arith)) (digit-same (get_or s (i / 8) 0) (7 - i % 8) b two)

-- after a store at n, the place m has what was stored, or what it had
stored : (s : List ℕ) (n y m : ℕ) → ((m ≡ n) × (get_or (set s n y) m 0 ≡ y)) ⊎ (get_or (set s n y) m 0 ≡ get_or s m 0)
stored s n y m = elim (ℕ_discrete m n) [
  | no o ↦ inr (get_or-set_other s n m y 0 o)
  | yes e ↦ elim (dec_lt n (length s)) [
    | no o ↦ inr (ap (λ (t : List ℕ). get_or t m 0) (set_out s n y (omega arith)))
    | yes l ↦ inl (e, rw e (get_or-set_same s n y 0 l))
  ]
]

pub bit-put_bit-other : (s : List ℕ) (i b j : ℕ) → b < 2 → j ≢ i → bit (put_bit s i b) j ≡ bit s j
unfolding bit put_bit
bit-put_bit-other s i b j two ne = elim (stored s (i / 8) (byte_with (get_or s (i / 8) 0) (7 - i % 8) b) (j / 8)) [
  | inr e ↦ rw e
  | inl e ↦
      rw (e.1, e.0)
      (digit-other (get_or s (i / 8) 0) (7 - i % 8) b two (7 - j % 8) (λ q. ne (omega (arith, e.0))))
]

pub bytes-put_bit : (s : List ℕ) (i b : ℕ) → b < 2 → Bytes s → Bytes (put_bit s i b)
unfolding put_bit
bytes-put_bit s i b two h j = elim (stored s (i / 8) (byte_with (get_or s (i / 8) 0) (7 - i % 8) b) j) [
  | inr e ↦ rw e (h j)
  | inl e ↦ rw e.1 (byte-lt (get_or s (i / 8) 0) (7 - i % 8) b two (omega arith) (h (i / 8)))
]

zeros : (n i : ℕ) → get_or {A = ℕ} (replicate n 0) i 0 ≡ 0
zeros zero i = refl
zeros (suc n) zero = refl
zeros (suc n) (suc i) = zeros n i

pub bit-zeros : (n i : ℕ) → bit (replicate n 0) i ≡ 0
unfolding bit
bit-zeros n i = rw (zeros n (i / 8), zero-div) refl

pub bit-append : (s t : List ℕ) (i : ℕ) → i < 8 * length s → bit (s ++ t) i ≡ bit s i
unfolding bit
bit-append s t i h = rw (get_or-append s t 0 (i / 8) (omega arith))

pub bit-take : (s : List ℕ) (n i : ℕ) → i < 8 * n → bit (take n s) i ≡ bit s i
unfolding bit
bit-take s n i h = rw (get_or-take n s (i / 8) 0 (omega arith))

-- the bits of a list of bytes tell it
pub bits-eq : (s t : List ℕ) → Bytes s → Bytes t → length s ≡ length t
    → ((i : ℕ) → i < 8 * length s → bit s i ≡ bit t i) → s ≡ t
unfolding bit
bits-eq s t hs ht e h =
    ext_get_or 0 s t e (λ n l.
    same_from_bits_below 8 (get_or s n 0) (get_or t n 0) (hs n) (ht n) (λ j m.
    let q : (8 * n + (7 - j)) / 8 ≡ n = omega arith in
    let r : 7 - (8 * n + (7 - j)) % 8 ≡ j = omega arith in
    rw (q, r) at (h (8 * n + (7 - j)) (omega arith))))

-- ---- fields

pub field_lt : (s : List ℕ) (at w : ℕ) → field s at w < 2 ^ w
unfolding field
field_lt s at zero = omega arith
field_lt s at (suc w) = omega (arith, field_lt s at w, bit-lt s (at + w), pow-suc 2 w)

pub no_field : (s : List ℕ) (at w : ℕ) → w ≡ 0 → 0 ≡ field s at w
unfolding field
no_field s at w e = rw e

-- bits that are equal one by one, at two places
pub field-same : (s t : List ℕ) (a b w : ℕ) → ((k : ℕ) → k < w → bit s (a + k) ≡ bit t (b + k)) → field s a w ≡ field t b w
unfolding field
field-same s t a b zero h = refl
field-same s t a b (suc w) h =
    ap₂ (λ (u v : ℕ). 2 * u + v) (field-same s t a b w (λ k l. h k (omega arith))) (h w (omega arith))

pub same_bits : (s t : List ℕ) (a b w : ℕ) → field s a w ≡ field t b w → (k : ℕ) → k < w → bit s (a + k) ≡ bit t (b + k)
unfolding field
same_bits s t a b zero e k l = absurd (omega arith)
same_bits s t a b (suc w) e k l = elim (ℕ_discrete k w) [
  | yes q ↦ rw q (omega (arith, bit-lt s (a + w), bit-lt t (b + w)))
  | no n ↦ same_bits s t a b w (omega (arith, bit-lt s (a + w), bit-lt t (b + w))) k (omega arith)
]

-- a field is what its bits are
pub field-cong : (s t : List ℕ) (at w : ℕ) → ((i : ℕ) → at ≤ i → i < at + w → bit s i ≡ bit t i) → field s at w ≡ field t at w
field-cong s t at w h = field-same s t at at w (λ k l. h (at + k) (omega arith) (omega arith))

pub field-bits : (s t : List ℕ) (at w : ℕ) → field s at w ≡ field t at w → (i : ℕ) → at ≤ i → i < at + w → bit s i ≡ bit t i
field-bits s t at w e i l h =
    subst (λ (m : ℕ). bit s m ≡ bit t m) (le_dest l).1 (same_bits s t at at w e (le_dest l).0 (omega (arith, (le_dest l).1)))

pub field-none : (s : List ℕ) (at w : ℕ) → ((i : ℕ) → at ≤ i → i < at + w → bit s i ≡ 0) → field s at w ≡ 0
unfolding field
field-none s at zero h = refl
field-none s at (suc w) h =
    omega (arith, field-none s at w (λ i l m. h i l (omega arith)), h (at + w) (omega arith) (omega arith))

pub field-zeros : (n at w : ℕ) → field (replicate n 0) at w ≡ 0
field-zeros n at w = field-none (replicate n 0) at w (λ i l m. bit-zeros n i)

-- the first a bits are the high digits
pub field-split : (s : List ℕ) (at a b : ℕ) → field s at (a + b) ≡ field s at a * 2 ^ b + field s (at + a) b
unfolding field
field-split s at a zero = ap (λ (m : ℕ). field s at m) (add-zero a) ∙ omega arith
field-split s at a (suc b) =
    let e : at + (a + b) ≡ at + a + b = omega arith in
    ap (λ (m : ℕ). field s at m) (add-suc a b)
    ∙ omega (arith, field-split s at a b, ap (λ (m : ℕ). bit s m) e, ap (λ (p : ℕ). field s at a * p) (pow-suc 2 b))

pub field-append : (s t : List ℕ) (at w : ℕ) → at + w ≤ 8 * length s → field (s ++ t) at w ≡ field s at w
field-append s t at w h = field-cong (s ++ t) s at w (λ i l m. bit-append s t i (omega arith))

pub field-take : (s : List ℕ) (n at w : ℕ) → at + w ≤ 8 * n → field (take n s) at w ≡ field s at w
field-take s n at w h = field-cong (take n s) s at w (λ i l m. bit-take s n i (omega arith))

-- ---- a field that is written

pub length-put_field : (s : List ℕ) (at w v : ℕ) → length (put_field s at w v) ≡ length s
unfolding put_field
length-put_field s at zero v = refl
length-put_field s at (suc w) v = length-put_bit _ (at + w) (v % 2) ∙ length-put_field s at w (v / 2)

-- the bits outside stay as they are
pub bit-put_field-other : (s : List ℕ) (at w v i : ℕ) → (i < at) ⊎ (at + w ≤ i) → bit (put_field s at w v) i ≡ bit s i
unfolding put_field
bit-put_field-other s at zero v i o = refl
bit-put_field-other s at (suc w) v i o =
    bit-put_bit-other (put_field s at w (v / 2)) (at + w) (v % 2) i (omega arith)
    (λ e. elim o [ inl l ↦ omega arith | inr l ↦ omega arith ])
    ∙ bit-put_field-other s at w (v / 2) i (elim o [ inl l ↦ inl l | inr l ↦ inr (omega arith) ])

pub field-put_field-other : (s : List ℕ) (at w v at' w' : ℕ) → (at' + w' ≤ at) ⊎ (at + w ≤ at')
    → field (put_field s at w v) at' w' ≡ field s at' w'
field-put_field-other s at w v at' w' o =
    field-cong (put_field s at w v) s at' w' (λ i l h.
    bit-put_field-other s at w v i (elim o [ inl a ↦ inl (omega arith) | inr a ↦ inr (omega arith) ]))

-- what was written is read
pub field-put_field : (s : List ℕ) (at w v : ℕ) → at + w ≤ 8 * length s → v < 2 ^ w → field (put_field s at w v) at w ≡ v
unfolding field put_field
field-put_field s at zero v h l = omega arith
field-put_field s at (suc w) v h l =
    let p : List ℕ = put_field s at w (v / 2) in
    let n : length p ≡ length s = length-put_field s at w (v / 2) in
    let b : bit (put_bit p (at + w) (v % 2)) (at + w) ≡ v % 2 = bit-put_bit p (at + w) (v % 2) (omega arith) (omega arith) in
    let q : field (put_bit p (at + w) (v % 2)) at w ≡ field p at w
    = field-cong (put_bit p (at + w) (v % 2)) p at w
    (λ i a z. bit-put_bit-other p (at + w) (v % 2) i (omega arith) (λ e. omega arith)) in
    omega (arith, q, b, field-put_field s at w (v / 2) (omega arith) (omega (arith, pow-suc 2 w)))

pub bytes-put_field : (s : List ℕ) (at w v : ℕ) → Bytes s → Bytes (put_field s at w v)
unfolding put_field
bytes-put_field s at zero v h = h
bytes-put_field s at (suc w) v h =
    bytes-put_bit (put_field s at w (v / 2)) (at + w) (v % 2) (omega arith) (bytes-put_field s at w (v / 2) h)

-- ---- by the byte

-- the highest w bits of a byte
byte_high_bits : (s : List ℕ) (n w d : ℕ) → get_or s n 0 < 256 → w + d ≡ 8 → field s (8 * n) w ≡ get_or s n 0 / 2 ^ d
unfolding field bit
byte_high_bits s n zero d l e =
    let top : 8 ≡ d = omega arith in
    sym (div-eq_of_lt (subst (λ (m : ℕ). get_or s n 0 < 2 ^ m) top l))
byte_high_bits s n (suc w) d l e =
    let q : (8 * n + w) / 8 ≡ n = omega arith in
    let r : 7 - (8 * n + w) % 8 ≡ d = omega arith in
    let h : get_or s n 0 / 2 ^ suc d ≡ get_or s n 0 / 2 ^ d / 2
    = ap (λ (m : ℕ). get_or s n 0 / 2 ^ m) (omega arith) ∙ sym (shr-shr (get_or s n 0) d 1) in
    rw (q, r, byte_high_bits s n w (suc d) l (omega arith), h) (omega arith)

pub field-byte : (s : List ℕ) (n : ℕ) → get_or s n 0 < 256 → field s (8 * n) 8 ≡ get_or s n 0
field-byte s n l = byte_high_bits s n 8 0 l refl ∙ div-one (get_or s n 0)

-- the first bytes, and one byte more
pub field_more : (s : List ℕ) (k : ℕ) → get_or s k 0 < 256
    → field s 0 (8 * (k + 1)) ≡ 256 * field s 0 (8 * k) + get_or s k 0
field_more s k l =
    let e : 8 * (k + 1) ≡ 8 * k + 8 = omega arith in
    let z : 0 + 8 * k ≡ 8 * k = omega arith in
    rw (e, field-split s 0 (8 * k) 8, z, field-byte s k l) (omega arith)

-- the number in fewer than eight bytes has room for one more
pub few_bytes : (s : List ℕ) (k : ℕ) → k < 8 → field s 0 (8 * k) < 2 ^ 56
few_bytes s k l = omega (arith, field_lt s 0 (8 * k), pow_mono {i = 8 * k} {j = 56} (omega arith))

-- a field of some of the bytes
pub field_between : (s : List ℕ) (i j at w : ℕ) → 8 * i ≤ at → at + w ≤ 8 * j
    → field (between i j s) (at - 8 * i) w ≡ field s at w
unfolding bit
field_between s i j at w l h =
    field-same (between i j s) s (at - 8 * i) at w (λ k m.
    let q : (at + k) / 8 ≡ i + (at - 8 * i + k) / 8 = omega arith in
    let r : (at + k) % 8 ≡ (at - 8 * i + k) % 8 = omega arith in
    rw (q, r, get_or-between s i j ((at - 8 * i + k) / 8) 0 (omega arith)))

-- the digits above the last t, and of those the last w
cut : (s : List ℕ) (a r w t : ℕ) → field s a (r + w + t) / 2 ^ t % 2 ^ w ≡ field s (a + r) w
cut s a r w t =
    rw (field-split s a (r + w) t, high (field s a (r + w)) t (field_lt s (a + (r + w)) t), field-split s a r w)
    (low (field s a r) w (field_lt s (a + r) w))

-- the first a bits take the high digits
pub put_field-split : (s : List ℕ) (at a b v : ℕ)
    → put_field s at (a + b) v ≡ put_field (put_field s at a (v / 2 ^ b)) (at + a) b (v % 2 ^ b)
unfolding put_field
put_field-split s at a zero v = ap₂ (λ (m n : ℕ). put_field s at m n) (add-zero a) (sym (div-one v))
put_field-split s at a (suc b) v =
    let z : b + 1 ≡ suc b = omega arith in
    let up : v / 2 / 2 ^ b ≡ v / 2 ^ suc b = shr-shr v 1 b ∙ ap (λ (m : ℕ). v / 2 ^ m) (omega arith) in
    let mid : v / 2 % 2 ^ b ≡ v % 2 ^ suc b / 2
    = subst (λ (m : ℕ). v / 2 % 2 ^ b ≡ v % 2 ^ m / 2) z (sym (Pow·field v b 1)) in
    let end : v % 2 ≡ v % 2 ^ suc b % 2 = subst (λ (m : ℕ). v % 2 ≡ v % 2 ^ m % 2) z (sym (mod-mod-pow v b 1)) in
    let e : at + (a + b) ≡ at + a + b = omega arith in
    ap (λ (m : ℕ). put_field s at m v) (add-suc a b)
    ∙ ap₂ (λ (p : List ℕ) (i : ℕ). put_bit p i (v % 2)) (put_field-split s at a b (v / 2)) e
    ∙ rw (up, mid, end)

-- a byte whose digit is put to what it is
byte_same : (x k : ℕ) → byte_with x k (x / 2 ^ k % 2) ≡ x
byte_same x k =
    let q : x / 2 ^ suc k ≡ x / 2 ^ k / 2 = sym (ap (λ (m : ℕ). x / 2 ^ m) (omega arith)) ∙ sym (shr-shr x k 1) in
    let e : x / 2 ^ k ≡ x / 2 ^ suc k * 2 + x / 2 ^ k % 2 = omega arith in
    omega (arith, byte_low x k (x / 2 ^ k % 2) (mod-lt _ (zero-lt-suc 1)), split x k, ap (λ (y : ℕ). y * 2 ^ k) e)

-- what a field holds may be written to it
pub put_field-same : (s : List ℕ) (at w : ℕ) → put_field s at w (field s at w) ≡ s
unfolding field bit put_field put_bit
put_field-same s at zero = refl
put_field-same s at (suc w) =
    let b : ℕ = bit s (at + w) in
    let h : (2 * field s at w + b) / 2 ≡ field s at w = omega (arith, bit-lt s (at + w)) in
    let l : (2 * field s at w + b) % 2 ≡ b = omega (arith, bit-lt s (at + w)) in
    ap₂ (λ (n d : ℕ). put_bit (put_field s at w n) (at + w) d) h l
    ∙ ap (λ (p : List ℕ). put_bit p (at + w) b) (put_field-same s at w)
    ∙ ap (λ (x : ℕ). set s ((at + w) / 8) x) (byte_same (get_or s ((at + w) / 8) 0) (7 - (at + w) % 8))
    ∙ set-get_or s ((at + w) / 8) 0

put_byte : (s : List ℕ) → Bytes s → (n v : ℕ) → n < length s → v < 256 → put_field s (8 * n) 8 v ≡ set s n v
put_byte s bytes n v l small =
    let p : List ℕ = put_field s (8 * n) 8 v in
    let bp : Bytes p = bytes-put_field s (8 * n) 8 v bytes in
    ext_get_or 0 p (set s n v) (length-put_field s (8 * n) 8 v ∙ sym (length-set s n v)) (λ m h.
    elim (ℕ_discrete m n) [
      | yes e ↦
          rw e
          (sym (field-byte p n (bp n)) ∙ field-put_field s (8 * n) 8 v (omega arith) small ∙ sym (get_or-set_same s n v 0 l))
      | no o ↦
          sym (field-byte p m (bp m))
          ∙ field-put_field-other s (8 * n) 8 v (8 * m) 8
          (elim (dec_lt m n) [ yes b ↦ inl (omega arith) | no b ↦ inr (omega (arith, o)) ])
          ∙ field-byte s m (bytes m)
          ∙ sym (get_or-set_other s n m v 0 o)
    ])

-- the last bytes of a number, and one more
byte-up : (k v : ℕ) → byte_at (suc k) v ≡ byte_at k (v / 256)
byte-up zero v = refl
byte-up (suc k) v = rw (pow-succ' 256 (suc k), ← div-div-eq-div-mul v 256 (256 ^ suc k))

high_first-more : (k v : ℕ) → bytes_high_first (suc k) v ≡ bytes_high_first k (v / 256) ++ (v % 256 ∷ [])
high_first-more zero v = refl
high_first-more (suc k) v = ap₂ (λ (b : ℕ) (bs : List ℕ). b ∷ bs) (byte-up k v) (high_first-more k v)

length-high_first : (k v : ℕ) → length (bytes_high_first k v) ≡ k
length-high_first zero v = refl
length-high_first (suc k) v = ap suc (length-high_first k v)

drop-high_first : (k n v : ℕ) → drop k (bytes_high_first (k + n) v) ≡ bytes_high_first n v
drop-high_first zero n v = ap (λ (m : ℕ). bytes_high_first m v) (omega arith)
drop-high_first (suc k) n v = rw suc-add (drop-high_first k n v)

-- what writing a number to the first bytes leaves: its bytes, the highest first
put_bytes : (s : List ℕ) → Bytes s → (k v : ℕ) → k ≤ length s
    → put_field s 0 (8 * k) v ≡ bytes_high_first k v ++ drop k s
unfolding put_field
put_bytes s bytes zero v l = refl
put_bytes s bytes (suc k) v l =
    let p : List ℕ = put_field s 0 (8 * k) (v / 256) in
    let e : 8 * suc k ≡ 8 * k + 8 = omega arith in
    let z : 0 + 8 * k ≡ 8 * k = omega arith in
    let long : length p ≡ length s = length-put_field s 0 (8 * k) (v / 256) in
    let high : List ℕ = bytes_high_first k (v / 256) in
    rw (e, put_field-split s 0 (8 * k) 8 v, z)
    (put_byte p (bytes-put_field s 0 (8 * k) (v / 256) bytes) k (v % 256) (omega (arith, long)) (omega arith)
    ∙ ap (λ (q : List ℕ). set q k (v % 256)) (put_bytes s bytes k (v / 256) (omega arith))
    ∙ ap (λ (q : List ℕ). set (high ++ q) k (v % 256)) (drop-cons s k 0 l)
    ∙ set_at high (get_or s k 0) (drop (suc k) s) (v % 256) k (length-high_first k (v / 256))
    ∙ sym (append_assoc high (v % 256 ∷ []) (drop (suc k) s))
    ∙ ap (λ (q : List ℕ). q ++ drop (suc k) s) (sym (high_first-more k v)))

-- a number in all of at most eight bytes: the last of its own
pub put_all : (s : List ℕ) → Bytes s → (v : ℕ) → length s ≤ 8
    → between (8 - length s) 8 (to_be_bytes w64 v) ≡ put_field s 0 (8 * length s) v
put_all s bytes v l =
    let n : ℕ = length s in
    let e : 8 ≡ 8 - n + n = omega arith in
    between_to_end (to_be_bytes w64 v) (8 - n) 8 (omega arith)
    ∙ ap (λ (m : ℕ). drop (8 - n) (bytes_high_first m v)) e
    ∙ drop-high_first (8 - n) n v
    ∙ sym
    (
    put_bytes s bytes n v (omega arith)
    ∙ ap (λ (q : List ℕ). bytes_high_first n v ++ q) (drop_all n s (omega arith))
    ∙ append-nil (bytes_high_first n v)
    )

-- a field of some of the bytes that is written
put_bit-beside : (a m z : List ℕ) (i b : ℕ) → i < 8 * length m
    → put_bit (a ++ (m ++ z)) (8 * length a + i) b ≡ a ++ (put_bit m i b ++ z)
unfolding put_bit
put_bit-beside a m z i b h =
    let q : (8 * length a + i) / 8 ≡ length a + i / 8 = omega arith in
    let r : (8 * length a + i) % 8 ≡ i % 8 = omega arith in
    let x : ℕ = byte_with (get_or m (i / 8) 0) (7 - i % 8) b in
    let n : length a + i / 8 - length a ≡ i / 8 = omega arith in
    rw (
      q,
      r,
      get_or-append-add a (m ++ z) (i / 8) 0,
      get_or-append m z 0 (i / 8) (omega arith),
      set-append_right a (m ++ z) (length a) (length a + i / 8) x refl (omega arith),
      n,
      set-append_left m z (i / 8) x (omega arith),
    )

put_field-beside : (a m z : List ℕ) (at w v : ℕ) → at + w ≤ 8 * length m
    → put_field (a ++ (m ++ z)) (8 * length a + at) w v ≡ a ++ (put_field m at w v ++ z)
unfolding put_field
put_field-beside a m z at zero v h = refl
put_field-beside a m z at (suc w) v h =
    let p : List ℕ = put_field m at w (v / 2) in
    let q : 8 * length a + at + w ≡ 8 * length a + (at + w) = omega arith in
    let long : length p ≡ length m = length-put_field m at w (v / 2) in
    rw (put_field-beside a m z at w (v / 2) (omega arith), q) (put_bit-beside a p z (at + w) (v % 2) (omega arith))

pub put_none : (s : List ℕ) (at w v : ℕ) → w ≡ 0 → s ≡ put_field s at w v
unfolding put_field
put_none s at w v e = rw e

pub put_between : (s : List ℕ) (i j at w v : ℕ) → i ≤ j → j ≤ length s → 8 * i ≤ at → at + w ≤ 8 * j
    → put_mid i (j - i) s (put_field (between i j s) (at - 8 * i) w v) ≡ put_field s at w v
put_between s i j at w v le inside l h =
    let a : List ℕ = take i s in
    let b : List ℕ = between i j s in
    let front : length a ≡ i = length-take-le i s (omega arith) in
    let mid : length b ≡ j - i = length-between s i j inside in
    let e : 8 * length a + (at - 8 * i) ≡ at = omega arith in
    let f : i + (j - i) ≡ j = omega arith in
    let behind : drop (j - i) (drop i s) ≡ drop j s = drop-drop (j - i) i s ∙ ap (λ (m : ℕ). drop m s) f in
    ap (λ (q : List ℕ). a ++ (put_field b (at - 8 * i) w v ++ q)) behind
    ∙ sym (put_field-beside a b (drop j s) (at - 8 * i) w v (omega arith))
    ∙ ap₂ (λ (q : List ℕ) (m : ℕ). put_field q m w v) (sym (split_between s i j le)) e

module _ (s : List ℕ) (a r w t v : ℕ) where
  abbrev all : ℕ
  all = field s a (r + w + t)

  abbrev last : ℕ
  last = field s (a + (r + w)) t

  -- its old digits taken away, and the new ones added
  changed : all - all / 2 ^ t % 2 ^ w * 2 ^ t + v * 2 ^ t ≡ (field s a r * 2 ^ w + v) * 2 ^ t + last
  changed =
      omega (
        arith,
        field-split s a (r + w) t,
        ap (λ (x : ℕ). x * 2 ^ t) (field-split s a r w),
        ap (λ (x : ℕ). x * 2 ^ t) (cut s a r w t),
      )

  put_whole : v < 2 ^ w
      → put_field s a (r + w + t) (all - all / 2 ^ t % 2 ^ w * 2 ^ t + v * 2 ^ t) ≡ put_field s (a + r) w v
  put_whole l =
      let inner : List ℕ = put_field s (a + r) w v in
      let kept : field inner (a + (r + w)) t ≡ last
      = field-put_field-other s (a + r) w v (a + (r + w)) t (inr (omega arith)) in
      ap (λ (x : ℕ). put_field s a (r + w + t) x) changed
      ∙ put_field-split s a (r + w) t _
      ∙ ap₂ (λ (x y : ℕ). put_field (put_field s a (r + w) x) (a + (r + w)) t y)
      (high (field s a r * 2 ^ w + v) t (field_lt s (a + (r + w)) t)) (low (field s a r * 2 ^ w + v) t (field_lt s (a + (r + w)) t))
      ∙ ap (λ (p : List ℕ). put_field p (a + (r + w)) t last) (
      put_field-split s a r w _
      ∙ ap₂ (λ (x y : ℕ). put_field (put_field s a r x) (a + r) w y) (high (field s a r) w l) (low (field s a r) w l)
      ∙ ap (λ (p : List ℕ). put_field p (a + r) w v) (put_field-same s a r)
      )
      ∙ ap (λ (x : ℕ). put_field inner (a + (r + w)) t x) (sym kept)
      ∙ put_field-same inner (a + (r + w)) t

-- a field of w bits inside of one of c bits, with t bits behind it
module _ (s : List ℕ) (a c at w t : ℕ) (starts : a ≤ at) (ends : at + w + t ≡ a + c) where
  abbrev whole : ℕ
  whole = field s a c

  parts : at - a + w + t ≡ c
  parts = omega arith

  here : a + (at - a) ≡ at
  here = omega arith

  pub field_cut : whole / 2 ^ t % 2 ^ w ≡ field s at w
  field_cut =
      ap (λ (m : ℕ). field s a m / 2 ^ t % 2 ^ w) (sym parts)
      ∙ cut s a (at - a) w t
      ∙ ap (λ (i : ℕ). field s i w) here

  -- what `part` gives of the number that was read
  pub part_at : {n p : ℕ} → p ≡ n / 2 ^ t % 2 ^ w → n ≡ whole → p ≡ field s at w
  part_at e r = e ∙ ap (λ (n : ℕ). n / 2 ^ t % 2 ^ w) r ∙ field_cut

  -- its old digits are taken away, and those of v are added
  module _ (v : ℕ) (small : v < 2 ^ w) where
    abbrev new : ℕ → ℕ
    new n = n - n / 2 ^ t % 2 ^ w * 2 ^ t + v * 2 ^ t

    pub new-lt : new whole < 2 ^ c
    new-lt =
        subst (λ (m : ℕ). new (field s a m) < 2 ^ m) parts
        (rw (changed s a (at - a) w t v, pow-add 2 (at - a + w) t, pow-add 2 (at - a) w)
        (digits_lt (digits_lt (field_lt s a (at - a)) small) (field_lt s (a + (at - a + w)) t)))

    pub put-cut : put_field s a c (new whole) ≡ put_field s at w v
    put-cut =
        subst (λ (m : ℕ). put_field s a m (new (field s a m)) ≡ put_field s (a + (at - a)) w v) parts
        (put_whole s a (at - a) w t v small)
        ∙ ap (λ (i : ℕ). put_field s i w v) here

-- ---- the replies

pub within-le : (s : List ℕ) (at w : ℕ) → within s at w ≡ true → at + w ≤ 8 * length s
within-le s at w e = leb-true (at + w) (8 * length s) e

-- where the field is served
module _ (s : List ℕ) (at w : ℕ) (narrow : w ≤ widest) (inside : at + w ≤ 8 * length s) where
  pub served-true : served s at w ≡ true
  served-true = rw (le-leb w widest narrow) (le-leb (at + w) (8 * length s) inside)

  pub taken_of-number : taken_of s at w ≡ Some (field s at w)
  taken_of-number = rw served-true

  pub number_at : {r : ℕ} → r ≡ number_of (taken_of s at w) → r ≡ field s at w
  number_at e = e ∙ ap number_of taken_of-number

  pub field_fits-true : (v : ℕ) → v < 2 ^ w → field_fits s at w v ≡ true
  field_fits-true v l = rw served-true (lt-ltb v (2 ^ w) l)

  pub wrote_field-put : (v : ℕ) → v < 2 ^ w → wrote_field s at w v ≡ put_field s at w v
  wrote_field-put v l = rw (field_fits-true v l)
