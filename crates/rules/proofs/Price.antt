-- Laws of the price, over any fair row: the frames of a message sum to its price, each is smallest to full, and the price
-- does not fall when the payload grows.
use mathlib.Core.Path.{◌≡◌, refl, sym}
use mathlib.Core.List.{[], ◌∷◌}
use mathlib.Core.Logic.{◌⊎◌}
use Prim.Native.Nat.{ℕ, zero, suc, ◌+◌, ◌*◌, ◌/◌, ◌%◌, ◌≤◌, ◌<◌}
use native.Mathlib.Omega.{arith}
use native.Mathlib.Nat.{mod-lt, div-add-mod', div-mul-le_self, le_trans, zero-mul, suc-mul}
use lib.ListN.{replicate}
use lib.Dec.{eqb-suc-zero}
use borrow.Author.Tests.{eq-eqb}
use Rattle.std.proofs.lemmas.Nat.{le-div}
use Rattle.std.proofs.lemmas.List.Elements.{All-nil, All-append, All-replicate}
use Rattle.std.specs.List.{All}
use Rattle.std.proofs.lemmas.Bool.Decides.{nat_tests}
use Rattle.rules.specs.declared.Row.{Row}
use Rattle.rules.specs.Words.{total}
use Rattle.rules.specs.Numbers.{payload_most}
use Rattle.rules.specs.Replies.{granted, refused, test}
use Rattle.rules.specs.Price.{row_of, full_frame, small_frame, last_bytes, price, last_frame, frames, ask_price}
use Rattle.rules.proofs.Sums.{total-append}

-- what both rows have in common
pub record Fair (row : Row) : Type 0 where
  pub some : 1 ≤ row.most
  pub full : row.most + row.overhead ≡ full_frame
  pub small : row.least + row.overhead ≡ small_frame

pub fair : (framing : ℕ) → framing ≤ 1 → Fair (row_of framing)
fair zero h = record { some = omega arith; full = refl; small = refl }
fair (suc zero) h = record { some = omega arith; full = refl; small = refl }
fair (suc (suc n)) h = absurd (omega arith)

-- a remainder's frame: none, the smallest, or remainder + overhead
pub last_none : (row : Row) (rest : ℕ) → rest ≡ 0 → last_bytes row rest ≡ 0
unfolding last_bytes
last_none row rest e = rw (eq-eqb rest 0 e)

pub last-small : (row : Row) (rest : ℕ) → 1 ≤ rest → rest < row.least → last_bytes row rest ≡ small_frame
unfolding last_bytes
last-small row rest h l = grind (arith, nat_tests)

pub last_large : (row : Row) (rest : ℕ) → 1 ≤ rest → row.least ≤ rest → last_bytes row rest ≡ rest + row.overhead
unfolding last_bytes
last_large row rest h l = grind (arith, nat_tests)

-- a frame holds its remainder with the overhead, and is no smaller than the smallest
last_some : (row : Row) → Fair row → (rest : ℕ) → 1 ≤ rest
    → (small_frame ≤ last_bytes row rest) × (rest + row.overhead ≤ last_bytes row rest)
    × ((last_bytes row rest ≡ small_frame) ⊎ (last_bytes row rest ≡ rest + row.overhead))
unfolding last_bytes
last_some row f rest h =
    grind (arith, nat_tests, f.small)

pub last-most : (row : Row) → Fair row → (rest : ℕ) → rest < row.most → last_bytes row rest ≤ full_frame
last-most row f zero h = omega (arith, last_none row 0 refl)
last-most row f (suc r) h =
    grind (arith, last_some row f (suc r), f.full)

last_grows : (row : Row) → Fair row → (a b : ℕ) → a ≤ b → last_bytes row a ≤ last_bytes row b
last_grows row f zero b l = omega (arith, last_none row 0 refl)
last_grows row f (suc a) b l =
    grind (arith, last_some row f (suc a), last_some row f b)

price-is : (framing payload : ℕ) → price framing payload
    ≡ payload / (row_of framing).most * full_frame + last_bytes (row_of framing) (payload % (row_of framing).most)
unfolding price
price-is framing payload = refl

-- quotient and remainder of a smaller number: a smaller quotient, or the same and no larger remainder
digits-grow : (m a b : ℕ) → 1 ≤ m → a ≤ b → (a / m < b / m) ⊎ ((a / m ≡ b / m) × (a % m ≤ b % m))
digits-grow m a b h l =
    let le : a / m ≤ b / m = le-div (a / m) b m h (le_trans (div-mul-le_self a m) l) in
    grind (arith, div-add-mod' a m, div-add-mod' b m)

pub price-grows : (framing : ℕ) → framing ≤ 1 → (a b : ℕ) → a ≤ b → price framing a ≤ price framing b
price-grows framing h a b l =
    let row = row_of framing in
    let f = fair framing h in
    let pa = price-is framing a in
    let pb = price-is framing b in
    grind (
      arith,
      digits-grow row.most a b f.some,
      last-most row f (a % row.most) (mod-lt a f.some),
      last_grows row f (a % row.most) (b % row.most),
    )

pub price-one : (framing : ℕ) → framing ≤ 1 → price framing 1 ≡ small_frame
unfolding price last_bytes
price-one zero h = refl
price-one (suc zero) h = refl
price-one (suc (suc n)) h = absurd (omega arith)

-- at least the smallest frame
pub price-least : (framing payload : ℕ) → framing ≤ 1 → 1 ≤ payload → small_frame ≤ price framing payload
price-least framing payload h l = omega (arith, price-one framing h, price-grows framing h 1 payload l)

-- and at most what the largest payload costs with IP and UDP
abbrev pub price_most : ℕ
price_most = 69045

pub most-reached : price 1 payload_most ≡ price_most
unfolding price last_bytes
most-reached = refl

longest : (framing : ℕ) → framing ≤ 1 → price framing payload_most ≤ price_most
unfolding price last_bytes
longest zero h = omega arith
longest (suc zero) h = omega arith
longest (suc (suc n)) h = absurd (omega arith)

pub price-most : (framing payload : ℕ) → framing ≤ 1 → payload ≤ payload_most → price framing payload ≤ price_most
price-most framing payload h l = le_trans (price-grows framing h payload payload_most l) (longest framing h)

-- The frames of a message.
total-replicate : (n x : ℕ) → total (λ (y : ℕ). y) (replicate n x) ≡ n * x
unfolding total
total-replicate zero x = sym (zero-mul x)
total-replicate (suc n) x = omega (arith, total-replicate n x, suc-mul n x)

total-last : (row : Row) (rest : ℕ) → total (λ (y : ℕ). y) (last_frame row rest) ≡ last_bytes row rest
unfolding total last_frame
total-last row zero = sym (last_none row 0 refl)
total-last row (suc r) = rw eqb-suc-zero (omega arith)

pub frames-price : (framing payload : ℕ) → total (λ (x : ℕ). x) (frames framing payload) ≡ price framing payload
unfolding frames price
frames-price framing payload =
    let row = row_of framing in
    let n = payload / row.most in
    let r = payload % row.most in
    let split = total-append (λ (x : ℕ). x) (replicate n full_frame) (last_frame row r) in
    omega (arith, split, total-replicate n full_frame, total-last row r)

abbrev pub FrameSize : ℕ → Type 0
FrameSize x = (small_frame ≤ x) × (x ≤ full_frame)

every-last : (row : Row) → Fair row → (rest : ℕ) → rest < row.most → All FrameSize (last_frame row rest)
unfolding last_frame
every-last row f zero h = All-nil FrameSize
every-last row f (suc r) h =
    let size : FrameSize (last_bytes row (suc r)) = ((last_some row f (suc r) (omega arith)).0, last-most row f (suc r) h) in
    rw eqb-suc-zero (All-replicate FrameSize 1 (last_bytes row (suc r)) size)

-- every frame is smallest to full
pub frames-sizes : (framing payload : ℕ) → framing ≤ 1 → All FrameSize (frames framing payload)
unfolding frames
frames-sizes framing payload h =
    let row = row_of framing in
    let f = fair framing h in
    All-append FrameSize (replicate (payload / row.most) full_frame) (last_frame row (payload % row.most))
    (All-replicate FrameSize (payload / row.most) full_frame (omega arith))
    (every-last row f (payload % row.most) (mod-lt payload f.some))

-- Asking a price, by its three replies.
pub ask-framing : (framing payload : ℕ) → 2 ≤ framing → ask_price framing payload ≡ refused 20 0
unfolding ask_price test
ask-framing framing payload h = grind (arith, nat_tests)

pub ask-payload : (framing payload : ℕ) → framing ≤ 1 → (payload < 1) ⊎ (payload_most < payload)
    → ask_price framing payload ≡ refused 6 0
unfolding ask_price test
ask-payload framing payload h o = grind (arith, nat_tests)

pub ask-granted : (framing payload : ℕ) → framing ≤ 1 → 1 ≤ payload → payload ≤ payload_most
    → ask_price framing payload ≡ granted (price framing payload ∷ [])
unfolding ask_price test
ask-granted framing payload h l m = grind (arith, nat_tests)
