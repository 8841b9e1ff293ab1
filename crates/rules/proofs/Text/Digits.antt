-- A number's digits: how they go on, that they read back as the number, and how many there are.
use mathlib.Core.Path.{◌≡◌, refl, sym, ap, ◌∙◌}
use mathlib.Core.List.{List, [], ◌∷◌, ◌++◌}
use Prim.Native.Nat.{ℕ, zero, suc, ◌+◌, ◌-◌, ◌*◌, ◌/◌, ◌%◌, ◌^◌, ◌≤◌, ◌<◌}
use native.Mathlib.Nat.{pow-suc, div-add-mod'}
use native.Mathlib.Omega.{arith}
use lib.ListN.{length, length-append}
use borrow.Author.Tests.{le-ltb}
use Rattle.std.proofs.lemmas.Bool.Decides.{nat_tests}
use Rattle.rules.specs.Text.{digit, digits, digits_most, decimal}

digits_last : (k n : ℕ) → n < 10 → digits (suc k) n ≡ digit n ∷ []
unfolding digits
digits_last k n l = grind (arith, nat_tests)

digits_more : (k n : ℕ) → 10 ≤ n → digits (suc k) n ≡ digits k (n / 10) ++ (digit (n % 10) ∷ [])
unfolding digits
digits_more k n l = rw (le-ltb n 10 l) refl

-- one digit fewer in front
less : (k n : ℕ) → n < 10 ^ suc k → n / 10 < 10 ^ k
less k n l = omega (arith, l, pow-suc 10 k, div-add-mod' n 10)

-- room for more digits than there are makes no difference
digits-enough : (k n : ℕ) → n < 10 ^ suc k → digits (suc (suc k)) n ≡ digits (suc k) n
digits-enough zero n l = digits_last 1 n (omega (arith, l)) ∙ sym (digits_last 0 n (omega (arith, l)))
digits-enough (suc k) n l =
    grind (
      arith,
      nat_tests,
      digits_more (suc (suc k)) n,
      digits_more (suc k) n,
      digits_last (suc (suc k)) n,
      digits_last (suc k) n,
      less (suc k) n,
      digits-enough k (n / 10),
    )

pub decimal-last : (n : ℕ) → n < 10 → decimal n ≡ digit n ∷ []
unfolding decimal
decimal-last n l = digits_last 19 n l

pub decimal-more : (n : ℕ) → 10 ≤ n → n < 10 ^ digits_most → decimal n ≡ decimal (n / 10) ++ (digit (n % 10) ∷ [])
unfolding decimal
decimal-more n big l =
    digits_more 19 n big
    ∙ ap (λ (ds : List ℕ). ds ++ (digit (n % 10) ∷ [])) (sym (digits-enough 18 (n / 10) (less 19 n l)))

-- the number that digits say, after those in front of them
abbrev pub says : ℕ → List ℕ → ℕ
says n [] = n
says n (d ∷ ds) = says (10 * n + (d - digit 0)) ds

says-append : (n : ℕ) (ds es : List ℕ) → says n (ds ++ es) ≡ says (says n ds) es
says-append n [] es = refl
says-append n (d ∷ ds) es = says-append (10 * n + (d - digit 0)) ds es

digits-read : (k n : ℕ) → n < 10 ^ k → says 0 (digits k n) ≡ n
unfolding digits
digits-read zero n l = omega (arith, l)
digits-read (suc k) n l =
    grind (
      arith,
      nat_tests,
      says-append 0 (digits k (n / 10)) (digit (n % 10) ∷ []),
      less k n,
      digits-read k (n / 10),
      div-add-mod' n 10,
    )

-- A number's digits read back as that number.
pub decimal-read : (n : ℕ) → n < 10 ^ digits_most → says 0 (decimal n) ≡ n
unfolding decimal
decimal-read n l = digits-read digits_most n l

digits-length : (k n : ℕ) → length (digits k n) ≤ k
unfolding digits
digits-length zero n = omega arith
digits-length (suc k) n =
    grind (arith, nat_tests, length-append (digits k (n / 10)) (digit (n % 10) ∷ []), digits-length k (n / 10))

digits-below : (j k n : ℕ) → n < 10 ^ suc k → length (digits j n) ≤ suc k
unfolding digits
digits-below zero k n l = omega arith
digits-below (suc j) zero n l = grind (arith, nat_tests)
digits-below (suc j) (suc k) n l =
    grind (arith, nat_tests, length-append (digits j (n / 10)) (digit (n % 10) ∷ []), less (suc k) n, digits-below j k (n / 10))

-- a number below 10 ^ k has no more than k digits
pub decimal-length : (k n : ℕ) → n < 10 ^ suc k → length (decimal n) ≤ suc k
unfolding decimal
decimal-length k n l = digits-below digits_most k n l

pub decimal-most : (n : ℕ) → length (decimal n) ≤ digits_most
unfolding decimal
decimal-most n = digits-length digits_most n
