-- What `contains` of a range that is not spent answers: document 01's test, and what it tells.
use Rattle.std.proofs.Common.{ℕ, Bool, Some, ◌≡◌, ◌≤◌, false, true, leb, is_le, nat_cmp, sym, arith}
use Rattle.std.proofs.lemmas.Bool.{and_parts}
use Rattle.std.proofs.lemmas.Bool.Decides.{nat_tests}
use Rattle.std.specs.Ordering.{as_partial_cmp}
use Rattle.std.specs.declared.ops.RangeInclusive.{RangeInclusive}
use Rattle.std.specs.Range.{range_inclusive_start, range_inclusive_end, range_inclusive_exhausted, range_inclusive_contains}
use borrow.Author.Tests.{leb-true}
use Rattle.rules.specs.Words.{between}
use Rattle.rules.proofs.Tables.Search.{Outside}

compared : (a b : ℕ) → is_le (nat_cmp a b) ≡ leb a b
compared a b = grind (arith, nat_tests)

pub ranged : {r : RangeInclusive ℕ} {low high : ℕ} (x : ℕ) {b : Bool}
    → range_inclusive_start r ≡ low → range_inclusive_end r ≡ high → range_inclusive_exhausted r ≡ false
    → b ≡ range_inclusive_contains (λ m n. Some (nat_cmp m n)) r x → between low x high ≡ b
ranged {r} {low} {high} x {b} s e n is = rw (← compared low x, ← compared x high) (sym (rw (s, e, n) at is))

pub between-told : (low x high : ℕ) → between low x high ≡ true → (low ≤ x) × (x ≤ high)
between-told low x high e =
    let both = and_parts (leb low x) (leb x high) e in
    (leb-true low x both.0, leb-true x high both.1)

module _
    (r : RangeInclusive ℕ) (x : ℕ) {low high : ℕ} {b : Bool} (told : b ≡ range_inclusive_contains (as_partial_cmp nat_cmp) r x)
    (start : range_inclusive_start r ≡ low) (end : range_inclusive_end r ≡ high) (fresh : range_inclusive_exhausted r ≡ false)
  where
    pub in_range : b ≡ true → (low ≤ x) × (x ≤ high)
    in_range e = grind arith

    pub out_of_range : b ≡ false → Outside low x high
    out_of_range e = grind arith
