-- The test that figures fit a sheet is true exactly where they fit.
use mathlib.Core.Path.{◌≡◌, refl}
use mathlib.Core.Bool.{Bool, true, false, ◌&&◌}
use Prim.Native.Nat.{ℕ, zero, suc, ◌^◌, ◌≤◌, ◌<◌}
use native.Mathlib.Omega.{arith}
use lib.Dec.{ltb}
use borrow.Author.Tests.{lt-ltb, ltb-true}
use Rattle.std.proofs.lemmas.Bool.Decides.{nat_tests}
use Rattle.std.proofs.lemmas.Grind.{common_steps}
use Rattle.std.proofs.lemmas.Bool.{and_parts}
use Rattle.rules.specs.declared.Figures.{Figures}
use Rattle.rules.specs.Words.{between, every}
use Rattle.rules.specs.Numbers.{wires_most, channels_most, backlog_bits, delay_bits, end_bits}
use Rattle.rules.specs.Decoded.{backlog_in, delay_in, end_in}
use Rattle.rules.specs.Fits.{Fits}
use Rattle.rules.specs.Sheet.{fits}

-- ---- a test of each number below n

module _ (f : ℕ → Bool) where
  pub every_true : (n : ℕ) → ((i : ℕ) → i < n → f i ≡ true) → every f n ≡ true
  unfolding every
  every_true zero h = refl
  every_true (suc n) h = rw (every_true n (λ i l. h i (omega arith)), h n (omega arith))

  pub true-every : (n : ℕ) → every f n ≡ true → (i : ℕ) → i < n → f i ≡ true
  unfolding every
  true-every zero e i l = absurd (omega arith)
  true-every (suc n) e i l = grind (arith, common_steps, true-every n)

  pub every-false : (n i : ℕ) → i < n → f i ≡ false → every f n ≡ false
  unfolding every
  every-false zero i l e = absurd (omega arith)
  every-false (suc n) i l e = grind (arith, common_steps, every-false n i)

-- ---- the counts

-- each is within its range
abbrev pub Ranged : ℕ → ℕ → Type 0
Ranged n m = (1 ≤ n) × (n ≤ wires_most) × (1 ≤ m) × (m ≤ channels_most)

pub true_ranged : (n m : ℕ) → between 1 n wires_most && between 1 m channels_most ≡ true → Ranged n m
true_ranged n m e = grind (arith, nat_tests)

-- ---- the figures

-- the counts and the figures in these arrays fit the sheet
abbrev pub FitsFigures : ℕ → ℕ → Figures → Type 0
FitsFigures n m f = Fits n m (backlog_in f) (delay_in f) (end_in f)

module _ (n m : ℕ) (f : Figures) where
  pub fits-true : FitsFigures n m f → fits n m f ≡ true
  unfolding fits
  fits-true h =
      grind (
        arith,
        nat_tests,
        every_true (λ w. ltb (backlog_in f w) (2 ^ backlog_bits)) n (λ w l. lt-ltb _ _ (h.backlog_fits w l)),
        every_true (λ w. ltb (delay_in f w) (2 ^ delay_bits)) n (λ w l. lt-ltb _ _ (h.delay_fits w l)),
        every_true (λ k. ltb (end_in f k) (2 ^ end_bits)) m (λ k l. lt-ltb _ _ (h.end_fits k l)),
      )

  pub true-fits : fits n m f ≡ true → FitsFigures n m f
  unfolding fits
  true-fits e =
      let ends = and_parts _ _ e in
      let delays = and_parts _ _ ends.0 in
      let backlogs = and_parts _ _ delays.0 in
      let counts = true_ranged n m backlogs.0 in
      record {
        wires_at_least = counts.0;
        wires_at_most = counts.1;
        channels_at_least = counts.2;
        channels_at_most = counts.3;
        backlog_fits = λ w l. ltb-true _ _ (true-every _ n backlogs.1 w l);
        delay_fits = λ w l. ltb-true _ _ (true-every _ n delays.1 w l);
        end_fits = λ k l. ltb-true _ _ (true-every _ m ends.1 k l);
      }
