-- How large the figures get.
use mathlib.Core.Path.{◌≡◌, refl}
use mathlib.Core.Bool.{true}
use mathlib.Core.Logic.{inl, inr}
use Prim.Native.Nat.{ℕ, ◌+◌, ◌*◌, ◌≤◌, ◌<◌}
use native.Mathlib.Nat.{mul-le-mul_left, mul-le-mul, div-le_self, le_trans}
use native.Mathlib.Omega.{arith}
use Rattle.std.proofs.lemmas.Grind.{common_steps}
use Rattle.std.proofs.lemmas.Bool.{cases_Bool}
use Rattle.rules.specs.Words.{sum, only, up}
use Rattle.rules.specs.Numbers.{hyper_most}
use Rattle.rules.specs.Table.{View}
use Rattle.rules.specs.Bounds.{cost, times, part, on, load_of, load, jitter, share_of, burst, delay_after, backlog, delay}
use Rattle.rules.specs.Sound.{Sound}
use Rattle.rules.proofs.Sums.{sum-le, sum-add, sum-scale, sum-const}
use Rattle.rules.proofs.Price.{price_most, price-most}

pub delay-up : (t : View) (w : ℕ) → delay t w ≡ up (backlog t w) (t.rate w)
unfolding delay delay_after backlog
delay-up t w = refl

abbrev pub part_most : ℕ
part_most = price_most * hyper_most

module _ (t : View) (sound : Sound t) where
  pub cost-most : (k : ℕ) → k < t.channels → cost t k ≤ price_most
  cost-most k l = price-most (t.framing k) (t.payload k) (sound.framing_at_most k l) (sound.payload_at_most k l)

  pub times-most : (k : ℕ) → times t k ≤ hyper_most
  times-most k = le_trans (div-le_self t.hyper (t.period k)) sound.hyper_at_most

  pub part-most : (k : ℕ) → k < t.channels → part t k ≤ part_most
  part-most k l = mul-le-mul (cost-most k l) (times-most k)

  pub first-most : (k : ℕ) → k < t.channels → cost t k * t.hyper ≤ part_most
  first-most k l = mul-le-mul (cost-most k l) sound.hyper_at_most

-- what a wire carries of the channels below c
pub carried-most : (t : View) → Sound t → (w c : ℕ) → c ≤ t.channels → sum (λ k. only (on t w k) (part t k)) c ≤ c * part_most
carried-most t sound w c h =
    omega (
      arith,
      sum-le (λ k. only (on t w k) (part t k)) (λ k. part_most) c
          (λ k l. grind (arith, common_steps, part-most t sound k)),
      sum-const part_most c,
    )

module _ (t : View) (sound : Sound t) (delays : ℕ → ℕ) (w most : ℕ)
    (h : (k : ℕ) → k < t.channels → on t w k ≡ true → jitter t delays w k ≤ most) where
  share-most : (k : ℕ) → k < t.channels → share_of t delays w k ≤ part_most + most * load_of t w k
  unfolding share_of load_of
  share-most k l = elim (cases_Bool (on t w k)) [
    | inl e ↦ rw e (omega (arith, first-most t sound k l, mul-le-mul_left (part t k) (h k l e)))
    | inr e ↦ rw e (omega arith)
  ]

  -- the burst of a wire whose channels' jitter is at most `most`
  pub burst-small : burst t delays w ≤ t.channels * part_most + most * load t w
  unfolding burst load
  burst-small =
      omega (
        arith,
        sum-le (share_of t delays w) (λ k. part_most + most * load_of t w k) t.channels share-most,
        sum-add (λ k. part_most) (λ k. most * load_of t w k) t.channels,
        sum-const part_most t.channels,
        sum-scale most (load_of t w) t.channels,
      )
