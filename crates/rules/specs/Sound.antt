-- What a view is that passed tests 1 to 11.
use Rattle.std.specs.Prelude.{◌≡◌, List, [], ◌∷◌, ℕ, suc, ◌*◌, ◌≤◌, ◌<◌, length}
use Rattle.rules.specs.Numbers.{hyper_most, wires_most, channels_most, payload_most, hops_most}
use Rattle.rules.specs.Table.{View}
use Rattle.rules.specs.Bounds.{times}

-- each wire of a route is below n and at least `least`, and above the one before
abbrev pub Climbs : ℕ → ℕ → List ℕ → Type 0
Climbs n least [] = Unit {0}
Climbs n least (x ∷ xs) = (x < n) × (least ≤ x) × Climbs n (suc x) xs

pub record Sound (t : View) : Type 0 where
  pub hyper_at_least : 1 ≤ t.hyper
  pub hyper_at_most : t.hyper ≤ hyper_most
  pub wires_at_least : 1 ≤ t.wires
  pub wires_at_most : t.wires ≤ wires_most
  pub channels_at_least : 1 ≤ t.channels
  pub channels_at_most : t.channels ≤ channels_most
  pub rate_at_least : (w : ℕ) → w < t.wires → 1 ≤ t.rate w
  pub rate_at_most : (w : ℕ) → w < t.wires → t.rate w ≤ 100
  pub framing_at_most : (k : ℕ) → k < t.channels → t.framing k ≤ 1
  pub payload_at_least : (k : ℕ) → k < t.channels → 1 ≤ t.payload k
  pub payload_at_most : (k : ℕ) → k < t.channels → t.payload k ≤ payload_most
  pub period_at_least : (k : ℕ) → k < t.channels → 1 ≤ t.period k
  pub divides : (k : ℕ) → k < t.channels → times t k * t.period k ≡ t.hyper
  pub hops_at_least : (k : ℕ) → k < t.channels → 1 ≤ length (t.route k)
  pub hops_at_most : (k : ℕ) → k < t.channels → length (t.route k) ≤ hops_most
  pub climbs : (k : ℕ) → k < t.channels → Climbs t.wires 0 (t.route k)
