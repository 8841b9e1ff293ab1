-- The bounds. C is a channel's price, P its period, J its jitter at a wire.
use Rattle.std.specs.Prelude.{Bool, cond, List, [], ◌∷◌, ◌++◌, ℕ, zero, suc, ◌+◌, ◌-◌, ◌*◌, ◌/◌, get_or, eqb}
use Rattle.rules.specs.Words.{sum, total, up, only, has, some}
use Rattle.rules.specs.Price.{price}
use Rattle.rules.specs.Table.{View}
use Rattle.rules.specs.Office.{K}

abbrev pub cost : View → ℕ → ℕ
cost t k = price (t.framing k) (t.payload k)

-- H / P
abbrev pub times : View → ℕ → ℕ
times t k = t.hyper / t.period k

-- C × (H / P)
abbrev pub part : View → ℕ → ℕ
part t k = cost t k * times t k

-- channel k's route has wire w
abbrev pub on : View → ℕ → ℕ → Bool
on t w k = has w (t.route k)

-- Load of a wire: the sum of C × (H / P) over its channels.
unfoldable pub load_of : View → ℕ → ℕ → ℕ
load_of t w k = only (on t w k) (part t k)

unfoldable pub load : View → ℕ → ℕ
load t w = sum (load_of t w) t.channels

-- the sum of f over the wires of a route before w (all of it where w is not on it)
unfoldable pub along : (ℕ → ℕ) → List ℕ → ℕ → ℕ
along f [] w = 0
along f (v ∷ vs) w = cond (eqb v w) 0 (f v + along f vs w)

-- J is 0 at a route's first wire; each wire passed adds that wire's delay minus 1.
unfoldable pub jitter : View → (ℕ → ℕ) → ℕ → ℕ → ℕ
jitter t delays w k = along (λ v. delays v - 1) (t.route k) w

-- a wire that carries channels
abbrev pub carries : View → ℕ → Bool
carries t w = some (on t w) t.channels

-- Backlog: the sum over its channels of C × H + C × (H / P) × J, which is the burst times H; divided by H once, at the end,
-- rounded down. Request Q-4: a wire that carries channels gets rate × K more.
unfoldable pub share_of : View → (ℕ → ℕ) → ℕ → ℕ → ℕ
share_of t delays w k = only (on t w k) (cost t k * t.hyper + part t k * jitter t delays w k)

unfoldable pub burst : View → (ℕ → ℕ) → ℕ → ℕ
burst t delays w = sum (share_of t delays w) t.channels

unfoldable pub backlog_after : View → (ℕ → ℕ) → ℕ → ℕ
backlog_after t delays w = burst t delays w / t.hyper + only (carries t w) (t.rate w * K t w)

-- Wire delay: backlog / rate, rounded up.
unfoldable pub delay_after : View → (ℕ → ℕ) → ℕ → ℕ
delay_after t delays w = up (backlog_after t delays w) (t.rate w)

-- Wires are worked out in ascending number: the delays of the wires below w.
unfoldable pub delays_below : View → ℕ → List ℕ
delays_below t zero = []
delays_below t (suc w) = let before = delays_below t w in before ++ (delay_after t (λ v. get_or before v 0) w ∷ [])

abbrev pub known : View → ℕ → ℕ → ℕ
known t w v = get_or (delays_below t w) v 0

unfoldable pub backlog : View → ℕ → ℕ
backlog t w = backlog_after t (known t w) w

unfoldable pub delay : View → ℕ → ℕ
delay t w = delay_after t (known t w) w

-- End-to-end delay: the sum over the route of wire delay + propagation.
unfoldable pub end_to_end : View → ℕ → ℕ
end_to_end t k = total (λ v. delay t v + t.prop v) (t.route k)
