-- Laws of the figures: the delays that a wire's figures go by, and what a delay is enough for.
use mathlib.Core.Path.{◌≡◌, refl, ap, ◌∙◌}
use mathlib.Core.Bool.{true, false}
use mathlib.Core.List.{[], ◌∷◌, ◌++◌}
use Prim.Native.Nat.{ℕ, zero, suc, ◌+◌, ◌-◌, ◌*◌, ◌/◌, ◌≤◌, ◌<◌}
use native.Mathlib.Nat.{add-mul-div_left, div-eq_of_lt, mul-le-mul_right, le-div_iff_mul-le, lt-div-mul-add}
use native.Mathlib.Omega.{arith}
use lib.ListN.{length, length-append}
use Rattle.std.proofs.lemmas.Nat.{le-div}
use Rattle.std.proofs.lemmas.Grind.{common_steps}
use Rattle.rules.specs.Words.{up}
use Rattle.rules.specs.Price.{small_frame}
use Rattle.rules.specs.Table.{View}
use Rattle.rules.specs.Office.{K}
use Rattle.rules.specs.Bounds.{cost, on, carries, along, jitter, share_of, burst}
use Rattle.rules.specs.Bounds.{backlog_after, delay_after, delays_below, known, backlog, delay}
use Rattle.rules.specs.Sound.{Sound, Climbs}
use Rattle.rules.proofs.Sums.{sum-has, sum-none, sum_same, none-some}
use Rattle.rules.proofs.Price.{price-least}
use Rattle.rules.proofs.Bounds.Routes.{along-same}

delays-length : (t : View) (w : ℕ) → length (delays_below t w) ≡ w
unfolding delays_below
delays-length t zero = refl
delays-length t (suc w) = rw length-append (omega (arith, delays-length t w))

next-delay : (t : View) (w : ℕ) → delays_below t (suc w) ≡ delays_below t w ++ (delay t w ∷ [])
unfolding delays_below delay
next-delay t w = refl

-- the delays below w are the delays
pub known-delay : (t : View) (w v : ℕ) → v < w → known t w v ≡ delay t v
known-delay t zero v l = absurd (omega arith)
known-delay t (suc w) v l =
    grind (arith, common_steps, next-delay t w, delays-length t w, known-delay t w v)

-- so the jitter is the sum of the delays before, each less 1
pub jitter-known :
    (t : View) (w k : ℕ) → Climbs t.wires 0 (t.route k) → on t w k ≡ true →
    jitter t (known t w) w k ≡ along (λ v. delay t v - 1) (t.route k) w
unfolding jitter
jitter-known t w k c there =
    along-same _ _ t.wires 0 w (t.route k) c there (λ v l. ap (λ (x : ℕ). x - 1) (known-delay t w v l))

-- in its delay a wire sends its backlog
pub delay-enough : (t : View) (w : ℕ) → 1 ≤ t.rate w → backlog t w ≤ t.rate w * delay t w
unfolding backlog delay delay_after
delay-enough t w l = omega (arith, lt-div-mul-add {a = backlog_after t (known t w) w + (t.rate w - 1)} {b = t.rate w} l)

-- every price is at least the smallest frame
pub prices-least : (t : View) → Sound t → (k : ℕ) → k < t.channels → small_frame ≤ cost t k
prices-least t sound k l = price-least (t.framing k) (t.payload k) (sound.framing_at_most k l) (sound.payload_at_least k l)

-- a wire that a route uses has a delay
pub delay-least : (t : View) → Sound t → (w k : ℕ) → w < t.wires → k < t.channels → on t w k ≡ true → 1 ≤ delay t w
unfolding delay delay_after backlog_after burst share_of
delay-least t sound w k lw lk there =
    let share : cost t k * t.hyper ≤ share_of t (known t w) w k = rw there (omega arith) in
    let dear : small_frame * t.hyper ≤ cost t k * t.hyper = mul-le-mul_right t.hyper (prices-least t sound k lk) in
    let some : 1 ≤ burst t (known t w) w / t.hyper
    = (le-div_iff_mul-le sound.hyper_at_least).1 (omega (arith, sum-has (share_of t (known t w) w) t.channels k lk)) in
    (le-div_iff_mul-le (sound.rate_at_least w lw)).1 (omega (arith, some, sound.rate_at_least w lw))

-- A wire that carries channels has K more delay than its channels' shares alone give it.
pub delay-held :
    (t : View) (w : ℕ) → 1 ≤ t.rate w → carries t w ≡ true →
    delay t w ≡ up (burst t (known t w) w / t.hyper) (t.rate w) + K t w
unfolding delay delay_after backlog_after
delay-held t w l some =
    let own = burst t (known t w) w / t.hyper in
    let together : own + t.rate w * K t w + (t.rate w - 1) ≡ own + (t.rate w - 1) + t.rate w * K t w = omega arith in
    rw (some, together) (add-mul-div_left (own + (t.rate w - 1)) (K t w) l)

-- so it has a delay
pub delay-carries : (t : View) (w : ℕ) → 1 ≤ t.rate w → carries t w ≡ true → 1 ≤ delay t w
unfolding K
delay-carries t w l some =
    let held : 1 ≤ K t w = le-div 1 _ (t.rate w) l (grind (arith, common_steps)) in
    omega (arith, delay-held t w l some)

-- A wire that no route uses has backlog 0 and delay 0.
pub unused :
    (t : View) (w : ℕ) → 1 ≤ t.hyper → 1 ≤ t.rate w → ((k : ℕ) → k < t.channels → on t w k ≡ false) →
    (backlog t w ≡ 0) × (delay t w ≡ 0)
unfolding backlog delay delay_after backlog_after burst share_of
unused t w h l off =
    let none : burst t (known t w) w ≡ 0 =
    sum_same (share_of t (known t w) w) (λ k. 0) t.channels (λ k lk. rw (off k lk) refl) ∙ sum-none t.channels in
    let no-backlog : backlog_after t (known t w) w ≡ 0 =
    rw (none, none-some (on t w) t.channels off) (omega (arith, div-eq_of_lt h)) in
    (no-backlog, rw no-backlog (div-eq_of_lt (omega arith)))
