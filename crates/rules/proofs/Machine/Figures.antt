-- Demand 3 to the figures: no wire holds more than its backlog, what reaches it has left within its delay, and a message is
-- whole by its channel's end-to-end delay.
use mathlib.Core.Path.{◌≡◌, refl, ap, ◌∙◌}
use mathlib.Core.Bool.{false}
use mathlib.Core.Logic.{inl, inr}
use mathlib.Core.List.{[]}
use Prim.Native.Nat.{ℕ, zero, suc, ◌+◌, ◌-◌, ◌*◌, ◌/◌, ◌≤◌, ◌<◌}
use native.Mathlib.Nat.{mul-le-mul_left, lt-div-mul-add}
use native.Mathlib.Omega.{arith}
use Rattle.std.proofs.lemmas.Grind.{common_steps}
use Rattle.std.proofs.lemmas.Bool.Decides.{nat_tests}
use Rattle.std.proofs.lemmas.Bool.{cases_Bool}
use Rattle.rules.specs.Words.{sum, total, only, gathered}
use Rattle.rules.specs.Price.{price, last_bytes}
use Rattle.rules.specs.Table.{View, last_wire}
use Rattle.rules.specs.Office.{K}
use Rattle.rules.specs.Bounds.{cost, times, on, carries, load_of, load, share_of, burst}
use Rattle.rules.specs.Bounds.{backlog_after, known, backlog, delay, end_to_end}
use Rattle.rules.specs.Machine.{Frame, Releases, Keeps, Holding, Run, Allowed, AnyOrder, message}
use Rattle.rules.specs.Machine.{sending, bytes, unsent, Gone, reaching, delivered, of_channel}
use Rattle.rules.specs.Promise.{Among}
use Rattle.rules.specs.Sound.{Sound}
use Rattle.rules.proofs.Sums.{sum-le, sum_same, sum-add, sum-scale, sum-none, sum-alone}
use Rattle.rules.proofs.Sums.{sum-grows, sum-cut, total-gathered, total-empty, some-none}
use Rattle.rules.proofs.Machine.Orders.{same, any_order_complete, among_complete}
use Rattle.rules.proofs.Price.{frames-price, price-grows}
use Rattle.rules.proofs.Bounds.Routes.{nowhere-off, last-there, last-total, route-same, along-add, climbs-below}
use Rattle.rules.proofs.Machine.Gaps.{window-most}
use Rattle.rules.proofs.Bounds.Delays.{jitter-known, delay-enough, delay-least, delay-carries}
use Rattle.rules.proofs.Machine.Server.{Server, Bursts, Passes, before, size_of, balance}
use Rattle.rules.proofs.Machine.Flow.{own, young, into, total-channel, total-born, total-message}
use Rattle.rules.proofs.Machine.Flow.{message-young, message-other, none-into, reached, came-sum}
use Rattle.rules.proofs.Machine.Flow.{came_own, flows, window, longer, shortest}
use Rattle.rules.proofs.Machine.Network.{network}

-- A message is priced by its payload.
message-size : (t : View) (released : Releases) (k r : ℕ)
    → total size_of (message t released k r) ≡ price (t.framing k) (released k r)
message-size t released k r = total-message t released k r size_of ∙ frames-price (t.framing k) (released k r)

price-none : (framing : ℕ) → framing ≤ 1 → price framing 0 ≡ 0
unfolding price last_bytes
price-none zero h = refl
price-none (suc zero) h = refl
price-none (suc (suc n)) h = absurd (omega arith)

module _ (t : View) (sound : Sound t) (released : Releases) (keeps : Keeps t released) (k : ℕ) (lk : k < t.channels) where
  message-most : (r : ℕ) → total size_of (message t released k r) ≤ cost t k
  message-most r =
      omega (
        arith,
        message-size t released k r,
        price-grows (t.framing k) (sound.framing_at_most k lk) (released k r) (t.payload k)
            (omega (arith, keeps.declared k r lk)),
      )

  some-released : (r : ℕ) → 0 < total size_of (message t released k r) → 0 < released k r
  some-released r h =
      grind (arith, message-size t released k r, price-none (t.framing k) (sound.framing_at_most k lk))

  -- A channel's releases in slot a and n further slots: C + C × n / P, times H.
  releases-most :
      (a n : ℕ) →
      t.hyper * before (message t released k) size_of (suc (a + n))
      ≤ t.hyper * before (message t released k) size_of a + (cost t k * t.hyper + cost t k * times t k * n)
  releases-most a n =
      let most =
      window-most (λ (r : ℕ). total size_of (message t released k r)) (cost t k) (t.period k) message-most
      (λ r later l x y. omega (arith, keeps.apart k r later lk l (some-released r x) (some-released later y))) a n in
      omega (
        arith,
        mul-le-mul_left (times t k) most,
        ap (λ (x : ℕ). x * before (message t released k) size_of (suc (a + n))) (sound.divides k lk),
        ap (λ (x : ℕ). x * before (message t released k) size_of a) (sound.divides k lk),
        ap (λ (x : ℕ). cost t k * x) (sound.divides k lk),
      )

-- Rounding down at the end loses nothing: bytes are whole.
divided : (h x y z : ℕ) → 1 ≤ h → h * x ≤ h * y + z → x ≤ y + z / h
divided h x y z l le =
    grind (arith, lt-div-mul-add {a = z} {b = h} l, mul-le-mul_left {m = suc (y + z / h)} {n = x} h)

-- What has reached the destination is what has left the last wire.
total-delivered :
    (t : View) (gone : Gone) (k r slot : ℕ) (g : Frame → ℕ) →
    total g (delivered t gone k r slot)
    ≡ before (gone (last_wire (t.route k))) (own k (young r g)) (suc slot - (1 + t.prop (last_wire (t.route k))))
unfolding delivered
total-delivered t gone k r slot g =
    let z = last_wire (t.route k) in
    let there = gathered (reaching t gone z) (suc slot) in
    total-born g r (of_channel k there)
    ∙ total-channel (young r g) k there
    ∙ total-gathered (own k (young r g)) (reaching t gone z) (suc slot)
    ∙ reached t gone z (own k (young r g)) (suc slot)

-- Of one message's weight, all is released in its slot.
module _ (t : View) (released : Releases) (k r : ℕ) (g : Frame → ℕ) where
  released_by_lem : (n : ℕ) → r < n → before (message t released k) (young r g) n ≡ total g (message t released k r)
  released_by_lem n l =
      sum-alone (λ (s : ℕ). total (young r g) (message t released k s)) n r l (λ s other. message-other t released k s g r other)
      ∙ message-young t released k r g

  released-most : (n : ℕ) → before (message t released k) (young r g) n ≤ total g (message t released k r)
  released-most n =
      omega (
        arith,
        sum-grows (λ (s : ℕ). total (young r g) (message t released k s)) n (n + suc r) (omega arith),
        released_by_lem (n + suc r) (omega arith),
      )

-- what a wire may add to the time that a frame takes
abbrev lag_of : View → ℕ → ℕ
lag_of t v = delay t v - 1

-- A slot held is one less to come; a slot not held sends the rate.
held-less : (rate now next : ℕ) → next ≡ now - 1 → rate * next + rate ≤ rate * now + sending rate now + 0
held-less rate now next e =
    grind (arith, nat_tests)

module _
    (t : View) (sound : Sound t) (fits : (w : ℕ) → w < t.wires → load t w ≤ t.rate w * t.hyper)
    (released : Releases) (keeps : Keeps t released) (held : Holding) (run : Run t released held) (allowed : Allowed run)
  where
    -- what stands in the way of wire w: the bytes of the slots that it is still held
    abbrev blocked : ℕ → ℕ → ℕ
    blocked w s = t.rate w * held w s

    -- Q-4's hold is what stands in the way: a slot that is held is one less to come.
    base : (w : ℕ) → w < t.wires
        → Server (t.rate w) (λ s. sending (t.rate w) (held w s)) (blocked w) (λ s. 0)
        (run.queue w) (run.arrived w) (run.gone w)
    unfolding bytes total
    base w l =
        record {
          empty = run.empty w l;
          sends = λ s. run.sends w s l;
          keeps = λ s. run.keeps w s l;
          serves =
              λ s more. held-less (t.rate w) (held w s) (held w (suc s))
              (allowed.not_again w s l (λ e. omega (arith, ap bytes e)));
        }

    -- To a wire that carries no channel nothing comes.
    none_came : (w : ℕ) → w < t.wires → carries t w ≡ false → (g : Frame → ℕ) (n : ℕ) → before (run.arrived w) g n ≡ 0
    none_came w l off g n =
        came-sum t released run.arrived run.gone run.any_order w l g n
        ∙ sum_same _ (λ k. 0) t.channels
        (λ k lk. none-into t released run.gone w k
        (nowhere-off w (t.route k) (some-none (on t w) t.channels off k lk)) g n)
        ∙ sum-none t.channels

    idle : (w : ℕ) → w < t.wires → carries t w ≡ false → (a : ℕ) → (run.queue w a ≡ []) × (run.arrived w a ≡ [])
    unfolding sum
    idle w l off a =
        let one : Frame → ℕ = λ f. 1 in
        let none = none_came w l off one in
        let waits = balance (t.rate w) _ (blocked w) (λ s. 0) (run.queue w) (run.arrived w) (run.gone w) (base w l) one a in (
          total-empty (run.queue w a) (omega (arith, waits, none a)),
          total-empty (run.arrived w a) (omega (arith, none a, none (suc a))),
        )

    -- A channel's share of what comes to a wire in slot a and d further slots, times H.
    module _
        (w : ℕ) (lw : w < t.wires)
        (below : (v : ℕ) → v < w → v < t.wires → Passes (run.arrived v) (run.gone v) (lag_of t v))
      where
        share-most :
            (k : ℕ) → k < t.channels → (a d : ℕ) →
            t.hyper * before (into t released run.gone w k) size_of (suc (a + d))
            ≤ t.hyper * before (into t released run.gone w k) size_of a + (share_of t (known t w) w k + d * load_of t w k)
        unfolding share_of load_of
        share-most k lk a d =
            elim (cases_Bool (on t w k)) [
              | inl there ↦
                  (let own-came = came_own t released run.arrived run.gone run.any_order w lw k lk size_of in
                  let flow =
                  flows t released run.arrived run.gone run.any_order (lag_of t) k lk (sound.climbs k lk)
                  w below there in
                  let seen = window t released run.arrived (lag_of t) w k flow size_of a d in
                  let start = seen.0 in
                  rw (there, jitter-known t w k (sound.climbs k lk) there)
                  (omega (
                    arith,
                    ap (λ (x : ℕ). t.hyper * x) (own-came a),
                    ap (λ (x : ℕ). t.hyper * x) (own-came (suc (a + d))),
                    mul-le-mul_left t.hyper seen.1,
                    mul-le-mul_left t.hyper seen.2,
                    releases-most t sound released keeps k lk start (d + longer t (lag_of t) w k),
                  )))
              | inr off ↦ grind (arith, none-into t released run.gone w k (nowhere-off w (t.route k) off) size_of (suc (a + d)))
            ]

        -- All shares together: what is taken of the burst.
        burst-most :
            (a d : ℕ) →
            t.hyper * before (run.arrived w) size_of (suc (a + d))
            ≤ t.hyper * before (run.arrived w) size_of a + (burst t (known t w) w + d * load t w)
        unfolding burst load
        burst-most a d =
            let came = came-sum t released run.arrived run.gone run.any_order w lw size_of in
            let from : ℕ → ℕ → ℕ = λ n k. before (into t released run.gone w k) size_of n in
            let rest : ℕ → ℕ = λ k. share_of t (known t w) w k + d * load_of t w k in
            omega (
              arith,
              ap (λ (x : ℕ). t.hyper * x) (came a),
              ap (λ (x : ℕ). t.hyper * x) (came (suc (a + d))),
              sum-scale t.hyper (from a) t.channels,
              sum-scale t.hyper (from (suc (a + d))) t.channels,
              sum-le (λ k. t.hyper * from (suc (a + d)) k) (λ k. t.hyper * from a k + rest k) t.channels
                  (λ k lk. share-most k lk a d),
              sum-add (λ k. t.hyper * from a k) rest t.channels,
              sum-add (share_of t (known t w) w) (λ k. d * load_of t w k) t.channels,
              sum-scale d (load_of t w) t.channels,
            )

        -- What stands in the way is never more than Q-4's addition: at most K slots on a wire that carries channels, and
        -- nothing on another, to which nothing comes.
        blocked-most : (a : ℕ) → blocked w a ≤ only (carries t w) (t.rate w * K t w)
        blocked-most a =
            grind (
              arith,
              common_steps,
              mul-le-mul_left (t.rate w) (allowed.at_most w a lw),
              idle w lw,
              allowed.from_then_on w a lw,
            )

        burst-rule : Bursts (t.rate w) (blocked w) (λ s. 0) (run.queue w) (run.arrived w) (backlog t w)
        unfolding backlog backlog_after
        burst-rule a d none =
            let x = before (run.arrived w) size_of (suc (a + d)) in
            let y = before (run.arrived w) size_of a + t.rate w * d in
            let most : x ≤ y + burst t (known t w) w / t.hyper =
            divided t.hyper x y (burst t (known t w) w) sound.hyper_at_least
            (omega (arith, burst-most a d, mul-le-mul_left d (fits w lw))) in
            omega (arith, most, blocked-most a, sum-none (suc (a + d)))

    enough :
        (w s : ℕ) → w < t.wires →
        backlog t w + sum (λ s. 0) (suc (suc (s + lag_of t w))) ≤ t.rate w * suc (lag_of t w) + sum (λ s. 0) (suc s)
    enough w s l =
        omega (
          arith,
          sum-none (suc (suc (s + lag_of t w))),
          delay-enough t w (sound.rate_at_least w l),
          mul-le-mul_left {m = delay t w} {n = suc (lag_of t w)} (t.rate w) (omega arith),
        )

    wired : (w : ℕ) → w < t.wires
        → Passes (run.arrived w) (run.gone w) (lag_of t w) × ((s : ℕ) → unsent run w s + blocked w s ≤ backlog t w)
    wired =
        network t.wires t.rate (λ w s. sending (t.rate w) (held w s)) blocked (λ w s. 0) run.queue
        run.arrived run.gone base (backlog t) (lag_of t) burst-rule enough

    pub backlog-holds : (w slot : ℕ) → w < t.wires → unsent run w slot ≤ backlog t w
    backlog-holds w slot l = omega (arith, (wired w l).1 slot)

    -- What has reached a wire by a slot has left it within its delay.
    left-total : (w slot : ℕ) → w < t.wires → (g : Frame → ℕ)
        → before (run.arrived w) g (suc slot) ≤ before (run.gone w) g (slot + delay t w)
    left-total w slot l g =
        grind (
          arith,
          cases_Bool (carries t w),
          (wired w l).0.prompt g slot,
          delay-carries t w (sound.rate_at_least w l),
          none_came w l,
        )

    pub left-within :
        (w slot n : ℕ) → w < t.wires → slot + delay t w ≤ n →
        Among (gathered (run.arrived w) (suc slot)) (gathered (run.gone w) n)
    left-within w slot n l by =
        among_complete (gathered (run.arrived w) (suc slot)) (gathered (run.gone w) n) (λ f.
        let one : Frame → ℕ = λ x. only (same f x) 1 in
        omega (
          arith,
          total-gathered one (run.arrived w) (suc slot),
          total-gathered one (run.gone w) n,
          left-total w slot l one,
          sum-grows (λ (i : ℕ). total one (run.gone w i)) (slot + delay t w) n by,
        ))

    -- So the frames that reach it in a slot are among those that leave it in that slot and the delay - 1 slots after.
    pub left-in_time :
        (w slot : ℕ) → w < t.wires → Among (run.arrived w slot) (gathered (λ later. run.gone w (slot + later)) (delay t w))
    unfolding sum
    left-in_time w slot l =
        among_complete (run.arrived w slot) (gathered (λ later. run.gone w (slot + later)) (delay t w)) (λ f.
        let one : Frame → ℕ = λ x. only (same f x) 1 in
        omega (
          arith,
          total-gathered one (λ later. run.gone w (slot + later)) (delay t w),
          sum-cut (λ (s : ℕ). total one (run.gone w s)) slot (delay t w),
          (wired w l).0.fair one slot,
          left-total w slot l one,
        ))

    -- the time over the whole route
    end_to_end_lem :
        (k : ℕ) → k < t.channels →
        let z = last_wire (t.route k) in
        end_to_end t k ≡ suc (shortest t z k + longer t (lag_of t) z k + lag_of t z + t.prop z)
    unfolding end_to_end
    end_to_end_lem k lk =
        let c = sound.climbs k lk in
        let xs = t.route k in
        let z = last_wire xs in
        let each : ℕ → ℕ = λ v. 1 + t.prop v + lag_of t v in
        omega (
          arith,
          route-same (λ v. delay t v + t.prop v) each xs
              (λ v there. omega (arith, delay-least t sound v k (climbs-below t.wires 0 v xs c there) lk there)),
          last-total each t.wires 0 xs (sound.hops_at_least k lk) c,
          along-add (λ v. 1 + t.prop v) (lag_of t) z xs,
        )

    module _ (k r slot : ℕ) (lk : k < t.channels) (due : r + end_to_end t k ≤ slot) where
      delivered-total : (g : Frame → ℕ) → total g (message t released k r) ≡ total g (delivered t run.gone k r slot)
      delivered-total g =
          let xs = t.route k in
          let z = last_wire xs in
          let c = sound.climbs k lk in
          let there = last-there xs (sound.hops_at_least k lk) in
          let lz = climbs-below t.wires 0 z xs c there in
          let flow =
          flows t released run.arrived run.gone run.any_order (lag_of t) k lk c z (λ v below lv. (wired v lv).0) there in
          let passes = (wired z lz).0 in
          let n = suc slot - (1 + t.prop z) in
          let onto = r + (shortest t z k + longer t (lag_of t) z k) in
          let came : suc r + (shortest t z k + longer t (lag_of t) z k) ≡ suc onto = omega arith in
          omega (
            arith,
            total-delivered t run.gone k r slot g,
            passes.fair (own k (young r g)) n,
            flow.sooner (young r g) n,
            released-most t released k r g (n - shortest t z k),
            released_by_lem t released k r g (suc r) (omega arith),
            flow.later (young r g) (suc r),
            ap (before (run.arrived z) (own k (young r g))) came,
            passes.prompt (own k (young r g)) onto,
            sum-grows (λ (s : ℕ). total (own k (young r g)) (run.gone z s)) (suc (onto + lag_of t z)) n
                (omega (arith, end_to_end_lem k lk)),
          )

    pub delivered-whole :
        (k r slot : ℕ) → k < t.channels → r + end_to_end t k ≤ slot →
        AnyOrder (message t released k r) (delivered t run.gone k r slot)
    delivered-whole k r slot lk due =
        any_order_complete _ _ (λ f. delivered-total k r slot lk due (λ (x : Frame). only (same f x) 1))
