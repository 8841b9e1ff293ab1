-- A channel's frames along its route: of the wires it knows only what they pass on, and when.
use mathlib.Core.Path.{◌≡◌, refl, ap, sym, ◌∙◌}
use mathlib.Core.Bool.{true}
use mathlib.Core.Logic.{inl, inr}
use mathlib.Core.List.{List, [], ◌∷◌}
use Prim.Native.Nat.{ℕ, zero, suc, ◌+◌, ◌-◌, ◌≤◌, ◌<◌}
use native.Mathlib.Omega.{arith}
use lib.Dec.{eqb}
use borrow.Author.Tests.{eq-eqb, ne_eqb}
use Rattle.std.proofs.lemmas.Bool.Decides.{nat_tests}
use Rattle.rules.specs.Words.{sum, total, only, has}
use Rattle.rules.specs.Price.{frames}
use Rattle.rules.specs.Table.{View, Source, nowhere, release, wire, source}
use Rattle.rules.specs.Bounds.{along}
use Rattle.rules.specs.Machine.{Frame, Releases, message, of_channel, born_in, Gone, reaching, due_from, due, AnyOrder}
use Rattle.rules.specs.Sound.{Climbs}
use Rattle.rules.proofs.Sums.{sum-next, ascend, sum_same, sum-swap, sum-alone, sum-none, sum-grows}
use Rattle.rules.proofs.Sums.{total-same, total-none, total-map, total-gathered}
use Rattle.rules.proofs.Machine.Orders.{any_order-total}
use Rattle.rules.proofs.Bounds.Routes.{Follows, Begins, follows, climbs-below}
use Rattle.rules.proofs.Machine.Server.{before, Passes}

-- g, of the frames of channel k
abbrev pub own : ℕ → (Frame → ℕ) → Frame → ℕ
own k g f = only (eqb f.channel k) (g f)

-- g, of the frames born in slot r
abbrev pub young : ℕ → (Frame → ℕ) → Frame → ℕ
young r g f = only (eqb f.born r) (g f)

pub total-channel : (g : Frame → ℕ) (k : ℕ) (fs : List Frame) → total g (of_channel k fs) ≡ total (own k g) fs
unfolding total of_channel
total-channel g k [] = refl
total-channel g k (f ∷ fs) = grind (arith, nat_tests, total-channel g k fs)

pub total-born : (g : Frame → ℕ) (r : ℕ) (fs : List Frame) → total g (born_in r fs) ≡ total (young r g) fs
unfolding total born_in
total-born g r [] = refl
total-born g r (f ∷ fs) = grind (arith, nat_tests, total-born g r fs)

-- a weight over a message is one over the sizes of its frames
pub total-message :
    (t : View) (released : Releases) (k r : ℕ) (g : Frame → ℕ) →
    total g (message t released k r)
    ≡ total (λ (size : ℕ). g (record { channel = k; born = r; size = size })) (frames (t.framing k) (released k r))
unfolding message
total-message t released k r g =
    total-map g (λ (size : ℕ). record { channel = k; born = r; size = size }) (frames (t.framing k) (released k r))

module _ (t : View) (released : Releases) (k r : ℕ) (g : Frame → ℕ) where
  message-own : total (own k g) (message t released k r) ≡ total g (message t released k r)
  message-own =
      rw (total-message t released k r (own k g), total-message t released k r g, eq-eqb k k refl) refl

  pub message-young : total (young r g) (message t released k r) ≡ total g (message t released k r)
  message-young =
      rw (total-message t released k r (young r g), total-message t released k r g, eq-eqb r r refl) refl

  pub message-other : (r₂ : ℕ) → ¬ (r ≡ r₂) → total (young r₂ g) (message t released k r) ≡ 0
  message-other r₂ d =
      rw (total-message t released k r (young r₂ g), ne_eqb r r₂ d) (total-none _ _ (λ x. refl))

-- What is due from channel j is of channel j.
pub due-own :
    (src : Source) (t : View) (released : Releases) (gone : Gone) (slot j : ℕ) (g : Frame → ℕ) →
    total (own j g) (due_from src t released gone slot j) ≡ total g (due_from src t released gone slot j)
unfolding due_from total
due-own nowhere t released gone slot j g = refl
due-own release t released gone slot j g = message-own t released j slot g
due-own (wire v) t released gone slot j g =
    let fs = reaching t gone v slot in
    total-channel (own j g) j fs ∙ total-same _ _ fs (λ f. grind (arith, nat_tests)) ∙ sym (total-channel g j fs)

due-other :
    (src : Source) (t : View) (released : Releases) (gone : Gone) (slot j k : ℕ) (g : Frame → ℕ) → ¬ (j ≡ k) →
    total (own k g) (due_from src t released gone slot j) ≡ 0
due-other src t released gone slot j k g d =
    sym (due-own src t released gone slot j (own k g))
    ∙ total-none (own j (own k g)) (due_from src t released gone slot j) (λ f. apart f)
  where
    apart : (f : Frame) → own j (own k g) f ≡ 0
    apart f = grind (arith, nat_tests)

-- what channel k brings to wire w, slot by slot
abbrev pub into : View → Releases → Gone → ℕ → ℕ → ℕ → List Frame
into t released gone w k slot = due_from (source (t.route k) w) t released gone slot k

pub none-into :
    (t : View) (released : Releases) (gone : Gone) (w k : ℕ) → source (t.route k) w ≡ nowhere → (g : Frame → ℕ) (n : ℕ) →
    before (into t released gone w k) g n ≡ 0
unfolding due_from total
none-into t released gone w k e g n = rw e (sum-none n)

-- 1 + propagation slots later
pub reached :
    (t : View) (gone : Gone) (v : ℕ) (g : Frame → ℕ) (n : ℕ) →
    before (reaching t gone v) g n ≡ before (gone v) g (n - (1 + t.prop v))
unfolding sum total reaching
reached t gone v g zero = grind arith
reached t gone v g (suc n) =
    let ago = n - (1 + t.prop v) in
    grind (arith, nat_tests, reached t gone v g n, sum-next (λ (s : ℕ). total g (gone v s)) (suc n - (1 + t.prop v)) ago)

-- The shortest time from release to a wire: 1 + propagation for each wire passed. What the wires passed may add to it.
abbrev pub shortest : View → ℕ → ℕ → ℕ
shortest t w k = along (λ v. 1 + t.prop v) (t.route k) w

abbrev pub longer : View → (ℕ → ℕ) → ℕ → ℕ → ℕ
longer t lag w k = along lag (t.route k) w

-- Of channel k at wire w: what came was released at least `shortest` before; what was released both times before has come.
pub record Flows (t : View) (released : Releases) (arrived : Gone) (lag : ℕ → ℕ) (w k : ℕ) : Type 0 where
  pub sooner : (g : Frame → ℕ) (n : ℕ) → before (arrived w) (own k g) n ≤ before (message t released k) g (n - shortest t w k)
  pub later :
      (g : Frame → ℕ) (n : ℕ) →
      before (message t released k) g n ≤ before (arrived w) (own k g) (n + (shortest t w k + longer t lag w k))

module _
    (t : View) (released : Releases) (arrived gone : Gone)
    (any_order : (w slot : ℕ) → w < t.wires → AnyOrder (due t released gone w slot) (arrived w slot))
  where
    arrived-sum :
        (w slot : ℕ) → w < t.wires → (g : Frame → ℕ) →
        total g (arrived w slot) ≡ sum (λ (k : ℕ). total g (into t released gone w k slot)) t.channels
    unfolding due
    arrived-sum w slot l g =
        sym (any_order-total g (any_order w slot l)) ∙ total-gathered g (λ k. into t released gone w k slot) t.channels

    -- what comes to a wire is what its channels bring
    pub came-sum :
        (w : ℕ) → w < t.wires → (g : Frame → ℕ) (n : ℕ) →
        before (arrived w) g n ≡ sum (λ (k : ℕ). before (into t released gone w k) g n) t.channels
    came-sum w l g n =
        sum_same _ _ n (λ slot below. arrived-sum w slot l g)
        ∙ sum-swap (λ (slot k : ℕ). total g (into t released gone w k slot)) t.channels n

    pub came_own :
        (w : ℕ) → w < t.wires → (k : ℕ) → k < t.channels → (g : Frame → ℕ) (n : ℕ) →
        before (arrived w) (own k g) n ≡ before (into t released gone w k) g n
    came_own w l k lk g n =
        sum_same _ _ n (λ slot below.
        arrived-sum w slot l (own k g)
        ∙ sum-alone (λ (j : ℕ). total (own k g) (into t released gone w j slot)) t.channels k lk
        (λ j d. due-other (source (t.route j) w) t released gone slot j k g d)
        ∙ due-own (source (t.route k) w) t released gone slot k g)

    pub came_released :
        (w : ℕ) → w < t.wires → (k : ℕ) → k < t.channels → source (t.route k) w ≡ release → (g : Frame → ℕ) (n : ℕ) →
        before (arrived w) (own k g) n ≡ before (message t released k) g n
    unfolding due_from
    came_released w l k lk e g n =
        came_own w l k lk g n ∙ rw e

    pub came_passed :
        (w : ℕ) → w < t.wires → (k : ℕ) → k < t.channels → (v : ℕ) → source (t.route k) w ≡ wire v → (g : Frame → ℕ) (n : ℕ) →
        before (arrived w) (own k g) n ≡ before (gone v) (own k g) (n - (1 + t.prop v))
    unfolding due_from
    came_passed w l k lk v e g n =
        came_own w l k lk g n
        ∙ rw e refl
        ∙ sum_same _ _ n (λ slot below. total-channel g k (reaching t gone v slot))
        ∙ reached t gone v (own k g) n

    module _ (lag : ℕ → ℕ) (k : ℕ) (lk : k < t.channels) where
      begins-flows : (w : ℕ) → w < t.wires → Begins (t.route k) w → Flows t released arrived lag w k
      begins-flows w l b =
          let none : shortest t w k ≡ 0 = b.adds (λ v. 1 + t.prop v) in
          let calm : longer t lag w k ≡ 0 = b.adds lag in
          record {
            sooner = λ g n. grind (arith, came_released w l k lk b.from g n);
            later = λ g n. grind (arith, came_released w l k lk b.from g n);
          }

      follows_flows :
          (v w : ℕ) → w < t.wires → Follows (t.route k) (source (t.route k) w) v w →
          Flows t released arrived lag v k → Passes (arrived v) (gone v) (lag v) → Flows t released arrived lag w k
      unfolding sum
      follows_flows v w l f flow passes =
          let near : shortest t w k ≡ shortest t v k + (1 + t.prop v) = f.adds (λ v. 1 + t.prop v) in
          let far : longer t lag w k ≡ longer t lag v k + lag v = f.adds lag in
          record {
            sooner = λ g n.
                grind (
                  arith,
                  came_passed w l k lk v f.from g n,
                  passes.fair (own k g) (n - (1 + t.prop v)),
                  flow.sooner g (n - (1 + t.prop v)),
                );
            later = λ g n.
                elim n as (λ n. before (message t released k) g n
                ≤ before (arrived w) (own k g) (n + (shortest t w k + longer t lag w k))) [
                  | zero ↦ omega arith
                  | suc m ↦
                      (let onto = m + (shortest t v k + longer t lag v k) in
                      let came : suc m + (shortest t v k + longer t lag v k) ≡ suc onto = omega arith in
                      let left : suc m + (shortest t w k + longer t lag w k) - (1 + t.prop v) ≡ suc (onto + lag v)
                      = omega arith in
                      omega (
                        arith,
                        came_passed w l k lk v f.from g (suc m + (shortest t w k + longer t lag w k)),
                        passes.prompt (own k g) onto,
                        flow.later g (suc m),
                        ap (before (arrived v) (own k g)) came,
                        ap (before (gone v) (own k g)) left,
                      ))
                ];
          }

      -- on every wire of its route, where the wires below pass things on
      pub flows :
          Climbs t.wires 0 (t.route k) → (w : ℕ) →
          ((v : ℕ) → v < w → v < t.wires → Passes (arrived v) (gone v) (lag v)) →
          has w (t.route k) ≡ true → Flows t released arrived lag w k
      flows c w passes there =
          ascend
          (λ (w : ℕ). ((v : ℕ) → v < w → v < t.wires → Passes (arrived v) (gone v) (lag v)) → has w (t.route k) ≡ true
          → Flows t released arrived lag w k)
          (λ w rest passes there.
          let l : w < t.wires = climbs-below t.wires 0 w (t.route k) c there in
          elim (follows t.wires 0 w (t.route k) c there) [
            | inl b ↦ begins-flows w l b
            | inr f ↦
                (let v = f.0 in
                follows_flows v w l f.1
                (rest v f.1.less (λ u lu. passes u (omega (arith, f.1.less))) f.1.there)
                (passes v f.1.less (omega (arith, f.1.less))))
          ])
          w passes there

-- A window at wire w is one of releases, wider by what the wires passed may add.
pub window :
    (t : View) (released : Releases) (arrived : Gone) (lag : ℕ → ℕ) (w k : ℕ) → Flows t released arrived lag w k →
    (g : Frame → ℕ) (a d : ℕ) →
    (start : ℕ)
    × (before (message t released k) g start ≤ before (arrived w) (own k g) a)
    × (before (arrived w) (own k g) (suc (a + d)) ≤ before (message t released k) g (suc (start + (d + longer t lag w k))))
unfolding sum
window t released arrived lag w k flow g a d =
    let start = a - (shortest t w k + longer t lag w k) in (
      start,
      grind (arith, flow.later g start),
      omega (
        arith,
        flow.sooner g (suc (a + d)),
        sum-grows (λ (s : ℕ). total g (message t released k s)) (suc (a + d) - shortest t w k)
            (suc (start + (d + longer t lag w k))) (omega arith),
      ),
    )
