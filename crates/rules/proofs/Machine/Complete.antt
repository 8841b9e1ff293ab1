-- The relation has no run that the step function does not play: an allowed run is the played one, with the order in which its
-- frames came, which is an order of what is due there, and with its holds for choices.
use mathlib.Core.Path.{◌≡◌, refl, sym, ap, ◌∙◌}
use mathlib.Core.Logic.{inl, inr}
use mathlib.Core.List.{List, [], ◌∷◌}
use Prim.Native.Nat.{ℕ, zero, suc, ◌-◌, ◌<◌}
use native.Mathlib.Omega.{arith}
use Rattle.std.proofs.lemmas.Bool.Decides.{nat_tests}
use Rattle.std.proofs.lemmas.Bool.{cases_Bool}
use Rattle.rules.specs.Words.{has}
use Rattle.rules.specs.Table.{View, source}
use Rattle.rules.specs.Machine.{Frame, Waiting, Releases, Gone, of_channel, due_from, due, AnyOrder, joined, Holding}
use Rattle.rules.specs.Machine.{Run, Allowed, Order, Choice, queue_in, held_in, arrivals, holding, played}
use Rattle.rules.specs.Sound.{Sound}
use Rattle.rules.proofs.Bounds.Routes.{nowhere-off, climbs-below, follows}
use Rattle.rules.proofs.Machine.Played.{gathered-same, reaching-same, gone_at, arrived_at, held_at}
use Rattle.rules.proofs.Machine.Played.{queue-next, gone-now, held_now, empty-first}

-- what is held follows from the three conditions
holding-is :
    (queue : List Waiting) (arrived : List Frame) (chosen left held : ℕ) →
    (queue ≡ [] → arrived ≡ [] → held ≡ 0) → (queue ≡ [] → chosen ≡ held) → (¬ (queue ≡ []) → left ≡ held) →
    holding queue (joined queue arrived) chosen left ≡ held
unfolding holding
holding-is [] [] chosen left held idle start on = sym (idle refl refl)
holding-is [] (f ∷ fs) chosen left held idle start on = start refl
holding-is (x ∷ queue) arrived chosen left held idle start on = on (λ e. cc)

-- What is due reads only what is gone from the wires of the table, where every route stays on them.
module _
    (t : View) (sound : Sound t) (released : Releases) (one other : Gone)
    (agree : (v earlier : ℕ) → v < t.wires → one v earlier ≡ other v earlier) (w slot : ℕ)
  where
    from-below :
        (k : ℕ) → k < t.channels →
        due_from (source (t.route k) w) t released one slot k ≡ due_from (source (t.route k) w) t released other slot k
    unfolding due_from
    from-below k lk =
        let xs = t.route k in
        let c = sound.climbs k lk in
        elim (cases_Bool (has w xs)) [
          | inr off ↦ rw (nowhere-off w xs off) refl
          | inl there ↦
              elim (follows t.wires 0 w xs c there) [
                | inl b ↦ rw b.from refl
                | inr f ↦
                    (let v = f.0 in
                    let lv = climbs-below t.wires 0 v xs c f.1.there in
                    rw f.1.from (ap (of_channel k) (reaching-same t one other slot v (λ earlier l. agree v earlier lv))))
              ]
        ]

    due_below : due t released one w slot ≡ due t released other w slot
    unfolding due
    due_below = gathered-same _ _ t.channels from-below

module _ {t : View} {released : Releases} {held : Holding} (run : Run t released held) where
  -- the order of its arrivals, and its holds, as an adversary's
  abbrev pub order_of : Order
  order_of slot w fs = run.arrived w slot

  abbrev pub choice_of : Choice
  choice_of slot w = held w slot

  pub came_as : (w slot : ℕ) → arrived_at t released order_of choice_of w slot ≡ run.arrived w slot
  unfolding arrivals
  came_as w slot = refl

  module _ (allowed : Allowed run) (w : ℕ) (l : w < t.wires) where
    -- before slot `slot`, and in it
    record Alike (slot : ℕ) : Type 0 where
      queue : queue_in (played t released order_of choice_of slot) w ≡ run.queue w slot
      held_too : held_at t released order_of choice_of w slot ≡ held w slot

    held_from :
        (slot : ℕ) → queue_in (played t released order_of choice_of slot) w ≡ run.queue w slot →
        (¬ (run.queue w slot ≡ []) → held_in (played t released order_of choice_of slot) w - 1 ≡ held w slot) →
        held_at t released order_of choice_of w slot ≡ held w slot
    held_from slot same on =
        held_now t released order_of choice_of w slot l
        ∙ rw (came_as w slot, same)
        (holding-is (run.queue w slot) (run.arrived w slot) _ _ (held w slot)
        (allowed.from_then_on w slot l) (λ e. grind (arith, nat_tests, allowed.at_most w slot l)) on)

    alike : (slot : ℕ) → Alike slot
    alike zero =
        let same = empty-first t released order_of choice_of w l ∙ sym (run.empty w l) in
        record { queue = same; held_too = held_from 0 same (λ more. absurd (more (run.empty w l))) }
    alike (suc slot) =
        let before = alike slot in
        let same : queue_in (played t released order_of choice_of (suc slot)) w ≡ run.queue w (suc slot) =
        queue-next t released order_of choice_of w slot l
        ∙ rw (came_as w slot, before.queue, before.held_too) (sym (run.keeps w slot l)) in
        record {
          queue = same;
          held_too = held_from (suc slot) same (λ more. rw before.held_too (sym (allowed.not_again w slot l more)));
        }

    pub every_run_played :
        (slot : ℕ) →
        (run.queue w slot ≡ queue_in (played t released order_of choice_of slot) w)
        × (held w slot ≡ held_at t released order_of choice_of w slot)
        × (run.gone w slot ≡ gone_at t released order_of choice_of w slot)
    every_run_played slot =
        let both = alike slot in (
          sym both.queue,
          sym both.held_too,
          run.sends w slot l
              ∙ sym (gone-now t released order_of choice_of w slot l ∙ rw (came_as w slot, both.queue, both.held_too) refl),
        )

  -- and that order is an order of what is due there, as the step function asks of it
  pub every_order_due :
      Allowed run → Sound t → (w slot : ℕ) → w < t.wires →
      AnyOrder (due t released (gone_at t released order_of choice_of) w slot) (arrived_at t released order_of choice_of w slot)
  every_order_due allowed sound w slot l =
      rw (
        came_as w slot,
        ← due_below t sound released run.gone (gone_at t released order_of choice_of)
            (λ v earlier lv. (every_run_played allowed v lv earlier).2) w slot,
      )
      (run.any_order w slot l)
