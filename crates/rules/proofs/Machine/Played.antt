-- The step function gives an allowed run, for any releases, any order and any choice of holds.
use mathlib.Core.Path.{◌≡◌, refl, ap, ◌∙◌}
use mathlib.Core.Bool.{cond}
use mathlib.Core.List.{List, [], ◌∷◌, map}
use Prim.Native.Nat.{ℕ, zero, suc, ◌-◌, ◌≤◌, ◌<◌}
use native.Mathlib.Decide.{ℕ_discrete}
use native.Mathlib.Omega.{arith}
use lib.Dec.{leb}
use lib.ListN.{get_or, get_or-replicate}
use Rattle.std.proofs.lemmas.Bool.Decides.{nat_tests}
use Rattle.rules.specs.Words.{listed, gathered, cut}
use Rattle.rules.specs.Table.{View, Source, nowhere, release, wire, source}
use Rattle.rules.specs.Office.{K}
use Rattle.rules.specs.Machine.{Frame, Waiting, whole, Releases, Gone, of_channel, reaching, due_from, due}
use Rattle.rules.specs.Machine.{AnyOrder, sent, kept, joined, Holding, sending, Run, Allowed, nobody, Order}
use Rattle.rules.specs.Machine.{Choice, queue_in, held_in, gone_in, arrivals, holding, step, played}
use Rattle.rules.proofs.Tables.Columns.{get_or-listed}

pub gathered-same : {A : Type 0} (f g : ℕ → List A) (n : ℕ) → ((i : ℕ) → i < n → f i ≡ g i) → gathered f n ≡ gathered g n
unfolding gathered
gathered-same f g zero e = refl
gathered-same f g (suc n) e = rw (gathered-same f g n (λ i l. e i (omega arith)), e n (omega arith)) refl

-- What is due in a slot reads only what was gone before it.
module _ (t : View) (one other : Gone) (slot v : ℕ)
    (agree : (earlier : ℕ) → earlier < slot → one v earlier ≡ other v earlier) where
  ago : (later : ℕ) → 0 < later →
      cond (leb later slot) (one v (slot - later)) [] ≡ cond (leb later slot) (other v (slot - later)) []
  ago later some = grind (arith, nat_tests, agree (slot - later))

  pub reaching-same : reaching t one v slot ≡ reaching t other v slot
  unfolding reaching
  reaching-same = ago _ (omega arith)

module _
    (t : View) (released : Releases) (one other : Gone) (slot : ℕ)
    (agree : (v earlier : ℕ) → earlier < slot → one v earlier ≡ other v earlier)
  where
    from-same : (src : Source) (k : ℕ) → due_from src t released one slot k ≡ due_from src t released other slot k
    unfolding due_from
    from-same nowhere k = refl
    from-same release k = refl
    from-same (wire v) k = ap (of_channel k) (reaching-same t one other slot v (agree v))

    due-same : (w : ℕ) → due t released one w slot ≡ due t released other w slot
    unfolding due
    due-same w = gathered-same _ _ t.channels (λ k l. from-same (source (t.route k) w) k)

-- what bounds the choice and what is left of a hold bounds the hold
holding-most : (queue full : List Waiting) (most chosen left : ℕ) → chosen ≤ most → left ≤ most
    → holding queue full chosen left ≤ most
unfolding holding
holding-most [] [] most chosen left c l = omega arith
holding-most [] (x ∷ full) most chosen left c l = c
holding-most (x ∷ queue) full most chosen left c l = l

holding-left : (queue full : List Waiting) (chosen left : ℕ) → ¬ (queue ≡ []) → holding queue full chosen left ≡ left
unfolding holding
holding-left [] full chosen left more = absurd (more refl)
holding-left (x ∷ queue) full chosen left more = refl

holding-chosen : (arrived : List Frame) (chosen left : ℕ) → ¬ (arrived ≡ []) → holding [] (map whole arrived) chosen left ≡ chosen
unfolding holding
holding-chosen [] chosen left more = absurd (more refl)
holding-chosen (f ∷ fs) chosen left more = refl

module _ (t : View) (released : Releases) (order : Order) (choice : Choice) where
  -- what was gone in a slot, seen from right after it
  abbrev pub gone_at : Gone
  gone_at w slot = gone_in (played t released order choice (suc slot)) (suc slot) w slot

  -- and seen from any later slot
  pub seen-later : (slot v earlier : ℕ) → earlier < slot
      → gone_in (played t released order choice slot) slot v earlier ≡ gone_at v earlier
  unfolding played step
  seen-later zero v earlier l = absurd (omega arith)
  seen-later (suc slot) v earlier l =
      elim (ℕ_discrete earlier slot) [
        | yes e ↦ rw e refl
        | no d ↦
            (let one_more : suc slot - suc earlier ≡ suc (slot - suc earlier) = omega arith in
            rw one_more (seen-later slot v earlier (omega arith)))
      ]

  -- what arrives, and what then waits
  abbrev pub arrived_at : ℕ → ℕ → List Frame
  arrived_at w slot = arrivals t released order slot (played t released order choice slot) w

  abbrev pub waiting_at : ℕ → ℕ → List Waiting
  waiting_at w slot = joined (queue_in (played t released order choice slot) w) (arrived_at w slot)

  -- how long the wire is still held, seen from right after the slot
  abbrev pub held_at : Holding
  held_at w slot = held_in (played t released order choice (suc slot)) w

  module _ (w slot : ℕ) (l : w < t.wires) where
    full_now : get_or (listed (λ w. waiting_at w slot) t.wires) w [] ≡ waiting_at w slot
    full_now = get_or-listed (λ w. waiting_at w slot) t.wires w [] l

    abbrev sending_at : ℕ
    sending_at = sending (t.rate w) (held_at w slot)

    pub queue-next : queue_in (played t released order choice (suc slot)) w ≡ kept sending_at (waiting_at w slot)
    unfolding played step
    queue-next = get_or-listed _ t.wires w [] l ∙ ap (kept sending_at) full_now

    pub gone-now : gone_at w slot ≡ sent sending_at (waiting_at w slot)
    unfolding played step
    gone-now =
        let now : suc slot - suc slot ≡ 0 = omega arith in
        ap (λ (i : ℕ). get_or (get_or (played t released order choice (suc slot)).past i []) w []) now
        ∙ get_or-listed _ t.wires w [] l
        ∙ ap (sent sending_at) full_now

    pub held_now :
        held_at w slot
        ≡ holding (queue_in (played t released order choice slot) w) (waiting_at w slot) (cut (choice slot w) (K t w))
        (held_in (played t released order choice slot) w - 1)
    unfolding played step
    held_now =
        let state = played t released order choice slot in
        get_or-listed _ t.wires w 0 l
        ∙ ap (λ (full : List Waiting). holding (queue_in state w) full (cut (choice slot w) (K t w)) (held_in state w - 1)) full_now

    pub due-now :
        ((slot w : ℕ) (fs : List Frame) → AnyOrder fs (order slot w fs)) →
        AnyOrder (due t released gone_at w slot) (arrived_at w slot)
    unfolding arrivals
    due-now any =
        let state = played t released order choice slot in
        rw (← due-same t released (gone_in state slot) gone_at slot (seen-later slot) w)
        (any slot w (due t released (gone_in state slot) w slot))

  pub empty-first : (w : ℕ) → w < t.wires → queue_in (played t released order choice 0) w ≡ []
  unfolding played
  empty-first w l = get_or-replicate t.wires w [] [] l

  -- Request Q-4's three conditions hold of what the machine does with any choice.
  pub held-from-then-on :
      (w slot : ℕ) → w < t.wires → queue_in (played t released order choice slot) w ≡ [] → arrived_at w slot ≡ [] →
      held_at w slot ≡ 0
  unfolding holding
  held-from-then-on w slot l queue arrived = held_now w slot l ∙ rw (queue, arrived) refl

  held-step : (w slot : ℕ) → w < t.wires → held_in (played t released order choice slot) w ≤ K t w → held_at w slot ≤ K t w
  held-step w slot l before =
      let state = played t released order choice slot in
      let chosen : cut (choice slot w) (K t w) ≤ K t w = grind (arith, nat_tests) in
      let left : held_in state w - 1 ≤ K t w = omega arith in
      omega (arith, held_now w slot l, holding-most (queue_in state w) (waiting_at w slot) (K t w) _ _ chosen left)

  pub held_at-most : (w slot : ℕ) → w < t.wires → held_at w slot ≤ K t w
  unfolding played
  held_at-most w zero l = held-step w 0 l (omega (arith, get_or-replicate {A = ℕ} t.wires w 0 0 l))
  held_at-most w (suc slot) l = held-step w (suc slot) l (held_at-most w slot l)

  pub held_not_again :
      (w slot : ℕ) → w < t.wires → ¬ (queue_in (played t released order choice (suc slot)) w ≡ []) →
      held_at w (suc slot) ≡ held_at w slot - 1
  held_not_again w slot l more = held_now w (suc slot) l ∙ holding-left _ _ _ _ more

  -- And where frames reach an empty queue it is the adversary's choice, cut to K.
  pub held_chosen :
      (w slot : ℕ) → w < t.wires → queue_in (played t released order choice slot) w ≡ [] → ¬ (arrived_at w slot ≡ []) →
      held_at w slot ≡ cut (choice slot w) (K t w)
  held_chosen w slot l queue more = held_now w slot l ∙ rw queue (holding-chosen (arrived_at w slot) _ _ more)

-- queue, arrivals and what is gone are the machine's
abbrev pub played-run :
    (t : View) (released : Releases) (order : Order) (choice : Choice) →
    ((slot w : ℕ) (fs : List Frame) → AnyOrder fs (order slot w fs)) → Run t released (held_at t released order choice)
played-run t released order choice any =
    record {
      queue = λ w slot. queue_in (played t released order choice slot) w;
      arrived = arrived_at t released order choice;
      gone = gone_at t released order choice;
      empty = empty-first t released order choice;
      any_order = λ w slot l. due-now t released order choice w slot l any;
      sends = gone-now t released order choice;
      keeps = queue-next t released order choice;
    }

pub played-allowed :
    (t : View) (released : Releases) (order : Order) (choice : Choice)
    (any : (slot w : ℕ) (fs : List Frame) → AnyOrder fs (order slot w fs)) → Allowed (played-run t released order choice any)
played-allowed t released order choice any =
    record {
      from_then_on = held-from-then-on t released order choice;
      at_most = held_at-most t released order choice;
      not_again = held_not_again t released order choice;
    }

-- Where nothing is chosen nobody holds: a run of document 01's own machine.
abbrev pub no_choice : Choice
no_choice slot w = 0

module _ (t : View) (released : Releases) (order : Order) where
  pub held_none : (w slot : ℕ) → w < t.wires → held_in (played t released order no_choice slot) w ≡ 0
  unfolding played
  held_none w zero l = get_or-replicate {A = ℕ} t.wires w 0 0 l
  held_none w (suc slot) l =
      let state = played t released order no_choice slot in
      let none : cut (no_choice slot w) (K t w) ≤ 0 = grind (arith, nat_tests) in
      let left : held_in state w - 1 ≤ 0 = omega (arith, held_none w slot l) in
      omega (
        arith,
        held_now t released order no_choice w slot l,
        holding-most (queue_in state w) (waiting_at t released order no_choice w slot) 0 _ _ none left,
      )

  abbrev pub alone_run : ((slot w : ℕ) (fs : List Frame) → AnyOrder fs (order slot w fs)) → Run t released nobody
  alone_run any =
      let run = played-run t released order no_choice any in
      record {
        queue = run.queue;
        arrived = run.arrived;
        gone = run.gone;
        empty = run.empty;
        any_order = run.any_order;
        sends =
            λ w slot l. run.sends w slot l
            ∙ ap (λ (held : ℕ). sent (sending (t.rate w) held) (waiting_at t released order no_choice w slot))
            (held_none w (suc slot) l);
        keeps =
            λ w slot l. run.keeps w slot l
            ∙ ap (λ (held : ℕ). kept (sending (t.rate w) held) (waiting_at t released order no_choice w slot))
            (held_none w (suc slot) l);
      }
