-- What the judgement says, in plain facts.
use mathlib.Core.Path.{◌≡◌, ◌∙◌}
use mathlib.Core.Logic.{◌⊎◌, inl, inr}
use mathlib.Core.List.{List, [], ◌∷◌}
use Prim.Native.Nat.{ℕ, ◌*◌, ◌≤◌, ◌<◌}
use lib.Dec.{leb}
use Rattle.rules.specs.Replies.{Reply, granted, refused, test}
use Rattle.rules.specs.Table.{View, view_of}
use Rattle.rules.specs.Reading.{reading_tests, reading}
use Rattle.rules.specs.Bounds.{load, backlog, end_to_end}
use Rattle.rules.specs.Judgement.{load_test, room_test, deadline_test, load_tests}
use Rattle.rules.specs.Judgement.{bounds_tests, deadline_tests, bounding, length_of, judge}
use Rattle.rules.proofs.Tests.{Through, Stops, Gate, through, stops, gate-granted, gate-refused}
use Rattle.rules.proofs.Tests.{gate_through, gate_iff, gate_then, le-gate, all-gate}
use Rattle.rules.specs.Sound.{Sound}
use Rattle.rules.proofs.Tables.Search.{le-stops}
use Rattle.rules.proofs.Tables.Laws.{Passes, passes-sound, reading-gate, reading-refused, reading-passes, passes-reading}

-- 12 and 13
pub record Carried (t : View) : Type 0 where
  pub loads : (w : ℕ) → w < t.wires → load t w ≤ t.rate w * t.hyper
  pub backlogs : (w : ℕ) → w < t.wires → backlog t w ≤ t.room w

-- 12 to 14
pub record Bounded (t : View) : Type 0 where
  pub loads : (w : ℕ) → w < t.wires → load t w ≤ t.rate w * t.hyper
  pub backlogs : (w : ℕ) → w < t.wires → backlog t w ≤ t.room w
  pub ends : (k : ℕ) → k < t.channels → end_to_end t k ≤ t.deadline k

pub record Accepted (s : List ℕ) (lent : ℕ) : Type 0 where
  pub passes : Passes s
  pub sound : Sound (view_of s)
  pub bounded : Bounded (view_of s)
  pub fits : length_of (view_of s) ≤ lent

module _ (t : View) where
  pub load-gate : (w : ℕ) → Gate (load t w ≤ t.rate w * t.hyper) (load_test t w)
  unfolding load_test
  load-gate w = le-gate 12 w (load t w) (t.rate w * t.hyper)

  pub room-gate : (w : ℕ) → Gate (backlog t w ≤ t.room w) (room_test t w)
  unfolding room_test
  room-gate w = le-gate 13 w (backlog t w) (t.room w)

  pub deadline-gate : (k : ℕ) → Gate (end_to_end t k ≤ t.deadline k) (deadline_test t k)
  unfolding deadline_test
  deadline-gate k = le-gate 14 k (end_to_end t k) (t.deadline k)

  pub load-stops : (w : ℕ) → t.rate w * t.hyper < load t w → Stops (load_test t w) 12 w
  unfolding load_test
  load-stops w l = le-stops 12 w (load t w) (t.rate w * t.hyper) l

  pub room-stops : (w : ℕ) → t.room w < backlog t w → Stops (room_test t w) 13 w
  unfolding room_test
  room-stops w l = le-stops 13 w (backlog t w) (t.room w) l

  pub deadline-stops : (k : ℕ) → t.deadline k < end_to_end t k → Stops (deadline_test t k) 14 k
  unfolding deadline_test
  deadline-stops k l = le-stops 14 k (end_to_end t k) (t.deadline k) l

  -- where 12 passes, no wire is over its load
  pub loads-pass : Through (load_tests t) → (w : ℕ) → w < t.wires → load t w ≤ t.rate w * t.hyper
  loads-pass h =
      (gate-granted (all-gate (λ w. load t w ≤ t.rate w * t.hyper) (load_test t) load-gate t.wires)
      (granted []) [] (h (granted []))).0

  pub carried_gate : Gate (Carried t) (bounds_tests t)
  unfolding bounds_tests
  carried_gate =
      gate_iff (λ h. record { loads = h.0; backlogs = h.1 }) (λ r. (r.loads, r.backlogs))
      (gate_then (all-gate (λ w. load t w ≤ t.rate w * t.hyper) (load_test t) load-gate t.wires)
      (all-gate (λ w. backlog t w ≤ t.room w) (room_test t) room-gate t.wires))

  pub deadlines_gate : Gate ((k : ℕ) → k < t.channels → end_to_end t k ≤ t.deadline k) (deadline_tests t)
  deadlines_gate = all-gate (λ k. end_to_end t k ≤ t.deadline k) (deadline_test t) deadline-gate t.channels

  pub bounds-gate : Gate (Bounded t) (λ rest. bounds_tests t (deadline_tests t rest))
  bounds-gate =
      gate_iff (λ h. record { loads = h.0.loads; backlogs = h.0.backlogs; ends = h.1 })
      (λ r. (record { loads = r.loads; backlogs = r.backlogs }, r.ends))
      (gate_then carried_gate deadlines_gate)

-- ---- the reply to the bounds alone

module _ (s : List ℕ) where
  pub bounding-unread : (n p : ℕ) → reading s ≡ refused n p → bounding s ≡ refused n p
  unfolding bounding
  bounding-unread n p e = reading-refused s n p e _

  pub bounding-stops : (n p : ℕ) → reading s ≡ granted [] → Stops (bounds_tests (view_of s)) n p → bounding s ≡ refused n p
  unfolding bounding
  bounding-stops n p r h = passes-reading s (reading-passes s r) _ ∙ h _

  pub bounding-through : reading s ≡ granted [] → Through (bounds_tests (view_of s)) → bounding s ≡ granted []
  unfolding bounding
  bounding-through r h = passes-reading s (reading-passes s r) _ ∙ h _

  bounding-gate : Gate (Passes s × Carried (view_of s)) (λ rest. reading_tests s (bounds_tests (view_of s) rest))
  bounding-gate = gate_then (reading-gate s) (carried_gate (view_of s))

  pub bounding-granted : bounding s ≡ granted [] → Passes s × Carried (view_of s)
  unfolding bounding
  bounding-granted e = (gate-granted bounding-gate (granted []) [] e).0

  -- and what the judgement makes of it
  module _ (lent : ℕ) where
    pub judge-unbounded : (n p : ℕ) → bounding s ≡ refused n p → judge s lent ≡ refused n p
    unfolding bounding judge
    judge-unbounded n p e = gate-refused bounding-gate [] n p e _

    module _ (e : bounding s ≡ granted []) where
      judge-after : judge s lent
          ≡ deadline_tests (view_of s) (test (leb (length_of (view_of s)) lent) 15 0 (granted (length_of (view_of s) ∷ [])))
      unfolding judge
      judge-after = gate_through bounding-gate (bounding-granted e) _

      pub judge-late : (n p : ℕ) → Stops (deadline_tests (view_of s)) n p → judge s lent ≡ refused n p
      judge-late n p h = judge-after ∙ h _

      pub judge-short : Through (deadline_tests (view_of s)) → lent < length_of (view_of s) → judge s lent ≡ refused 15 0
      judge-short h l = judge-after ∙ h _ ∙ le-stops 15 0 (length_of (view_of s)) lent l _

      pub judge-fits : Through (deadline_tests (view_of s)) → length_of (view_of s) ≤ lent
          → judge s lent ≡ granted (length_of (view_of s) ∷ [])
      judge-fits h l = judge-after ∙ h _ ∙ gate_through (le-gate 15 0 (length_of (view_of s)) lent) l _

-- all tests of the judgement
abbrev pub judge_tests : List ℕ → ℕ → Reply → Reply
judge_tests s lent rest =
    reading_tests s (bounds_tests (view_of s) (deadline_tests (view_of s) (test (leb (length_of (view_of s)) lent) 15 0 rest)))

module _ (s : List ℕ) (lent : ℕ) where
  pub judge-gate : Gate (Accepted s lent) (judge_tests s lent)
  judge-gate =
      gate_iff
      (λ h. record { passes = h.0; sound = passes-sound s h.0.fields; bounded = h.1.0; fits = h.1.1 })
      (λ r. (r.passes, (r.bounded, r.fits)))
      (gate_then (reading-gate s) (gate_then (bounds-gate (view_of s)) (le-gate 15 0 _ _)))

  pub judge-accepted : (len : ℕ) → judge s lent ≡ granted (len ∷ []) → Accepted s lent × (len ≡ length_of (view_of s))
  unfolding judge
  judge-accepted len e =
      let g = gate-granted judge-gate (granted (length_of (view_of s) ∷ [])) (len ∷ []) e in
      (g.0, cc g.1)

  pub accepted-judge : Accepted s lent → judge s lent ≡ granted (length_of (view_of s) ∷ [])
  unfolding judge
  accepted-judge r = gate_through judge-gate r (granted (length_of (view_of s) ∷ []))

  pub accepted-bounding : Accepted s lent → bounding s ≡ granted []
  unfolding bounding
  accepted-bounding r =
      passes-reading s r.passes _
      ∙ gate_through (carried_gate (view_of s))
      (record { loads = r.bounded.loads; backlogs = r.bounded.backlogs }) (granted [])

  -- there is no third reply
  pub judge-cases : (judge s lent ≡ granted (length_of (view_of s) ∷ [])) ⊎ ((n : ℕ) × (p : ℕ) × (judge s lent ≡ refused n p))
  unfolding judge
  judge-cases = elim judge-gate [
    | through h e ↦ inl (e _)
    | stops h n p e ↦ inr (n, p, e _)
  ]

  -- what is refused in reading is refused in judging
  pub judge-refused : (n p : ℕ) → reading s ≡ refused n p → judge s lent ≡ refused n p
  unfolding judge
  judge-refused n p e = reading-refused s n p e _
