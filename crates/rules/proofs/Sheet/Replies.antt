-- Asking a sheet, by its replies: what each test refuses, and what is known where all are passed.
use mathlib.Core.Path.{◌≡◌, ◌∙◌}
use mathlib.Core.Logic.{◌⊎◌, ◌≢◌}
use mathlib.Core.Bool.{Bool, true, false, ◌&&◌}
use mathlib.Core.List.{List, [], ◌∷◌}
use Prim.Native.Nat.{ℕ, ◌+◌, ◌-◌, ◌*◌, ◌≤◌, ◌<◌}
use native.Mathlib.Omega.{arith}
use lib.ListN.{length}
use lib.Dec.{eqb}
use borrow.Author.Tests.{lt-leb, lt-ltb, le-ltb, eq-eqb, ne_eqb}
use Rattle.std.proofs.lemmas.Bool.Decides.{nat_tests}
use Rattle.bits.specs.Field.{field}
use Rattle.rules.specs.Words.{up, between}
use Rattle.rules.specs.Numbers.{wires_most, channels_most, backlog_bits, delay_bits, end_bits}
use Rattle.rules.specs.Replies.{Reply, granted, refused, test}
use Rattle.rules.specs.Table.{filling_of}
use Rattle.rules.specs.Sheet.{figures_at, end_at, sheet_length, sheet_wires, sheet_channels, sheet_tests, ask_wire, ask_channel}
use Rattle.rules.proofs.Tests.{Gate, gate-granted, gate_iff, gate_then, le-gate, eq-gate, between-gate}
use Rattle.rules.proofs.Sheet.Fitting.{true_ranged}

-- a count outside its range
abbrev pub Outside : ℕ → ℕ → Type 0
Outside count most = (count < 1) ⊎ (most < count)

-- the counts are there, each within its range
pub record Counted (s : List ℕ) : Type 0 where
  pub two_bytes : 2 ≤ length s
  pub wires_at_least : 1 ≤ sheet_wires s
  pub wires_at_most : sheet_wires s ≤ wires_most
  pub channels_at_least : 1 ≤ sheet_channels s
  pub channels_at_most : sheet_channels s ≤ channels_most

-- ---- the tests, by the first that fails

module _ (s : List ℕ) where
  -- both counts are within their ranges
  abbrev pub counts : Bool
  counts = between 1 (sheet_wires s) wires_most && between 1 (sheet_channels s) channels_most

  pub counts_true : 2 ≤ length s → counts ≡ true → Counted s
  counts_true two e =
      let ranged = true_ranged (sheet_wires s) (sheet_channels s) e in
      record {
        two_bytes = two;
        wires_at_least = ranged.0;
        wires_at_most = ranged.1;
        channels_at_least = ranged.2;
        channels_at_most = ranged.3;
      }

module _ (s : List ℕ) (rest : Reply) where
  pub tests_short : length s < 2 → sheet_tests s rest ≡ refused 16 0
  unfolding sheet_tests test
  tests_short l = rw (lt-leb 2 (length s) l)

  module _ (two : 2 ≤ length s) where
    pub tests_counts : counts s ≡ false → sheet_tests s rest ≡ refused 17 0
    unfolding sheet_tests test
    tests_counts e = grind (arith, nat_tests)

    pub tests-wires : Outside (sheet_wires s) wires_most → sheet_tests s rest ≡ refused 17 0
    unfolding sheet_tests test
    tests-wires o = grind (arith, nat_tests)

    module _ (wires_at_least : 1 ≤ sheet_wires s) (wires_at_most : sheet_wires s ≤ wires_most) where
      pub tests-channels : Outside (sheet_channels s) channels_most → sheet_tests s rest ≡ refused 17 0
      unfolding sheet_tests test
      tests-channels o = grind (arith, nat_tests)

  module _ (counted : Counted s) (end : ℕ) (is : end ≡ end_at (sheet_wires s) (sheet_channels s)) where
    -- what is left are the tests of length and filling
    left : sheet_tests s rest ≡ test (eqb (length s) (up end 8)) 16 0 (test (eqb (field s end (8 * length s - end)) 0) 18 0 rest)
    unfolding sheet_tests sheet_length filling_of test
    left = grind (arith, nat_tests)

    pub tests-length : length s ≢ up end 8 → sheet_tests s rest ≡ refused 16 0
    unfolding test
    tests-length ne = left ∙ rw (ne_eqb (length s) (up end 8) ne)

    pub tests_filling : length s ≡ up end 8 → 1 ≤ field s end (8 * length s - end) → sheet_tests s rest ≡ refused 18 0
    unfolding test
    tests_filling e l =
        left
        ∙ rw (eq-eqb (length s) (up end 8) e, ne_eqb (field s end (8 * length s - end)) 0 (λ z. omega arith))

    pub tests_pass : length s ≡ up end 8 → field s end (8 * length s - end) ≡ 0 → sheet_tests s rest ≡ rest
    unfolding test
    tests_pass e z = left ∙ rw (eq-eqb (length s) (up end 8) e, eq-eqb (field s end (8 * length s - end)) 0 z)

-- ---- the tests as one number

-- the tests end at the refusal with this number, or, where it is 0, go on to what follows
abbrev pub Fault : List ℕ → ℕ → Type 0
Fault s number = (rest : Reply) → sheet_tests s rest ≡ test (eqb number 0) number 0 rest

-- what is known of a byte string that passes
pub record Passed (s : List ℕ) : Type 0 where
  pub goes_on : (rest : Reply) → sheet_tests s rest ≡ rest
  pub counted : Counted s
  pub all_there : length s ≡ up (end_at (sheet_wires s) (sheet_channels s)) 8

module _ (s : List ℕ) where
  sheet_gate :
      let end = end_at (sheet_wires s) (sheet_channels s) in
      Gate (Counted s × (length s ≡ up end 8) × (filling_of s end ≡ 0)) (sheet_tests s)
  unfolding sheet_tests sheet_length
  sheet_gate =
      gate_iff
      (λ h. grind arith) (λ c. grind arith)
      (gate_then (le-gate 16 0 2 (length s))
      (gate_then (between-gate 17 0 1 (sheet_wires s) wires_most)
      (gate_then (between-gate 17 0 1 (sheet_channels s) channels_most)
      (gate_then (eq-gate 16 0 (length s) (up (end_at (sheet_wires s) (sheet_channels s)) 8))
      (eq-gate 18 0 (filling_of s (end_at (sheet_wires s) (sheet_channels s))) 0)))))

  passed : ((rest : Reply) → sheet_tests s rest ≡ rest) → Passed s
  passed goes_on =
      let h = (gate-granted sheet_gate (granted []) [] (goes_on (granted []))).0 in
      record { goes_on = goes_on; counted = h.0; all_there = h.1 }

module _ (s : List ℕ) (number : ℕ) (fault : Fault s number) where
  pub fault-none : number ≡ 0 → Passed s
  unfolding test
  fault-none e = passed s (λ rest. fault rest ∙ rw (eq-eqb number 0 e))

  fault-some : 1 ≤ number → (rest : Reply) → sheet_tests s rest ≡ refused number 0
  unfolding test
  fault-some l rest = fault rest ∙ rw (ne_eqb number 0 (λ e. omega arith))

  pub ask-wire-fault : (w : ℕ) → 1 ≤ number → ask_wire s w ≡ refused number 0
  unfolding ask_wire
  ask-wire-fault w l = fault-some l _

  pub ask-channel-fault : (k : ℕ) → 1 ≤ number → ask_channel s k ≡ refused number 0
  unfolding ask_channel
  ask-channel-fault k l = fault-some l _

-- ---- asking what has passed

module _ (s : List ℕ) (pass : Passed s) where
  pub ask-wire-none : (w : ℕ) → sheet_wires s ≤ w → ask_wire s w ≡ refused 19 0
  unfolding ask_wire test
  ask-wire-none w l = pass.goes_on _ ∙ rw (le-ltb w (sheet_wires s) l)

  pub ask-wire-some : (w at next backlog delay : ℕ) → w < sheet_wires s → at ≡ figures_at w → next ≡ figures_at w + backlog_bits
      → backlog ≡ field s at backlog_bits → delay ≡ field s next delay_bits → ask_wire s w ≡ granted (backlog ∷ delay ∷ [])
  unfolding ask_wire test
  ask-wire-some w at next backlog delay l e f b d = pass.goes_on _ ∙ rw (lt-ltb w (sheet_wires s) l, b, d, e, f)

  pub ask-channel-none : (k : ℕ) → sheet_channels s ≤ k → ask_channel s k ≡ refused 19 0
  unfolding ask_channel test
  ask-channel-none k l = pass.goes_on _ ∙ rw (le-ltb k (sheet_channels s) l)

  pub ask-channel-some : (k at end : ℕ) → k < sheet_channels s → at ≡ end_at (sheet_wires s) k → end ≡ field s at end_bits
      → ask_channel s k ≡ granted (end ∷ [])
  unfolding ask_channel test
  ask-channel-some k at end l e d = pass.goes_on _ ∙ rw (lt-ltb k (sheet_channels s) l, d, e)
