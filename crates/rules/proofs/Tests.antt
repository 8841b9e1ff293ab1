-- Laws of tests. A chain of tests, as a function of what follows it, either passes that on or gives one refusal.
use mathlib.Core.Path.{◌≡◌, refl, sym, ◌∙◌}
use mathlib.Core.Bool.{Bool, true, false, ◌&&◌}
use mathlib.Core.List.{List}
use Prim.Native.Nat.{ℕ, zero, suc, ◌+◌, ◌≤◌, ◌<◌}
use native.Mathlib.Omega.{arith}
use native.Mathlib.Decide.{ℕ_discrete}
use lib.Dec.{leb, ltb, eqb}
use borrow.Author.Tests.{le-leb, leb-true, lt-ltb, ltb-true, eq-eqb, eqb-true}
use Rattle.std.proofs.lemmas.Bool.{false≢true}
use Rattle.rules.specs.Words.{between}
use Rattle.rules.specs.Replies.{Reply, granted, refused, test, each}

abbrev pub Through : (Reply → Reply) → Type 0
Through f = (rest : Reply) → f rest ≡ rest

abbrev pub Stops : (Reply → Reply) → ℕ → ℕ → Type 0
Stops f n p = (rest : Reply) → f rest ≡ refused n p

-- f passes on what follows where P holds, and gives one refusal where it does not
pub data Gate (P : Type 0) (f : Reply → Reply) : Type 0 where
  through : P → Through f → Gate P f
  stops : (P → ⊥) → (n p : ℕ) → Stops f n p → Gate P f

module _ {P : Type 0} {f : Reply → Reply} where
  pub gate-granted : Gate P f → (rest : Reply) (v : List ℕ) → f rest ≡ granted v → P × (rest ≡ granted v)
  gate-granted (through h e) rest v q = (h, sym (e rest) ∙ q)
  gate-granted (stops h n p e) rest v q = cc (e rest)

  pub gate-refused : Gate P f → (v : List ℕ) (n p : ℕ) → f (granted v) ≡ refused n p → Stops f n p
  gate-refused (through h e) v n p q rest = cc (e (granted v))
  gate-refused (stops h n' p' e) v n p q rest = e rest ∙ sym (e (granted v)) ∙ q

  pub gate_through : Gate P f → P → Through f
  gate_through (through h e) x = e
  gate_through (stops h n p e) x = absurd (h x)

  pub gate_iff : {Q : Type 0} → (P → Q) → (Q → P) → Gate P f → Gate Q f
  gate_iff a b (through h e) = through (a h) e
  gate_iff a b (stops h n p e) = stops (λ q. h (b q)) n p e

pub gate_then : {P Q : Type 0} {f g : Reply → Reply} → Gate P f → Gate Q g → Gate (P × Q) (λ rest. f (g rest))
gate_then (through h e) (through l q) = through (h, l) (λ rest. e _ ∙ q rest)
gate_then (through h e) (stops l n p q) = stops (λ x. l x.1) n p (λ rest. e _ ∙ q rest)
gate_then (stops h n p e) y = stops (λ x. h x.0) n p (λ rest. e _)

module _ (n p : ℕ) where
  pub test-gate : (b : Bool) → Gate (b ≡ true) (test b n p)
  unfolding test
  test-gate true = through refl (λ rest. refl)
  test-gate false = stops false≢true n p (λ rest. refl)

  pub le-gate : (a b : ℕ) → Gate (a ≤ b) (test (leb a b) n p)
  le-gate a b = gate_iff (leb-true a b) (le-leb a b) (test-gate (leb a b))

  pub lt-gate : (a b : ℕ) → Gate (a < b) (test (ltb a b) n p)
  lt-gate a b = gate_iff (ltb-true a b) (lt-ltb a b) (test-gate (ltb a b))

  pub eq-gate : (a b : ℕ) → Gate (a ≡ b) (test (eqb a b) n p)
  eq-gate a b = gate_iff (eqb-true a b) (eq-eqb a b) (test-gate (eqb a b))

  -- one test of two things is two tests with the same refusal
  pub both_gate : {P Q : Type 0} (a b : Bool) → Gate P (test a n p) → Gate Q (test b n p) → Gate (P × Q) (test (a && b) n p)
  unfolding test
  both_gate true b x y = gate_then x y
  both_gate false b x y = gate_then x y

  pub between-gate : (low x high : ℕ) → Gate ((low ≤ x) × (x ≤ high)) (test (between low x high) n p)
  between-gate low x high = both_gate (leb low x) (leb x high) (le-gate low x) (le-gate x high)

-- the items from a on, as many as are left
pub each-gate : (P : ℕ → Type 0) (f : ℕ → Reply → Reply) → ((i : ℕ) → Gate (P i) (f i))
    → (a left : ℕ) → Gate ((i : ℕ) → a ≤ i → i < a + left → P i) (each f a left)
unfolding each
each-gate P f g a zero = through (λ i l h. absurd (omega arith)) (λ rest. refl)
each-gate P f g a (suc left) =
    gate_iff
    (λ h i l m. elim (ℕ_discrete a i) [ yes e ↦ rw e at h.0 | no o ↦ h.1 i (omega arith) (omega arith) ])
    (λ h. (h a (omega arith) (omega arith), λ i l m. h i (omega arith) (omega arith)))
    (gate_then (g a) (each-gate P f g (suc a) left))

pub all-gate : (P : ℕ → Type 0) (f : ℕ → Reply → Reply) → ((i : ℕ) → Gate (P i) (f i))
    → (n : ℕ) → Gate ((i : ℕ) → i < n → P i) (each f 0 n)
all-gate P f g n =
    gate_iff (λ h i l. h i (omega arith) (omega arith)) (λ h i l m. h i (omega arith)) (each-gate P f g 0 n)
