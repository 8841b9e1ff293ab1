-- A stage's answer by what its tests do, and back.
use mathlib.Core.Path.{◌≡◌, ◌∙◌}
use Rattle.std.specs.Prelude.{Result, Ok, Err, IfOk}
use Rattle.rules.specs.declared.Refusal.{Refusal}
use Rattle.rules.specs.Replies.{Reply, refusal_number, refusal_place, after}
use Rattle.rules.proofs.Tests.{Stops}

-- of tests that give this refusal
abbrev pub Refused : (Reply → Reply) → Refusal → Type 0
Refused f r = Stops f (refusal_number r) (refusal_place r)

-- what a stage's contract says: its tests f, what is left of them where they pass, and what holds of what it leaves
abbrev pub Answers : {A : Type 0} → (Reply → Reply) → (Reply → Reply) → (A → Type 0) → Result A Refusal → Type 0
Answers f left P a = ((rest : Reply) → f rest ≡ after a (left rest)) × IfOk a P

pub refusal : {A : Type 0} {f : Reply → Reply} (left : Reply → Reply) (P : A → Type 0) (r : Refusal)
    → Refused f r → Answers f left P (Err r)
refusal left P r h = (h, tt)

-- of a stage that was called
module _ {A : Type 0} (f left : Reply → Reply) (a : Result A Refusal) (h : (rest : Reply) → f rest ≡ after a (left rest)) where
  pub refused-by : (r : Refusal) → a ≡ Err r → Refused f r
  refused-by r e rest = h rest ∙ rw e

  pub passed_by : (x : A) → a ≡ Ok x → (rest : Reply) → f rest ≡ left rest
  passed_by x e rest = h rest ∙ rw e

pub read_of : {A : Type 0} (P : A → Type 0) (a : Result A Refusal) (x : A) → a ≡ Ok x → IfOk a P → P x
read_of P a x e h = rw e at h
