-- Whether bits are all there, and what a `?` hands on.
use mathlib.Core.Path.{◌≡◌, sym, ◌∙◌}
use mathlib.Core.Bool.{Bool, true, false}
use mathlib.Core.List.{List}
use Prim.Native.Nat.{ℕ, ◌+◌, ◌*◌, ◌≤◌, ◌<◌}
use lib.ListN.{length}
use borrow.Author.Tests.{leb-false}
use Rattle.std.specs.Prelude.{Result, IsErrAnd}
use Rattle.std.proofs.lemmas.Result.{err_from_is_err_and}
use Rattle.bits.specs.Field.{within}
use Rattle.bits.proofs.Laws.{within-le}
use Rattle.rules.specs.declared.Refusal.{Refusal}
use Rattle.rules.specs.Replies.{Reply, after}
use Rattle.rules.proofs.Answers.{Refused}

-- a test of `holds`, that bits are all there
module _ (s : List ℕ) (at w : ℕ) (b : Bool) (e : b ≡ within s at w) where
  pub held : b ≡ true → at + w ≤ 8 * length s
  held h = within-le s at w (sym e ∙ h)

  pub missed : b ≡ false → 8 * length s < at + w
  missed h = leb-false (at + w) (8 * length s) (sym e ∙ h)

-- at the exit of a `?`, whose callee refused
pub handed : {A : Type 0} (f left : Reply → Reply) (a : Result A Refusal) (r : Refusal) → IsErrAnd a (λ e. e ≡ r) → Refused f r
    → (rest : Reply) → f rest ≡ after a (left rest)
handed f left a r h stops rest =
    let e = err_from_is_err_and a h in
    rw (e.1, e.2) (stops rest)
