-- No two replies that differ meet the contract of `bounds` on the same bytes.
use mathlib.Core.Path.{◌≡◌, sym, ◌∙◌}
use contract.Lifetimes.{Lfts}
use denote.Triple.Clauses.{AtExit}
use borrow.Fn.World.{ArgsD, ResD}
use borrow.Fn.Kinds.{ended_of}
use Rattle.std.specs.Prelude.{List, ℕ, Result, Ok, Err, IfOk}
use Rattle.rules.specs.declared.Refusal.{Refusal}
use Rattle.rules.specs.declared.Bounded.{Bounded}
use Rattle.rules.specs.Table.{view_of}
use Rattle.rules.specs.Decoded.{table_of, figures_of}
use Rattle.rules.proofs.Replies.{granted-one}
use Rattle.bounds.specs.contracts.bounds as bounds
use Rattle.bounds.proofs.bounds.Kinds as bounds-kinds
use Rattle.bounds.proofs.bounds.Reads as bounds-reads

-- of an answer whose table and figures are told
both : (s : List ℕ) (a : Result Bounded Refusal) → IfOk a (λ b. b.table ≡ table_of (view_of s))
    → IfOk a (λ b. b.figures ≡ figures_of (view_of s))
    → IfOk a (λ b. b ≡ record { table = table_of (view_of s); figures = figures_of (view_of s) })
both s (Ok b) t f = λ i. record { table = t i; figures = f i }
both s (Err e) t f = tt

module _ (κs : Lfts 1) where
  pub bounds-one :
      (a : ArgsD bounds.signature κs) (r r' : ResD bounds.signature κs)
      (e e' : AtExit (ended_of 1 bounds-kinds.ps bounds-kinds.r) κs) →
      bounds-reads.Post κs a r e → bounds-reads.Post κs a r' e' → r ≡ r'
  bounds-one a r r' e e' p q =
      granted-one _ r r' (p.0 ∙ sym q.0) (both _ r p.1.0 p.1.1) (both _ r' q.1.0 q.1.1)
