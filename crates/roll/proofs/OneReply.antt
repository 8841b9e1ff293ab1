-- No two replies that differ meet a function's contract on the same arguments.
use mathlib.Core.Path.{◌≡◌, sym, ◌∙◌}
use contract.Lifetimes.{Lfts}
use denote.Triple.Clauses.{AtExit}
use borrow.Fn.World.{ArgsD, ResD}
use borrow.Fn.Kinds.{ended_of}
use Rattle.rules.proofs.Replies.{label-one}
use Rattle.roll.specs.contracts.ask as ask
use Rattle.roll.proofs.ask.Kinds as ask-kinds
use Rattle.roll.proofs.ask.Reads as ask-reads
use Rattle.roll.specs.contracts.label as label
use Rattle.roll.proofs.label.Kinds as label-kinds
use Rattle.roll.proofs.label.Reads as label-reads

module _ (κs : Lfts 1) where
  pub ask-one : (a : ArgsD ask.signature κs) (r r' : ResD ask.signature κs)
      (e e' : AtExit (ended_of 1 ask-kinds.ps ask-kinds.r) κs)
      → ask-reads.Post κs a r e → ask-reads.Post κs a r' e' → r ≡ r'
  ask-one a r r' e e' p q = label-one r r' (p ∙ sym q)

  -- the bytes, and where they stand
  pub label_same : (a : ArgsD label.signature κs) (r r' : ResD label.signature κs)
      (e e' : AtExit (ended_of 1 label-kinds.ps label-kinds.r) κs)
      → label-reads.Post κs a r e → label-reads.Post κs a r' e' → (r.now ≡ r'.now) × (r.ref_ptr ≡ r'.ref_ptr)
  label_same a r r' e e' p q = (p.0 ∙ sym q.0, p.1 ∙ sym q.1)
