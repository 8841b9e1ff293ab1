-- No two replies that differ meet a function's contract on the same arguments; nor do two buffers.
use mathlib.Core.Path.{◌≡◌, sym, ◌∙◌}
use contract.Lifetimes.{Lfts}
use denote.Triple.Clauses.{AtExit}
use borrow.Fn.World.{ArgsD, ResD}
use borrow.Fn.Kinds.{ended_of}
use Rattle.text.specs.contracts.write as write
use Rattle.text.proofs.write.Kinds as write-kinds
use Rattle.text.proofs.write.Reads as write-reads

module _ (κs : Lfts 2) where
  pub write-one : (a : ArgsD write.signature κs) (r r' : ResD write.signature κs)
      (e e' : AtExit (ended_of 2 write-kinds.ps write-kinds.r) κs)
      → write-reads.Post κs a r e → write-reads.Post κs a r' e' → (r ≡ r') × (e.1.0.now ≡ e'.1.0.now)
  write-one a r r' e e' p q = (p.0 ∙ sym q.0, p.1 ∙ sym q.1)
