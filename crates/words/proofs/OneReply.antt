-- No two replies that differ meet a function's contract on the same arguments; nor do two buffers.
use mathlib.Core.Path.{◌≡◌, sym, ◌∙◌}
use contract.Lifetimes.{Lfts}
use denote.Triple.Clauses.{AtExit}
use borrow.Fn.World.{ArgsD, ResD}
use borrow.Fn.Kinds.{ended_of}
use Rattle.words.specs.contracts.put as put
use Rattle.words.proofs.put.Kinds as put-kinds
use Rattle.words.proofs.put.Reads as put_reads
use Rattle.words.specs.contracts.put_line as put-line
use Rattle.words.proofs.put_line.Kinds as put-line-kinds
use Rattle.words.proofs.put_line.Reads as put-line-reads

module _ (κs : Lfts 2) where
  pub put-one : (a : ArgsD put.signature κs) (r r' : ResD put.signature κs)
      (e e' : AtExit (ended_of 2 put-kinds.ps put-kinds.r) κs)
      → put_reads.Post κs a r e → put_reads.Post κs a r' e' → (r ≡ r') × (e.0.now ≡ e'.0.now)
  put-one a r r' e e' p q = (p.0 ∙ sym q.0, p.1 ∙ sym q.1)

module _ (κs : Lfts 3) where
  pub put-line-one : (a : ArgsD put-line.signature κs) (r r' : ResD put-line.signature κs)
      (e e' : AtExit (ended_of 3 put-line-kinds.ps put-line-kinds.r) κs)
      → put-line-reads.Post κs a r e → put-line-reads.Post κs a r' e' → (r ≡ r') × (e.0.now ≡ e'.0.now)
  put-line-one a r r' e e' p q = (p.0 ∙ sym q.0, p.1 ∙ sym q.1)
