-- No two replies that differ meet a function's contract on the same arguments; nor do two buffers.
use mathlib.Core.Path.{◌≡◌, refl, sym, ◌∙◌}
use contract.Lifetimes.{Lfts}
use denote.Triple.Clauses.{AtExit}
use borrow.Fn.World.{ArgsD, ResD}
use borrow.Fn.Kinds.{ended_of}
use Rattle.bits.proofs.holds.Kinds as holds-kinds
use Rattle.bits.proofs.holds.Reads as holds-reads
use Rattle.bits.proofs.read.Kinds as read-kinds
use Rattle.bits.proofs.read.Reads as read-reads
use Rattle.bits.proofs.write.Kinds as write-kinds
use Rattle.bits.proofs.write.Reads as write-reads
use Rattle.bits.proofs.wide.Kinds as wide-kinds
use Rattle.bits.proofs.wide.Reads as wide-reads
use Rattle.bits.specs.contracts.wide as wide
use Rattle.bits.proofs.part.Kinds as part-kinds
use Rattle.bits.proofs.part.Reads as part-reads
use Rattle.bits.specs.contracts.part as part
use Rattle.bits.proofs.fill.Kinds as fill-kinds
use Rattle.bits.proofs.fill.Reads as fill-reads
use Rattle.bits.specs.contracts.fill as fill
use Rattle.bits.proofs.number.Kinds as number-kinds
use Rattle.bits.proofs.number.Reads as number-reads
use Rattle.bits.specs.contracts.number as number
use Rattle.bits.specs.contracts.holds as holds
use Rattle.bits.specs.contracts.read as read
use Rattle.bits.specs.contracts.write as write

module _ (κs : Lfts 0) where
  pub wide-one : (a : ArgsD wide.signature κs) (r r' : ResD wide.signature κs)
      (e e' : AtExit (ended_of 0 wide-kinds.ps wide-kinds.r) κs)
      → wide-reads.Post κs a r e → wide-reads.Post κs a r' e' → r ≡ r'
  wide-one a r r' e e' p q = p ∙ sym q

  pub part-one : (a : ArgsD part.signature κs) (r r' : ResD part.signature κs)
      (e e' : AtExit (ended_of 0 part-kinds.ps part-kinds.r) κs)
      → part-reads.Post κs a r e → part-reads.Post κs a r' e' → r ≡ r'
  part-one a r r' e e' p q = p ∙ sym q

module _ (κs : Lfts 1) where
  pub fill-one : (a : ArgsD fill.signature κs) (r r' : ResD fill.signature κs)
      (e e' : AtExit (ended_of 1 fill-kinds.ps fill-kinds.r) κs)
      → fill-reads.Post κs a r e → fill-reads.Post κs a r' e' → (r ≡ r') × (e.0.now ≡ e'.0.now)
  fill-one a r r' e e' p q = (refl, p ∙ sym q)

  pub number-one : (a : ArgsD number.signature κs) (r r' : ResD number.signature κs)
      (e e' : AtExit (ended_of 1 number-kinds.ps number-kinds.r) κs)
      → number-reads.Post κs a r e → number-reads.Post κs a r' e' → r ≡ r'
  number-one a r r' e e' p q = p ∙ sym q

  pub holds-one : (a : ArgsD holds.signature κs) (r r' : ResD holds.signature κs)
      (e e' : AtExit (ended_of 1 holds-kinds.ps holds-kinds.r) κs)
      → holds-reads.Post κs a r e → holds-reads.Post κs a r' e' → r ≡ r'
  holds-one a r r' e e' p q = p ∙ sym q

  pub read-one : (a : ArgsD read.signature κs) (r r' : ResD read.signature κs)
      (e e' : AtExit (ended_of 1 read-kinds.ps read-kinds.r) κs)
      → read-reads.Post κs a r e → read-reads.Post κs a r' e' → r ≡ r'
  read-one a r r' e e' p q = p ∙ sym q

  pub write-one : (a : ArgsD write.signature κs) (r r' : ResD write.signature κs)
      (e e' : AtExit (ended_of 1 write-kinds.ps write-kinds.r) κs)
      → write-reads.Post κs a r e → write-reads.Post κs a r' e' → (r ≡ r') × (e.0.now ≡ e'.0.now)
  write-one a r r' e e' p q = (p.0 ∙ sym q.0, p.1 ∙ sym q.1)
