-- No two replies that differ meet a function's contract on the same arguments.
use mathlib.Core.Path.{◌≡◌, sym, ◌∙◌}
use contract.Lifetimes.{Lfts}
use denote.Triple.Clauses.{AtExit}
use borrow.Fn.World.{ArgsD, ResD}
use borrow.Fn.Kinds.{ended_of}
use Rattle.rules.proofs.Replies.{pricing-one}
use Rattle.framing.specs.contracts.price as price
use Rattle.framing.proofs.price.Kinds as price-kinds
use Rattle.framing.proofs.price.Reads as price-reads
use Rattle.framing.specs.contracts.rate as rate
use Rattle.framing.proofs.rate.Kinds as rate-kinds
use Rattle.framing.proofs.rate.Reads as rate-reads

module _ (κs : Lfts 0) where
  pub price-one :
      (a : ArgsD price.signature κs) (r r' : ResD price.signature κs)
      (e e' : AtExit (ended_of 0 price-kinds.ps price-kinds.r) κs) →
      price-reads.Post κs a r e → price-reads.Post κs a r' e' → r ≡ r'
  price-one a r r' e e' p q = pricing-one r r' (p ∙ sym q)

  pub rate-one :
      (a : ArgsD rate.signature κs) (r r' : ResD rate.signature κs) (e e' : AtExit (ended_of 0 rate-kinds.ps rate-kinds.r) κs) →
      rate-reads.Post κs a r e → rate-reads.Post κs a r' e' → r ≡ r'
  rate-one a r r' e e' p q = p ∙ sym q
