-- No two replies that differ meet a function's contract on the same arguments; nor do two buffers.
use mathlib.Core.Path.{◌≡◌, sym, ◌∙◌}
use contract.Lifetimes.{Lfts}
use denote.Triple.Clauses.{AtExit}
use borrow.Fn.World.{ArgsD, ResD}
use borrow.Fn.Kinds.{ended_of}
use Rattle.rules.proofs.Replies.{wire-one, channel-one}
use Rattle.sheet.specs.contracts.ask_wire as wire
use Rattle.sheet.proofs.ask_wire.Kinds as wire-kinds
use Rattle.sheet.proofs.ask_wire.Reads as wire-reads
use Rattle.sheet.specs.contracts.ask_channel as channel
use Rattle.sheet.proofs.ask_channel.Kinds as channel-kinds
use Rattle.sheet.proofs.ask_channel.Reads as channel-reads
use Rattle.sheet.specs.contracts.write as write
use Rattle.sheet.proofs.write.Kinds as write-kinds
use Rattle.sheet.proofs.write.Reads as write-reads

module _ (κs : Lfts 1) where
  pub ask-wire-one :
      (a : ArgsD wire.signature κs) (r r' : ResD wire.signature κs) (e e' : AtExit (ended_of 1 wire-kinds.ps wire-kinds.r) κs) →
      wire-reads.Post κs a r e → wire-reads.Post κs a r' e' → r ≡ r'
  ask-wire-one a r r' e e' p q = wire-one r r' (p ∙ sym q)

  pub ask-channel-one :
      (a : ArgsD channel.signature κs) (r r' : ResD channel.signature κs)
      (e e' : AtExit (ended_of 1 channel-kinds.ps channel-kinds.r) κs) →
      channel-reads.Post κs a r e → channel-reads.Post κs a r' e' → r ≡ r'
  ask-channel-one a r r' e e' p q = channel-one r r' (p ∙ sym q)

pub write-one :
    (κs : Lfts 2) (a : ArgsD write.signature κs) (r r' : ResD write.signature κs)
    (e e' : AtExit (ended_of 2 write-kinds.ps write-kinds.r) κs) →
    write-reads.Post κs a r e → write-reads.Post κs a r' e' → (r ≡ r') × (e.0.now ≡ e'.0.now)
write-one κs a r r' e e' p q = (p.0 ∙ sym q.0, p.1 ∙ sym q.1)
