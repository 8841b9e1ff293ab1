-- No two replies that differ meet a function's contract on the same arguments.
use mathlib.Core.Path.{◌≡◌, sym, ◌∙◌}
use contract.Lifetimes.{Lfts}
use denote.Triple.Clauses.{AtExit}
use borrow.Fn.World.{ArgsD, ResD}
use borrow.Fn.Kinds.{ended_of}
use Rattle.magsurinda.specs.contracts.magsurinda_judge as judge
use Rattle.magsurinda.proofs.magsurinda_judge.Kinds as judge-kinds
use Rattle.magsurinda.proofs.magsurinda_judge.Reads as judge-reads
use Rattle.magsurinda.specs.contracts.magsurinda_price as price
use Rattle.magsurinda.proofs.magsurinda_price.Kinds as price-kinds
use Rattle.magsurinda.proofs.magsurinda_price.Reads as price-reads
use Rattle.magsurinda.specs.contracts.magsurinda_requests as requests
use Rattle.magsurinda.proofs.magsurinda_requests.Kinds as requests-kinds
use Rattle.magsurinda.proofs.magsurinda_requests.Reads as requests-reads
use Rattle.magsurinda.specs.contracts.magsurinda_ask_wire as ask-wire
use Rattle.magsurinda.proofs.magsurinda_ask_wire.Kinds as ask-wire-kinds
use Rattle.magsurinda.proofs.magsurinda_ask_wire.Reads as ask-wire-reads
use Rattle.magsurinda.specs.contracts.magsurinda_label as label
use Rattle.magsurinda.proofs.magsurinda_label.Kinds as label-kinds
use Rattle.magsurinda.proofs.magsurinda_label.Reads as label-reads
use Rattle.magsurinda.specs.contracts.magsurinda_ask_channel as ask-channel
use Rattle.magsurinda.proofs.magsurinda_ask_channel.Kinds as ask-channel-kinds
use Rattle.magsurinda.proofs.magsurinda_ask_channel.Reads as ask-channel-reads

pub price-one :
    (κs : Lfts 0) (a : ArgsD price.signature κs) (r r' : ResD price.signature κs)
    (e e' : AtExit (ended_of 0 price-kinds.ps price-kinds.r) κs) →
    price-reads.Post κs a r e → price-reads.Post κs a r' e' → r ≡ r'
price-one κs a r r' e e' p q = p ∙ sym q

pub requests-one :
    (κs : Lfts 0) (a : ArgsD requests.signature κs) (r r' : ResD requests.signature κs)
    (e e' : AtExit (ended_of 0 requests-kinds.ps requests-kinds.r) κs) →
    requests-reads.Post κs a r e → requests-reads.Post κs a r' e' → r ≡ r'
requests-one κs a r r' e e' p q = p ∙ sym q

module _ (κs : Lfts 1) where
  pub label-one :
      (a : ArgsD label.signature κs) (r r' : ResD label.signature κs)
      (e e' : AtExit (ended_of 1 label-kinds.ps label-kinds.r) κs) →
      label-reads.Post κs a r e → label-reads.Post κs a r' e' → r ≡ r'
  label-one a r r' e e' p q = p ∙ sym q

  pub ask-wire-one :
      (a : ArgsD ask-wire.signature κs) (r r' : ResD ask-wire.signature κs)
      (e e' : AtExit (ended_of 1 ask-wire-kinds.ps ask-wire-kinds.r) κs) →
      ask-wire-reads.Post κs a r e → ask-wire-reads.Post κs a r' e' → r ≡ r'
  ask-wire-one a r r' e e' p q = p ∙ sym q

  pub ask-channel-one :
      (a : ArgsD ask-channel.signature κs) (r r' : ResD ask-channel.signature κs)
      (e e' : AtExit (ended_of 1 ask-channel-kinds.ps ask-channel-kinds.r) κs) →
      ask-channel-reads.Post κs a r e → ask-channel-reads.Post κs a r' e' → r ≡ r'
  ask-channel-one a r r' e e' p q = p ∙ sym q

pub judge-one :
    (κs : Lfts 2) (a : ArgsD judge.signature κs) (r r' : ResD judge.signature κs)
    (e e' : AtExit (ended_of 2 judge-kinds.ps judge-kinds.r) κs) →
    judge-reads.Post κs a r e → judge-reads.Post κs a r' e' → (r ≡ r') × (e.1.0.now ≡ e'.1.0.now)
judge-one κs a r r' e e' p q = (p.0 ∙ sym q.0, p.1 ∙ sym q.1)
