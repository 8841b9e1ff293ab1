-- No two replies that differ meet a function's contract on the same arguments.
use mathlib.Core.Path.{◌≡◌, sym, ◌∙◌}
use contract.Lifetimes.{Lfts}
use denote.Triple.Clauses.{AtExit}
use borrow.Fn.World.{ArgsD, ResD}
use borrow.Fn.Kinds.{ended_of}
use Rattle.rules.specs.contracts.constants as constants
use Rattle.rules.proofs.constants.Kinds as constants-kinds
use Rattle.rules.proofs.constants.Reads as constants-reads
use Rattle.rules.specs.contracts.Refusal.number as number
use Rattle.rules.proofs.Refusal.number.Kinds as number-kinds
use Rattle.rules.proofs.Refusal.number.Reads as number-reads
use Rattle.rules.specs.contracts.Refusal.place as place
use Rattle.rules.proofs.Refusal.place.Kinds as place-kinds
use Rattle.rules.proofs.Refusal.place.Reads as place-reads

pub constants-one :
    (κs : Lfts 0) (a : ArgsD constants.signature κs) (r r' : ResD constants.signature κs)
    (e e' : AtExit (ended_of 0 constants-kinds.ps constants-kinds.r) κs) →
    constants-reads.Post κs a r e → constants-reads.Post κs a r' e' → r ≡ r'
constants-one κs a r r' e e' p q = p ∙ sym q

pub number-one :
    (κs : Lfts 0) (a : ArgsD number.signature κs) (r r' : ResD number.signature κs)
    (e e' : AtExit (ended_of 0 number-kinds.ps number-kinds.r) κs) →
    number-reads.Post κs a r e → number-reads.Post κs a r' e' → r ≡ r'
number-one κs a r r' e e' p q = p ∙ sym q

pub place-one :
    (κs : Lfts 0) (a : ArgsD place.signature κs) (r r' : ResD place.signature κs)
    (e e' : AtExit (ended_of 0 place-kinds.ps place-kinds.r) κs) →
    place-reads.Post κs a r e → place-reads.Post κs a r' e' → r ≡ r'
place-one κs a r r' e e' p q = p ∙ sym q
