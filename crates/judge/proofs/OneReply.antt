-- No two replies that differ meet the judge's contract on the same arguments; nor do two buffers.
use mathlib.Core.Path.{◌≡◌, sym, ◌∙◌}
use contract.Lifetimes.{Lfts}
use denote.Triple.Clauses.{AtExit}
use borrow.Fn.World.{ArgsD, ResD}
use borrow.Fn.Kinds.{ended_of}
use Rattle.rules.proofs.Replies.{judging-one}
use Rattle.judge.specs.contracts.judge as judge
use Rattle.judge.proofs.judge.Kinds as judge-kinds
use Rattle.judge.proofs.judge.Reads as judge-reads

pub judge-one :
    (κs : Lfts 2) (a : ArgsD judge.signature κs) (r r' : ResD judge.signature κs)
    (e e' : AtExit (ended_of 2 judge-kinds.ps judge-kinds.r) κs) →
    judge-reads.Post κs a r e → judge-reads.Post κs a r' e' → (r ≡ r') × (e.1.0.now ≡ e'.1.0.now)
judge-one κs a r r' e e' p q = (judging-one r r' (p.0 ∙ sym q.0), p.1 ∙ sym q.1)
