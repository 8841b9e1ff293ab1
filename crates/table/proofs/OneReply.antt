-- No two replies that differ meet a function's contract on the same arguments.
use mathlib.Core.Path.{◌≡◌, sym, ◌∙◌}
use contract.Lifetimes.{Lfts}
use denote.Triple.Clauses.{AtExit}
use borrow.Fn.World.{ArgsD, ResD}
use borrow.Fn.Kinds.{ended_of}
use Rattle.rules.specs.Table.{view_of}
use Rattle.rules.specs.Decoded.{table_of}
use Rattle.rules.proofs.Replies.{granted-one}
use Rattle.table.specs.contracts.none as none
use Rattle.table.proofs.none.Kinds as none-kinds
use Rattle.table.proofs.none.Reads as none_reads
use Rattle.table.specs.contracts.read as read
use Rattle.table.proofs.read.Kinds as read-kinds
use Rattle.table.proofs.read.Reads as read-reads

module _ (κs : Lfts 0) where
  pub none-one : (a : ArgsD none.signature κs) (r r' : ResD none.signature κs)
      (e e' : AtExit (ended_of 0 none-kinds.ps none-kinds.r) κs)
      → none_reads.Post κs a r e → none_reads.Post κs a r' e' → r ≡ r'
  none-one a r r' e e' p q = p ∙ sym q

module _ (κs : Lfts 1) where
  pub read-one :
      (a : ArgsD read.signature κs) (r r' : ResD read.signature κs) (e e' : AtExit (ended_of 1 read-kinds.ps read-kinds.r) κs)
      → read-reads.Post κs a r e → read-reads.Post κs a r' e' → r ≡ r'
  read-one a r r' e e' p q = granted-one (table_of (view_of a.0.now)) r r' (p.0 ∙ sym q.0) p.1 q.1
