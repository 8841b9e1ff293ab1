-- The channels below k are filed.
use Rattle.rules.specs.Table.{View}
use Rattle.bounds.specs.Stages.{AsRead, FiledBelow}
use Rattle.bounds.proofs.filing.file.Given as goal

abbrev pub invariant-loop-k : goal.invariant-loop-k
invariant-loop-k l = (t : View) → AsRead t l.table → FiledBelow t l.k l.under
