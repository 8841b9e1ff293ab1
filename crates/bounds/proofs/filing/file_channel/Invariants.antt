-- The channels below k are filed, and channel k under the wires of its first hops.
use Rattle.rules.specs.Table.{View}
use Rattle.bounds.specs.Stages.{ToFile}
use Rattle.bounds.proofs.Hops.{FiledHops}
use Rattle.bounds.proofs.filing.file_channel.Given as goal

abbrev pub invariant-loop-w : goal.invariant-loop-w
invariant-loop-w l = (t : View) → ToFile t l.k l.channel l.fn.filed → FiledHops t l.k l.w-index l.filed
