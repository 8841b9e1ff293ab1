use Rattle.std.proofs.Common.{refl, ◌∙◌, arith}
use Rattle.rules.specs.Words.{entries}
use Rattle.rules.specs.Sheet.{end_at, with_channels}
use Rattle.rules.proofs.Sheet.Putting.{channel-put}
use Rattle.sheet.proofs.put_channels.Goals as goal

pub loop-k-init : goal.loop-k-init
unfolding with_channels
loop-k-init c = refl

pub loop-k-preserved : goal.loop-k-preserved
unfolding end_at
loop-k-preserved c =
    let a = c.args in
    let k = c.loop-k.k in
    c.write.ensures.s_after
    ∙ channel-put a.sheet.now c.loop-k.sheet c.end_at.result a.counts.wires (entries a.end.now) k c.loop-k.invariant
    c.end_at.ensures (omega arith) (c.requires.end_fits k (omega arith))
