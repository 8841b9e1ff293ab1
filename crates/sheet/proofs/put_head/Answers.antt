-- Two fields, the second where the first ends.
use Rattle.std.proofs.Common.{◌∙◌, arith}
use Rattle.rules.proofs.Sheet.Putting.{head-put}
use Rattle.sheet.proofs.put_head.Goals as goal

pub returns : goal.returns
returns c =
    let a = c.args in
    c.write-2.ensures.s_after
    ∙ rw c.write.ensures.s_after (head-put a.sheet.now a.counts.wires a.counts.channels (omega arith) (omega arith) c.requires)
