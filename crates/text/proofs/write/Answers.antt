-- The buffer is filled first, and the text laid over it.
use Rattle.std.proofs.Common.{length, arith}
use Rattle.rules.specs.Text.{text}
use Rattle.rules.proofs.Text.Laid.{written-whole}
use Rattle.text.proofs.write.Goals as goal

pub returns-clause-lent_after : goal.returns-clause-lent_after
returns-clause-lent_after c =
    let a = c.args in
    (written-whole (length a.lent.now) (text a.table.now) c.fill.ensures c.put_text-end.ensures (omega arith)).1
