use Rattle.std.proofs.Common.{arith}
use Rattle.bounds.proofs.Those.{raised-start, raised-fits, raised-next}
use Rattle.bounds.proofs.walking.raise.Goals as goal

pub loop-k-init : goal.loop-k-init
loop-k-init c = raised-start c.args.by c.args.known.now

pub overflow_add-known : goal.overflow_add-known
overflow_add-known c =
    omega (
      arith,
      raised-fits c.args.channels.now c.args.by c.args.known.now c.requires c.loop-k.k-index (omega arith) c.loop-k.known
          c.loop-k.invariant c.wide.result c.wide.ensures,
    )

pub loop-k-preserved : goal.loop-k-preserved
loop-k-preserved c =
    raised-next c.args.channels.now c.args.by c.args.known.now c.requires c.loop-k.k-index (omega arith) c.loop-k.known
    c.loop-k.invariant c.wide.result c.wide.ensures (omega arith)
