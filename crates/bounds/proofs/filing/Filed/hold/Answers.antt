use Rattle.std.proofs.Common.{ℕ, ◌*◌, ◌∙◌, ap, arith}
use borrow.Author.Tests.{lt-ltb}
use Rattle.bounds.specs.Filed.{ahead}
use Rattle.bounds.proofs.Ceil.{up-ceil}
use Rattle.bounds.proofs.filing.Filed.hold.Goals as goal

pub returns : goal.returns
returns c =
    rw (lt-ltb 0 c.args.self.now.count (omega arith))
    (ap (λ (x : ℕ). c.args.rate * x)
    (c.div_ceil.ensures ∙ rw c.ahead.ensures (up-ceil (ahead c.args.self.now) c.args.rate (omega arith))))
