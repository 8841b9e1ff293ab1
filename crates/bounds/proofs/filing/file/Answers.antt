use Rattle.std.proofs.Common.{ℕ, subst, arith}
use Rattle.bounds.specs.Stages.{FiledBelow}
use Rattle.bounds.proofs.Hops.{filed-none}
use Rattle.bounds.proofs.Read.{table-told, to-file}
use Rattle.bounds.proofs.filing.file.Goals as goal

pub loop-k-init : goal.loop-k-init
loop-k-init c = λ t read. rw c.requires.none (filed-none t)

pub file_channel-requires : goal.file_channel-requires
file_channel-requires c =
    let t = c.requires.as_read.0 in
    let read = c.requires.as_read.1 in
    (t, to-file read c.loop-k.k (omega arith) _ (c.loop-k.invariant t read))

pub loop-k-preserved : goal.loop-k-preserved
loop-k-preserved c = λ t read.
    c.file_channel.ensures t (to-file read c.loop-k.k (omega arith) _ (c.loop-k.invariant t read))

pub returns : goal.returns
returns c = λ t read.
    subst (λ (m : ℕ). FiledBelow t m c.loop-k.under) (omega (arith, (table-told read).channels)) (c.loop-k.invariant t read)
