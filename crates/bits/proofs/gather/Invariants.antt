-- n is the field of the bytes so far.
use Rattle.std.proofs.Common.{◌≡◌, ◌*◌}
use Rattle.bits.specs.Field.{field}
use Rattle.bits.proofs.gather.Given as goal

abbrev pub invariant-loop-byte : goal.invariant-loop-byte
invariant-loop-byte l = l.n ≡ field l.bytes 0 (8 * l.byte-index)
