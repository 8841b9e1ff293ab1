-- What the private functions of `bits` ask of one another.
use Rattle.std.specs.Prelude.{ℕ, ◌+◌, ◌*◌, ◌≤◌}
use Rattle.bits.specs.Field.{widest}

-- the bytes from `first`, at most eight, hold the w bits that start at bit at
pub record Around (first count at w : ℕ) : Type 0 where
  pub few : count ≤ 8
  pub some : 1 ≤ w
  pub narrow : w ≤ widest
  pub starts : 8 * first ≤ at
  pub ends : at + w ≤ 8 * (first + count)
