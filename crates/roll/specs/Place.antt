-- Where a part of a lent byte string stands.
use Rattle.std.specs.Prelude.{ℕ, ◌+◌}

-- from a place, a block and an offset there, so many bytes on
abbrev pub from : ℕ × ℕ → ℕ → ℕ × ℕ
from place start = (place.0, place.1 + start)
