-- Request Q-4: office machines on the wires, and for how long a wire may be held for their frames.
use Rattle.std.specs.Prelude.{Bool, cond, ℕ, ◌*◌}
use Rattle.rules.specs.Words.{up, begins, some}
use Rattle.rules.specs.Price.{full_frame}
use Rattle.rules.specs.Table.{View}

-- a wire that is first on some route
abbrev pub first : View → ℕ → Bool
first t w = some (λ k. begins w (t.route k)) t.channels

-- K is 3,084 / rate rounded up for a wire that is first on some route, else 1,542 / rate rounded up: two full frames, or one.
unfoldable pub K : View → ℕ → ℕ
K t w = up (cond (first t w) (2 * full_frame) full_frame) (t.rate w)
