-- What the bounds tell the rest of the judgement.
use Rattle.std.specs.Prelude.{◌≡◌, Bool, List, ℕ, take, ltb}
use Rattle.std.specs.List.{zip}
use Rattle.rules.specs.declared.Bounded.{Bounded}
use Rattle.rules.specs.declared.Channel.{Channel}
use Rattle.rules.specs.Table.{View}
use Rattle.rules.specs.Sound.{Sound}
use Rattle.rules.specs.Decoded.{table_of, figures_of}

-- a table that was read, of the view t, and its figures
pub record BoundsOf (t : View) (b : Bounded) : Type 0 where
  pub sound : Sound t
  pub table : b.table ≡ table_of t
  pub figures : b.figures ≡ figures_of t

-- each channel beside its end-to-end delay
abbrev pub ends_of : Bounded → List (Channel × ℕ)
ends_of b = zip (take b.table.channels b.table.channel) b.figures.end

-- that is over its deadline
abbrev pub is_late : Channel × ℕ → Bool
is_late p = ltb p.0.deadline p.1
