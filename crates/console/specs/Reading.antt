-- What the contracts of the readers cite.
use Rattle.std.specs.Prelude.{List, ◌≡◌, ℕ, ◌+◌, ◌-◌, ◌≤◌, ◌<◌, get_or, length, take, false, Result, Ok, Err}
use Rattle.console.specs.declared.Found.{Found}
use Rattle.console.specs.declared.Found.TheVariants.{Line}
use Rattle.console.specs.declared.Lines.{Lines}

-- the first n of s are in bounds, and are n. The second part follows from the first, and spares a caller of `&s[..n]` a proof.
abbrev pub IsPrefixLen : ℕ → List ℕ → Type 0
IsPrefixLen n s = (n ≤ length s) × (n ≡ length (take n s))

-- what was read is at the start of the buffer
abbrev pub Within : {E : Type 0} → Result ℕ E → List ℕ → Type 0
Within (Ok n) s = IsPrefixLen n s
Within (Err _) s = Unit

-- a line lies within the buffer, and has no newline
abbrev pub LineIn : {E : Type 0} → Result Found E → List ℕ → Type 0
LineIn (Ok (Line start end)) s =
    (start ≤ end)
    × (end ≤ length s)
    × ((k : ℕ) → k < end - start → get_or s (start + k) 0 ≡ 10 → ⊥)
LineIn _ s = Unit

-- nothing was read that is not handed out
abbrev pub nothing_read : Lines
nothing_read = record { from = 0; to = 0; cut = false; ended = false }
