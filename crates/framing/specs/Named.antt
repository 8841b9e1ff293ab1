-- The framings by their numbers.
use Rattle.std.specs.Prelude.{◌≡◌, ℕ, ◌≤◌, Result, Ok, Err, length}
use Rattle.rules.specs.declared.Refusal.{Refusal}
use Rattle.rules.specs.declared.Refusal.TheVariants as refusal
use Rattle.rules.specs.Price.{rows}
use Rattle.framing.specs.declared.Framing.{Framing}
use Rattle.framing.specs.declared.Framing.TheVariants as framing

abbrev pub framing_number : Framing → ℕ
framing_number framing.Plain = 0
framing_number framing.Udp = 1

-- the framing of a number, or the refusal of one that has none
abbrev pub Named : ℕ → Result Framing Refusal → Type 0
Named number (Ok framing) = number ≡ framing_number framing
Named number (Err r) = (length rows ≤ number) × (r ≡ refusal.Framing)
