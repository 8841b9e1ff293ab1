-- The text of what was worked out.
use Rattle.std.specs.Prelude.{List, [], ◌∷◌, ◌++◌, ℕ, get_or, Result, Ok, Err}
use Rattle.rules.specs.declared.Table.{Table}
use Rattle.rules.specs.declared.Bounded.{Bounded}
use Rattle.rules.specs.declared.Refusal.{Refusal}
use Rattle.rules.specs.Replies.{refusal_number, refusal_place}
use Rattle.rules.specs.Decoded.{no_channel, backlog_in, delay_in, end_in}
use Rattle.rules.specs.Text.{word, line, lines, refused_text}

-- the deadline of channel k; 0 past the table's array
abbrev pub deadline_in : Table → ℕ → ℕ
deadline_in t k = (get_or t.channel k no_channel).deadline

abbrev pub wires_text : Bounded → List ℕ
wires_text b = lines (word "link") (backlog_in b.figures) (delay_in b.figures) b.table.wires

abbrev pub channels_text : Bounded → List ℕ
channels_text b = lines (word "channel") (end_in b.figures) (deadline_in b.table) b.table.channels

abbrev pub bounded_text : Bounded → List ℕ
bounded_text b = line (word "accepted") (b.table.wires ∷ b.table.channels ∷ []) ++ wires_text b ++ channels_text b

abbrev pub verdict_text : Result Bounded Refusal → List ℕ
verdict_text (Ok b) = bounded_text b
verdict_text (Err r) = refused_text (refusal_number r) (refusal_place r)
