-- What the parts of writing go by.
use Rattle.std.specs.Prelude.{List, ℕ, get_or, length}
use Rattle.rules.specs.declared.Figures.{Figures}
use Rattle.rules.specs.declared.WireFigures.{WireFigures}
use Rattle.rules.specs.Decoded.{no_wire_figures, backlog_in, delay_in, end_in}
use Rattle.rules.specs.Sheet.{with_wires, sheet_of}

-- of a list of figures the backlog and the delay of wire w
abbrev pub backlogs : List WireFigures → ℕ → ℕ
backlogs f w = (get_or f w no_wire_figures).backlog

abbrev pub delays : List WireFigures → ℕ → ℕ
delays f w = (get_or f w no_wire_figures).delay

-- the figures of these wires put into the bytes b
abbrev pub wires_put : List WireFigures → List ℕ → List ℕ
wires_put f b = with_wires (backlogs f) (delays f) (length f) b

-- the sheet of so many wires and channels of the figures
abbrev pub sheet_for : ℕ → ℕ → Figures → List ℕ
sheet_for n m f = sheet_of n m (backlog_in f) (delay_in f) (end_in f)
