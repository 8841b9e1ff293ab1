-- A table as read: the view's numbers in arrays of wires and channels, and its figures.
use Rattle.std.specs.Prelude.{List, ℕ, cond, length, get_or, replicate, ltb}
use Rattle.rules.specs.declared.Wire.{Wire}
use Rattle.rules.specs.declared.Channel.{Channel}
use Rattle.rules.specs.declared.Table.{Table}
use Rattle.rules.specs.declared.WireFigures.{WireFigures}
use Rattle.rules.specs.declared.Figures.{Figures}
use Rattle.rules.specs.Words.{listed, entries}
use Rattle.rules.specs.Numbers.{wires_most, channels_most, hops_most}
use Rattle.rules.specs.Table.{View}
use Rattle.rules.specs.Bounds.{cost, times, backlog, delay, end_to_end}

-- f 0, f 1, .. f (n - 1), and what stands for none from there on, in so many places
unfoldable pub column : {A : Type 0} → A → ℕ → ℕ → (ℕ → A) → List A
column none places n f = listed (λ i. cond (ltb i n) (f i) none) places

abbrev pub no_wire : Wire
no_wire = record { rate = 0; prop = 0; room = 0 }

unfoldable pub wire_of : View → ℕ → Wire
wire_of t w = record { rate = t.rate w; prop = t.prop w; room = t.room w }

abbrev pub no_channel : Channel
no_channel = record { price = 0; times = 0; deadline = 0; hops = 0; route = replicate hops_most 0 }

unfoldable pub channel_of : View → ℕ → Channel
channel_of t k =
    record {
      price = cost t k;
      times = times t k;
      deadline = t.deadline k;
      hops = length (t.route k);
      route = column 0 hops_most (length (t.route k)) (entries (t.route k));
    }

unfoldable pub table_of : View → Table
table_of t =
    record {
      hyper = t.hyper;
      wires = t.wires;
      channels = t.channels;
      wire = column no_wire wires_most t.wires (wire_of t);
      channel = column no_channel channels_most t.channels (channel_of t);
    }

unfoldable pub no_table : Table
no_table =
    record {
      hyper = 0;
      wires = 0;
      channels = 0;
      wire = replicate wires_most no_wire;
      channel = replicate channels_most no_channel;
    }

abbrev pub no_wire_figures : WireFigures
no_wire_figures = record { backlog = 0; delay = 0 }

unfoldable pub wire_figures_of : View → ℕ → WireFigures
wire_figures_of t w = record { backlog = backlog t w; delay = delay t w }

-- the figures of a view
unfoldable pub figures_of : View → Figures
figures_of t =
    record {
      wire = column no_wire_figures wires_most t.wires (wire_figures_of t);
      end = column 0 channels_most t.channels (end_to_end t);
    }

unfoldable pub no_figures : Figures
no_figures = record { wire = replicate wires_most no_wire_figures; end = replicate channels_most 0 }

-- of figures the backlog and the delay of wire w, and the end-to-end delay of channel k; 0 past the arrays
abbrev pub backlog_in : Figures → ℕ → ℕ
backlog_in f w = (get_or f.wire w no_wire_figures).backlog

abbrev pub delay_in : Figures → ℕ → ℕ
delay_in f w = (get_or f.wire w no_wire_figures).delay

abbrev pub end_in : Figures → ℕ → ℕ
end_in f k = get_or f.end k 0
