-- Of a table as read, what its wires and channels are.
use mathlib.Core.Path.{◌≡◌, ap₂, ◌∙◌}
use mathlib.Core.Bool.{false}
use mathlib.Core.List.{List, []}
use Prim.Native.Nat.{ℕ, ◌*◌, ◌^◌, ◌≤◌, ◌<◌}
use native.Mathlib.Nat.{mul-le-mul}
use native.Mathlib.Omega.{arith}
use lib.ListN.{get_or, take}
use Rattle.std.proofs.lemmas.List.{get_or-take}
use Rattle.bounds.specs.declared.filing.Filed.{Filed}
use Rattle.rules.specs.declared.Wire.{Wire}
use Rattle.rules.specs.declared.Channel.{Channel}
use Rattle.rules.specs.declared.Table.{Table}
use Rattle.rules.specs.Numbers.{wires_most, channels_most, hops_most}
use Rattle.rules.specs.Table.{View}
use Rattle.rules.specs.Bounds.{part}
use Rattle.rules.specs.Decoded.{no_channel, channel_of}
use Rattle.rules.specs.Sound.{Sound}
use Rattle.rules.proofs.Bounds.Sizes.{part-most}
use Rattle.rules.proofs.Tables.Columns.{entry_at}
use Rattle.rules.proofs.Tables.Told.{Told, told, WireTold, wire_at, channel_told}
use Rattle.bounds.specs.Stages.{AsRead, FiledBelow, ToFile}

-- what goals name for no element
abbrev pub blank : Filed
blank = record { list = []; count = 0; load = 0; first = false }

pub part-fits : (t : View) → Sound t → (k : ℕ) (r : Channel) → k < t.channels → r ≡ channel_of t k
    → (r.price * r.times ≡ part t k) × (r.price * r.times < 2 ^ 64)
part-fits t sound k r l e =
    let c = channel_told t k r e in
    let is : r.price * r.times ≡ part t k = ap₂ (λ (x y : ℕ). x * y) c.price c.times in
    (is, omega (arith, is, part-most t sound k l))

pub hops_fit : {t : View} {k : ℕ} {r : Channel} {filed : List Filed} → ToFile t k r filed → r.hops ≤ hops_most
hops_fit {t} {k} {r} to = omega (arith, (channel_told t k r to.channel).hops, to.sound.hops_at_most k to.less)

module _ {t : View} {r : Table} (read : AsRead t r) where
  pub table-told : Told t r
  table-told = told t r read.table

  pub wires_fit : r.wires ≤ wires_most
  wires_fit = omega (arith, table-told.wires, read.sound.wires_at_most)

  pub channels_fit : r.channels ≤ channels_most
  channels_fit = omega (arith, table-told.channels, read.sound.channels_at_most)

  module _ (w : ℕ) (l : w < r.wires) where
    pub wire-less : w < t.wires
    wire-less = omega (arith, table-told.wires)

    pub wire-small : w < wires_most
    wire-small = omega (arith, wires_fit)

    pub wire-told : (d : Wire) → WireTold t w (get_or (take r.wires r.wire) w d)
    wire-told d = rw (get_or-take r.wires r.wire w d l) (wire_at t read.sound r table-told w d wire-less)

    pub limit : (d : Wire) → (get_or (take r.wires r.wire) w d).rate * r.hyper ≡ t.rate w * t.hyper
    limit d = ap₂ (λ (x y : ℕ). x * y) (wire-told d).rate table-told.hyper

    pub limit_fits : (d : Wire) → (get_or (take r.wires r.wire) w d).rate * r.hyper < 2 ^ 64
    limit_fits d = omega (arith, limit d, mul-le-mul (read.sound.rate_at_most w wire-less) read.sound.hyper_at_most)

  -- channel k, where those below it are filed
  pub to-file : (k : ℕ) → k < r.channels → (d : Channel) {filed : List Filed} → FiledBelow t k filed
      → ToFile t k (get_or (take r.channels r.channel) k d) filed
  to-file k l d before =
      let less : k < t.channels = omega (arith, table-told.channels) in
      record {
        sound = read.sound;
        less = less;
        channel =
            get_or-take r.channels r.channel k d l
            ∙ entry_at no_channel channels_most t.channels (channel_of t) r.channel table-told.channel
            read.sound.channels_at_most k d less;
        before = before;
      }
