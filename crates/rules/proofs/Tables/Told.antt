-- What the arrays of a table as read hold of its view.
use mathlib.Core.Path.{◌≡◌, refl}
use Prim.Native.Nat.{ℕ, ◌<◌}
use lib.ListN.{length, get_or}
use Rattle.rules.specs.declared.Wire.{Wire}
use Rattle.rules.specs.declared.Channel.{Channel}
use Rattle.rules.specs.declared.Table.{Table}
use Rattle.rules.specs.Words.{entries}
use Rattle.rules.specs.Numbers.{wires_most, channels_most, hops_most}
use Rattle.rules.specs.Table.{View}
use Rattle.rules.specs.Bounds.{cost, times}
use Rattle.rules.specs.Decoded.{column, no_wire, wire_of, no_channel, channel_of, table_of}
use Rattle.rules.specs.Sound.{Sound}
use Rattle.rules.proofs.Tables.Columns.{entry_at}

pub record Told (t : View) (r : Table) : Type 0 where
  pub hyper : r.hyper ≡ t.hyper
  pub wires : r.wires ≡ t.wires
  pub channels : r.channels ≡ t.channels
  pub wire : r.wire ≡ column no_wire wires_most t.wires (wire_of t)
  pub channel : r.channel ≡ column no_channel channels_most t.channels (channel_of t)

pub told : (t : View) (r : Table) → r ≡ table_of t → Told t r
unfolding table_of
told t r e = rw e (record { hyper = refl; wires = refl; channels = refl; wire = refl; channel = refl })

-- of wire w its numbers
pub record WireTold (t : View) (w : ℕ) (r : Wire) : Type 0 where
  pub rate : r.rate ≡ t.rate w
  pub prop : r.prop ≡ t.prop w
  pub room : r.room ≡ t.room w

pub wire_told : (t : View) (w : ℕ) (r : Wire) → r ≡ wire_of t w → WireTold t w r
unfolding wire_of
wire_told t w r e = rw e (record { rate = refl; prop = refl; room = refl })

-- of channel k its numbers, and the wire of each of its hops
pub record ChannelTold (t : View) (k : ℕ) (r : Channel) : Type 0 where
  pub price : r.price ≡ cost t k
  pub times : r.times ≡ Rattle.rules.specs.Bounds.times t k
  pub deadline : r.deadline ≡ t.deadline k
  pub hops : r.hops ≡ length (t.route k)
  pub route : r.route ≡ column 0 hops_most (length (t.route k)) (entries (t.route k))

pub channel_told : (t : View) (k : ℕ) (r : Channel) → r ≡ channel_of t k → ChannelTold t k r
unfolding channel_of
channel_told t k r e = rw e (record { price = refl; times = refl; deadline = refl; hops = refl; route = refl })

-- of the wires and channels of a table as read
module _ (t : View) (sound : Sound t) (r : Table) (h : Told t r) where
  pub wire_at : (w : ℕ) (d : Wire) → w < t.wires → WireTold t w (get_or r.wire w d)
  wire_at w d l =
      wire_told t w (get_or r.wire w d)
      (entry_at no_wire wires_most t.wires (wire_of t) r.wire h.wire sound.wires_at_most w d l)

  pub channel_at : (k : ℕ) (d : Channel) → k < t.channels → ChannelTold t k (get_or r.channel k d)
  channel_at k d l =
      channel_told t k (get_or r.channel k d)
      (entry_at no_channel channels_most t.channels (channel_of t) r.channel h.channel sound.channels_at_most k d l)

  -- the wire of hop i of channel k
  pub hop_at : (k i : ℕ) (d : Channel) (z : ℕ) → k < t.channels → i < length (t.route k)
      → get_or (get_or r.channel k d).route i z ≡ get_or (t.route k) i 0
  hop_at k i d z l m =
      entry_at 0 hops_most (length (t.route k)) (entries (t.route k)) (get_or r.channel k d).route
      (channel_at k d l).route (sound.hops_at_most k l) i z m
