-- The table, bit by bit: where each field stands, and the view of a byte string as wires and channels.
use Rattle.std.specs.Prelude.{cond, List, [], ◌∷◌, ℕ, zero, suc, ◌+◌, ◌-◌, ◌*◌, length, get_or, eqb}
use Rattle.bits.specs.Field.{field}
use Rattle.rules.specs.Numbers.{rates, hyper_bits, wires_bits, channels_bits, head_bits, rate_bits, prop_bits, room_bits, wire_bits}
use Rattle.rules.specs.Numbers.{framing_bits, payload_bits, period_bits, deadline_bits, hops_bits, fixed_bits, hop_bits}

-- hyperperiod H, wires n, channels m
unfoldable pub hyper_of : List ℕ → ℕ
hyper_of s = field s 0 hyper_bits

unfoldable pub wires_of : List ℕ → ℕ
wires_of s = field s hyper_bits wires_bits

unfoldable pub channels_of : List ℕ → ℕ
channels_of s = field s (hyper_bits + wires_bits) channels_bits

-- Then n wire records: rate code, propagation, room.
unfoldable pub wire_at : ℕ → ℕ
wire_at w = head_bits + wire_bits * w

unfoldable pub code_of : List ℕ → ℕ → ℕ
code_of s w = field s (wire_at w) rate_bits

unfoldable pub rate_of : List ℕ → ℕ → ℕ
rate_of s w = get_or rates (code_of s w) 0

unfoldable pub prop_of : List ℕ → ℕ → ℕ
prop_of s w = field s (wire_at w + rate_bits) prop_bits

unfoldable pub room_of : List ℕ → ℕ → ℕ
room_of s w = field s (wire_at w + rate_bits + prop_bits) room_bits

-- Then m channel records: framing, payload, period, deadline, hops, then 6 bits for each wire of the route. A record that
-- starts at bit `at`:
unfoldable pub framing_at : List ℕ → ℕ → ℕ
framing_at s at = field s at framing_bits

unfoldable pub payload_at : List ℕ → ℕ → ℕ
payload_at s at = field s (at + framing_bits) payload_bits

unfoldable pub period_at : List ℕ → ℕ → ℕ
period_at s at = field s (at + framing_bits + payload_bits) period_bits

unfoldable pub deadline_at : List ℕ → ℕ → ℕ
deadline_at s at = field s (at + framing_bits + payload_bits + period_bits) deadline_bits

unfoldable pub hops_at : List ℕ → ℕ → ℕ
hops_at s at = field s (at + framing_bits + payload_bits + period_bits + deadline_bits) hops_bits

-- the wires in as many hops as are left
unfoldable pub route_at : List ℕ → ℕ → ℕ → List ℕ
route_at s at zero = []
route_at s at (suc left) = field s at hop_bits ∷ route_at s (at + hop_bits) left

-- where channel c's record starts: each record before it takes its fixed bits and those of its hops
unfoldable pub channel_at : List ℕ → ℕ → ℕ
channel_at s zero = wire_at (wires_of s)
channel_at s (suc c) = channel_at s c + fixed_bits + hop_bits * hops_at s (channel_at s c)

-- where the last field ends
unfoldable pub end_of : List ℕ → ℕ
end_of s = channel_at s (channels_of s)

-- After the last field the byte is filled up: the bits from there to the end.
unfoldable pub filling_of : List ℕ → ℕ → ℕ
filling_of s end = field s end (8 * length s - end)

-- Wires and channels are numbered from 0.
pub record View : Type 0 where
  pub hyper : ℕ
  pub wires : ℕ
  pub channels : ℕ
  pub rate : ℕ → ℕ
  pub prop : ℕ → ℕ
  pub room : ℕ → ℕ
  pub framing : ℕ → ℕ
  pub payload : ℕ → ℕ
  pub period : ℕ → ℕ
  pub deadline : ℕ → ℕ
  pub route : ℕ → List ℕ

abbrev pub view_of : List ℕ → View
view_of s =
    record {
      hyper = hyper_of s;
      wires = wires_of s;
      channels = channels_of s;
      rate = rate_of s;
      prop = prop_of s;
      room = room_of s;
      framing = λ c. framing_at s (channel_at s c);
      payload = λ c. payload_at s (channel_at s c);
      period = λ c. period_at s (channel_at s c);
      deadline = λ c. deadline_at s (channel_at s c);
      route = λ c. route_at s (channel_at s c + fixed_bits) (hops_at s (channel_at s c));
    }

-- Where a channel's frames come to wire w from: nowhere, their release, or the wire before it on the route.
pub data Source : Type 0 where
  nowhere : Source
  release : Source
  wire : ℕ → Source

-- the same on the wires that follow v
unfoldable pub source_after : ℕ → List ℕ → ℕ → Source
source_after v [] w = nowhere
source_after v (x ∷ xs) w = cond (eqb x w) (wire v) (source_after x xs w)

unfoldable pub source : List ℕ → ℕ → Source
source [] w = nowhere
source (x ∷ xs) w = cond (eqb x w) release (source_after x xs w)

-- the wire that a route ends with
unfoldable pub last_wire : List ℕ → ℕ
last_wire [] = 0
last_wire (x ∷ []) = x
last_wire (x ∷ y ∷ ys) = last_wire (y ∷ ys)
