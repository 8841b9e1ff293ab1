-- What one stage of reading tells the next.
use Rattle.std.specs.Prelude.{◌≡◌, List, ℕ, ◌+◌, ◌*◌, ◌/◌, ◌≤◌, length}
use Rattle.rules.specs.declared.Channel.{Channel}
use Rattle.rules.specs.Numbers.{wires_most, channels_most, hops_most, table_longest, fixed_bits, hop_bits}
use Rattle.rules.specs.Replies.{Reply}
use Rattle.rules.specs.Price.{price}
use Rattle.rules.specs.Table.{view_of, hyper_of, wires_of, channels_of, channel_at}
use Rattle.rules.specs.Table.{framing_at, payload_at, period_at, deadline_at, hops_at, route_at}
use Rattle.rules.specs.Channel.{route_tests}
use Rattle.rules.specs.Decoded.{channel_of}
use Rattle.table.specs.declared.Head.{Head}

pub record HeadRead (s : List ℕ) (r : Head) : Type 0 where
  pub hyper : r.hyper ≡ hyper_of s
  pub wires : r.wires ≡ wires_of s
  pub channels : r.channels ≡ channels_of s
  pub wires_at_most : r.wires ≤ wires_most
  pub channels_at_least : 1 ≤ r.channels
  pub channels_at_most : r.channels ≤ channels_most

-- what is left of the tests of a record after those of its fixed fields
abbrev pub hops_left : List ℕ → ℕ → ℕ → Reply → Reply
hops_left s c at rest = route_tests (wires_of s) c (route_at s (at + fixed_bits) (hops_at s at)) rest

-- of the record that starts at bit `at`, all but its route
pub record FixedRead (s : List ℕ) (at : ℕ) (r : Channel) : Type 0 where
  pub price : r.price ≡ Rattle.rules.specs.Price.price (framing_at s at) (payload_at s at)
  pub times : r.times ≡ hyper_of s / period_at s at
  pub deadline : r.deadline ≡ deadline_at s at
  pub hops : r.hops ≡ hops_at s at
  pub hops_at_most : r.hops ≤ hops_most
  pub route_inside : at + fixed_bits + hop_bits * r.hops ≤ 8 * length s

-- of channel c, whose record ends within the string
pub record ChannelRead (s : List ℕ) (c : ℕ) (r : Channel) : Type 0 where
  pub channel : r ≡ channel_of (view_of s) c
  pub hops : r.hops ≡ hops_at s (channel_at s c)
  pub hops_at_most : r.hops ≤ hops_most
  pub inside : channel_at s c + fixed_bits + hop_bits * r.hops ≤ 8 * length s

-- the first m channels end at bit `end`
pub record ChannelsEnd (s : List ℕ) (m end : ℕ) : Type 0 where
  pub told : end ≡ channel_at s m
  pub at_most : end ≤ 8 * table_longest
  pub inside : end ≤ 8 * length s
