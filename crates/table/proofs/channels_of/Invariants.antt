-- The search from the start is the search from channel c, and within a channel from hop i; the array holds the channels below
-- c, and the route the hops below i.
use Rattle.std.proofs.Common.{ℕ, List, length, ◌≡◌, ◌+◌, ◌*◌, ◌≤◌, ◌<◌, Ok}
use Rattle.std.specs.Prelude.{Result}
use Rattle.rules.specs.declared.Channel.{Channel}
use Rattle.rules.specs.declared.Refusal.{Refusal}
use Rattle.rules.specs.Words.{entries}
use Rattle.rules.specs.Numbers.{head_bits, wire_bits, fixed_bits, hop_bits}
use Rattle.rules.specs.Numbers.{wires_most, hops_most}
use Rattle.rules.specs.Table.{view_of, channel_at, route_at}
use Rattle.rules.specs.Reading.{channel_tests}
use Rattle.rules.specs.Decoded.{column, no_channel, channel_of}
use Rattle.rules.proofs.Tables.Search.{FromHere, HopsHere}
use Rattle.table.proofs.channels_of.Given as goal

pub record HopHere (s : List ℕ) (n c at hops : ℕ) (found : Result (Unit {0}) Refusal) (array : List ℕ) (least i : ℕ) : Type 0 where
  pub none : found ≡ Ok tt
  pub search : HopsHere s n c at hops i least
  pub long : length array ≡ hops
  pub route : array ≡ column 0 hops i (entries (route_at s at hops))

pub record Here (s : List ℕ) (m : ℕ) (found : Result (Unit {0}) Refusal) (array : List Channel) (end c : ℕ) : Type 0 where
  pub none : found ≡ Ok tt
  pub search : FromHere (channel_tests s) m c
  pub long : length array ≡ m
  pub channels : array ≡ column no_channel m c (channel_of (view_of s))
  pub start : end ≡ channel_at s c
  pub short : end ≤ head_bits + wire_bits * wires_most + (fixed_bits + hop_bits * hops_most) * c
  pub inside : 0 < c → end ≤ 8 * length s

abbrev pub invariant-loop-i : goal.invariant-loop-i
invariant-loop-i l = HopHere l.s l.head.wires l.c l.at l.hops l.found l.hop-items l.least l.i

abbrev pub invariant-search : goal.invariant-search
invariant-search l = Here l.s l.head.channels l.found l.channel-items l.end l.c
