-- The numbers of document 01: "the slot length, the count limits and the field widths are constants of the table itself,
-- stated once". The associated constants of the type Table in src/ are held to them by `constants`.
use Rattle.std.specs.Prelude.{List, [], ◌∷◌, ℕ, ◌+◌, ◌*◌, ◌^◌}

-- One slot is 80 ns.
abbrev pub slot_ns : ℕ
slot_ns = 80

-- Wire rates are 1, 10 or 100 bytes a slot, by code 0, 1, 2.
abbrev pub rates : List ℕ
rates = 1 ∷ 10 ∷ 100 ∷ []

-- Table: hyperperiod H (24 bits, 1 to 12,500,000), wires n (7, 1 to 64), channels m (8, 1 to 128).
abbrev pub hyper_bits : ℕ
hyper_bits = 24

abbrev pub hyper_most : ℕ
hyper_most = 12500000

abbrev pub wires_bits : ℕ
wires_bits = 7

abbrev pub wires_most : ℕ
wires_most = 64

abbrev pub channels_bits : ℕ
channels_bits = 8

abbrev pub channels_most : ℕ
channels_most = 128

abbrev pub head_bits : ℕ
head_bits = hyper_bits + wires_bits + channels_bits

-- Wire records of 36 bits: rate code (2), propagation in slots (10), room in bytes (24).
abbrev pub rate_bits : ℕ
rate_bits = 2

abbrev pub prop_bits : ℕ
prop_bits = 10

abbrev pub room_bits : ℕ
room_bits = 24

abbrev pub wire_bits : ℕ
wire_bits = rate_bits + prop_bits + room_bits

-- Channel records: framing (1), payload (16, 1 to 65,535), period (24), deadline (24), hops (4, 1 to 8), and 6 bits for
-- each wire of the route.
abbrev pub framing_bits : ℕ
framing_bits = 1

abbrev pub payload_bits : ℕ
payload_bits = 16

abbrev pub payload_most : ℕ
payload_most = 65535

abbrev pub period_bits : ℕ
period_bits = 24

abbrev pub deadline_bits : ℕ
deadline_bits = 24

abbrev pub hops_bits : ℕ
hops_bits = 4

abbrev pub hops_most : ℕ
hops_most = 8

abbrev pub routes_most : ℕ
routes_most = channels_most * hops_most

abbrev pub fixed_bits : ℕ
fixed_bits = framing_bits + payload_bits + period_bits + deadline_bits + hops_bits

abbrev pub hop_bits : ℕ
hop_bits = 6

-- Longest table: 2,165 bytes.
abbrev pub table_longest : ℕ
table_longest = 2165

-- Sheet: n (7), m (8), for each wire its backlog (24) and delay (24), for each channel its end-to-end delay (28).
abbrev pub sheet_head_bits : ℕ
sheet_head_bits = wires_bits + channels_bits

abbrev pub backlog_bits : ℕ
backlog_bits = 24

abbrev pub delay_bits : ℕ
delay_bits = 24

abbrev pub figures_bits : ℕ
figures_bits = backlog_bits + delay_bits

abbrev pub end_bits : ℕ
end_bits = 28

-- Longest: 834 bytes.
abbrev pub sheet_longest : ℕ
sheet_longest = 834

-- Enough for any text that the board prints: a first line of 16 bytes, 64 wire lines of 26 and 128 channel lines of 30.
abbrev pub text_enough : ℕ
text_enough = 5520

-- All but the rates, in the order above.
abbrev pub numbers : List ℕ
numbers =
    slot_ns ∷ hyper_bits ∷ hyper_most ∷ wires_bits ∷ wires_most ∷ channels_bits ∷ channels_most ∷ head_bits ∷ rate_bits ∷ prop_bits
    ∷ room_bits ∷ wire_bits ∷ framing_bits ∷ payload_bits ∷ payload_most ∷ period_bits ∷ deadline_bits ∷ hops_bits ∷ hops_most
    ∷ routes_most ∷ fixed_bits ∷ hop_bits ∷ table_longest ∷ sheet_head_bits ∷ backlog_bits ∷ delay_bits ∷ figures_bits
    ∷ end_bits ∷ sheet_longest ∷ text_enough ∷ []

-- Which requests these definitions have taken in: bit k is set where request Q-k is.
abbrev pub requests : ℕ
requests = 2 ^ 2 + 2 ^ 4
