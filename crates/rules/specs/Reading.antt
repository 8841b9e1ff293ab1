-- Reading a table: tests 1 to 11, in this order. `rest` is the reply where every test here passes.
use Rattle.std.specs.Prelude.{◌&&◌, List, [], ℕ, ◌+◌, ◌*◌, length, leb, ltb, eqb}
use Rattle.bits.specs.Field.{within}
use Rattle.rules.specs.Words.{up, between}
use Rattle.rules.specs.Numbers.{rates, hyper_most, wires_most, channels_most, head_bits, wire_bits, fixed_bits, hop_bits}
use Rattle.rules.specs.Replies.{Reply, granted, test, each}
use Rattle.rules.specs.Channel.{value_tests, route_tests}
use Rattle.rules.specs.Table.{hyper_of, wires_of, channels_of, wire_at, code_of, channel_at}
use Rattle.rules.specs.Table.{payload_at, period_at, hops_at, route_at, end_of, filling_of}

-- The three header fields are read whole before 2, 3, 4. 1: a field needed next goes past the end. 2: H is 0 or over
-- 12,500,000. 3: wires 0 or over 64. 4: channels 0 or over 128.
unfoldable pub head_tests : List ℕ → Reply → Reply
head_tests s rest =
    test (within s 0 head_bits) 1 0
    (test (between 1 (hyper_of s) hyper_most) 2 0
    (test (between 1 (wires_of s) wires_most) 3 0
    (test (between 1 (channels_of s) channels_most) 4 0 rest)))

-- Each wire record is read whole before 5: rate code 3.
unfoldable pub wire_tests : List ℕ → ℕ → Reply → Reply
wire_tests s w rest = test (within s (wire_at w) wire_bits) 1 0 (test (ltb (code_of s w) (length rates)) 5 w rest)

-- A channel's fixed 69 bits are read whole before 6, 7, 8; its route bits are read whole before 9 and 10. The record of
-- channel c starts at bit `at`.
unfoldable pub record_tests : List ℕ → ℕ → ℕ → Reply → Reply
record_tests s c at rest =
    test (within s at fixed_bits) 1 0
    (value_tests c (hyper_of s) (payload_at s at) (period_at s at) (hops_at s at)
    (test (within s (at + fixed_bits) (hop_bits * hops_at s at)) 1 0
    (route_tests (wires_of s) c (route_at s (at + fixed_bits) (hops_at s at)) rest)))

unfoldable pub channel_tests : List ℕ → ℕ → Reply → Reply
channel_tests s c rest = record_tests s c (channel_at s c) rest

-- 11: a further byte, or a filling bit not 0.
unfoldable pub filling_tests : List ℕ → Reply → Reply
filling_tests s rest = test (leb (length s) (up (end_of s) 8) && eqb (filling_of s (end_of s)) 0) 11 0 rest

-- Header, wires, channels, filling.
unfoldable pub reading_tests : List ℕ → Reply → Reply
reading_tests s rest =
    head_tests s
    (each (wire_tests s) 0 (wires_of s)
    (each (channel_tests s) 0 (channels_of s)
    (filling_tests s rest)))

-- The reply to reading alone.
unfoldable pub reading : List ℕ → Reply
reading s = reading_tests s (granted [])
