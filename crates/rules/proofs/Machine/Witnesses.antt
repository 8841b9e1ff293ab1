-- The promise is not empty: releases that keep their declaration without end, and runs that reach the figures, with the
-- office machines' holds and without.
use mathlib.Core.Path.{◌≡◌, refl, ap, ◌∙◌}
use mathlib.Core.Bool.{cond}
use mathlib.Core.Logic.{◌⊎◌}
use mathlib.Core.List.{List, [], ◌∷◌, ◌++◌, map}
use Prim.Native.Nat.{ℕ, suc, ◌+◌, ◌-◌, ◌*◌, ◌/◌, ◌%◌, ◌≤◌, ◌<◌}
use native.Mathlib.Nat.{div-add-mod', mul-le-mul_right, mul-mod_left, suc-mul}
use native.Mathlib.Omega.{arith}
use lib.ListN.{length}
use lib.Dec.{ltb, eqb}
use borrow.Author.Tests.{eq-eqb}
use Rattle.std.proofs.lemmas.Bool.Decides.{nat_tests}
use Rattle.bits.specs.Field.{bit, field}
use Rattle.rules.specs.Words.{sum, total, listed, gathered, up, only, has, begins, some}
use Rattle.rules.specs.Numbers.{rates}
use Rattle.rules.specs.Replies.{granted, refused, test, each}
use Rattle.rules.specs.Price.{full_frame, small_frame, last_bytes, price, last_frame, frames}
use Rattle.rules.specs.Table.{View, view_of, hyper_of, wires_of, channels_of, wire_at, code_of, rate_of}
use Rattle.rules.specs.Table.{prop_of, room_of, framing_at, payload_at, period_at, deadline_at, hops_at}
use Rattle.rules.specs.Table.{route_at, channel_at, end_of, filling_of, source_after, source, last_wire}
use Rattle.rules.specs.Channel.{value_tests, hop_tests}
use Rattle.rules.specs.Reading.{head_tests, wire_tests, record_tests, channel_tests, filling_tests, reading_tests}
use Rattle.rules.specs.Office.{K}
use Rattle.rules.specs.Bounds.{load_of, load, along, jitter, share_of, burst, backlog_after}
use Rattle.rules.specs.Bounds.{delay_after, delays_below, backlog, delay, end_to_end}
use Rattle.rules.specs.Sheet.{figures_at, end_at, sheet_length}
use Rattle.rules.specs.Judgement.{load_test, room_test, deadline_test, bounds_tests, judge}
use Rattle.rules.specs.Machine.{Frame, Releases, Keeps, message, of_channel, born_in, Gone, reaching}
use Rattle.rules.specs.Machine.{due_from, due, AnyOrder, sent, kept, bytes, Run, nobody, unsent}
use Rattle.rules.specs.Machine.{delivered, Order, Choice, arrivals, holding, step, played}
use Rattle.rules.specs.Cases.{case_a, case_b}
use Rattle.rules.proofs.Sums.{total-append}
use Rattle.rules.proofs.Machine.Orders.{same, order_self, any_order_complete}
use Rattle.rules.proofs.Machine.Played.{held_at, played-run, alone_run}

-- Every channel releases its whole payload as often as it may, from slot 0 on.
unfoldable pub periodic : View → Releases
periodic t k r = only (eqb (r % t.period k) 0) (t.payload k)

pub periodic_without-end : (t : View) (k n : ℕ) → periodic t k (n * t.period k) ≡ t.payload k
unfolding periodic
periodic_without-end t k n = rw (eq-eqb (n * t.period k % t.period k) 0 (mul-mod_left n (t.period k))) refl

released_multiple : (t : View) (k r : ℕ) → 0 < periodic t k r → r / t.period k * t.period k ≡ r
unfolding periodic
released_multiple t k r h = grind (arith, nat_tests, div-add-mod' r (t.period k))

pub periodic-keeps : (t : View) → Keeps t (periodic t)
unfolding periodic
periodic-keeps t =
    record {
      declared = λ k r lk. grind (arith, nat_tests);
      apart = λ k r later lk l x y.
          (let p = t.period k in
          let first = released_multiple t k r x in
          let second = released_multiple t k later y in
          grind (
            arith,
            mul-le-mul_right {m = suc (r / p)} {n = later / p} p,
            suc-mul (r / p) p,
            mul-le-mul_right {m = later / p} {n = r / p} p,
          ));
    }

-- Two orders: as they are due, and the last first.
abbrev pub in_turn : Order
in_turn slot w fs = fs

pub in_turn_any : (slot w : ℕ) (fs : List Frame) → AnyOrder fs (in_turn slot w fs)
in_turn_any slot w fs = order_self fs

unfoldable pub backwards : List Frame → List Frame
backwards [] = []
backwards (f ∷ fs) = backwards fs ++ (f ∷ [])

backwards-total : (g : Frame → ℕ) (fs : List Frame) → total g fs ≡ total g (backwards fs)
unfolding backwards total
backwards-total g [] = refl
backwards-total g (f ∷ fs) = omega (arith, total-append g (backwards fs) (f ∷ []), backwards-total g fs)

abbrev pub last-first : Order
last-first slot w fs = backwards fs

pub last-first-any : (slot w : ℕ) (fs : List Frame) → AnyOrder fs (last-first slot w fs)
last-first-any slot w fs =
    any_order_complete fs (backwards fs) (λ f. backwards-total (λ (x : Frame). only (same f x) 1) fs)

-- As long as they may, in the slots before one.
abbrev pub longest : View → ℕ → Choice
longest t end slot w = only (ltb slot end) (K t w)

-- What follows is said of channel 0's message of slot 0: its only frame, and that it takes exactly so many slots.
abbrev pub Sole : View → ℕ → Type 0
Sole t size = message t (periodic t) 0 0 ≡ record { channel = 0; born = 0; size = size } ∷ []

abbrev pub Takes : View → Gone → ℕ → Type 0
Takes t gone slots =
    (delivered t gone 0 0 (slots - 1) ≡ []) × (delivered t gone 0 0 slots ≡ message t (periodic t) 0 0)

-- what the computations below see through
unfoldable pub definitions : Unit {0}
unfolding bit field sum total has begins some test each last_bytes price hyper_of wires_of channels_of wire_at code_of rate_of prop_of
    room_of framing_at payload_at period_at deadline_at hops_at route_at channel_at end_of filling_of head_tests wire_tests value_tests
    hop_tests record_tests channel_tests filling_tests reading_tests load_of load along jitter K share_of burst backlog_after delay_after
    delays_below backlog delay end_to_end figures_at end_at sheet_length load_test room_test deadline_test bounds_tests judge listed
    gathered last_frame frames message of_channel born_in source_after source reaching due_from due sent kept bytes last_wire delivered
    arrivals holding step played periodic backwards
definitions = tt

-- K by rate: of a wire that is first on some route, and of another.
pub holds-by-rate :
    (map (up (2 * full_frame)) rates ≡ 3084 ∷ 309 ∷ 31 ∷ []) × (map (up full_frame) rates ≡ 1542 ∷ 155 ∷ 16 ∷ [])
holds-by-rate = (refl, refl)

-- A wire held as long as it may be: H 1; one wire of rate 100; a channel of payload 50, period 1. It holds exactly its backlog,
-- which is its room, in slot 31; the first frame takes exactly the wire's delay, and the first message its end-to-end delay,
-- which is its deadline.
abbrev pub held_up : List ℕ
held_up =
    0x00 ∷ 0x00 ∷ 0x01 ∷ 0x02 ∷ 0x03 ∷ 0x00 ∷ 0x00 ∷ 0x01 ∷ 0x90 ∷ 0x00 ∷ 0x03 ∷ 0x20 ∷ 0x00 ∷ 0x00 ∷ 0x10 ∷ 0x00 ∷ 0x02
    ∷ 0x01 ∷ 0x00 ∷ []

abbrev pub run_held : Run (view_of held_up) (periodic (view_of held_up))
    (held_at (view_of held_up) (periodic (view_of held_up)) in_turn (longest (view_of held_up) 1))
run_held = played-run (view_of held_up) (periodic (view_of held_up)) in_turn (longest (view_of held_up) 1) in_turn_any

pub held_accepted : judge held_up 12 ≡ granted (12 ∷ [])
unfolding definitions
held_accepted = refl

pub held-figures :
    (K (view_of held_up) 0 ≡ 31)
    × (backlog (view_of held_up) 0 ≡ 3200)
    × ((view_of held_up).room 0 ≡ 3200)
    × (delay (view_of held_up) 0 ≡ 32)
    × (end_to_end (view_of held_up) 0 ≡ 32)
    × ((view_of held_up).deadline 0 ≡ 32)
unfolding definitions
held-figures = (refl, refl, refl, refl, refl, refl)

-- a choice of more is cut to K, of each wire its own
pub held_cut : held_at (view_of held_up) (periodic (view_of held_up)) in_turn (λ slot w. 1000) 0 0 ≡ K (view_of held_up) 0
unfolding definitions
held_cut = refl

pub held-unsent : unsent run_held 0 31 ≡ backlog (view_of held_up) 0
unfolding definitions
held-unsent = refl

-- what came in slot 0 has not left by slot 30
pub held-left : (length (run_held.arrived 0 0) ≡ 1) × (gathered (run_held.gone 0) (0 + delay (view_of held_up) 0 - 1) ≡ [])
unfolding definitions
held-left = (refl, refl)

pub held_sole : Sole (view_of held_up) 100
unfolding definitions
held_sole = refl

pub held_takes : Takes (view_of held_up) run_held.gone (end_to_end (view_of held_up) 0)
unfolding definitions
held_takes = (refl, refl)

-- A later wire, with a jitter that counts: H 66; two wires of rate 100; channel 0 payload 1, period 33, route 0, 1; channel 1
-- payload 63, period 66, route 0. Wire 0 is held from slot 0 on; channel 1's frame goes first and keeps channel 0's first
-- back until its second is close behind; at wire 1, held when they come, the second goes first. The first message takes
-- exactly its end-to-end delay. A wire that is first on some route and one that is not have different K.
abbrev pub later : List ℕ
later =
    0x00 ∷ 0x00 ∷ 0x42 ∷ 0x04 ∷ 0x05 ∷ 0x00 ∷ 0x00 ∷ 0x01 ∷ 0x9c ∷ 0xb0 ∷ 0x00 ∷ 0x00 ∷ 0x0d ∷ 0xe0 ∷ 0x00 ∷ 0x01 ∷ 0x00 ∷ 0x00
    ∷ 0x21 ∷ 0x00 ∷ 0x00 ∷ 0x34 ∷ 0x20 ∷ 0x01 ∷ 0x00 ∷ 0x1f ∷ 0x80 ∷ 0x00 ∷ 0x21 ∷ 0x00 ∷ 0x00 ∷ 0x11 ∷ 0x08 ∷ 0x00 ∷ []

abbrev pub run_later : Run (view_of later) (periodic (view_of later))
    (held_at (view_of later) (periodic (view_of later)) last-first (longest (view_of later) 35))
run_later = played-run (view_of later) (periodic (view_of later)) last-first (longest (view_of later) 35) last-first-any

pub later-accepted : judge later 21 ≡ granted (21 ∷ [])
unfolding definitions
later-accepted = refl

pub later-figures : (K (view_of later) 0 ≡ 31) × (K (view_of later) 1 ≡ 16) × (backlog (view_of later) 1 ≡ 1776)
    × (end_to_end (view_of later) 0 ≡ 52)
unfolding definitions
later-figures = (refl, refl, refl, refl)

pub later-cut : held_at (view_of later) (periodic (view_of later)) last-first (λ slot w. 1000) 1 34 ≡ K (view_of later) 1
unfolding definitions
later-cut = refl

-- of the two frames that came to wire 1 in slot 34 one has not left it by slot 50
pub later-left :
    (length (run_later.arrived 1 34) ≡ 2)
    × (length (gathered (run_later.gone 1) (34 + delay (view_of later) 1 - 1)) ≡ 1)
    × (length (gathered (run_later.gone 1) (34 + delay (view_of later) 1)) ≡ 2)
unfolding definitions
later-left = (refl, refl, refl)

pub later-sole : Sole (view_of later) small_frame
unfolding definitions
later-sole = refl

pub later-takes : Takes (view_of later) run_later.gone (end_to_end (view_of later) 0)
unfolding definitions
later-takes = (refl, refl)

-- A later wire that is full: H 96; four wires of rate 100; of wires 0, 1 and 2 each a channel of payload 50, period 96, that
-- uses no other wire, and one of payload 50, period 3, that goes on to wire 3. Those three wires are held from slot 0 on,
-- then send the first channel's frame, then one of the second channel's in each slot; wire 3 is held when the first of them
-- comes, and holds exactly its backlog in slot 49.
abbrev pub crowded : List ℕ
crowded =
    0x00 ∷ 0x00 ∷ 0x60 ∷ 0x08 ∷ 0x0d ∷ 0x00 ∷ 0x00 ∷ 0x01 ∷ 0x9c ∷ 0x90 ∷ 0x00 ∷ 0x00 ∷ 0x19 ∷ 0xc9 ∷ 0x00 ∷ 0x00 ∷ 0x01 ∷ 0x9c
    ∷ 0x90 ∷ 0x00 ∷ 0x00 ∷ 0x27 ∷ 0xd8 ∷ 0x00 ∷ 0x32 ∷ 0x00 ∷ 0x00 ∷ 0x60 ∷ 0x00 ∷ 0x00 ∷ 0x21 ∷ 0x10 ∷ 0x00 ∷ 0x06 ∷ 0x40
    ∷ 0x00 ∷ 0x0c ∷ 0x00 ∷ 0x00 ∷ 0x04 ∷ 0x22 ∷ 0x08 ∷ 0x00 ∷ 0xc8 ∷ 0x00 ∷ 0x01 ∷ 0x80 ∷ 0x00 ∷ 0x00 ∷ 0x84 ∷ 0x42 ∷ 0x00
    ∷ 0x19 ∷ 0x00 ∷ 0x00 ∷ 0x01 ∷ 0x80 ∷ 0x00 ∷ 0x2a ∷ 0x10 ∷ 0x01 ∷ 0x80 ∷ 0x0c ∷ 0x80 ∷ 0x00 ∷ 0x00 ∷ 0xc0 ∷ 0x00 ∷ 0x15
    ∷ 0x08 ∷ 0x10 ∷ 0xc0 ∷ 0x06 ∷ 0x40 ∷ 0x00 ∷ 0x00 ∷ 0x60 ∷ 0x00 ∷ 0x0a ∷ 0x84 ∷ 0x10 ∷ 0x60 ∷ []

abbrev pub run_crowded : Run (view_of crowded) (periodic (view_of crowded))
    (held_at (view_of crowded) (periodic (view_of crowded)) in_turn (longest (view_of crowded) 34))
run_crowded = played-run (view_of crowded) (periodic (view_of crowded)) in_turn (longest (view_of crowded) 34) in_turn_any

pub crowded_accepted : judge crowded 47 ≡ granted (47 ∷ [])
unfolding definitions
crowded_accepted = refl

pub crowded-figures : backlog (view_of crowded) 3 ≡ 5100
unfolding definitions
crowded-figures = refl

pub crowded-unsent : unsent run_crowded 3 49 ≡ backlog (view_of crowded) 3
unfolding definitions
crowded-unsent = refl

-- Case A where nobody holds: the message takes the slots of its bytes, and the propagation.
abbrev pub run_a : Run (view_of case_a) (periodic (view_of case_a)) nobody
run_a = alone_run (view_of case_a) (periodic (view_of case_a)) in_turn in_turn_any

pub a_accepted : judge case_a 12 ≡ granted (12 ∷ [])
unfolding definitions
a_accepted = refl

pub a_sole : Sole (view_of case_a) small_frame
unfolding definitions
a_sole = refl

pub a-unsent : unsent run_a 0 0 ≡ small_frame
unfolding definitions
a-unsent = refl

pub a_takes : Takes (view_of case_a) run_a.gone (small_frame + (view_of case_a).prop 0)
unfolding definitions
a_takes = (refl, refl)

-- Two frames: H 100; two wires of rate 100, propagation 3 and 5; a channel of payload 1,493, period 100, route 0, 1. Nobody
-- holds; the message is there with its second frame, not with its first.
abbrev pub two_frames : List ℕ
two_frames =
    0x00 ∷ 0x00 ∷ 0x64 ∷ 0x04 ∷ 0x03 ∷ 0x00 ∷ 0x60 ∷ 0x02 ∷ 0x4f ∷ 0x50 ∷ 0x0a ∷ 0x00 ∷ 0x1f ∷ 0x38 ∷ 0x05 ∷ 0xd5 ∷ 0x00 ∷ 0x00
    ∷ 0x64 ∷ 0x00 ∷ 0x00 ∷ 0x60 ∷ 0x20 ∷ 0x01 ∷ []

abbrev pub run_two : Run (view_of two_frames) (periodic (view_of two_frames)) nobody
run_two = alone_run (view_of two_frames) (periodic (view_of two_frames)) in_turn in_turn_any

pub two_accepted : judge two_frames 18 ≡ granted (18 ∷ [])
unfolding definitions
two_accepted = refl

pub two-message :
    message (view_of two_frames) (periodic (view_of two_frames)) 0 0
    ≡ record { channel = 0; born = 0; size = full_frame } ∷ record { channel = 0; born = 0; size = small_frame } ∷ []
unfolding definitions
two-message = refl

pub two-part :
    delivered (view_of two_frames) run_two.gone 0 0 40 ≡ record { channel = 0; born = 0; size = full_frame } ∷ []
unfolding definitions
two-part = refl

pub two-whole : delivered (view_of two_frames) run_two.gone 0 0 41 ≡ message (view_of two_frames) (periodic (view_of two_frames)) 0 0
unfolding definitions
two-whole = refl

-- Three hops, with IP and UDP: H 20; three wires of rate 100, propagation 1, 2 and 0; a channel of framing 1, payload 1,465,
-- period 20, route 0, 1, 2. Nobody holds.
abbrev pub three_hops : List ℕ
three_hops =
    0x00 ∷ 0x00 ∷ 0x14 ∷ 0x06 ∷ 0x03 ∷ 0x00 ∷ 0x20 ∷ 0x02 ∷ 0x4f ∷ 0x50 ∷ 0x04 ∷ 0x00 ∷ 0x37 ∷ 0x29 ∷ 0x00 ∷ 0x00 ∷ 0x06 ∷ 0x3b
    ∷ 0xb0 ∷ 0x5b ∷ 0x90 ∷ 0x00 ∷ 0x01 ∷ 0x40 ∷ 0x00 ∷ 0x0f ∷ 0xa3 ∷ 0x00 ∷ 0x10 ∷ 0x80 ∷ []

-- Not periodic, and once less than is declared: 10 bytes in slot 1, the whole payload 23 slots later, and nothing more.
unfoldable pub sparse : Releases
sparse k r = cond (eqb r 1) 10 (cond (eqb r 24) 1465 0)

sparse_slots : (k r : ℕ) → 0 < sparse k r → (r ≡ 1) ⊎ (r ≡ 24)
unfolding sparse
sparse_slots k r h = grind (arith, nat_tests)

sparse-most : (k r : ℕ) → sparse k r ≤ 1465
unfolding sparse
sparse-most k r = grind (arith, nat_tests)

three-channel : ((view_of three_hops).channels ≡ 1) × ((view_of three_hops).payload 0 ≡ 1465) × ((view_of three_hops).period 0 ≡ 20)
unfolding definitions
three-channel = (refl, refl, refl)

sole : (k : ℕ) → k < (view_of three_hops).channels → k ≡ 0
sole k l = omega (arith, three-channel.0)

pub sparse-keeps : Keeps (view_of three_hops) sparse
sparse-keeps =
    record {
      declared = λ k r l. omega (arith, sparse-most k r, ap (view_of three_hops).payload (sole k l), three-channel.1);
      apart = λ k r later l less x y.
          (let period : (view_of three_hops).period k ≡ 20 = ap (view_of three_hops).period (sole k l) ∙ three-channel.2 in
          grind (arith, sparse_slots k r x, sparse_slots k later y));
    }

abbrev pub run_three : Run (view_of three_hops) sparse nobody
run_three = alone_run (view_of three_hops) sparse in_turn in_turn_any

pub three_accepted : judge three_hops 24 ≡ granted (24 ∷ [])
unfolding definitions
three_accepted = refl

-- the short message, over three wires
pub three_short :
    (delivered (view_of three_hops) run_three.gone 0 1 6 ≡ [])
    × (delivered (view_of three_hops) run_three.gone 0 1 7 ≡ record { channel = 0; born = 1; size = small_frame } ∷ [])
unfolding definitions sparse
three_short = (refl, refl)

-- the whole one, cut as IP and UDP are
pub three-message :
    message (view_of three_hops) sparse 0 24
    ≡ record { channel = 0; born = 24; size = full_frame } ∷ record { channel = 0; born = 24; size = small_frame } ∷ []
unfolding definitions sparse
three-message = refl

pub three-whole :
    (delivered (view_of three_hops) run_three.gone 0 24 75 ≡ record { channel = 0; born = 24; size = full_frame } ∷ [])
    × (delivered (view_of three_hops) run_three.gone 0 24 76 ≡ message (view_of three_hops) sparse 0 24)
unfolding definitions sparse
three-whole = (refl, refl)

-- Three thirds of a wire are its whole load: case B.
pub b-load : load (view_of case_b) 0 ≡ (view_of case_b).rate 0 * (view_of case_b).hyper
unfolding definitions
b-load = refl

-- A load one over: H 89, rate 1, one message of 90 bytes in 89 slots.
pub over : List ℕ
over =
    0x00 ∷ 0x00 ∷ 0x59 ∷ 0x02 ∷ 0x02 ∷ 0x00 ∷ 0x00 ∷ 0x09 ∷ 0xc4 ∷ 0x00 ∷ 0x02 ∷ 0x80 ∷ 0x00 ∷ 0x05 ∷ 0x90 ∷ 0x02 ∷ 0x71
    ∷ 0x01 ∷ 0x00 ∷ []

pub one-over : judge over 12 ≡ refused 12 0
unfolding over definitions
one-over = refl

-- Zero channels: H 1, one wire.
pub none-listed : List ℕ
none-listed = 0x00 ∷ 0x00 ∷ 0x01 ∷ 0x02 ∷ 0x00 ∷ 0x00 ∷ 0x00 ∷ 0x00 ∷ 0x0b ∷ 0x00 ∷ []

pub zero-channels : judge none-listed 12 ≡ refused 4 0
unfolding none-listed definitions
zero-channels = refl
