-- Every reply is of small numbers: a refusal's number is 1 to 22 and its place below 128, and what is granted fits.
use mathlib.Core.Bool.{Bool, true, false}
use mathlib.Core.List.{List, [], ◌∷◌}
use Prim.Native.Nat.{ℕ, zero, suc, ◌+◌, ◌^◌, ◌≤◌, ◌<◌}
use native.Mathlib.Omega.{arith}
use lib.ListN.{get_or}
use Rattle.bits.proofs.Laws.{field_lt}
use Rattle.rules.specs.Numbers.{wires_most, channels_most, backlog_bits, delay_bits, end_bits, sheet_longest}
use Rattle.rules.specs.Replies.{Reply, granted, refused, test, each}
use Rattle.rules.specs.Table.{View, view_of, wires_of, channels_of}
use Rattle.rules.specs.Channel.{value_tests, hop_tests}
use Rattle.rules.specs.Reading.{head_tests, wire_tests, record_tests, channel_tests, filling_tests, reading_tests}
use Rattle.rules.specs.Price.{ask_price}
use Rattle.rules.specs.Sheet.{sheet_tests, ask_wire, ask_channel}
use Rattle.rules.specs.Roll.{labels, sound_roll, ask_label}
use Rattle.rules.specs.Judgement.{load_test, room_test, deadline_test, bounds_tests, deadline_tests, judge}
use Rattle.rules.proofs.Tests.{Gate, through, stops, test-gate, lt-gate, between-gate}
use Rattle.rules.proofs.Tables.Laws.{head_gate}
use Rattle.rules.proofs.Price.{price_most, price-most}
use Rattle.rules.proofs.Sheet.Laws.{sheet-longest}
use Rattle.rules.proofs.Roll.{fits, roll_longest_lem}

abbrev pub Low : ℕ → ℕ → Type 0
Low number place = (1 ≤ number) × (number ≤ 22) × (place < channels_most)

pub data Small (P : List ℕ → Type 0) : Reply → Type 0 where
  granted-small : {v : List ℕ} → P v → Small P (granted v)
  refused-small : {number place : ℕ} → Low number place → Small P (refused number place)

pub small-granted : {P : List ℕ → Type 0} {v : List ℕ} → Small P (granted v) → P v
small-granted (granted-small h) = h

pub small-refused : {P : List ℕ → Type 0} {number place : ℕ} → Small P (refused number place) → Low number place
small-refused (refused-small h) = h

-- tests all of whose refusals are small
abbrev Fine : (List ℕ → Type 0) → (Reply → Reply) → Type 0
Fine P f = (rest : Reply) → Small P rest → Small P (f rest)

module _ {P : List ℕ → Type 0} where
  fine-test : (ok : Bool) (n p : ℕ) → Low n p → Fine P (test ok n p)
  unfolding test
  fine-test true n p low rest h = h
  fine-test false n p low rest h = refused-small low

  fine-each : (f : ℕ → Reply → Reply) (a left : ℕ) → ((i : ℕ) → i < a + left → Fine P (f i)) → Fine P (each f a left)
  unfolding each
  fine-each f a zero h rest k = k
  fine-each f a (suc left) h rest k =
      h a (omega arith) _ (fine-each f (suc a) left (λ i l. h i (omega arith)) rest k)

  -- what follows need only be small where the tests pass
  small-gate : {Q : Type 0} {f : Reply → Reply} → Gate Q f → Fine P f → (rest : Reply) → (Q → Small P rest) → Small P (f rest)
  small-gate (through q e) fine rest h = rw (e rest) (h q)
  small-gate (stops o n p e) fine rest h =
      rw (e rest) (rw (e (refused 1 0)) at (fine (refused 1 0) (refused-small (omega arith))))

-- ---- asking a price, and a sheet

abbrev pub Price : List ℕ → Type 0
Price v = get_or v 0 0 ≤ price_most

pub price-small : (framing payload : ℕ) → Small Price (ask_price framing payload)
unfolding ask_price
price-small framing payload =
    small-gate (lt-gate 20 0 framing 2) (fine-test _ 20 0 (omega arith)) _ (λ l.
    small-gate (between-gate 6 0 1 payload _) (fine-test _ 6 0 (omega arith)) _ (λ h.
    granted-small (price-most framing payload (omega arith) h.1)))

fine-sheet : (P : List ℕ → Type 0) (s : List ℕ) → Fine P (sheet_tests s)
unfolding sheet_tests
fine-sheet P s rest h = search (arith, fine-test)

abbrev pub WireFigures : List ℕ → Type 0
WireFigures v = (get_or v 0 0 < 2 ^ backlog_bits) × (get_or v 1 0 < 2 ^ delay_bits)

pub wire-small : (s : List ℕ) (w : ℕ) → Small WireFigures (ask_wire s w)
unfolding ask_wire
wire-small s w =
    fine-sheet WireFigures s _
    (fine-test _ 19 0 (omega arith) _
    (granted-small (field_lt s _ backlog_bits, field_lt s _ delay_bits)))

abbrev pub EndDelay : List ℕ → Type 0
EndDelay v = get_or v 0 0 < 2 ^ end_bits

pub channel-small : (s : List ℕ) (k : ℕ) → Small EndDelay (ask_channel s k)
unfolding ask_channel
channel-small s k =
    fine-sheet EndDelay s _
    (fine-test _ 19 0 (omega arith) _
    (granted-small (field_lt s _ end_bits)))

-- ---- asking a roll

abbrev pub LabelStretch : List ℕ → Type 0
LabelStretch v = (get_or v 0 0 < 2 ^ 16) × (get_or v 1 0 < 2 ^ 16)

pub label_small : (roll : List ℕ) (number : ℕ) → Small LabelStretch (ask_label roll number)
unfolding ask_label
label_small roll number =
    small-gate (test-gate 21 0 (sound_roll roll)) (fine-test _ 21 0 (omega arith)) _ (λ is.
    small-gate (lt-gate 22 0 number (labels roll)) (fine-test _ 22 0 (omega arith)) _ (λ l.
    granted-small (omega (arith, fits roll is number l, roll_longest_lem roll is))))

-- ---- judging

module _ {P : List ℕ → Type 0} (s : List ℕ) where
  fine_head : Fine P (head_tests s)
  unfolding head_tests
  fine_head rest h =
      search (arith, fine-test)

  fine-wire : (w : ℕ) → w < wires_most → Fine P (wire_tests s w)
  unfolding wire_tests
  fine-wire w l rest h = search (arith, fine-test)

  fine-hops : (n c least : ℕ) (xs : List ℕ) → c < channels_most → Fine P (hop_tests n c least xs)
  unfolding hop_tests
  fine-hops n c least [] l rest h = h
  fine-hops n c least (x ∷ xs) l rest h =
      search (arith, fine-test, fine-hops n c (suc x) xs l)

  fine-channel : (c : ℕ) → c < channels_most → Fine P (channel_tests s c)
  unfolding channel_tests record_tests value_tests
  fine-channel c l rest h =
      search (arith, fine-test, fine-hops)

  fine_filling : Fine P (filling_tests s)
  unfolding filling_tests
  fine_filling = fine-test _ 11 0 (omega arith)

fine-bounds : {P : List ℕ → Type 0} (t : View) → t.wires ≤ wires_most → t.channels ≤ channels_most
    → Fine P (λ rest. bounds_tests t (deadline_tests t rest))
unfolding bounds_tests load_test room_test deadline_test
fine-bounds t a b rest h =
    fine-each (load_test t) 0 t.wires (λ w l. fine-test _ 12 w (omega arith)) _
    (fine-each (room_test t) 0 t.wires (λ w l. fine-test _ 13 w (omega arith)) _
    (fine-each (deadline_test t) 0 t.channels (λ k l. fine-test _ 14 k (omega arith)) rest h))

abbrev pub SheetBytes : List ℕ → Type 0
SheetBytes v = get_or v 0 0 ≤ sheet_longest

pub judge-small : (s : List ℕ) (lent : ℕ) → Small SheetBytes (judge s lent)
unfolding judge reading_tests
judge-small s lent =
    small-gate (head_gate s) (fine_head s) _ (λ h.
    fine-each (wire_tests s) 0 (wires_of s) (λ w l. fine-wire s w (omega (arith, h.wires_at_most))) _
    (fine-each (channel_tests s) 0 (channels_of s) (λ c l. fine-channel s c (omega (arith, h.channels_at_most))) _
    (fine_filling s _
    (fine-bounds (view_of s) h.wires_at_most h.channels_at_most _
    (fine-test _ 15 0 (omega arith) _
    (granted-small (sheet-longest (wires_of s) (channels_of s) h.wires_at_most h.channels_at_most)))))))
