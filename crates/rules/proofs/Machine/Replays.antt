-- Runs that a slot machine in another language printed (tests/opinion/scripted.txt): the definitions' step function gives the
-- same, slot by slot and wire by wire, and their delivery the same end-to-end delays. Made by tests/opinion/replays.
use mathlib.Core.Path.{◌≡◌, refl}
use mathlib.Core.Bool.{Bool, true, false, cond, ◌&&◌, ◌||◌}
use mathlib.Core.List.{List, [], ◌∷◌}
use Prim.Native.Nat.{ℕ, zero, suc, ◌+◌, ◌-◌}
use lib.ListN.{length, get_or}
use lib.Dec.{ltb, eqb}
use Rattle.rules.specs.Words.{total, listed, only}
use Rattle.rules.specs.Table.{View, view_of}
use Rattle.rules.specs.Machine.{Frame, Releases, message, Gone, delivered, Order, Choice, State}
use Rattle.rules.specs.Machine.{queue_in, held_in, gone_in, arrivals, joined, bytes, step, played}
use Rattle.rules.proofs.Machine.Orders.{same}
use Rattle.rules.proofs.Machine.Witnesses.{definitions}

abbrev frame : ℕ → ℕ → ℕ → Frame
frame channel born size = record { channel = channel; born = born; size = size }

-- Of one wire in one slot: the frames that enter, in their order, the bytes not yet sent, how many slots it is still held,
-- and the frames that are gone.
record Line : Type 0 where
  enter : List Frame
  unsent : ℕ
  held : ℕ
  gone : List Frame

abbrev line : List Frame → ℕ → ℕ → List Frame → Line
line enter unsent held gone = record { enter = enter; unsent = unsent; held = held; gone = gone }

-- In a slot, of a channel or a wire: the payload released, or the slots chosen.
record Entry : Type 0 where
  slot : ℕ
  number : ℕ
  value : ℕ

abbrev entry : ℕ → ℕ → ℕ → Entry
entry slot number value = record { slot = slot; number = number; value = value }

abbrev value_in : List Entry → ℕ → ℕ → ℕ
value_in [] slot number = 0
value_in (x ∷ xs) slot number = only (eqb x.slot slot && eqb x.number number) x.value + value_in xs slot number

abbrev released_by : List Entry → Releases
released_by xs k r = value_in xs r k

abbrev chosen_by : List Entry → Choice
chosen_by xs slot w = value_in xs slot w

abbrev holds : Frame → List Frame → Bool
holds f [] = false
holds f (g ∷ gs) = same f g || holds f gs

abbrev without : Frame → List Frame → List Frame
without f [] = []
without f (g ∷ gs) = cond (same f g) gs (g ∷ without f gs)

-- the frames of fs, those of a list first and in its order
abbrev arranged : List Frame → List Frame → List Frame
arranged [] fs = fs
arranged (f ∷ first) fs = cond (holds f fs) (f ∷ arranged first (without f fs)) (arranged first fs)

nothing : Line
nothing = line [] 0 0 []

-- the adversary queues what is due in the order of the lines
abbrev order_of : List (List Line) → Order
order_of lines slot w fs = arranged (get_or (get_or lines slot []) w nothing).enter fs

module _ (t : View) (released : Releases) (order : Order) (choice : Choice) where
  line_of : ℕ → State → State → ℕ → Line
  line_of slot state next w =
      let enter = arrivals t released order slot state w in
      line enter (bytes (joined (queue_in state w) enter)) (held_in next w) (gone_in next (suc slot) w slot)

  lines_from : ℕ → ℕ → State → List (List Line)
  lines_from zero slot state = []
  lines_from (suc more) slot state =
      let next = step t released order choice slot state in
      listed (line_of slot state next) t.wires ∷ lines_from more (suc slot) next

-- as many slots as the lines have, played in their order
replay : View → Releases → Choice → List (List Line) → List (List Line)
replay t released choice lines =
    lines_from t released (order_of lines) choice (length lines) 0 (played t released (order_of lines) choice 0)

abbrev gone_by : List (List Line) → Gone
gone_by lines v slot = (get_or (get_or lines slot []) v nothing).gone

abbrev is_late : View → Releases → Gone → ℕ → Entry → Bool
is_late t released gone slots x =
    ltb (length (delivered t gone x.number x.slot (x.slot + slots))) (length (message t released x.number x.slot))

-- how many of channel k's messages are not yet whole at their destination so many slots after their release
late : View → List Entry → List (List Line) → ℕ → ℕ → ℕ
late t xs lines k slots = total (λ (x : Entry). only (eqb x.number k && is_late t (released_by xs) (gone_by lines) slots x) 1) xs

-- of each channel: whether its longest end-to-end delay is the stated one
longest : View → List Entry → List (List Line) → List ℕ → List Bool
longest t xs lines ends =
    listed
    (λ k. ltb 0 (late t xs lines k (get_or ends k 0 - 1)) && eqb (late t xs lines k (get_or ends k 0)) 0)
    t.channels

-- A message of two frames, and a shorter one between them on wire 1.
table1 : List ℕ
table1 =
    0x00 ∷ 0x00 ∷ 0x64 ∷ 0x04 ∷ 0x05 ∷ 0x00 ∷ 0x20 ∷ 0x02 ∷ 0x4f ∷ 0x50 ∷ 0x04 ∷ 0x00 ∷ 0x2b ∷ 0xc2 ∷ 0x05 ∷ 0xd5 ∷ 0x00 ∷ 0x00
    ∷ 0x64 ∷ 0x00 ∷ 0x00 ∷ 0x6c ∷ 0x20 ∷ 0x01 ∷ 0x00 ∷ 0x1b ∷ 0x80 ∷ 0x00 ∷ 0x19 ∷ 0x00 ∷ 0x00 ∷ 0x1d ∷ 0x88 ∷ 0x20 ∷ []

releases1 : List Entry
releases1 = entry 0 0 1493 ∷ entry 20 1 55 ∷ []

holds1 : List Entry
holds1 = entry 0 0 2 ∷ entry 19 1 3 ∷ []

lines1 : List (List Line)
lines1 =
    (line (frame 0 0 1542 ∷ frame 0 0 88 ∷ []) 1630 2 ([]) ∷ line ([]) 0 0 ([]) ∷ [])
    ∷ (line ([]) 1630 1 ([]) ∷ line ([]) 0 0 ([]) ∷ [])
    ∷ (line ([]) 1630 0 ([]) ∷ line ([]) 0 0 ([]) ∷ [])
    ∷ (line ([]) 1530 0 ([]) ∷ line ([]) 0 0 ([]) ∷ [])
    ∷ (line ([]) 1430 0 ([]) ∷ line ([]) 0 0 ([]) ∷ [])
    ∷ (line ([]) 1330 0 ([]) ∷ line ([]) 0 0 ([]) ∷ [])
    ∷ (line ([]) 1230 0 ([]) ∷ line ([]) 0 0 ([]) ∷ [])
    ∷ (line ([]) 1130 0 ([]) ∷ line ([]) 0 0 ([]) ∷ [])
    ∷ (line ([]) 1030 0 ([]) ∷ line ([]) 0 0 ([]) ∷ [])
    ∷ (line ([]) 930 0 ([]) ∷ line ([]) 0 0 ([]) ∷ [])
    ∷ (line ([]) 830 0 ([]) ∷ line ([]) 0 0 ([]) ∷ [])
    ∷ (line ([]) 730 0 ([]) ∷ line ([]) 0 0 ([]) ∷ [])
    ∷ (line ([]) 630 0 ([]) ∷ line ([]) 0 0 ([]) ∷ [])
    ∷ (line ([]) 530 0 ([]) ∷ line ([]) 0 0 ([]) ∷ [])
    ∷ (line ([]) 430 0 ([]) ∷ line ([]) 0 0 ([]) ∷ [])
    ∷ (line ([]) 330 0 ([]) ∷ line ([]) 0 0 ([]) ∷ [])
    ∷ (line ([]) 230 0 ([]) ∷ line ([]) 0 0 ([]) ∷ [])
    ∷ (line ([]) 130 0 (frame 0 0 1542 ∷ []) ∷ line ([]) 0 0 ([]) ∷ [])
    ∷ (line ([]) 30 0 (frame 0 0 88 ∷ []) ∷ line ([]) 0 0 ([]) ∷ [])
    ∷ (line ([]) 0 0 ([]) ∷ line (frame 0 0 1542 ∷ []) 1542 3 ([]) ∷ [])
    ∷ (line ([]) 0 0 ([]) ∷ line (frame 1 20 105 ∷ frame 0 0 88 ∷ []) 1735 2 ([]) ∷ [])
    ∷ (line ([]) 0 0 ([]) ∷ line ([]) 1735 1 ([]) ∷ [])
    ∷ (line ([]) 0 0 ([]) ∷ line ([]) 1735 0 ([]) ∷ [])
    ∷ (line ([]) 0 0 ([]) ∷ line ([]) 1635 0 ([]) ∷ [])
    ∷ (line ([]) 0 0 ([]) ∷ line ([]) 1535 0 ([]) ∷ [])
    ∷ (line ([]) 0 0 ([]) ∷ line ([]) 1435 0 ([]) ∷ [])
    ∷ (line ([]) 0 0 ([]) ∷ line ([]) 1335 0 ([]) ∷ [])
    ∷ (line ([]) 0 0 ([]) ∷ line ([]) 1235 0 ([]) ∷ [])
    ∷ (line ([]) 0 0 ([]) ∷ line ([]) 1135 0 ([]) ∷ [])
    ∷ (line ([]) 0 0 ([]) ∷ line ([]) 1035 0 ([]) ∷ [])
    ∷ (line ([]) 0 0 ([]) ∷ line ([]) 935 0 ([]) ∷ [])
    ∷ (line ([]) 0 0 ([]) ∷ line ([]) 835 0 ([]) ∷ [])
    ∷ (line ([]) 0 0 ([]) ∷ line ([]) 735 0 ([]) ∷ [])
    ∷ (line ([]) 0 0 ([]) ∷ line ([]) 635 0 ([]) ∷ [])
    ∷ (line ([]) 0 0 ([]) ∷ line ([]) 535 0 ([]) ∷ [])
    ∷ (line ([]) 0 0 ([]) ∷ line ([]) 435 0 ([]) ∷ [])
    ∷ (line ([]) 0 0 ([]) ∷ line ([]) 335 0 ([]) ∷ [])
    ∷ (line ([]) 0 0 ([]) ∷ line ([]) 235 0 (frame 0 0 1542 ∷ []) ∷ [])
    ∷ (line ([]) 0 0 ([]) ∷ line ([]) 135 0 (frame 1 20 105 ∷ []) ∷ [])
    ∷ (line ([]) 0 0 ([]) ∷ line ([]) 35 0 (frame 0 0 88 ∷ []) ∷ [])
    ∷ []

replay1 : replay (view_of table1) (released_by releases1) (chosen_by holds1) lines1 ≡ lines1
unfolding definitions nothing line_of lines_from replay table1 releases1 holds1 lines1
replay1 = refl

whole1 : longest (view_of table1) releases1 lines1 (42 ∷ 21 ∷ []) ≡ true ∷ true ∷ []
unfolding definitions nothing late longest table1 releases1 lines1
whole1 = refl

-- Several frames ending in one slot at rate 100; wire 0 held again, wire 1 no longer than it may be.
table2 : List ℕ
table2 =
    0x00 ∷ 0x00 ∷ 0x0a ∷ 0x04 ∷ 0x07 ∷ 0x00 ∷ 0x00 ∷ 0x01 ∷ 0xa8 ∷ 0x90 ∷ 0x00 ∷ 0x00 ∷ 0x18 ∷ 0xb6 ∷ 0x00 ∷ 0x46 ∷ 0x00 ∷ 0x00
    ∷ 0x0a ∷ 0x00 ∷ 0x00 ∷ 0x42 ∷ 0x20 ∷ 0x01 ∷ 0x00 ∷ 0x00 ∷ 0x80 ∷ 0x00 ∷ 0x02 ∷ 0x80 ∷ 0x00 ∷ 0x21 ∷ 0x10 ∷ 0x00 ∷ 0x80 ∷ 0x00
    ∷ 0x40 ∷ 0x00 ∷ 0x02 ∷ 0x80 ∷ 0x00 ∷ 0x10 ∷ 0x88 ∷ 0x00 ∷ 0x40 ∷ []

releases2 : List Entry
releases2 = entry 0 0 70 ∷ entry 0 1 1 ∷ entry 0 2 1 ∷ entry 5 1 1 ∷ []

holds2 : List Entry
holds2 = entry 0 0 2 ∷ entry 4 1 20 ∷ entry 5 0 3 ∷ []

lines2 : List (List Line)
lines2 =
    (line (frame 0 0 120 ∷ frame 1 0 88 ∷ frame 2 0 88 ∷ []) 296 2 ([]) ∷ line ([]) 0 0 ([]) ∷ [])
    ∷ (line ([]) 296 1 ([]) ∷ line ([]) 0 0 ([]) ∷ [])
    ∷ (line ([]) 296 0 ([]) ∷ line ([]) 0 0 ([]) ∷ [])
    ∷ (line ([]) 196 0 (frame 0 0 120 ∷ []) ∷ line ([]) 0 0 ([]) ∷ [])
    ∷ (line ([]) 96 0 (frame 1 0 88 ∷ frame 2 0 88 ∷ []) ∷ line (frame 0 0 120 ∷ []) 120 16 ([]) ∷ [])
    ∷ (line (frame 1 5 88 ∷ []) 88 3 ([]) ∷ line (frame 1 0 88 ∷ frame 2 0 88 ∷ []) 296 15 ([]) ∷ [])
    ∷ (line ([]) 88 2 ([]) ∷ line ([]) 296 14 ([]) ∷ [])
    ∷ (line ([]) 88 1 ([]) ∷ line ([]) 296 13 ([]) ∷ [])
    ∷ (line ([]) 88 0 (frame 1 5 88 ∷ []) ∷ line ([]) 296 12 ([]) ∷ [])
    ∷ (line ([]) 0 0 ([]) ∷ line (frame 1 5 88 ∷ []) 384 11 ([]) ∷ [])
    ∷ (line ([]) 0 0 ([]) ∷ line ([]) 384 10 ([]) ∷ [])
    ∷ (line ([]) 0 0 ([]) ∷ line ([]) 384 9 ([]) ∷ [])
    ∷ (line ([]) 0 0 ([]) ∷ line ([]) 384 8 ([]) ∷ [])
    ∷ (line ([]) 0 0 ([]) ∷ line ([]) 384 7 ([]) ∷ [])
    ∷ (line ([]) 0 0 ([]) ∷ line ([]) 384 6 ([]) ∷ [])
    ∷ (line ([]) 0 0 ([]) ∷ line ([]) 384 5 ([]) ∷ [])
    ∷ (line ([]) 0 0 ([]) ∷ line ([]) 384 4 ([]) ∷ [])
    ∷ (line ([]) 0 0 ([]) ∷ line ([]) 384 3 ([]) ∷ [])
    ∷ (line ([]) 0 0 ([]) ∷ line ([]) 384 2 ([]) ∷ [])
    ∷ (line ([]) 0 0 ([]) ∷ line ([]) 384 1 ([]) ∷ [])
    ∷ (line ([]) 0 0 ([]) ∷ line ([]) 384 0 ([]) ∷ [])
    ∷ (line ([]) 0 0 ([]) ∷ line ([]) 284 0 (frame 0 0 120 ∷ []) ∷ [])
    ∷ (line ([]) 0 0 ([]) ∷ line ([]) 184 0 (frame 1 0 88 ∷ frame 2 0 88 ∷ []) ∷ [])
    ∷ (line ([]) 0 0 ([]) ∷ line ([]) 84 0 (frame 1 5 88 ∷ []) ∷ [])
    ∷ []

replay2 : replay (view_of table2) (released_by releases2) (chosen_by holds2) lines2 ≡ lines2
unfolding definitions nothing line_of lines_from replay table2 releases2 holds2 lines2
replay2 = refl

whole2 : longest (view_of table2) releases2 lines2 (22 ∷ 23 ∷ 23 ∷ []) ≡ true ∷ true ∷ true ∷ []
unfolding definitions nothing late longest table2 releases2 lines2
whole2 = refl

-- A shuffled slot: releases in slot 0, frames due and a release in slot 5; wire 1 not held again in slot 8.
table3 : List ℕ
table3 =
    0x00 ∷ 0x00 ∷ 0x0c ∷ 0x04 ∷ 0x0b ∷ 0x00 ∷ 0x00 ∷ 0x01 ∷ 0xb5 ∷ 0xb0 ∷ 0x00 ∷ 0x00 ∷ 0x23 ∷ 0xc0 ∷ 0x00 ∷ 0x01 ∷ 0x00 ∷ 0x00
    ∷ 0x06 ∷ 0x00 ∷ 0x00 ∷ 0x52 ∷ 0x20 ∷ 0x01 ∷ 0x00 ∷ 0x13 ∷ 0x80 ∷ 0x00 ∷ 0x06 ∷ 0x00 ∷ 0x00 ∷ 0x29 ∷ 0x10 ∷ 0x00 ∷ 0x80 ∷ 0x0f
    ∷ 0x80 ∷ 0x00 ∷ 0x03 ∷ 0x00 ∷ 0x00 ∷ 0x09 ∷ 0x04 ∷ 0x00 ∷ 0x01 ∷ 0xf0 ∷ 0x00 ∷ 0x00 ∷ 0x60 ∷ 0x00 ∷ 0x02 ∷ 0x91 ∷ 0x00 ∷ 0x08
    ∷ 0x00 ∷ 0x04 ∷ 0x00 ∷ 0x00 ∷ 0x10 ∷ 0x00 ∷ 0x00 ∷ 0xb8 ∷ 0x41 ∷ []

releases3 : List Entry
releases3 = entry 0 3 62 ∷ entry 0 0 1 ∷ entry 0 2 62 ∷ entry 0 1 39 ∷ entry 5 4 1 ∷ []

holds3 : List Entry
holds3 = entry 0 0 3 ∷ entry 5 1 2 ∷ entry 8 1 4 ∷ []

lines3 : List (List Line)
lines3 =
    (line (frame 3 0 112 ∷ frame 0 0 88 ∷ frame 2 0 112 ∷ frame 1 0 89 ∷ []) 401 3 ([]) ∷ line ([]) 0 0 ([]) ∷ [])
    ∷ (line ([]) 401 2 ([]) ∷ line ([]) 0 0 ([]) ∷ [])
    ∷ (line ([]) 401 1 ([]) ∷ line ([]) 0 0 ([]) ∷ [])
    ∷ (line ([]) 401 0 ([]) ∷ line ([]) 0 0 ([]) ∷ [])
    ∷ (line ([]) 301 0 (frame 3 0 112 ∷ frame 0 0 88 ∷ []) ∷ line ([]) 0 0 ([]) ∷ [])
    ∷ (line ([]) 201 0 ([]) ∷ line (frame 4 5 88 ∷ frame 0 0 88 ∷ frame 3 0 112 ∷ []) 288 2 ([]) ∷ [])
    ∷ (line ([]) 101 0 (frame 2 0 112 ∷ []) ∷ line ([]) 288 1 ([]) ∷ [])
    ∷ (line ([]) 1 0 (frame 1 0 89 ∷ []) ∷ line ([]) 288 0 (frame 4 5 88 ∷ []) ∷ [])
    ∷ (line ([]) 0 0 ([]) ∷ line (frame 1 0 89 ∷ []) 277 0 (frame 0 0 88 ∷ []) ∷ [])
    ∷ (line ([]) 0 0 ([]) ∷ line ([]) 177 0 (frame 3 0 112 ∷ []) ∷ [])
    ∷ (line ([]) 0 0 ([]) ∷ line ([]) 77 0 (frame 1 0 89 ∷ []) ∷ [])
    ∷ []

replay3 : replay (view_of table3) (released_by releases3) (chosen_by holds3) lines3 ≡ lines3
unfolding definitions nothing line_of lines_from replay table3 releases3 holds3 lines3
replay3 = refl

whole3 : longest (view_of table3) releases3 lines3 (9 ∷ 11 ∷ 7 ∷ 10 ∷ 3 ∷ []) ≡ true ∷ true ∷ true ∷ true ∷ true ∷ []
unfolding definitions nothing late longest table3 releases3 lines3
whole3 = refl

-- Wires of rate 100 and 10.
table4 : List ℕ
table4 =
    0x00 ∷ 0x00 ∷ 0x14 ∷ 0x04 ∷ 0x03 ∷ 0x00 ∷ 0x00 ∷ 0x01 ∷ 0x8e ∷ 0x88 ∷ 0x02 ∷ 0x00 ∷ 0x0d ∷ 0xdc ∷ 0x00 ∷ 0x01 ∷ 0x00 ∷ 0x00
    ∷ 0x14 ∷ 0x00 ∷ 0x00 ∷ 0xd3 ∷ 0x20 ∷ 0x01 ∷ []

releases4 : List Entry
releases4 = entry 0 0 1 ∷ []

holds4 : List Entry
holds4 = entry 0 0 2 ∷ entry 3 1 3 ∷ []

lines4 : List (List Line)
lines4 =
    (line (frame 0 0 88 ∷ []) 88 2 ([]) ∷ line ([]) 0 0 ([]) ∷ [])
    ∷ (line ([]) 88 1 ([]) ∷ line ([]) 0 0 ([]) ∷ [])
    ∷ (line ([]) 88 0 (frame 0 0 88 ∷ []) ∷ line ([]) 0 0 ([]) ∷ [])
    ∷ (line ([]) 0 0 ([]) ∷ line (frame 0 0 88 ∷ []) 88 3 ([]) ∷ [])
    ∷ (line ([]) 0 0 ([]) ∷ line ([]) 88 2 ([]) ∷ [])
    ∷ (line ([]) 0 0 ([]) ∷ line ([]) 88 1 ([]) ∷ [])
    ∷ (line ([]) 0 0 ([]) ∷ line ([]) 88 0 ([]) ∷ [])
    ∷ (line ([]) 0 0 ([]) ∷ line ([]) 78 0 ([]) ∷ [])
    ∷ (line ([]) 0 0 ([]) ∷ line ([]) 68 0 ([]) ∷ [])
    ∷ (line ([]) 0 0 ([]) ∷ line ([]) 58 0 ([]) ∷ [])
    ∷ (line ([]) 0 0 ([]) ∷ line ([]) 48 0 ([]) ∷ [])
    ∷ (line ([]) 0 0 ([]) ∷ line ([]) 38 0 ([]) ∷ [])
    ∷ (line ([]) 0 0 ([]) ∷ line ([]) 28 0 ([]) ∷ [])
    ∷ (line ([]) 0 0 ([]) ∷ line ([]) 18 0 ([]) ∷ [])
    ∷ (line ([]) 0 0 ([]) ∷ line ([]) 8 0 (frame 0 0 88 ∷ []) ∷ [])
    ∷ []

replay4 : replay (view_of table4) (released_by releases4) (chosen_by holds4) lines4 ≡ lines4
unfolding definitions nothing line_of lines_from replay table4 releases4 holds4 lines4
replay4 = refl

whole4 : longest (view_of table4) releases4 lines4 (16 ∷ []) ≡ true ∷ []
unfolding definitions nothing late longest table4 releases4 lines4
whole4 = refl

-- Delays reached exactly on a later wire.
table5 : List ℕ
table5 =
    0x00 ∷ 0x00 ∷ 0x42 ∷ 0x04 ∷ 0x05 ∷ 0x00 ∷ 0x00 ∷ 0x01 ∷ 0x9c ∷ 0xb0 ∷ 0x00 ∷ 0x00 ∷ 0x0d ∷ 0xe0 ∷ 0x00 ∷ 0x01 ∷ 0x00 ∷ 0x00
    ∷ 0x21 ∷ 0x00 ∷ 0x00 ∷ 0x34 ∷ 0x20 ∷ 0x01 ∷ 0x00 ∷ 0x1f ∷ 0x80 ∷ 0x00 ∷ 0x21 ∷ 0x00 ∷ 0x00 ∷ 0x11 ∷ 0x08 ∷ 0x00 ∷ []

releases5 : List Entry
releases5 = entry 0 1 63 ∷ entry 0 0 1 ∷ entry 33 0 1 ∷ []

holds5 : List Entry
holds5 = entry 0 0 31 ∷ entry 34 1 16 ∷ []

lines5 : List (List Line)
lines5 =
    (line (frame 1 0 113 ∷ frame 0 0 88 ∷ []) 201 31 ([]) ∷ line ([]) 0 0 ([]) ∷ [])
    ∷ (line ([]) 201 30 ([]) ∷ line ([]) 0 0 ([]) ∷ [])
    ∷ (line ([]) 201 29 ([]) ∷ line ([]) 0 0 ([]) ∷ [])
    ∷ (line ([]) 201 28 ([]) ∷ line ([]) 0 0 ([]) ∷ [])
    ∷ (line ([]) 201 27 ([]) ∷ line ([]) 0 0 ([]) ∷ [])
    ∷ (line ([]) 201 26 ([]) ∷ line ([]) 0 0 ([]) ∷ [])
    ∷ (line ([]) 201 25 ([]) ∷ line ([]) 0 0 ([]) ∷ [])
    ∷ (line ([]) 201 24 ([]) ∷ line ([]) 0 0 ([]) ∷ [])
    ∷ (line ([]) 201 23 ([]) ∷ line ([]) 0 0 ([]) ∷ [])
    ∷ (line ([]) 201 22 ([]) ∷ line ([]) 0 0 ([]) ∷ [])
    ∷ (line ([]) 201 21 ([]) ∷ line ([]) 0 0 ([]) ∷ [])
    ∷ (line ([]) 201 20 ([]) ∷ line ([]) 0 0 ([]) ∷ [])
    ∷ (line ([]) 201 19 ([]) ∷ line ([]) 0 0 ([]) ∷ [])
    ∷ (line ([]) 201 18 ([]) ∷ line ([]) 0 0 ([]) ∷ [])
    ∷ (line ([]) 201 17 ([]) ∷ line ([]) 0 0 ([]) ∷ [])
    ∷ (line ([]) 201 16 ([]) ∷ line ([]) 0 0 ([]) ∷ [])
    ∷ (line ([]) 201 15 ([]) ∷ line ([]) 0 0 ([]) ∷ [])
    ∷ (line ([]) 201 14 ([]) ∷ line ([]) 0 0 ([]) ∷ [])
    ∷ (line ([]) 201 13 ([]) ∷ line ([]) 0 0 ([]) ∷ [])
    ∷ (line ([]) 201 12 ([]) ∷ line ([]) 0 0 ([]) ∷ [])
    ∷ (line ([]) 201 11 ([]) ∷ line ([]) 0 0 ([]) ∷ [])
    ∷ (line ([]) 201 10 ([]) ∷ line ([]) 0 0 ([]) ∷ [])
    ∷ (line ([]) 201 9 ([]) ∷ line ([]) 0 0 ([]) ∷ [])
    ∷ (line ([]) 201 8 ([]) ∷ line ([]) 0 0 ([]) ∷ [])
    ∷ (line ([]) 201 7 ([]) ∷ line ([]) 0 0 ([]) ∷ [])
    ∷ (line ([]) 201 6 ([]) ∷ line ([]) 0 0 ([]) ∷ [])
    ∷ (line ([]) 201 5 ([]) ∷ line ([]) 0 0 ([]) ∷ [])
    ∷ (line ([]) 201 4 ([]) ∷ line ([]) 0 0 ([]) ∷ [])
    ∷ (line ([]) 201 3 ([]) ∷ line ([]) 0 0 ([]) ∷ [])
    ∷ (line ([]) 201 2 ([]) ∷ line ([]) 0 0 ([]) ∷ [])
    ∷ (line ([]) 201 1 ([]) ∷ line ([]) 0 0 ([]) ∷ [])
    ∷ (line ([]) 201 0 ([]) ∷ line ([]) 0 0 ([]) ∷ [])
    ∷ (line ([]) 101 0 (frame 1 0 113 ∷ []) ∷ line ([]) 0 0 ([]) ∷ [])
    ∷ (line (frame 0 33 88 ∷ []) 89 0 (frame 0 0 88 ∷ frame 0 33 88 ∷ []) ∷ line ([]) 0 0 ([]) ∷ [])
    ∷ (line ([]) 0 0 ([]) ∷ line (frame 0 33 88 ∷ frame 0 0 88 ∷ []) 176 16 ([]) ∷ [])
    ∷ (line ([]) 0 0 ([]) ∷ line ([]) 176 15 ([]) ∷ [])
    ∷ (line ([]) 0 0 ([]) ∷ line ([]) 176 14 ([]) ∷ [])
    ∷ (line ([]) 0 0 ([]) ∷ line ([]) 176 13 ([]) ∷ [])
    ∷ (line ([]) 0 0 ([]) ∷ line ([]) 176 12 ([]) ∷ [])
    ∷ (line ([]) 0 0 ([]) ∷ line ([]) 176 11 ([]) ∷ [])
    ∷ (line ([]) 0 0 ([]) ∷ line ([]) 176 10 ([]) ∷ [])
    ∷ (line ([]) 0 0 ([]) ∷ line ([]) 176 9 ([]) ∷ [])
    ∷ (line ([]) 0 0 ([]) ∷ line ([]) 176 8 ([]) ∷ [])
    ∷ (line ([]) 0 0 ([]) ∷ line ([]) 176 7 ([]) ∷ [])
    ∷ (line ([]) 0 0 ([]) ∷ line ([]) 176 6 ([]) ∷ [])
    ∷ (line ([]) 0 0 ([]) ∷ line ([]) 176 5 ([]) ∷ [])
    ∷ (line ([]) 0 0 ([]) ∷ line ([]) 176 4 ([]) ∷ [])
    ∷ (line ([]) 0 0 ([]) ∷ line ([]) 176 3 ([]) ∷ [])
    ∷ (line ([]) 0 0 ([]) ∷ line ([]) 176 2 ([]) ∷ [])
    ∷ (line ([]) 0 0 ([]) ∷ line ([]) 176 1 ([]) ∷ [])
    ∷ (line ([]) 0 0 ([]) ∷ line ([]) 176 0 (frame 0 33 88 ∷ []) ∷ [])
    ∷ (line ([]) 0 0 ([]) ∷ line ([]) 76 0 (frame 0 0 88 ∷ []) ∷ [])
    ∷ []

replay5 : replay (view_of table5) (released_by releases5) (chosen_by holds5) lines5 ≡ lines5
unfolding definitions nothing line_of lines_from replay table5 releases5 holds5 lines5
replay5 = refl

whole5 : longest (view_of table5) releases5 lines5 (52 ∷ 33 ∷ []) ≡ true ∷ true ∷ []
unfolding definitions nothing late longest table5 releases5 lines5
whole5 = refl

-- Figures reached exactly on a wire full of load.
table6 : List ℕ
table6 =
    0x00 ∷ 0x00 ∷ 0x01 ∷ 0x02 ∷ 0x03 ∷ 0x00 ∷ 0x00 ∷ 0x01 ∷ 0x90 ∷ 0x00 ∷ 0x03 ∷ 0x20 ∷ 0x00 ∷ 0x00 ∷ 0x10 ∷ 0x00 ∷ 0x02 ∷ 0x01
    ∷ 0x00 ∷ []

releases6 : List Entry
releases6 =
    entry 0 0 50 ∷ entry 1 0 50 ∷ entry 2 0 50 ∷ entry 3 0 50 ∷ entry 4 0 50 ∷ entry 5 0 50 ∷ entry 6 0 50 ∷ entry 7 0 50
    ∷ entry 8 0 50 ∷ entry 9 0 50 ∷ entry 10 0 50 ∷ entry 11 0 50 ∷ entry 12 0 50 ∷ entry 13 0 50 ∷ entry 14 0 50 ∷ entry 15 0 50
    ∷ entry 16 0 50 ∷ entry 17 0 50 ∷ entry 18 0 50 ∷ entry 19 0 50 ∷ entry 20 0 50 ∷ entry 21 0 50 ∷ entry 22 0 50
    ∷ entry 23 0 50 ∷ entry 24 0 50 ∷ entry 25 0 50 ∷ entry 26 0 50 ∷ entry 27 0 50 ∷ entry 28 0 50 ∷ entry 29 0 50
    ∷ entry 30 0 50 ∷ entry 31 0 50 ∷ entry 32 0 50 ∷ entry 33 0 50 ∷ []

holds6 : List Entry
holds6 = entry 0 0 31 ∷ []

lines6 : List (List Line)
lines6 =
    (line (frame 0 0 100 ∷ []) 100 31 ([]) ∷ [])
    ∷ (line (frame 0 1 100 ∷ []) 200 30 ([]) ∷ [])
    ∷ (line (frame 0 2 100 ∷ []) 300 29 ([]) ∷ [])
    ∷ (line (frame 0 3 100 ∷ []) 400 28 ([]) ∷ [])
    ∷ (line (frame 0 4 100 ∷ []) 500 27 ([]) ∷ [])
    ∷ (line (frame 0 5 100 ∷ []) 600 26 ([]) ∷ [])
    ∷ (line (frame 0 6 100 ∷ []) 700 25 ([]) ∷ [])
    ∷ (line (frame 0 7 100 ∷ []) 800 24 ([]) ∷ [])
    ∷ (line (frame 0 8 100 ∷ []) 900 23 ([]) ∷ [])
    ∷ (line (frame 0 9 100 ∷ []) 1000 22 ([]) ∷ [])
    ∷ (line (frame 0 10 100 ∷ []) 1100 21 ([]) ∷ [])
    ∷ (line (frame 0 11 100 ∷ []) 1200 20 ([]) ∷ [])
    ∷ (line (frame 0 12 100 ∷ []) 1300 19 ([]) ∷ [])
    ∷ (line (frame 0 13 100 ∷ []) 1400 18 ([]) ∷ [])
    ∷ (line (frame 0 14 100 ∷ []) 1500 17 ([]) ∷ [])
    ∷ (line (frame 0 15 100 ∷ []) 1600 16 ([]) ∷ [])
    ∷ (line (frame 0 16 100 ∷ []) 1700 15 ([]) ∷ [])
    ∷ (line (frame 0 17 100 ∷ []) 1800 14 ([]) ∷ [])
    ∷ (line (frame 0 18 100 ∷ []) 1900 13 ([]) ∷ [])
    ∷ (line (frame 0 19 100 ∷ []) 2000 12 ([]) ∷ [])
    ∷ (line (frame 0 20 100 ∷ []) 2100 11 ([]) ∷ [])
    ∷ (line (frame 0 21 100 ∷ []) 2200 10 ([]) ∷ [])
    ∷ (line (frame 0 22 100 ∷ []) 2300 9 ([]) ∷ [])
    ∷ (line (frame 0 23 100 ∷ []) 2400 8 ([]) ∷ [])
    ∷ (line (frame 0 24 100 ∷ []) 2500 7 ([]) ∷ [])
    ∷ (line (frame 0 25 100 ∷ []) 2600 6 ([]) ∷ [])
    ∷ (line (frame 0 26 100 ∷ []) 2700 5 ([]) ∷ [])
    ∷ (line (frame 0 27 100 ∷ []) 2800 4 ([]) ∷ [])
    ∷ (line (frame 0 28 100 ∷ []) 2900 3 ([]) ∷ [])
    ∷ (line (frame 0 29 100 ∷ []) 3000 2 ([]) ∷ [])
    ∷ (line (frame 0 30 100 ∷ []) 3100 1 ([]) ∷ [])
    ∷ (line (frame 0 31 100 ∷ []) 3200 0 (frame 0 0 100 ∷ []) ∷ [])
    ∷ (line (frame 0 32 100 ∷ []) 3200 0 (frame 0 1 100 ∷ []) ∷ [])
    ∷ (line (frame 0 33 100 ∷ []) 3200 0 (frame 0 2 100 ∷ []) ∷ [])
    ∷ (line ([]) 3100 0 (frame 0 3 100 ∷ []) ∷ [])
    ∷ (line ([]) 3000 0 (frame 0 4 100 ∷ []) ∷ [])
    ∷ (line ([]) 2900 0 (frame 0 5 100 ∷ []) ∷ [])
    ∷ (line ([]) 2800 0 (frame 0 6 100 ∷ []) ∷ [])
    ∷ (line ([]) 2700 0 (frame 0 7 100 ∷ []) ∷ [])
    ∷ (line ([]) 2600 0 (frame 0 8 100 ∷ []) ∷ [])
    ∷ (line ([]) 2500 0 (frame 0 9 100 ∷ []) ∷ [])
    ∷ (line ([]) 2400 0 (frame 0 10 100 ∷ []) ∷ [])
    ∷ (line ([]) 2300 0 (frame 0 11 100 ∷ []) ∷ [])
    ∷ (line ([]) 2200 0 (frame 0 12 100 ∷ []) ∷ [])
    ∷ (line ([]) 2100 0 (frame 0 13 100 ∷ []) ∷ [])
    ∷ (line ([]) 2000 0 (frame 0 14 100 ∷ []) ∷ [])
    ∷ (line ([]) 1900 0 (frame 0 15 100 ∷ []) ∷ [])
    ∷ (line ([]) 1800 0 (frame 0 16 100 ∷ []) ∷ [])
    ∷ (line ([]) 1700 0 (frame 0 17 100 ∷ []) ∷ [])
    ∷ (line ([]) 1600 0 (frame 0 18 100 ∷ []) ∷ [])
    ∷ (line ([]) 1500 0 (frame 0 19 100 ∷ []) ∷ [])
    ∷ (line ([]) 1400 0 (frame 0 20 100 ∷ []) ∷ [])
    ∷ (line ([]) 1300 0 (frame 0 21 100 ∷ []) ∷ [])
    ∷ (line ([]) 1200 0 (frame 0 22 100 ∷ []) ∷ [])
    ∷ (line ([]) 1100 0 (frame 0 23 100 ∷ []) ∷ [])
    ∷ (line ([]) 1000 0 (frame 0 24 100 ∷ []) ∷ [])
    ∷ (line ([]) 900 0 (frame 0 25 100 ∷ []) ∷ [])
    ∷ (line ([]) 800 0 (frame 0 26 100 ∷ []) ∷ [])
    ∷ (line ([]) 700 0 (frame 0 27 100 ∷ []) ∷ [])
    ∷ (line ([]) 600 0 (frame 0 28 100 ∷ []) ∷ [])
    ∷ (line ([]) 500 0 (frame 0 29 100 ∷ []) ∷ [])
    ∷ (line ([]) 400 0 (frame 0 30 100 ∷ []) ∷ [])
    ∷ (line ([]) 300 0 (frame 0 31 100 ∷ []) ∷ [])
    ∷ (line ([]) 200 0 (frame 0 32 100 ∷ []) ∷ [])
    ∷ (line ([]) 100 0 (frame 0 33 100 ∷ []) ∷ [])
    ∷ []

replay6 : replay (view_of table6) (released_by releases6) (chosen_by holds6) lines6 ≡ lines6
unfolding definitions nothing line_of lines_from replay table6 releases6 holds6 lines6
replay6 = refl

whole6 : longest (view_of table6) releases6 lines6 (32 ∷ []) ≡ true ∷ []
unfolding definitions nothing late longest table6 releases6 lines6
whole6 = refl

-- A channel over three wires, and another that it meets on the third; wires 1 and 2 held.
table7 : List ℕ
table7 =
    0x00 ∷ 0x00 ∷ 0x32 ∷ 0x06 ∷ 0x05 ∷ 0x00 ∷ 0x40 ∷ 0x01 ∷ 0x96 ∷ 0x50 ∷ 0x02 ∷ 0x00 ∷ 0x0e ∷ 0x6d ∷ 0x00 ∷ 0x60 ∷ 0x01 ∷ 0xb6
    ∷ 0xc0 ∷ 0x06 ∷ 0x40 ∷ 0x00 ∷ 0x03 ∷ 0x20 ∷ 0x00 ∷ 0x05 ∷ 0xe3 ∷ 0x00 ∷ 0x10 ∷ 0x80 ∷ 0x07 ∷ 0x80 ∷ 0x00 ∷ 0x03 ∷ 0x20 ∷ 0x00
    ∷ 0x04 ∷ 0xe2 ∷ 0x10 ∷ []

releases7 : List Entry
releases7 = entry 0 0 100 ∷ entry 1 1 60 ∷ []

holds7 : List Entry
holds7 = entry 1 2 8 ∷ entry 4 1 2 ∷ []

lines7 : List (List Line)
lines7 =
    (line (frame 0 0 150 ∷ []) 150 0 ([]) ∷ line ([]) 0 0 ([]) ∷ line ([]) 0 0 ([]) ∷ [])
    ∷ (line ([]) 50 0 (frame 0 0 150 ∷ []) ∷ line ([]) 0 0 ([]) ∷ line (frame 1 1 110 ∷ []) 110 8 ([]) ∷ [])
    ∷ (line ([]) 0 0 ([]) ∷ line ([]) 0 0 ([]) ∷ line ([]) 110 7 ([]) ∷ [])
    ∷ (line ([]) 0 0 ([]) ∷ line ([]) 0 0 ([]) ∷ line ([]) 110 6 ([]) ∷ [])
    ∷ (line ([]) 0 0 ([]) ∷ line (frame 0 0 150 ∷ []) 150 2 ([]) ∷ line ([]) 110 5 ([]) ∷ [])
    ∷ (line ([]) 0 0 ([]) ∷ line ([]) 150 1 ([]) ∷ line ([]) 110 4 ([]) ∷ [])
    ∷ (line ([]) 0 0 ([]) ∷ line ([]) 150 0 ([]) ∷ line ([]) 110 3 ([]) ∷ [])
    ∷ (line ([]) 0 0 ([]) ∷ line ([]) 50 0 (frame 0 0 150 ∷ []) ∷ line ([]) 110 2 ([]) ∷ [])
    ∷ (line ([]) 0 0 ([]) ∷ line ([]) 0 0 ([]) ∷ line ([]) 110 1 ([]) ∷ [])
    ∷ (line ([]) 0 0 ([]) ∷ line ([]) 0 0 ([]) ∷ line (frame 0 0 150 ∷ []) 260 0 ([]) ∷ [])
    ∷ (line ([]) 0 0 ([]) ∷ line ([]) 0 0 ([]) ∷ line ([]) 160 0 (frame 1 1 110 ∷ []) ∷ [])
    ∷ (line ([]) 0 0 ([]) ∷ line ([]) 0 0 ([]) ∷ line ([]) 60 0 (frame 0 0 150 ∷ []) ∷ [])
    ∷ []

replay7 : replay (view_of table7) (released_by releases7) (chosen_by holds7) lines7 ≡ lines7
unfolding definitions nothing line_of lines_from replay table7 releases7 holds7 lines7
replay7 = refl

whole7 : longest (view_of table7) releases7 lines7 (15 ∷ 13 ∷ []) ≡ true ∷ true ∷ []
unfolding definitions nothing late longest table7 releases7 lines7
whole7 = refl

-- A message with IP and UDP that plain would be one frame, and a plain one.
table8 : List ℕ
table8 =
    0x00 ∷ 0x00 ∷ 0x28 ∷ 0x02 ∷ 0x05 ∷ 0x00 ∷ 0x40 ∷ 0x02 ∷ 0x5a ∷ 0x50 ∷ 0x5b ∷ 0x90 ∷ 0x00 ∷ 0x02 ∷ 0x80 ∷ 0x00 ∷ 0x03 ∷ 0x31
    ∷ 0x00 ∷ 0x00 ∷ 0x16 ∷ 0x00 ∷ 0x00 ∷ 0x28 ∷ 0x00 ∷ 0x00 ∷ 0x66 ∷ 0x20 ∷ 0x00 ∷ []

releases8 : List Entry
releases8 = entry 0 0 1465 ∷ entry 3 1 11 ∷ []

holds8 : List Entry
holds8 = entry 0 0 1 ∷ []

lines8 : List (List Line)
lines8 =
    (line (frame 0 0 1542 ∷ frame 0 0 88 ∷ []) 1630 1 ([]) ∷ [])
    ∷ (line ([]) 1630 0 ([]) ∷ [])
    ∷ (line ([]) 1530 0 ([]) ∷ [])
    ∷ (line (frame 1 3 88 ∷ []) 1518 0 ([]) ∷ [])
    ∷ (line ([]) 1418 0 ([]) ∷ [])
    ∷ (line ([]) 1318 0 ([]) ∷ [])
    ∷ (line ([]) 1218 0 ([]) ∷ [])
    ∷ (line ([]) 1118 0 ([]) ∷ [])
    ∷ (line ([]) 1018 0 ([]) ∷ [])
    ∷ (line ([]) 918 0 ([]) ∷ [])
    ∷ (line ([]) 818 0 ([]) ∷ [])
    ∷ (line ([]) 718 0 ([]) ∷ [])
    ∷ (line ([]) 618 0 ([]) ∷ [])
    ∷ (line ([]) 518 0 ([]) ∷ [])
    ∷ (line ([]) 418 0 ([]) ∷ [])
    ∷ (line ([]) 318 0 ([]) ∷ [])
    ∷ (line ([]) 218 0 (frame 0 0 1542 ∷ []) ∷ [])
    ∷ (line ([]) 118 0 (frame 0 0 88 ∷ []) ∷ [])
    ∷ (line ([]) 18 0 (frame 1 3 88 ∷ []) ∷ [])
    ∷ []

replay8 : replay (view_of table8) (released_by releases8) (chosen_by holds8) lines8 ≡ lines8
unfolding definitions nothing line_of lines_from replay table8 releases8 holds8 lines8
replay8 = refl

whole8 : longest (view_of table8) releases8 lines8 (20 ∷ 18 ∷ []) ≡ true ∷ true ∷ []
unfolding definitions nothing late longest table8 releases8 lines8
whole8 = refl
