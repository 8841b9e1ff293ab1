-- Replies: what was asked, granted with its values; or a refusal with its number and place.
use Rattle.std.specs.Prelude.{◌≡◌, Bool, cond, List, [], ◌∷◌, ◌++◌, ℕ, zero, suc, Result, Ok, Err}
use Rattle.std.specs.Fmt.{decimal}
use Rattle.rules.specs.declared.Refusal.{Refusal}
use Rattle.rules.specs.declared.Refusal.TheVariants as refusal
use Rattle.rules.specs.declared.WireFigures.{WireFigures}
use Rattle.rules.specs.declared.Stretch.{Stretch}

pub data Reply : Type 0 where
  granted : List ℕ → Reply
  refused : ℕ → ℕ → Reply

-- a test: where it fails, the refusal with this number and place; else what follows
unfoldable pub test : Bool → ℕ → ℕ → Reply → Reply
test ok number place rest = cond ok rest (refused number place)

-- the tests of item i, then those of item i + 1, and so on for as many items as are left; then what follows
unfoldable pub each : (ℕ → Reply → Reply) → ℕ → ℕ → Reply → Reply
each tests i zero rest = rest
each tests i (suc left) rest = tests i (each tests (suc i) left rest)

-- the number of each refusal
abbrev pub refusal_number : Refusal → ℕ
refusal_number refusal.CutShort = 1
refusal_number refusal.Hyperperiod = 2
refusal_number refusal.Wires = 3
refusal_number refusal.Channels = 4
refusal_number (refusal.RateCode wire) = 5
refusal_number (refusal.Payload channel) = 6
refusal_number (refusal.Period channel) = 7
refusal_number (refusal.Hops channel) = 8
refusal_number (refusal.RouteWire channel) = 9
refusal_number (refusal.RouteOrder channel) = 10
refusal_number refusal.Further = 11
refusal_number (refusal.Load wire) = 12
refusal_number (refusal.Room wire) = 13
refusal_number (refusal.Deadline channel) = 14
refusal_number refusal.Buffer = 15
refusal_number refusal.SheetLength = 16
refusal_number refusal.SheetCount = 17
refusal_number refusal.SheetFilling = 18
refusal_number refusal.NotInSheet = 19
refusal_number refusal.Framing = 20
refusal_number refusal.Roll = 21
refusal_number refusal.NotInRoll = 22

-- its place: the wire or the channel, where it has one, else 0
abbrev pub refusal_place : Refusal → ℕ
refusal_place refusal.CutShort = 0
refusal_place refusal.Hyperperiod = 0
refusal_place refusal.Wires = 0
refusal_place refusal.Channels = 0
refusal_place (refusal.RateCode wire) = wire
refusal_place (refusal.Payload channel) = channel
refusal_place (refusal.Period channel) = channel
refusal_place (refusal.Hops channel) = channel
refusal_place (refusal.RouteWire channel) = channel
refusal_place (refusal.RouteOrder channel) = channel
refusal_place refusal.Further = 0
refusal_place (refusal.Load wire) = wire
refusal_place (refusal.Room wire) = wire
refusal_place (refusal.Deadline channel) = channel
refusal_place refusal.Buffer = 0
refusal_place refusal.SheetLength = 0
refusal_place refusal.SheetCount = 0
refusal_place refusal.SheetFilling = 0
refusal_place refusal.NotInSheet = 0
refusal_place refusal.Framing = 0
refusal_place refusal.Roll = 0
refusal_place refusal.NotInRoll = 0

-- it in digits: its number, a blank and its place
abbrev pub refusal_text : Refusal → List ℕ
refusal_text r = decimal (refusal_number r) ++ (32 ∷ decimal (refusal_place r))

abbrev pub refusal_reply : Refusal → Reply
refusal_reply r = refused (refusal_number r) (refusal_place r)

-- of a stage with this answer to its tests: the reply, which is what follows where nothing was refused
abbrev pub after : {A : Type 0} → Result A Refusal → Reply → Reply
after (Ok a) rest = rest
after (Err r) rest = refusal_reply r

-- these tests have this answer
abbrev pub Answered : {A : Type 0} → (Reply → Reply) → Result A Refusal → Type 0
Answered tests answer = (rest : Reply) → tests rest ≡ after answer rest

-- Of each answer, document 01's reply.
abbrev pub reply_of : {A : Type 0} → (A → List ℕ) → Result A Refusal → Reply
reply_of values (Ok a) = granted (values a)
reply_of values (Err r) = refusal_reply r

abbrev pub pricing_reply : Result ℕ Refusal → Reply
pricing_reply answer = reply_of (λ bytes. bytes ∷ []) answer

-- of reading a table, or of working out its bounds
abbrev pub reading_reply : {A : Type 0} → Result A Refusal → Reply
reading_reply answer = reply_of (λ a. []) answer

abbrev pub judging_reply : Result ℕ Refusal → Reply
judging_reply answer = reply_of (λ length. length ∷ []) answer

abbrev pub wire_reply : Result WireFigures Refusal → Reply
wire_reply answer = reply_of (λ wire. wire.backlog ∷ wire.delay ∷ []) answer

abbrev pub channel_reply : Result ℕ Refusal → Reply
channel_reply answer = reply_of (λ delay. delay ∷ []) answer

abbrev pub label_reply : Result Stretch Refusal → Reply
label_reply answer = reply_of (λ label. label.start ∷ label.length ∷ []) answer
