-- Each answer's reply tells the answer: no two answers have one reply.
use mathlib.Core.Path.{◌≡◌, refl, sym, ap₂, ◌∙◌}
use mathlib.Core.List.{List, [], ◌∷◌}
use Prim.Native.Nat.{ℕ}
use lib.ListN.{get_or}
use Rattle.std.specs.Prelude.{Result, Ok, Err, IfOk}
use Rattle.rules.specs.declared.Refusal.{Refusal}
use Rattle.rules.specs.declared.Refusal.TheVariants as refusal
use Rattle.rules.specs.declared.WireFigures.{WireFigures}
use Rattle.rules.specs.declared.Stretch.{Stretch}
use Rattle.rules.specs.Replies.{refusal_number, refusal_place, refusal_reply, reply_of}
use Rattle.rules.specs.Replies.{pricing_reply, reading_reply, judging_reply, wire_reply, channel_reply, label_reply}

-- the refusal with this number and place
abbrev refusal_at : ℕ → ℕ → Refusal
refusal_at number place =
    get_or
    (refusal.CutShort ∷ refusal.CutShort ∷ refusal.Hyperperiod ∷ refusal.Wires ∷ refusal.Channels ∷ refusal.RateCode place
    ∷ refusal.Payload place ∷ refusal.Period place ∷ refusal.Hops place ∷ refusal.RouteWire place ∷ refusal.RouteOrder place
    ∷ refusal.Further ∷ refusal.Load place ∷ refusal.Room place ∷ refusal.Deadline place ∷ refusal.Buffer
    ∷ refusal.SheetLength ∷ refusal.SheetCount ∷ refusal.SheetFilling ∷ refusal.NotInSheet ∷ refusal.Framing ∷ refusal.Roll
    ∷ refusal.NotInRoll ∷ [])
    number refusal.CutShort

told : (r : Refusal) → refusal_at (refusal_number r) (refusal_place r) ≡ r
told refusal.CutShort = refl
told refusal.Hyperperiod = refl
told refusal.Wires = refl
told refusal.Channels = refl
told (refusal.RateCode p) = refl
told (refusal.Payload p) = refl
told (refusal.Period p) = refl
told (refusal.Hops p) = refl
told (refusal.RouteWire p) = refl
told (refusal.RouteOrder p) = refl
told refusal.Further = refl
told (refusal.Load p) = refl
told (refusal.Room p) = refl
told (refusal.Deadline p) = refl
told refusal.Buffer = refl
told refusal.SheetLength = refl
told refusal.SheetCount = refl
told refusal.SheetFilling = refl
told refusal.NotInSheet = refl
told refusal.Framing = refl
told refusal.Roll = refl
told refusal.NotInRoll = refl

pub refusal-one : (a b : Refusal) → refusal_reply a ≡ refusal_reply b → a ≡ b
refusal-one a b e =
    let n : refusal_number a ≡ refusal_number b = cc e in
    let p : refusal_place a ≡ refusal_place b = cc e in
    sym (told a) ∙ ap₂ refusal_at n p ∙ told b

-- of answers whose values tell what was granted
module _ {A : Type 0} (values : A → List ℕ) (one : (x y : A) → values x ≡ values y → x ≡ y) where
  pub answer-one : (a b : Result A Refusal) → reply_of values a ≡ reply_of values b → a ≡ b
  answer-one (Ok x) (Ok y) e = let h : values x ≡ values y = cc e in rw (one x y h)
  answer-one (Ok x) (Err s) e = cc
  answer-one (Err r) (Ok y) e = cc
  answer-one (Err r) (Err s) e = rw (refusal-one r s e)

pub pricing-one : (a b : Result ℕ Refusal) → pricing_reply a ≡ pricing_reply b → a ≡ b
pricing-one = answer-one (λ bytes. bytes ∷ []) (λ x y e. cc)

pub judging-one : (a b : Result ℕ Refusal) → judging_reply a ≡ judging_reply b → a ≡ b
judging-one = answer-one (λ length. length ∷ []) (λ x y e. cc)

pub wire-one : (a b : Result WireFigures Refusal) → wire_reply a ≡ wire_reply b → a ≡ b
wire-one = answer-one (λ wire. wire.backlog ∷ wire.delay ∷ []) (λ x y e.
    let b : x.backlog ≡ y.backlog = cc e in
    let d : x.delay ≡ y.delay = cc e in
    λ i. record { backlog = b i; delay = d i })

pub channel-one : (a b : Result ℕ Refusal) → channel_reply a ≡ channel_reply b → a ≡ b
channel-one = answer-one (λ delay. delay ∷ []) (λ x y e. cc)

pub label-one : (a b : Result Stretch Refusal) → label_reply a ≡ label_reply b → a ≡ b
label-one = answer-one (λ label. label.start ∷ label.length ∷ []) (λ x y e.
    let s : x.start ≡ y.start = cc e in
    let l : x.length ≡ y.length = cc e in
    λ i. record { start = s i; length = l i })

pub reading-one : (a b : Result (Unit {0}) Refusal) → reading_reply a ≡ reading_reply b → a ≡ b
reading-one = answer-one (λ a. []) (λ x y e. refl)

-- an answer without its value, which has the same reply
abbrev bare : {A : Type 0} → Result A Refusal → Result (Unit {0}) Refusal
bare (Ok v) = Ok tt
bare (Err r) = Err r

bare-reply : {A : Type 0} (a : Result A Refusal) → reading_reply (bare a) ≡ reading_reply a
bare-reply (Ok v) = refl
bare-reply (Err r) = refl

bare-one : {A : Type 0} (x : A) (a b : Result A Refusal) → bare a ≡ bare b → IfOk a (λ v. v ≡ x) → IfOk b (λ v. v ≡ x) → a ≡ b
bare-one x (Ok v) (Ok w) e p q = rw (p, q)
bare-one x (Ok v) (Err s) e p q = cc
bare-one x (Err r) (Ok w) e p q = cc
bare-one x (Err r) (Err s) e p q = let h : r ≡ s = cc in rw h

-- of answers whose value is one, where it is granted
pub granted-one : {A : Type 0} (x : A) (a b : Result A Refusal) → reading_reply a ≡ reading_reply b
    → IfOk a (λ v. v ≡ x) → IfOk b (λ v. v ≡ x) → a ≡ b
granted-one x a b e p q = bare-one x a b (reading-one (bare a) (bare b) (bare-reply a ∙ e ∙ sym (bare-reply b))) p q
