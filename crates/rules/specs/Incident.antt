-- What is stated of the definitions so that the incident cannot come again: a table cut short, or with more behind it, never
-- passes for another; a refused table leaves no sheet; and the sheet of an accepted one gives its figures back.
use Rattle.std.specs.Prelude.{◌≡◌, List, [], ◌∷◌, ◌++◌, ℕ, suc, ◌≤◌, ◌<◌, length, take}
use Rattle.bits.specs.Field.{Bytes}
use Rattle.rules.specs.Numbers.{table_longest}
use Rattle.rules.specs.Replies.{Reply, granted, refused}
use Rattle.rules.specs.Table.{View, view_of}
use Rattle.rules.specs.Reading.{reading}
use Rattle.rules.specs.Bounds.{backlog, delay, end_to_end}
use Rattle.rules.specs.Sheet.{ask_wire, ask_channel}
use Rattle.rules.specs.Judgement.{judge, buffer}

-- Every proper prefix of a table that is read lacks a field.
abbrev pub PrefixesRefused : Type 0
PrefixesRefused = (s : List ℕ) → reading s ≡ granted [] → (k : ℕ) → k < length s → reading (take k s) ≡ refused 1 0

-- A table that is read, with anything behind it, has a further byte.
abbrev pub ExtensionsRefused : Type 0
ExtensionsRefused = (s t : List ℕ) → reading s ≡ granted [] → 1 ≤ length t → reading (s ++ t) ≡ refused 11 0

-- A string longer than the longest table is judged as its first 2,166 bytes are.
abbrev pub LongerAlike : Type 0
LongerAlike = (s : List ℕ) → suc table_longest ≤ length s → (lent : ℕ) → judge s lent ≡ judge (take (suc table_longest) s) lent

-- two views are the same below their counts
pub record SameView (a b : View) : Type 0 where
  pub hyper : a.hyper ≡ b.hyper
  pub wires : a.wires ≡ b.wires
  pub channels : a.channels ≡ b.channels
  pub rate : (w : ℕ) → w < a.wires → a.rate w ≡ b.rate w
  pub prop : (w : ℕ) → w < a.wires → a.prop w ≡ b.prop w
  pub room : (w : ℕ) → w < a.wires → a.room w ≡ b.room w
  pub framing : (k : ℕ) → k < a.channels → a.framing k ≡ b.framing k
  pub payload : (k : ℕ) → k < a.channels → a.payload k ≡ b.payload k
  pub period : (k : ℕ) → k < a.channels → a.period k ≡ b.period k
  pub deadline : (k : ℕ) → k < a.channels → a.deadline k ≡ b.deadline k
  pub route : (k : ℕ) → k < a.channels → a.route k ≡ b.route k

-- No two strings of bytes that are read have the same view.
abbrev pub OneString : Type 0
OneString =
    (s t : List ℕ) → Bytes s → Bytes t → reading s ≡ granted [] → reading t ≡ granted [] →
    SameView (view_of s) (view_of t) → s ≡ t

-- asked of s for any wire or channel, the reply is r
abbrev pub Always : List ℕ → Reply → Type 0
Always s r = (i : ℕ) → (ask_wire s i ≡ r) × (ask_channel s i ≡ r)

-- no sheet of any table: fewer than 2 bytes, or a count outside its range
abbrev pub NoSheet : ℕ → List ℕ → Type 0
NoSheet lent s = (lent < 2 → Always s (refused 16 0)) × (2 ≤ lent → Always s (refused 17 0))

-- What a refusal leaves in the lent buffer is no sheet.
abbrev pub LeavesNoSheet : Type 0
LeavesNoSheet = (s : List ℕ) (lent number place : ℕ) → judge s lent ≡ refused number place → NoSheet lent (buffer s lent)

-- asked, s gives these figures below its counts, and 19 for every other number
pub record Answers (s : List ℕ) (n m : ℕ) (b d e : ℕ → ℕ) : Type 0 where
  pub wire : (w : ℕ) → w < n → ask_wire s w ≡ granted (b w ∷ d w ∷ [])
  pub no_wire : (w : ℕ) → n ≤ w → ask_wire s w ≡ refused 19 0
  pub channel : (k : ℕ) → k < m → ask_channel s k ≡ granted (e k ∷ [])
  pub no_channel : (k : ℕ) → m ≤ k → ask_channel s k ≡ refused 19 0

abbrev pub AnswersOf : List ℕ → View → Type 0
AnswersOf s t = Answers s t.wires t.channels (backlog t) (delay t) (end_to_end t)

-- The sheet of an accepted table gives its figures back; with what is behind it in a longer buffer it is no sheet.
abbrev pub GivesBack : Type 0
GivesBack =
    (s : List ℕ) (lent length : ℕ) → judge s lent ≡ granted (length ∷ []) →
    AnswersOf (take length (buffer s lent)) (view_of s) × (length < lent → Always (buffer s lent) (refused 16 0))
