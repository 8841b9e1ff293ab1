-- The text that the board prints: words in ASCII and numbers in decimal, a blank before each number, each line ended by a
-- newline; and what writing it into a lent buffer leaves.
use Rattle.std.specs.Prelude.{◌≡◌, cond, Option, Some, None, List, [], ◌∷◌, ◌++◌, ℕ, zero, suc, ◌+◌, ◌-◌, ◌/◌, ◌%◌, length, replicate, leb, ltb}
use Prim.Native.Char.{code}
use Prim.Native.String.{String, [] as none, ◌∷◌ as ◌then◌}
use Rattle.rules.specs.Words.{cut, gathered}
use Rattle.rules.specs.Numbers.{sheet_longest}
use Rattle.rules.specs.Replies.{Reply, granted, refused}
use Rattle.rules.specs.Table.{View, view_of}
use Rattle.rules.specs.Bounds.{backlog, delay, end_to_end}
use Rattle.rules.specs.Judgement.{judge}

-- the bytes of a word
unfoldable pub word : String → List ℕ
word none = []
word (c then s) = code c ∷ word s

abbrev pub digit : ℕ → ℕ
digit d = 48 + d

-- the decimal digits of n, at most so many: the last is that of n % 10, and those before it are those of n / 10
unfoldable pub digits : ℕ → ℕ → List ℕ
digits zero n = []
digits (suc most) n = cond (ltb n 10) (digit n ∷ []) (digits most (n / 10) ++ (digit (n % 10) ∷ []))

-- No number of 64 bits has more than 20.
abbrev pub digits_most : ℕ
digits_most = 20

unfoldable pub decimal : ℕ → List ℕ
decimal n = digits digits_most n

-- a blank before each number
unfoldable pub spaced : List ℕ → List ℕ
spaced [] = []
spaced (n ∷ ns) = 32 ∷ decimal n ++ spaced ns

unfoldable pub line : List ℕ → List ℕ → List ℕ
line w ns = w ++ spaced ns ++ (10 ∷ [])

-- for each number below n a line with it and its two figures
unfoldable pub lines : List ℕ → (ℕ → ℕ) → (ℕ → ℕ) → ℕ → List ℕ
lines w first second n = gathered (λ i. line w (i ∷ first i ∷ second i ∷ [])) n

-- First line: wires, channels. Wire lines: number, backlog, delay. Channel lines: number, end-to-end delay, deadline.
unfoldable pub accepted_text : View → List ℕ
accepted_text t =
    line (word "accepted") (t.wires ∷ t.channels ∷ [])
    ++ lines (word "link") (backlog t) (delay t) t.wires
    ++ lines (word "channel") (end_to_end t) t.deadline t.channels

-- A refusal prints one line, `refused`, number, place.
unfoldable pub refused_text : ℕ → ℕ → List ℕ
refused_text number place = line (word "refused") (number ∷ place ∷ [])

unfoldable pub text_of : Reply → View → List ℕ
text_of (granted values) t = accepted_text t
text_of (refused number place) t = refused_text number place

-- The sheet's buffer is long enough for any sheet.
unfoldable pub text : List ℕ → List ℕ
text s = text_of (judge s sheet_longest) (view_of s)

-- a text laid over a buffer from a place on, as far as the buffer goes
unfoldable pub laid : List ℕ → ℕ → List ℕ → List ℕ
laid [] at w = []
laid (x ∷ b) (suc at) w = x ∷ laid b at w
laid (x ∷ b) zero [] = x ∷ b
laid (x ∷ b) zero (c ∷ w) = c ∷ laid b zero w

-- the place after a text that starts at a place; past the end of the buffer there is one place
abbrev pub place_after : ℕ → ℕ → List ℕ → ℕ
place_after lent at w = cut (at + length w) (suc lent)

-- what writing a text into a buffer at a place leaves: the place after it, and the buffer
pub record Put (b : List ℕ) (at : ℕ) (w : List ℕ) (after : ℕ) (left : List ℕ) : Type 0 where
  pub place : after ≡ place_after (length b) at w
  pub bytes : left ≡ laid b at w

-- Writing a text into a lent buffer: its length, or nothing where the buffer is shorter.
abbrev pub text_written : List ℕ → ℕ → Option ℕ
text_written w lent = cond (leb (length w) lent) (Some (length w)) None

-- the lent buffer afterwards: the text and 255 after it, or 255 alone
abbrev pub text_left : List ℕ → ℕ → List ℕ
text_left w lent = cond (leb (length w) lent) (w ++ replicate (lent - length w) 255) (replicate lent 255)
