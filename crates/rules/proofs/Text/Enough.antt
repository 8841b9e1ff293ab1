-- No text is longer than what is enough for any.
use mathlib.Core.Path.{◌≡◌}
use mathlib.Core.Logic.{inl, inr}
use mathlib.Core.List.{List, [], ◌∷◌, ◌++◌}
use Prim.Native.Nat.{ℕ, zero, suc, ◌+◌, ◌*◌, ◌^◌, ◌≤◌, ◌<◌}
use native.Mathlib.Omega.{arith}
use lib.ListN.{length, length-append}
use Rattle.std.proofs.lemmas.Grind.{common_steps}
use Rattle.bits.proofs.Laws.{field_lt}
use Rattle.rules.specs.Words.{gathered}
use Rattle.rules.specs.Numbers.{deadline_bits, sheet_longest, text_enough}
use Rattle.rules.specs.Table.{View, view_of, deadline_at}
use Rattle.rules.specs.Bounds.{backlog, delay, end_to_end}
use Rattle.rules.specs.Text.{word, decimal, spaced, line, lines, accepted_text, refused_text, text_of, text}
use Rattle.rules.proofs.Text.Digits.{decimal-length, decimal-most}
use Rattle.rules.proofs.Sheet.Asking.{FitsSheet}
use Rattle.rules.proofs.Sheet.Fits.{fits-view}
use Rattle.rules.proofs.Bounds.Judgement.{Accepted, judge-accepted, judge-cases}

-- a line of two numbers, and of three
two : (w : List ℕ) (a b : ℕ)
    → length (line w (a ∷ b ∷ [])) ≡ length w + length (decimal a) + length (decimal b) + 3
unfolding line spaced
two w a b =
    grind (arith, common_steps)

three : (w : List ℕ) (a b c : ℕ)
    → length (line w (a ∷ b ∷ c ∷ [])) ≡ length w + length (decimal a) + length (decimal b) + length (decimal c) + 4
unfolding line spaced
three w a b c =
    grind (arith, common_steps)

lines-most : (w : List ℕ) (first second : ℕ → ℕ) (most n : ℕ)
    → ((i : ℕ) → i < n → length (line w (i ∷ first i ∷ second i ∷ [])) ≤ most) → length (lines w first second n) ≤ n * most
unfolding lines gathered
lines-most w first second most zero h = omega arith
lines-most w first second most (suc n) h =
    grind (arith, common_steps, h n, lines-most w first second most n (λ i l. h i (omega (arith, l))))

module _ (s : List ℕ) (lent : ℕ) (accepted : Accepted s lent) where
  abbrev t : View
  t = view_of s

  fits : FitsSheet t
  fits = fits-view s accepted.sound accepted.bounded.backlogs accepted.bounded.ends

  wire-line : (w : ℕ) → w < t.wires → length (line (word "link") (w ∷ backlog t w ∷ delay t w ∷ [])) ≤ 26
  unfolding word
  wire-line w l =
      omega (
        arith,
        three (word "link") w (backlog t w) (delay t w),
        decimal-length 1 w (omega (arith, accepted.sound.wires_at_most)),
        decimal-length 7 (backlog t w) (omega (arith, fits.backlog_fits w l)),
        decimal-length 7 (delay t w) (omega (arith, fits.delay_fits w l)),
      )

  deadline-small : (k : ℕ) → t.deadline k < 2 ^ deadline_bits
  unfolding deadline_at
  deadline-small k = field_lt s _ deadline_bits

  channel-line : (k : ℕ) → k < t.channels → length (line (word "channel") (k ∷ end_to_end t k ∷ t.deadline k ∷ [])) ≤ 30
  unfolding word
  channel-line k l =
      omega (
        arith,
        three (word "channel") k (end_to_end t k) (t.deadline k),
        decimal-length 2 k (omega (arith, accepted.sound.channels_at_most)),
        decimal-length 7 (end_to_end t k) (omega (arith, accepted.bounded.ends k l, deadline-small k)),
        decimal-length 7 (t.deadline k) (omega (arith, deadline-small k)),
      )

  accepted-most : length (accepted_text t) ≤ text_enough
  unfolding accepted_text word
  accepted-most =
      let head = line (word "accepted") (t.wires ∷ t.channels ∷ []) in
      let links = lines (word "link") (backlog t) (delay t) t.wires in
      let channels = lines (word "channel") (end_to_end t) t.deadline t.channels in
      omega (
        arith,
        length-append (head ++ links) channels,
        length-append head links,
        two (word "accepted") t.wires t.channels,
        decimal-length 1 t.wires (omega (arith, accepted.sound.wires_at_most)),
        decimal-length 2 t.channels (omega (arith, accepted.sound.channels_at_most)),
        lines-most (word "link") (backlog t) (delay t) 26 t.wires wire-line,
        lines-most (word "channel") (end_to_end t) t.deadline 30 t.channels channel-line,
        accepted.sound.wires_at_most,
        accepted.sound.channels_at_most,
      )

refused-most : (n p : ℕ) → length (refused_text n p) ≤ text_enough
unfolding refused_text word
refused-most n p = omega (arith, two (word "refused") n p, decimal-most n, decimal-most p)

pub text-most : (s : List ℕ) → length (text s) ≤ text_enough
unfolding text text_of
text-most s =
    elim (judge-cases s sheet_longest) [
      | inl e ↦ rw e (accepted-most s sheet_longest (judge-accepted s sheet_longest _ e).0)
      | inr r ↦ rw r.2 (refused-most r.0 r.1)
    ]
