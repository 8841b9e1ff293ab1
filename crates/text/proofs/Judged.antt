-- The text of what was worked out is the text of the table.
use Rattle.std.proofs.Common.{List, ℕ, ◌≡◌, ◌∙◌, [], ◌∷◌, ◌++◌, ◌<◌, ◌≤◌, Result, Ok, Err, sym, ap, arith}
use Rattle.std.specs.Prelude.{IfOk, IsErrAnd}
use Rattle.rules.specs.declared.Bounded.{Bounded}
use Rattle.rules.specs.declared.Figures.{Figures}
use Rattle.rules.specs.declared.WireFigures.{WireFigures}
use Rattle.rules.specs.declared.Refusal.{Refusal}
use Rattle.rules.specs.Numbers.{wires_most, channels_most, sheet_longest}
use Rattle.rules.specs.Replies.{Reply, granted, reading_reply, refusal_reply}
use Rattle.rules.specs.Table.{View, view_of}
use Rattle.rules.specs.Bounds.{backlog, delay, end_to_end}
use Rattle.rules.specs.Judgement.{bounding, judge}
use Rattle.rules.specs.Decoded.{no_wire_figures, no_channel, wire_figures_of, figures_of, table_of, backlog_in, delay_in, end_in}
use Rattle.rules.specs.Sound.{Sound}
use Rattle.rules.specs.Text.{word, line, lines, accepted_text, text_of, text}
use Rattle.rules.proofs.Tables.Laws.{passes-sound}
use Rattle.rules.proofs.Tables.Columns.{entry_at}
use Rattle.rules.proofs.Tables.Told.{Told, told, channel_at}
use Rattle.rules.proofs.Bounds.Judgement.{bounding-granted, judge-accepted, accepted-bounding}
use Rattle.rules.proofs.Text.Laid.{lines_same}
use Rattle.text.specs.Rows.{deadline_in, bounded_text, verdict_text}

-- the text of a reply
said : (s : List ℕ) (reply : Reply) → reply ≡ judge s sheet_longest → text_of reply (view_of s) ≡ text s
unfolding text
said s reply e = ap (λ (r : Reply). text_of r (view_of s)) e

pub refused_verdict : (s : List ℕ) (reason : Refusal) (r : Result Bounded Refusal) → refusal_reply reason ≡ judge s sheet_longest
    → IsErrAnd r (λ x. x ≡ reason) → verdict_text r ≡ text s
unfolding text_of
refused_verdict s reason (Ok b) e h = absurd h
refused_verdict s reason (Err r) e h = said s (refusal_reply r) (ap refusal_reply h ∙ e)

module _ (t : View) (sound : Sound t) (b : Bounded) (as_read : Told t b.table) (figures : b.figures ≡ figures_of t) where
  wire_figures : (i : ℕ) → i < t.wires → (backlog_in b.figures i ≡ backlog t i) × (delay_in b.figures i ≡ delay t i)
  unfolding figures_of wire_figures_of
  wire_figures i l =
      let row = entry_at no_wire_figures wires_most t.wires (wire_figures_of t) b.figures.wire
      (ap (λ (f : Figures). f.wire) figures) sound.wires_at_most i no_wire_figures l in
      (ap (λ (r : WireFigures). r.backlog) row, ap (λ (r : WireFigures). r.delay) row)

  ends : (i : ℕ) → i < t.channels → end_in b.figures i ≡ end_to_end t i
  unfolding figures_of
  ends i l =
      entry_at 0 channels_most t.channels (end_to_end t) b.figures.end
      (ap (λ (f : Figures). f.end) figures) sound.channels_at_most i 0 l

  links : lines (word "link") (backlog_in b.figures) (delay_in b.figures) b.table.wires
      ≡ lines (word "link") (backlog t) (delay t) t.wires
  links =
      ap (lines (word "link") _ _) as_read.wires
      ∙ lines_same (word "link") _ (backlog t) _ (delay t) t.wires (λ i l. (wire_figures i l).0) (λ i l. (wire_figures i l).1)

  channels : lines (word "channel") (end_in b.figures) (deadline_in b.table) b.table.channels
      ≡ lines (word "channel") (end_to_end t) t.deadline t.channels
  channels =
      ap (lines (word "channel") _ _) as_read.channels
      ∙ lines_same (word "channel") _ (end_to_end t) _ t.deadline t.channels ends
      (λ i l. (channel_at t sound b.table as_read i no_channel l).deadline)

  head : line (word "accepted") (b.table.wires ∷ b.table.channels ∷ []) ≡ line (word "accepted") (t.wires ∷ t.channels ∷ [])
  head = λ i. line (word "accepted") (as_read.wires i ∷ as_read.channels i ∷ [])

  told_text : bounded_text b ≡ accepted_text t
  unfolding accepted_text
  told_text = λ i. head i ++ links i ++ channels i

pub accepted_verdict : (s : List ℕ) (len : ℕ) → granted (len ∷ []) ≡ judge s sheet_longest
    → (r : Result Bounded Refusal) → reading_reply r ≡ bounding s
    → IfOk r (λ b. b.table ≡ table_of (view_of s)) → IfOk r (λ b. b.figures ≡ figures_of (view_of s))
    → (verdict_text r ≡ text s) × IfOk r (λ b. (b.table.wires ≤ wires_most) × (b.table.channels ≤ channels_most))
unfolding text_of
accepted_verdict s len e (Ok b) answer table figures =
    let whole = accepted-bounding s sheet_longest (judge-accepted s sheet_longest len (sym e)).0 in
    let sound = passes-sound s (bounding-granted s whole).0.fields in
    let as_read = told (view_of s) b.table table in (
      told_text (view_of s) sound b as_read figures ∙ said s _ e,
      (omega (arith, as_read.wires, sound.wires_at_most), omega (arith, as_read.channels, sound.channels_at_most)),
    )
accepted_verdict s len e (Err r) answer table figures =
    let whole = accepted-bounding s sheet_longest (judge-accepted s sheet_longest len (sym e)).0 in
    absurd (cc)
