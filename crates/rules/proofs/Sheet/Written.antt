-- A sheet as written from figures: only those below the counts matter, those of a view make the view's sheet, and what was
-- written is asked back.
use mathlib.Core.Path.{◌≡◌, refl, ap, ◌∙◌}
use mathlib.Core.Bool.{true}
use mathlib.Core.List.{List}
use Prim.Native.Nat.{ℕ, zero, suc, ◌≤◌, ◌<◌}
use native.Mathlib.Omega.{arith}
use Rattle.std.proofs.lemmas.Bool.{and_parts}
use Rattle.std.specs.Prelude.{Some, None}
use lib.ListN.{take, replicate, get_or}
use lib.Seq.{take_at}
use borrow.Author.Tests.{le-leb, lt-leb}
use Rattle.rules.specs.declared.Figures.{Figures}
use Rattle.rules.specs.declared.WireFigures.{WireFigures}
use Rattle.rules.specs.Numbers.{wires_most, channels_most}
use Rattle.rules.specs.Replies.{granted}
use Rattle.rules.specs.Table.{View}
use Rattle.rules.specs.Decoded.{figures_of, no_wire_figures, wire_figures_of, backlog_in, delay_in, end_in}
use Rattle.rules.specs.Bounds.{backlog, delay, end_to_end}
use Rattle.rules.specs.Sheet.{fits, sheet_length, with_wires, with_channels, sheet_of, writes, written_of, wrote_sheet}
use Rattle.rules.specs.Judgement.{length_of, sheet, leaves}
use Rattle.rules.specs.Incident.{Answers}
use Rattle.rules.proofs.Tables.Columns.{column-at}
use Rattle.rules.proofs.Sheet.Laws.{length-sheet_of}
use Rattle.rules.proofs.Sheet.Asking.{FitsSheet, ask-written}
use Rattle.rules.proofs.Sheet.Fitting.{FitsFigures, fits-true, true-fits}

abbrev pub Same : ℕ → (ℕ → ℕ) → (ℕ → ℕ) → Type 0
Same n f g = (i : ℕ) → i < n → f i ≡ g i

wires-same : (n : ℕ) (b d b' d' : ℕ → ℕ) (s : List ℕ) → Same n b b' → Same n d d' → with_wires b d n s ≡ with_wires b' d' n s
unfolding with_wires
wires-same zero b d b' d' s hb hd = refl
wires-same (suc n) b d b' d' s hb hd =
    rw (
      wires-same n b d b' d' s (λ i l. hb i (omega arith)) (λ i l. hd i (omega arith)),
      hb n (omega arith),
      hd n (omega arith),
    )

channels-same : (n m : ℕ) (e e' : ℕ → ℕ) (s : List ℕ) → Same m e e' → with_channels n e m s ≡ with_channels n e' m s
unfolding with_channels
channels-same n zero e e' s h = refl
channels-same n (suc m) e e' s h = rw (channels-same n m e e' s (λ i l. h i (omega arith)), h m (omega arith))

pub sheet_of-same : (n m : ℕ) (b d e b' d' e' : ℕ → ℕ) → Same n b b' → Same n d d' → Same m e e'
    → sheet_of n m b d e ≡ sheet_of n m b' d' e'
unfolding sheet_of
sheet_of-same n m b d e b' d' e' hb hd he =
    channels-same n m e e' _ he ∙ ap (with_channels n e' m) (wires-same n b d b' d' _ hb hd)

-- ---- the figures of a view that fit

module _ (t : View) (held : FitsSheet t) where
  figures-at : (w : ℕ) → w < t.wires → get_or (figures_of t).wire w no_wire_figures ≡ wire_figures_of t w
  unfolding figures_of
  figures-at w l =
      column-at no_wire_figures wires_most (wire_figures_of t) t.wires w no_wire_figures l (omega (arith, held.wires_at_most))

  backlogs : Same t.wires (backlog_in (figures_of t)) (backlog t)
  unfolding wire_figures_of
  backlogs w l = ap (λ (x : WireFigures). x.backlog) (figures-at w l)

  delays : Same t.wires (delay_in (figures_of t)) (delay t)
  unfolding wire_figures_of
  delays w l = ap (λ (x : WireFigures). x.delay) (figures-at w l)

  ends : Same t.channels (end_in (figures_of t)) (end_to_end t)
  unfolding figures_of
  ends k l = column-at 0 channels_most (end_to_end t) t.channels k 0 l (omega (arith, held.channels_at_most))

  pub fits-held : FitsFigures t.wires t.channels (figures_of t)
  fits-held =
      record {
        wires_at_least = held.wires_at_least;
        wires_at_most = held.wires_at_most;
        channels_at_least = held.channels_at_least;
        channels_at_most = held.channels_at_most;
        backlog_fits = λ w l. rw (backlogs w l) (held.backlog_fits w l);
        delay_fits = λ w l. rw (delays w l) (held.delay_fits w l);
        end_fits = λ k l. rw (ends k l) (held.end_fits k l);
      }

  view-fits : fits t.wires t.channels (figures_of t) ≡ true
  view-fits = fits-true t.wires t.channels (figures_of t) fits-held

  module _ (lent : ℕ) where
    pub written_view : length_of t ≤ lent → written_of t.wires t.channels (figures_of t) lent ≡ Some (length_of t)
    written_view l = rw (view-fits, le-leb (length_of t) lent l)

    pub unwritten_view : lent < length_of t → written_of t.wires t.channels (figures_of t) lent ≡ None
    unwritten_view l = rw (view-fits, lt-leb (length_of t) lent l)

    pub wrote_view : (v : List ℕ) → length_of t ≤ lent
        → wrote_sheet t.wires t.channels (figures_of t) lent ≡ leaves (granted v) t lent
    unfolding leaves sheet
    wrote_view v l =
        rw (
          view-fits,
          le-leb (length_of t) lent l,
          sheet_of-same t.wires t.channels _ _ _ (backlog t) (delay t) (end_to_end t) backlogs delays ends,
        )

    pub unwrote_view : lent < length_of t → wrote_sheet t.wires t.channels (figures_of t) lent ≡ replicate lent 255
    unwrote_view l = rw (view-fits, lt-leb (length_of t) lent l)

-- ---- asking what was written

pub wrote-asked : (n m : ℕ) (f : Figures) (lent : ℕ) → writes n m f lent ≡ true
    → Answers (take (sheet_length n m) (wrote_sheet n m f lent)) n m (backlog_in f) (delay_in f) (end_in f)
wrote-asked n m f lent e =
    let b : ℕ → ℕ = backlog_in f in
    let d : ℕ → ℕ = delay_in f in
    let x : ℕ → ℕ = end_in f in
    let held : FitsFigures n m f = true-fits n m f (and_parts _ _ e).0 in
    rw (e, take_at (sheet_of n m b d x) _ (sheet_length n m) (length-sheet_of n m b d x)) (ask-written n m b d x held)
