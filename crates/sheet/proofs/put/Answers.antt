-- Its parts, each from where it starts.
use Rattle.std.proofs.Common.{ℕ, List, length, take, replicate, ◌≡◌, ◌∙◌, ap, arith}
use Rattle.std.proofs.lemmas.List.{get_or-take}
use Rattle.rules.specs.declared.Figures.{Figures}
use Rattle.rules.specs.declared.WireFigures.{WireFigures}
use Rattle.rules.specs.Words.{entries}
use Rattle.rules.specs.Decoded.{no_wire_figures, backlog_in, delay_in, end_in}
use Rattle.rules.specs.Sheet.{figures_at, end_at, sheet_length, with_head, with_channels, sheet_of}
use Rattle.rules.proofs.Sheet.Fitting.{true-fits}
use Rattle.rules.proofs.Sheet.Written.{Same, sheet_of-same}
use Rattle.sheet.specs.Writing.{backlogs, delays, wires_put, sheet_for}
use Rattle.sheet.proofs.put.Goals as goal

-- of the first n figures and the first m delays
module _ (n m : ℕ) (f : Figures) where
  backlogs_first : Same n (backlogs (take n f.wire)) (backlog_in f)
  backlogs_first w l = ap (λ (x : WireFigures). x.backlog) (get_or-take n f.wire w no_wire_figures l)

  delays_first : Same n (delays (take n f.wire)) (delay_in f)
  delays_first w l = ap (λ (x : WireFigures). x.delay) (get_or-take n f.wire w no_wire_figures l)

  ends_first : Same m (entries (take m f.end)) (end_in f)
  ends_first k l = get_or-take m f.end k 0 l

  parts : (z h w c : List ℕ) → length (take n f.wire) ≡ n → length (take m f.end) ≡ m
      → z ≡ replicate (sheet_length n m) 0 → h ≡ with_head n m z → w ≡ wires_put (take n f.wire) h
      → c ≡ with_channels n (entries (take m f.end)) (length (take m f.end)) w
      → c ≡ sheet_for n m f
  unfolding sheet_of
  parts z h w c wires channels ez eh ew ec =
      rw (ec, ew, eh, ez, wires, channels)
      (sheet_of-same n m (backlogs (take n f.wire)) (delays (take n f.wire)) (entries (take m f.end)) (backlog_in f) (delay_in f)
      (end_in f) backlogs_first delays_first ends_first)

pub put_head-requires : goal.put_head-requires
unfolding figures_at end_at sheet_length
put_head-requires c = omega arith

pub put_wires-requires : goal.put_wires-requires
unfolding figures_at end_at sheet_length
put_wires-requires c =
    let a = c.args in
    let n = a.counts in
    let f = a.figures.now in
    let all = true-fits n.wires n.channels f c.requires.fit in
    let first : length (take n.wires f.wire) ≡ n.wires = omega arith in
    record {
      inside = (omega arith, omega arith);
      backlog_fits = λ w l. rw (backlogs_first n.wires n.channels f w (omega arith)) (all.backlog_fits w (omega arith));
      delay_fits = λ w l. rw (delays_first n.wires n.channels f w (omega arith)) (all.delay_fits w (omega arith));
    }

pub put_channels-requires : goal.put_channels-requires
unfolding sheet_length
put_channels-requires c =
    let a = c.args in
    let n = a.counts in
    let f = a.figures.now in
    let all = true-fits n.wires n.channels f c.requires.fit in
    let first : length (take n.channels f.end) ≡ n.channels = omega arith in
    record {
      inside = (omega arith, rw first (omega arith));
      end_fits = λ k l. rw (ends_first n.wires n.channels f k (omega arith)) (all.end_fits k (omega arith));
    }

pub returns : goal.returns
returns c =
    let a = c.args in
    parts a.counts.wires a.counts.channels a.figures.now c.fill.new.s c.put_head.new.sheet
    c.put_wires.new.sheet c.put_channels.new.sheet (omega arith) (omega arith)
    (c.fill.ensures ∙ ap (λ (k : ℕ). replicate k 0) c.requires.whole)
    c.put_head.ensures c.put_wires.ensures c.put_channels.ensures
