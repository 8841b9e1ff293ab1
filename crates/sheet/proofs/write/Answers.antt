-- The buffer is filled, and where all fits its first bytes are made the sheet.
use Rattle.std.proofs.Common.{ℕ, List, ◌++◌, length, drop, replicate, ◌≡◌, ◌∙◌, ◌≤◌, ◌&&◌, true, false, sym, arith}
use Rattle.std.proofs.lemmas.List.{drop-replicate}
use borrow.Author.Tests.{le-leb}
use Rattle.rules.specs.declared.Figures.{Figures}
use Rattle.rules.specs.Words.{between}
use Rattle.rules.specs.Numbers.{wires_most, channels_most}
use Rattle.rules.specs.Sheet.{fits, sheet_length, wrote_sheet}
use Rattle.sheet.specs.Writing.{sheet_for}
use Rattle.sheet.proofs.write.Goals as goal

module _ (n m : ℕ) (f : Figures) where
  uncounted : false ≡ between 1 n wires_most && between 1 m channels_most → fits n m f ≡ false
  unfolding fits
  uncounted e = rw (sym e)

  -- the sheet t put into the first bytes of the filled buffer b
  wrote : fits n m f ≡ true → (lent r : ℕ) (t b : List ℕ) → r ≡ sheet_length n m → r ≤ lent → b ≡ replicate lent 255
      → t ≡ sheet_for n m f → t ++ drop r b ≡ wrote_sheet n m f lent
  wrote h lent r t b er l eb et = rw (et, eb, er, h, le-leb (sheet_length n m) lent (omega arith), drop-replicate)

pub returns-in_err-counts-clause-value : goal.returns-in_err-counts-clause-value
returns-in_err-counts-clause-value c =
    let a = c.args in
    rw (c.from_residual.ensures, uncounted a.wires a.channels a.figures.now (c.in_err-counts.ensures {u = tt}).answer)

pub returns-in_err-counts-clause-sheet_after : goal.returns-in_err-counts-clause-sheet_after
returns-in_err-counts-clause-sheet_after c =
    let a = c.args in
    rw (uncounted a.wires a.channels a.figures.now (c.in_err-counts.ensures {u = tt}).answer) c.fill.ensures

pub returns-clause-sheet_after : goal.returns-clause-sheet_after
returns-clause-sheet_after c =
    let a = c.args in
    let n = c.in_ok-counts.counts in
    let is = (c.in_ok-counts.ensures {u = tt}).counts in
    rw (← is.0, ← is.1)
    (wrote n.wires n.channels a.figures.now (sym c.fit.ensures ∙ c.if-not-fit.false) (length a.sheet.now) c.length-length.result
    c.put.new.sheet c.fill.new.s c.length-length.ensures (omega arith) c.fill.ensures c.put.ensures)
