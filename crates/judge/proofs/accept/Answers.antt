-- Each way out by what the stages before it said.
use Rattle.std.proofs.Common.{ℕ, List, [], ◌∷◌, length, ◌≡◌, ◌∙◌, Option, Ok, IfOk, sym, arith}
use Rattle.std.specs.Prelude.{Result}
use Rattle.std.specs.Option.{ok_or}
use Rattle.std.proofs.lemmas.Result.{err_from_is_err_and}
use native.Mathlib.Decide.{dec_le}
use Rattle.rules.specs.declared.Bounded.{Bounded}
use Rattle.rules.specs.declared.Figures.{Figures}
use Rattle.rules.specs.declared.Refusal.{Refusal}
use Rattle.rules.specs.declared.Refusal.TheVariants as refusal
use Rattle.rules.specs.Replies.{granted, reading_reply, judging_reply}
use Rattle.rules.specs.Table.{View, view_of}
use Rattle.rules.specs.Sheet.{written_of, wrote_sheet}
use Rattle.rules.specs.Judgement.{deadline_tests, bounding, length_of, judge, buffer}
use Rattle.rules.specs.Decoded.{table_of, figures_of}
use Rattle.rules.specs.Sound.{Sound}
use Rattle.rules.proofs.Tests.{Through, gate-granted}
use Rattle.rules.proofs.Tables.Laws.{passes-sound}
use Rattle.rules.proofs.Tables.Told.{told}
use Rattle.rules.proofs.Sheet.Fits.{fits-view}
use Rattle.rules.proofs.Sheet.Asking.{FitsSheet, buffer-of}
use Rattle.rules.proofs.Sheet.Written.{written_view, unwritten_view, wrote_view}
use Rattle.rules.proofs.Bounds.Judgement.{deadlines_gate, bounding-granted, judge-unbounded, judge-late, judge-short, judge-fits}
use Rattle.judge.specs.Stages.{BoundsOf}
use Rattle.judge.proofs.accept.Goals as goal

-- Of a table's bytes, what working out its bounds left, and the lent buffer's length.
module _
    (s : List ℕ) (b : Bounded) (bounded : granted [] ≡ bounding s) (table : b.table ≡ table_of (view_of s))
    (figures : b.figures ≡ figures_of (view_of s)) (lent : ℕ)
  where
    abbrev t : View
    t = view_of s

    sound : Sound t
    sound = passes-sound s (bounding-granted s (sym bounded)).0.fields

    bounds-of : BoundsOf t b
    bounds-of = record { sound = sound; table = table; figures = figures }

    module _ (in_time : Through (deadline_tests t)) where
      fits : FitsSheet t
      fits =
          fits-view s sound (bounding-granted s (sym bounded)).1.backlogs
          (gate-granted (deadlines_gate t) (granted []) [] (in_time (granted []))).0

      -- what was written is the view's
      of_view : {A : Type 0} (f : ℕ → ℕ → Figures → A)
          → f b.table.wires b.table.channels b.figures ≡ f t.wires t.channels (figures_of t)
      of_view f =
          let read = told t b.table table in
          λ i. f (read.wires i) (read.channels i) (figures i)

      answers : {r : Result ℕ Refusal} (w : Option ℕ) (left : List ℕ) → r ≡ ok_or w refusal.Buffer
          → w ≡ written_of b.table.wires b.table.channels b.figures lent
          → left ≡ wrote_sheet b.table.wires b.table.channels b.figures lent
          → (judging_reply r ≡ judge s lent) × IfOk r (λ n. left ≡ buffer s lent)
      answers w left is replied wrote =
          let reply : w ≡ written_of t.wires t.channels (figures_of t) lent
          = replied ∙ of_view (λ n m f. written_of n m f lent) in
          let sheet : left ≡ wrote_sheet t.wires t.channels (figures_of t) lent
          = wrote ∙ of_view (λ n m f. wrote_sheet n m f lent) in
          elim (dec_le (length_of t) lent) [
            | yes l ↦
                let e = judge-fits s lent (sym bounded) in_time l in
                rw (is, reply, written_view t fits lent l)
                (sym e, sheet ∙ wrote_view t fits lent (length_of t ∷ []) l ∙ sym (buffer-of s lent _ e))
            | no o ↦
                rw (is, reply, unwritten_view t fits lent (omega arith))
                (sym (judge-short s lent (sym bounded) in_time (omega arith)), tt)
          ]

-- what working out the bounds left, where it granted them
record Left (s : List ℕ) (b : Bounded) : Type 0 where
  answer : granted [] ≡ bounding s
  table : b.table ≡ table_of (view_of s)
  figures : b.figures ≡ figures_of (view_of s)

left : (s : List ℕ) (a : Result Bounded Refusal) (b : Bounded) → a ≡ Ok b → reading_reply a ≡ bounding s
    → IfOk a (λ x. x.table ≡ table_of (view_of s)) → IfOk a (λ x. x.figures ≡ figures_of (view_of s)) → Left s b
left s a b is answer table figures =
    record { answer = rw is at answer; table = rw is at table; figures = rw is at figures }

pub returns-in_err-in_time-in-Ok-clause-result_value : goal.returns-in_err-in_time-in-Ok-clause-result_value
returns-in_err-in_time-in-Ok-clause-result_value c =
    let s = c.args.table.now in
    let e = c.bounds-bounds.ensures in
    let b = left s c.bounds-bounds.result c.in-Ok.bounded c.in-Ok.is e.answer_value e.table_value e.figures_value in
    let p = err_from_is_err_and c.from_residual.result c.from_residual.ensures.1 in
    let of = bounds-of s c.in-Ok.bounded b.answer b.table b.figures (length c.args.sheet.now) in
    rw (p.1, p.2)
    (sym
    (judge-late s (length c.args.sheet.now) (sym b.answer) _ _ (c.in_err-in_time-in-Ok.ensures {u = tt} (view_of s) of)))

pub returns-in_err-length-in-Ok-clause-result_value : goal.returns-in_err-length-in-Ok-clause-result_value
returns-in_err-length-in-Ok-clause-result_value c =
    let s = c.args.table.now in
    let e = c.bounds-bounds.ensures in
    let b = left s c.bounds-bounds.result c.in-Ok.bounded c.in-Ok.is e.answer_value e.table_value e.figures_value in
    let of = bounds-of s c.in-Ok.bounded b.answer b.table b.figures (length c.args.sheet.now) in
    let a = answers s c.in-Ok.bounded b.answer b.table b.figures (length c.args.sheet.now)
    (c.in_ok-in_time-in-Ok.ensures {u = tt} (view_of s) of)
    c.write.result c.write.new.sheet c.in_err-length-in-Ok.ensures.value c.write.ensures.value c.write.ensures.sheet_after in
    let p = err_from_is_err_and c.from_residual-in_err-length-in-Ok.result c.from_residual-in_err-length-in-Ok.ensures.1 in
    rw (p.1, p.2) a.0

pub returns-in_ok-length-in-Ok : goal.returns-in_ok-length-in-Ok
returns-in_ok-length-in-Ok c =
    let s = c.args.table.now in
    let e = c.bounds-bounds.ensures in
    let b = left s c.bounds-bounds.result c.in-Ok.bounded c.in-Ok.is e.answer_value e.table_value e.figures_value in
    let of = bounds-of s c.in-Ok.bounded b.answer b.table b.figures (length c.args.sheet.now) in
    let a = answers s c.in-Ok.bounded b.answer b.table b.figures (length c.args.sheet.now)
    (c.in_ok-in_time-in-Ok.ensures {u = tt} (view_of s) of)
    c.write.result c.write.new.sheet c.in_ok-length-in-Ok.ensures.value c.write.ensures.value c.write.ensures.sheet_after in
    record { result_value = a.0; sheet_after = a.1 }

pub returns-in-Err-clause-result_value : goal.returns-in-Err-clause-result_value
returns-in-Err-clause-result_value c =
    let refused = rw c.in-Err.is at c.bounds-bounds.ensures.answer_value in
    sym (judge-unbounded c.args.table.now (length c.args.sheet.now) _ _ (sym refused))
