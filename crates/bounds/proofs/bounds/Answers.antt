use Rattle.std.proofs.Common.{List, [], ℕ, ◌≡◌, Ok, sym}
use Rattle.std.specs.Prelude.{Result, IfOk}
use Rattle.std.proofs.lemmas.Result.{err_from_is_err_and}
use Rattle.bits.proofs.Laws.{field_lt}
use Rattle.rules.specs.declared.Table.{Table}
use Rattle.rules.specs.declared.Refusal.{Refusal}
use Rattle.rules.specs.Numbers.{room_bits, prop_bits}
use Rattle.rules.specs.Replies.{granted, reading_reply}
use Rattle.rules.specs.Table.{view_of, room_of, prop_of}
use Rattle.rules.specs.Reading.{reading}
use Rattle.rules.specs.Decoded.{table_of}
use Rattle.rules.proofs.Tables.Laws.{granted-sound}
use Rattle.rules.proofs.Bounds.Judgement.{bounding-unread, bounding-stops, bounding-through}
use Rattle.bounds.specs.Stages.{AsRead}
use Rattle.bounds.proofs.bounds.Goals as goal

as_read : (s : List ℕ) (r : Table) → granted [] ≡ reading s → r ≡ table_of (view_of s) → AsRead (view_of s) r
unfolding room_of prop_of
as_read s r whole e =
    record {
      sound = granted-sound s (sym whole);
      room_fits = λ w. field_lt s _ room_bits;
      prop_fits = λ w. field_lt s _ prop_bits;
      table = e;
    }

module _ (s : List ℕ) (a : Result Table Refusal) (x : Table) (is : a ≡ Ok x) (answer : reading_reply a ≡ reading s)
    (value : IfOk a (λ t. t ≡ table_of (view_of s))) where
  granted_read : granted [] ≡ reading s
  granted_read = rw is at answer

  pub was-read : AsRead (view_of s) x
  was-read = as_read s x granted_read (rw is at value)

pub work_out-requires : goal.work_out-requires
work_out-requires c =
    let read = c.read-read in
    let s = c.args.table.now in
    record {
      as_read = (view_of s, was-read s read.result c.in-Ok.table c.in-Ok.is read.ensures.answer_value read.ensures.table_value);
      none = c.no_figures-figures.ensures;
    }

pub returns-in_err-work_out-in-Ok-clause-answer_value : goal.returns-in_err-work_out-in-Ok-clause-answer_value
returns-in_err-work_out-in-Ok-clause-answer_value c =
    let read = c.read-read in
    let s = c.args.table.now in
    let t = view_of s in
    let p = err_from_is_err_and c.from_residual.result c.from_residual.ensures.1 in
    let was = was-read s read.result c.in-Ok.table c.in-Ok.is read.ensures.answer_value read.ensures.table_value in
    let granted = granted_read s read.result c.in-Ok.table c.in-Ok.is read.ensures.answer_value read.ensures.table_value in
    rw (p.1, p.2) (sym (bounding-stops s _ _ (sym granted) (rw c.in_err-work_out-in-Ok.was at c.work_out.ensures.answered t was)))

pub returns-in_ok-work_out-in-Ok : goal.returns-in_ok-work_out-in-Ok
returns-in_ok-work_out-in-Ok c =
    let read = c.read-read in
    let s = c.args.table.now in
    let t = view_of s in
    let was = was-read s read.result c.in-Ok.table c.in-Ok.is read.ensures.answer_value read.ensures.table_value in
    let granted = granted_read s read.result c.in-Ok.table c.in-Ok.is read.ensures.answer_value read.ensures.table_value in
    rw c.both.ensures (record {
      answer_value = sym (bounding-through s (sym granted) (rw c.in_ok-work_out-in-Ok.was at c.work_out.ensures.answered t was));
      table_value = was.table;
      figures_value = rw c.in_ok-work_out-in-Ok.was at c.work_out.ensures.figures_value t was;
    })

pub returns-in-Err-clause-answer_value : goal.returns-in-Err-clause-answer_value
returns-in-Err-clause-answer_value c =
    let refused = rw c.in-Err.is at c.read-read.ensures.answer_value in
    sym (bounding-unread c.args.table.now _ _ (sym refused))
