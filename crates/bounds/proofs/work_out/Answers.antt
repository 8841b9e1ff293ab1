use Rattle.std.proofs.lemmas.Result.{err_from_is_err_and}
use Rattle.rules.specs.Judgement.{load_tests}
use Rattle.rules.specs.Table.{View}
use Rattle.rules.specs.declared.Table.{Table}
use Rattle.rules.proofs.Tests.{Through}
use Rattle.rules.proofs.Bounds.Judgement.{loads-pass}
use Rattle.bounds.specs.Stages.{AsRead, ToWalk}
use Rattle.bounds.proofs.Order.{loads-stop, loads-through, rooms-after}
use Rattle.bounds.proofs.work_out.Goals as goal

-- 12 passed
to-walk : {t : View} {r : Table} → AsRead t r → Through (load_tests t) → ToWalk t r
to-walk {t} read through = record { read = read; loads = loads-pass t through }

pub file-requires-clause-none : goal.file-requires-clause-none
file-requires-clause-none c = rw c.none-under.ensures

pub walk-requires-clause-to_walk : goal.walk-requires-clause-to_walk
walk-requires-clause-to_walk c =
    let t = c.requires.as_read.0 in
    let read = c.requires.as_read.1 in
    (t, to-walk read (loads-through t c.none_over.result (c.none_over.ensures t read) _ c.in_ok-none_over.was))

pub returns-in_err-none_over-clause-answered : goal.returns-in_err-none_over-clause-answered
returns-in_err-none_over-clause-answered c = λ t read.
    (let p = err_from_is_err_and c.from_residual.result c.from_residual.ensures.1 in
    rw (p.1, p.2) (loads-stop t c.none_over.result (c.none_over.ensures t read) _ c.in_err-none_over.was))

pub returns-clause-answered : goal.returns-clause-answered
returns-clause-answered c = λ t read.
    (let loads = c.none_over.ensures t read in
    let through = loads-through t c.none_over.result loads _ c.in_ok-none_over.was in
    rooms-after t c.none_over.result loads _ c.in_ok-none_over.was c.walk.result
    (c.walk.ensures.answered t (to-walk read through)))

pub returns-clause-figures_value : goal.returns-clause-figures_value
returns-clause-figures_value c = λ t read.
    (let through = loads-through t c.none_over.result (c.none_over.ensures t read) _ c.in_ok-none_over.was in
    c.walk.ensures.figures_value t (to-walk read through))
