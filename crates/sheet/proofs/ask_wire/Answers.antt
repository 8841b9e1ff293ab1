use Rattle.std.proofs.Common.{◌≡◌, ◌+◌, refl, sym, arith}
use Rattle.std.proofs.lemmas.Result.{err_from_is_err_and}
use Rattle.bits.specs.Field.{field}
use Rattle.bits.proofs.Laws.{number_at}
use Rattle.rules.specs.Numbers.{backlog_bits, delay_bits}
use Rattle.rules.specs.Replies.{test}
use Rattle.rules.specs.Sheet.{figures_at, end_at, ask_wire}
use Rattle.rules.proofs.Sheet.Replies.{fault-none, ask-wire-none, ask-wire-some}
use Rattle.sheet.proofs.ask_wire.Goals as goal

pub returns-in_err-counts : goal.returns-in_err-counts
unfolding ask_wire
returns-in_err-counts c =
    let p = err_from_is_err_and c.from_residual.result c.from_residual.ensures.1 in
    rw (p.1, p.2) (sym (c.in_err-counts.ensures.tests _))

pub returns-then-counts-wire : goal.returns-then-counts-wire
unfolding test
returns-then-counts-wire c =
    let a = c.args in
    let n = c.in_ok-counts.ensures in
    let p = fault-none a.sheet.now 0 n.tests refl in
    sym (ask-wire-none a.sheet.now p a.wire (omega arith))

pub overflow_add-next : goal.overflow_add-next
unfolding figures_at
overflow_add-next c = omega arith

pub returns : goal.returns
unfolding test figures_at end_at
returns c =
    let a = c.args in
    let s = a.sheet.now in
    let n = c.in_ok-counts.ensures in
    let p = fault-none s 0 n.tests refl in
    let at = c.figures_at-at.result in
    let backlog : c.number-backlog.result ≡ field s at backlog_bits
    = number_at s at backlog_bits (omega arith) (omega (arith, p)) c.number-backlog.ensures in
    let delay : c.number-delay.result ≡ field s (at + backlog_bits) delay_bits
    = number_at s (at + backlog_bits) delay_bits (omega arith) (omega (arith, p)) c.number-delay.ensures in
    sym (ask-wire-some s p a.wire at (at + backlog_bits) c.number-backlog.result c.number-delay.result
    (omega arith) (omega arith) (omega arith) backlog delay)
