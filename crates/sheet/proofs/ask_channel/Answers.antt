use Rattle.std.proofs.Common.{◌≡◌, refl, sym, arith}
use Rattle.std.proofs.lemmas.Result.{err_from_is_err_and}
use Rattle.bits.specs.Field.{field}
use Rattle.bits.proofs.Laws.{number_at}
use Rattle.rules.specs.Numbers.{end_bits}
use Rattle.rules.specs.Replies.{test}
use Rattle.rules.specs.Sheet.{figures_at, end_at, ask_channel}
use Rattle.rules.proofs.Sheet.Replies.{fault-none, ask-channel-none, ask-channel-some}
use Rattle.sheet.proofs.ask_channel.Goals as goal

pub returns-in_err-counts : goal.returns-in_err-counts
unfolding ask_channel
returns-in_err-counts c =
    let p = err_from_is_err_and c.from_residual.result c.from_residual.ensures.1 in
    rw (p.1, p.2) (sym (c.in_err-counts.ensures.tests _))

pub returns-then-counts-channel : goal.returns-then-counts-channel
unfolding test
returns-then-counts-channel c =
    let a = c.args in
    let n = c.in_ok-counts.ensures in
    let p = fault-none a.sheet.now 0 n.tests refl in
    sym (ask-channel-none a.sheet.now p a.channel (omega arith))

pub returns : goal.returns
unfolding test figures_at end_at
returns c =
    let a = c.args in
    let s = a.sheet.now in
    let n = c.in_ok-counts.ensures in
    let p = fault-none s 0 n.tests refl in
    let at = c.end_at-at.result in
    let delay : c.number.result ≡ field s at end_bits
    = number_at s at end_bits (omega arith) (omega (arith, p)) c.number.ensures in
    sym (ask-channel-some s p a.channel at c.number.result (omega arith) (omega arith) delay)
