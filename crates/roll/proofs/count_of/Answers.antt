-- Each return by the tests that led there.
use Rattle.std.proofs.Common.{◌∙◌}
use lib.ListN.{get_or-eq_default}
use Rattle.rules.proofs.Ranges.{ranged}
use Rattle.roll.proofs.Ends.{no-count, uncounted, mislabelled, labelled}
use Rattle.roll.proofs.count_of.Goals as goal

pub returns-in_err-first : goal.returns-in_err-first
returns-in_err-first c =
    let roll = c.args.roll.now in
    c.from_residual.ensures ∙ no-count roll (get_or-eq_default roll 0 {n = 0} c.in_err-first.ensures.item.3)

pub returns-then-not-contains : goal.returns-then-not-contains
returns-then-not-contains c =
    let r = c.new.ensures in
    let is = c.wide-count.ensures ∙ c.in_ok-first.ensures.item.3.1 0 in
    uncounted c.args.roll.now c.wide-count.result is
    (ranged c.wide-count.result r.start r.end r.exhausted c.if-not-contains.ensures.value)

pub returns-in_err-end : goal.returns-in_err-end
returns-in_err-end c =
    let r = c.new.ensures in
    let is = c.wide-count.ensures ∙ c.in_ok-first.ensures.item.3.1 0 in
    let counted = ranged c.wide-count.result r.start r.end r.exhausted c.if-not-contains.ensures.value in
    c.from_residual-in_err-end.ensures ∙ mislabelled c.args.roll.now c.wide-count.result is counted c.in_err-end.ensures

pub returns : goal.returns
returns c =
    let r = c.new.ensures in
    let is = c.wide-count.ensures ∙ c.in_ok-first.ensures.item.3.1 0 in
    let counted = ranged c.wide-count.result r.start r.end r.exhausted c.if-not-contains.ensures.value in
    c.then_some.ensures ∙ labelled c.args.roll.now c.wide-count.result is counted c.in_ok-end.end c.in_ok-end.ensures
