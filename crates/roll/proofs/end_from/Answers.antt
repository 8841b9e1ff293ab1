-- Each return by the tests that led there.
use Rattle.std.proofs.Common.{◌∙◌, arith}
use lib.ListN.{get_or-eq_default}
use Rattle.rules.proofs.Ranges.{ranged}
use Rattle.roll.proofs.Ends.{not-there, miscounted, cut-off, printed}
use Rattle.roll.proofs.end_from.Goals as goal

pub returns-in_err-get : goal.returns-in_err-get
returns-in_err-get c =
    let roll = c.args.roll.now in
    let at = c.args.at in
    c.from_residual.ensures ∙ not-there roll at (get_or-eq_default roll 0 {n = at} c.in_err-get.ensures.lookup.3)

pub returns-then-not-contains : goal.returns-then-not-contains
returns-then-not-contains c =
    let r = c.new.ensures in
    let is = c.wide-count.ensures ∙ c.in_ok-get.ensures.lookup.3.1 0 in
    miscounted c.args.roll.now c.args.at c.wide-count.result is
    (ranged c.wide-count.result r.start r.end r.exhausted c.if-not-contains.ensures.value)

pub returns-in_err-label : goal.returns-in_err-label
returns-in_err-label c =
    let r = c.new.ensures in
    let is = c.wide-count.ensures ∙ c.in_ok-get.ensures.lookup.3.1 0 in
    let counted = ranged c.wide-count.result r.start r.end r.exhausted c.if-not-contains.ensures.value in
    c.from_residual-in_err-label.ensures
    ∙ cut-off c.args.roll.now c.args.at c.wide-count.result is counted
    (λ g. let f = c.in_err-label.ensures.lookup.1 (omega (arith, g), omega (arith, g)) in cc)

pub returns : goal.returns
returns c =
    let r = c.new.ensures in
    let is = c.wide-count.ensures ∙ c.in_ok-get.ensures.lookup.3.1 0 in
    let counted = ranged c.wide-count.result r.start r.end r.exhausted c.if-not-contains.ensures.value in
    let part = c.in_ok-label.ensures.lookup.0 in
    c.then_some.ensures
    ∙ printed c.args.roll.now c.args.at c.wide-count.result is counted _ _ c.printable.result (omega arith) part.1 part.2
    c.printable.ensures
