use Rattle.std.proofs.Common.{ℕ, ◌≡◌, ◌≤◌, ◌%◌, false, true, refl, sym, ap, subst, arith}
use Rattle.std.proofs.lemmas.Map.Keys.{le_from_is_le}
use Rattle.std.specs.Prelude.{Result, Ok, Err, IsErrAnd}
use native.Mathlib.Nat.{div-le_self, mod-lt}
use borrow.Author.Tests.{lt-ltb, le-ltb}
use Rattle.rules.specs.declared.Refusal.{Refusal}
use Rattle.rules.specs.declared.Refusal.TheVariants as refusal
use Rattle.rules.specs.declared.Row.{Row}
use Rattle.rules.specs.Words.{between}
use Rattle.rules.specs.Numbers.{payload_most}
use Rattle.rules.specs.Replies.{refused, refusal_reply, pricing_reply, test}
use Rattle.rules.specs.Price.{row_of, price, ask_price}
use Rattle.rules.proofs.Price.{Fair, fair, last-most}
use Rattle.framing.specs.declared.Framing.{Framing}
use Rattle.framing.specs.declared.Framing.TheVariants.{Plain, Udp}
use Rattle.rules.proofs.Ranges.{ranged}
use Rattle.framing.specs.Named.{framing_number}
use Rattle.framing.proofs.price.Goals as goal

-- what a `?` hands on
handed_on : (a : Result ℕ Refusal) → IsErrAnd a (λ r. r ≡ refusal.Framing) → pricing_reply a ≡ refused 20 0
handed_on (Ok n) h = absurd h
handed_on (Err r) h = ap refusal_reply h

most : (framing : Framing) → framing_number framing ≤ 1
most Plain = omega arith
most Udp = omega arith

fairly : (row : Row) (framing : Framing) → row ≡ row_of (framing_number framing) → Fair row
fairly row framing is = subst Fair (sym is) (fair (framing_number framing) (most framing))

pub returns-then-not-contains : goal.returns-then-not-contains
unfolding ask_price test
returns-then-not-contains c =
    let a = c.args in
    let r = c.new.ensures in
    let named = c.in_ok-try_from.ensures in
    let fits : between 1 a.payload payload_most ≡ false
    = ranged a.payload r.start r.end r.exhausted c.if-not-contains.ensures.value in
    rw (
      lt-ltb a.framing 2 (omega (arith, named, most c.in_ok-try_from.field-0)),
      fits,
    )
    refl

pub overflow_add-result : goal.overflow_add-result
overflow_add-result c =
    let row = c.row-row.result in
    let f = fairly row c.in_ok-try_from.field-0 c.row-row.ensures in
    let payload = c.args.payload in
    let most = le_from_is_le payload _ c.if-not-contains.ensures.cases.1 in
    omega (
      arith,
      c.last_bytes.ensures,
      c.new.ensures.end,
      most,
      div-le_self payload row.most,
      last-most row f (payload % row.most) (mod-lt payload f.some),
    )

pub returns : goal.returns
unfolding ask_price test price
returns c =
    let a = c.args in
    let r = c.new.ensures in
    let named = c.in_ok-try_from.ensures in
    let fits : between 1 a.payload payload_most ≡ true
    = ranged a.payload r.start r.end r.exhausted c.if-not-contains.ensures.value in
    rw (
      lt-ltb a.framing 2 (omega (arith, named, most c.in_ok-try_from.field-0)),
      fits,
      named,
      c.last_bytes.ensures,
      c.row-row.ensures,
    )
    refl

pub returns-in_err-try_from : goal.returns-in_err-try_from
unfolding ask_price test
returns-in_err-try_from c =
    let e = c.in_err-try_from.ensures in
    rw (le-ltb c.args.framing 2 e.0) (handed_on c.from_residual.result (rw e.1 at c.from_residual.ensures.1))
