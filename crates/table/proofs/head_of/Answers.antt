-- Each return by the tests that led there.
use Rattle.std.proofs.Common.{ℕ, List, Bool, true, length, ◌≡◌, ◌+◌, ◌*◌, ◌≤◌, subst, arith}
use Rattle.bits.specs.Field.{taken_of, number_of, within}
use Rattle.bits.proofs.Laws.{number_at}
use Rattle.rules.specs.Numbers.{head_bits, hyper_bits, wires_bits, channels_bits, hyper_most, wires_most, channels_most}
use Rattle.rules.specs.Table.{hyper_of, wires_of, channels_of}
use Rattle.rules.proofs.Tables.Search.{Outside, head_1, head_2, head_3, head_4, head_passes}
use Rattle.table.proofs.Answers.{held, missed}
use Rattle.rules.proofs.Ranges.{in_range, out_of_range}
use Rattle.table.proofs.head_of.Goals as goal

-- of a string that holds the head, the three fields
record Fields (s : List ℕ) (h n m : ℕ) : Type 0 where
  pub there : head_bits ≤ 8 * length s
  pub hyper : h ≡ hyper_of s
  pub wires : n ≡ wires_of s
  pub channels : m ≡ channels_of s

fields :
    (s : List ℕ) {b : Bool} {h n m : ℕ} → b ≡ within s 0 head_bits → b ≡ true → h ≡ number_of (taken_of s 0 hyper_bits) →
    n ≡ number_of (taken_of s hyper_bits wires_bits) → m ≡ number_of (taken_of s (hyper_bits + wires_bits) channels_bits) →
    Fields s h n m
unfolding hyper_of wires_of channels_of
fields s {b} told there_is h n m =
    let there : head_bits ≤ 8 * length s = held s 0 head_bits b told there_is in
    record {
      there = there;
      hyper = number_at s _ _ (omega arith) (omega (arith, there)) h;
      wires = number_at s _ _ (omega arith) (omega (arith, there)) n;
      channels = number_at s _ _ (omega arith) (omega (arith, there)) m;
    }

pub returns-then-not-holds-clause-answered : goal.returns-then-not-holds-clause-answered
returns-then-not-holds-clause-answered c =
    head_1 c.args.s.now (missed c.args.s.now 0 head_bits c.holds.result c.holds.ensures c.if-not-holds.true)

pub returns-then-not-contains-clause-answered : goal.returns-then-not-contains-clause-answered
returns-then-not-contains-clause-answered c =
    let s = c.args.s.now in
    let f = fields s c.holds.ensures c.if-not-holds.false c.number-hyper.ensures c.number.ensures c.number-2.ensures in
    let hyper =
    let r = c.new in
    out_of_range r.result c.number-hyper.result c.contains.ensures.value r.ensures.start r.ensures.end r.ensures.exhausted
    c.if-not-contains.true in
    head_2 s f.there (subst (λ (h : ℕ). Outside 1 h hyper_most) f.hyper hyper)

pub returns-then-not-contains-2-clause-answered : goal.returns-then-not-contains-2-clause-answered
returns-then-not-contains-2-clause-answered c =
    let s = c.args.s.now in
    let f = fields s c.holds.ensures c.if-not-holds.false c.number-hyper.ensures c.number.ensures c.number-2.ensures in
    let hyper =
    let r = c.new in
    in_range r.result c.number-hyper.result c.contains.ensures.value r.ensures.start r.ensures.end r.ensures.exhausted
    c.if-not-contains.false in
    let wires =
    let r = c.new-2 in
    out_of_range r.result c.number.result c.contains-2.ensures.value r.ensures.start r.ensures.end r.ensures.exhausted
    c.if-not-contains-2.true in
    head_3 s f.there (omega (arith, f.hyper)) (subst (λ (n : ℕ). Outside 1 n wires_most) f.wires wires)

pub returns-then-not-contains-3-clause-answered : goal.returns-then-not-contains-3-clause-answered
returns-then-not-contains-3-clause-answered c =
    let s = c.args.s.now in
    let f = fields s c.holds.ensures c.if-not-holds.false c.number-hyper.ensures c.number.ensures c.number-2.ensures in
    let hyper =
    let r = c.new in
    in_range r.result c.number-hyper.result c.contains.ensures.value r.ensures.start r.ensures.end r.ensures.exhausted
    c.if-not-contains.false in
    let wires =
    let r = c.new-2 in
    in_range r.result c.number.result c.contains-2.ensures.value r.ensures.start r.ensures.end r.ensures.exhausted
    c.if-not-contains-2.false in
    let channels =
    let r = c.new-3 in
    out_of_range r.result c.number-2.result c.contains-3.ensures.value r.ensures.start r.ensures.end r.ensures.exhausted
    c.if-not-contains-3.true in
    head_4 s f.there (omega (arith, f.hyper)) (omega (arith, f.wires))
    (subst (λ (m : ℕ). Outside 1 m channels_most) f.channels channels)

pub returns-clause-answered : goal.returns-clause-answered
returns-clause-answered c =
    let s = c.args.s.now in
    let f = fields s c.holds.ensures c.if-not-holds.false c.number-hyper.ensures c.number.ensures c.number-2.ensures in
    let hyper =
    let r = c.new in
    in_range r.result c.number-hyper.result c.contains.ensures.value r.ensures.start r.ensures.end r.ensures.exhausted
    c.if-not-contains.false in
    let wires =
    let r = c.new-2 in
    in_range r.result c.number.result c.contains-2.ensures.value r.ensures.start r.ensures.end r.ensures.exhausted
    c.if-not-contains-2.false in
    let channels =
    let r = c.new-3 in
    in_range r.result c.number-2.result c.contains-3.ensures.value r.ensures.start r.ensures.end r.ensures.exhausted
    c.if-not-contains-3.false in
    head_passes s f.there (omega (arith, f.hyper)) (omega (arith, f.wires)) (omega (arith, f.channels))

pub returns-clause-told : goal.returns-clause-told
returns-clause-told c =
    let s = c.args.s.now in
    let f = fields s c.holds.ensures c.if-not-holds.false c.number-hyper.ensures c.number.ensures c.number-2.ensures in
    let wires =
    let r = c.new-2 in
    in_range r.result c.number.result c.contains-2.ensures.value r.ensures.start r.ensures.end r.ensures.exhausted
    c.if-not-contains-2.false in
    let channels =
    let r = c.new-3 in
    in_range r.result c.number-2.result c.contains-3.ensures.value r.ensures.start r.ensures.end r.ensures.exhausted
    c.if-not-contains-3.false in
    record {
      hyper = f.hyper;
      wires = f.wires;
      channels = f.channels;
      wires_at_most = omega arith;
      channels_at_least = omega arith;
      channels_at_most = omega arith;
    }
