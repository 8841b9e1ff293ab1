-- Each return by the tests that led there. The fixed bits are read in two parts.
use Rattle.std.proofs.Common.{ℕ, List, [], ◌∷◌, ◌⊎◌, Bool, true, length, ◌≡◌, ◌≢◌, ◌∙◌, ◌+◌, ◌*◌, ◌/◌, ◌%◌, ◌^◌, ◌≤◌, ◌<◌}
use Rattle.std.proofs.Common.{sym, ap₂, subst, inl, inr, arith, div-le_self}
use Rattle.bits.specs.Field.{field, taken_of, number_of, within}
use Rattle.bits.proofs.Laws.{field_lt, number_at, part_at}
use Rattle.rules.specs.Numbers.{hyper_bits, framing_bits, payload_bits, period_bits, deadline_bits, hops_bits}
use Rattle.rules.specs.Numbers.{fixed_bits, hops_most, hop_bits}
use Rattle.rules.specs.Replies.{Reply, granted}
use Rattle.rules.specs.Price.{price, ask_price}
use Rattle.rules.specs.Reading.{record_tests}
use Rattle.rules.specs.Table.{hyper_of, framing_at, payload_at, period_at, deadline_at, hops_at}
use Rattle.rules.proofs.Tests.{Stops}
use Rattle.rules.proofs.Price.{ask-granted, price-most}
use Rattle.rules.proofs.Tables.Search.{Outside, record_1, record_6, record_7, record_8, record-route, record-hops}
use Rattle.table.specs.Stages.{hops_left}
use Rattle.table.proofs.Answers.{held, missed}
use Rattle.rules.proofs.Ranges.{in_range, out_of_range}
use Rattle.table.proofs.fixed_of.Goals as goal
use Rattle.table.proofs.fixed_of.Goals.{then-period-eq0-via-then-period-eq0}
use Rattle.table.proofs.fixed_of.Goals.{then-period-eq0-via-else-period-eq0+then-hyper-period-ne0}

abbrev sent_bits : ℕ
sent_bits = framing_bits + payload_bits + period_bits

abbrev due_bits : ℕ
due_bits = deadline_bits + hops_bits

-- Of a string that holds the fixed bits of the record at `at`, what the parts of the two readings are.
record Fields (s : List ℕ) (at n m l p h : ℕ) : Type 0 where
  pub there : at + fixed_bits ≤ 8 * length s
  pub sent : n ≡ field s at sent_bits
  pub due : m ≡ field s (at + sent_bits) due_bits
  pub payload : l ≡ payload_at s at
  pub period : p ≡ period_at s at
  pub hops : h ≡ hops_at s at

fields :
    (s : List ℕ) (at : ℕ) {b : Bool} {sent due payload period hops : ℕ} → b ≡ within s at fixed_bits → b ≡ true →
    sent ≡ number_of (taken_of s at sent_bits) → due ≡ number_of (taken_of s (at + sent_bits) due_bits) →
    payload ≡ sent / 2 ^ period_bits % 2 ^ payload_bits → period ≡ sent / 2 ^ 0 % 2 ^ period_bits →
    hops ≡ due / 2 ^ 0 % 2 ^ hops_bits → Fields s at sent due payload period hops
unfolding payload_at period_at hops_at
fields s at {b} told there_is s1 s2 p1 p2 p3 =
    let there : at + fixed_bits ≤ 8 * length s = held s at fixed_bits b told there_is in
    let sent = number_at s at sent_bits (omega arith) (omega (arith, there)) s1 in
    let due = number_at s (at + sent_bits) due_bits (omega arith) (omega (arith, there)) s2 in
    record {
      there = there;
      sent = sent;
      due = due;
      payload = part_at s at sent_bits (at + framing_bits) payload_bits period_bits (omega arith) (omega arith) p1 sent;
      period = part_at s at sent_bits (at + framing_bits + payload_bits) period_bits 0 (omega arith) (omega arith) p2 sent;
      hops =
          part_at s (at + sent_bits) due_bits (at + framing_bits + payload_bits + period_bits + deadline_bits) hops_bits 0
          (omega arith) (omega arith) p3 due;
    }

-- Of such a record, by the tests that its values pass, what the tests of the record do.
module _
    {s : List ℕ} {hyper at sent due payload period hops : ℕ} (c : ℕ)
    (h : hyper ≡ hyper_of s) (f : Fields s at sent due payload period hops)
  where
    stops-6 : payload ≡ 0 → Stops (record_tests s c at) 6 c
    stops-6 e = record_6 s c at f.there (omega (arith, f.payload))

    divided : hyper % period ≡ hyper_of s % period_at s at
    divided = ap₂ (λ (h p : ℕ). h % p) h f.period

    deadline : (n : ℕ) → n ≡ due / 2 ^ hops_bits % 2 ^ deadline_bits → n ≡ deadline_at s at
    unfolding deadline_at
    deadline n e =
        part_at s (at + sent_bits) due_bits (at + framing_bits + payload_bits + period_bits) deadline_bits hops_bits
        (omega arith) (omega arith) e f.due

    module _ (some : payload ≢ 0) where
      payload_some : 1 ≤ payload_at s at
      payload_some = omega (arith, f.payload)

      stops-7 : (period ≡ 0) ⊎ (hyper % period ≢ 0) → Stops (record_tests s c at) 7 c
      stops-7 (inl e) = record_7 s c at f.there payload_some (inl (sym f.period ∙ e))
      stops-7 (inr ne) = record_7 s c at f.there payload_some (inr (λ e. ne (divided ∙ e)))

      -- a payload from 1 on, in a framing of one bit, has a price
      module _ {framing : ℕ} (told : framing ≡ sent / 2 ^ (payload_bits + period_bits) % 2 ^ framing_bits) where
        framing_is : framing ≡ framing_at s at
        unfolding framing_at
        framing_is = part_at s at sent_bits at framing_bits (payload_bits + period_bits) (omega arith) (omega arith) told f.sent

        priced : ask_price framing payload ≡ granted (price (framing_at s at) (payload_at s at) ∷ [])
        unfolding framing_at payload_at
        priced =
            ask-granted framing payload (omega (arith, framing_is, field_lt s at framing_bits)) (omega arith)
            (omega (arith, f.payload, field_lt s (at + framing_bits) payload_bits))
            ∙ ap₂ (λ (x y : ℕ). granted (price x y ∷ [])) framing_is f.payload

        price-fits : (n : ℕ) → granted (n ∷ []) ≡ ask_price framing payload → n < 2 ^ 32
        unfolding framing_at payload_at
        price-fits n e =
            let is : n ≡ price (framing_at s at) (payload_at s at) = cc (e, priced) in
            let one = field_lt s at framing_bits in
            let most = field_lt s (at + framing_bits) payload_bits in
            omega (arith, is, price-most (framing_at s at) (payload_at s at) (omega (arith, one)) (omega (arith, most)))

      module _ (period_ne : period ≢ 0) (divides : hyper % period ≡ 0) where
        period_divides : (0 < period_at s at) × (hyper_of s % period_at s at ≡ 0)
        period_divides = (omega (arith, f.period), sym divided ∙ divides)

        stops-8 : Outside 1 hops hops_most → Stops (record_tests s c at) 8 c
        stops-8 o =
            record_8 s c at f.there payload_some period_divides (subst (λ (k : ℕ). Outside 1 k hops_most) f.hops o)

        module _ (few : (1 ≤ hops) × (hops ≤ hops_most)) where
          stops_short : 8 * length s < at + fixed_bits + hop_bits * hops → Stops (record_tests s c at) 1 0
          stops_short l =
              record-route s c at f.there payload_some period_divides (omega (arith, f.hops)) (omega (arith, f.hops))

          passes : at + fixed_bits + hop_bits * hops ≤ 8 * length s
              → (rest : Reply) → record_tests s c at rest ≡ hops_left s c at rest
          passes l = record-hops s c at f.there payload_some period_divides (omega (arith, f.hops)) (omega (arith, f.hops))

times-fits : (s : List ℕ) (hyper period : ℕ) → hyper ≡ hyper_of s → hyper / period < 2 ^ 32
unfolding hyper_of
times-fits s hyper period e = omega (arith, e, field_lt s 0 hyper_bits, div-le_self hyper period)

pub overflow_cast-result : goal.overflow_cast-result
overflow_cast-result c =
    let a = c.args in
    let f =
    fields a.s.now a.at c.holds.ensures c.if-not-holds.false c.number-sent.ensures c.number-due.ensures c.part-payload.ensures
    c.part-period.ensures c.part.ensures in
    let e = price-fits a.c c.requires.hyper_value f c.if-payload-eq0.false c.part-framing.ensures c.in_ok-price.price
    c.in_ok-price.ensures in
    omega (arith, e)

pub overflow_cast-result-2 : goal.overflow_cast-result-2
overflow_cast-result-2 c =
    omega (arith, times-fits c.args.s.now c.args.hyper c.part-period.result c.requires.hyper_value)

pub returns-then-not-holds-clause-answered : goal.returns-then-not-holds-clause-answered
returns-then-not-holds-clause-answered c =
    let a = c.args in
    record_1 a.s.now a.c a.at (missed a.s.now a.at fixed_bits c.holds.result c.holds.ensures c.if-not-holds.true)

pub returns-then-payload-eq0-clause-answered : goal.returns-then-payload-eq0-clause-answered
returns-then-payload-eq0-clause-answered c =
    let a = c.args in
    let f =
    fields a.s.now a.at c.holds.ensures c.if-not-holds.false c.number-sent.ensures c.number-due.ensures c.part-payload.ensures
    c.part-period.ensures c.part.ensures in
    stops-6 a.c c.requires.hyper_value f c.if-payload-eq0.true

pub returns-then-period-eq0-clause-answered : goal.returns-then-period-eq0-clause-answered
returns-then-period-eq0-clause-answered c =
    let a = c.args in
    let f =
    fields a.s.now a.at c.holds.ensures c.if-not-holds.false c.number-sent.ensures c.number-due.ensures c.part-payload.ensures
    c.part-period.ensures c.part.ensures in
    stops-7 a.c c.requires.hyper_value f c.if-payload-eq0.false
    (elim c.then-period-eq0.branch [
      | then-period-eq0-via-then-period-eq0 w ↦ inl w.if-period-eq0.true
      | then-period-eq0-via-else-period-eq0+then-hyper-period-ne0 w ↦ inr w.if-hyper-period-ne0.true
    ])

pub returns-then-not-contains-clause-answered : goal.returns-then-not-contains-clause-answered
returns-then-not-contains-clause-answered c =
    let a = c.args in
    let f =
    fields a.s.now a.at c.holds.ensures c.if-not-holds.false c.number-sent.ensures c.number-due.ensures c.part-payload.ensures
    c.part-period.ensures c.part.ensures in
    stops-8 a.c c.requires.hyper_value f c.if-payload-eq0.false c.if-period-eq0.false c.if-hyper-period-ne0.false
    (let r = c.new in
    out_of_range r.result c.part.result c.contains.ensures.value r.ensures.start r.ensures.end r.ensures.exhausted
    c.if-not-contains.true)

pub returns-then-not-holds-2-clause-answered : goal.returns-then-not-holds-2-clause-answered
returns-then-not-holds-2-clause-answered c =
    let a = c.args in
    let f =
    fields a.s.now a.at c.holds.ensures c.if-not-holds.false c.number-sent.ensures c.number-due.ensures c.part-payload.ensures
    c.part-period.ensures c.part.ensures in
    let few =
    let r = c.new in
    in_range r.result c.part.result c.contains.ensures.value r.ensures.start r.ensures.end r.ensures.exhausted
    c.if-not-contains.false in
    stops_short a.c c.requires.hyper_value f c.if-payload-eq0.false c.if-period-eq0.false c.if-hyper-period-ne0.false
    (omega arith)
    (missed a.s.now (a.at + fixed_bits) (hop_bits * c.part.result) c.holds-2.result c.holds-2.ensures c.if-not-holds-2.true)

pub returns-in_err-price-clause-answered : goal.returns-in_err-price-clause-answered
returns-in_err-price-clause-answered c =
    let a = c.args in
    let f =
    fields a.s.now a.at c.holds.ensures c.if-not-holds.false c.number-sent.ensures c.number-due.ensures c.part-payload.ensures
    c.part-period.ensures c.part.ensures in
    let e = priced a.c c.requires.hyper_value f c.if-payload-eq0.false c.part-framing.ensures in
    let z : ◌≡◌ {A = ℕ} 0 1 = cc (c.in_err-price.ensures, e) in
    absurd (omega arith)

pub returns-clause-answered : goal.returns-clause-answered
returns-clause-answered c =
    let a = c.args in
    let f =
    fields a.s.now a.at c.holds.ensures c.if-not-holds.false c.number-sent.ensures c.number-due.ensures c.part-payload.ensures
    c.part-period.ensures c.part.ensures in
    let few =
    let r = c.new in
    in_range r.result c.part.result c.contains.ensures.value r.ensures.start r.ensures.end r.ensures.exhausted
    c.if-not-contains.false in
    passes a.c c.requires.hyper_value f c.if-payload-eq0.false c.if-period-eq0.false c.if-hyper-period-ne0.false
    (omega arith)
    (held a.s.now (a.at + fixed_bits) (hop_bits * c.part.result) c.holds-2.result c.holds-2.ensures c.if-not-holds-2.false)

pub returns-clause-told : goal.returns-clause-told
returns-clause-told c =
    let a = c.args in
    let f =
    fields a.s.now a.at c.holds.ensures c.if-not-holds.false c.number-sent.ensures c.number-due.ensures c.part-payload.ensures
    c.part-period.ensures c.part.ensures in
    let few =
    let r = c.new in
    in_range r.result c.part.result c.contains.ensures.value r.ensures.start r.ensures.end r.ensures.exhausted
    c.if-not-contains.false in
    let e = priced a.c c.requires.hyper_value f c.if-payload-eq0.false c.part-framing.ensures in
    record {
      price = cc (c.in_ok-price.ensures, e);
      times = ap₂ (λ (h p : ℕ). h / p) c.requires.hyper_value f.period;
      deadline = deadline a.c c.requires.hyper_value f _ c.part-deadline.ensures;
      hops = f.hops;
      hops_at_most = omega arith;
      route_inside =
          held a.s.now (a.at + fixed_bits) (hop_bits * c.part.result) c.holds-2.result c.holds-2.ensures c.if-not-holds-2.false;
    }
