-- Each return by the tests that led there.
use Rattle.std.proofs.Common.{ℕ, List, Bool, true, false, length, get_or, ◌≡◌, ◌≢◌, ◌∙◌, ◌+◌, ◌*◌, ◌/◌, ◌%◌, ◌^◌, ◌≤◌, ◌<◌}
use Rattle.std.proofs.Common.{refl, sym, ap, arith}
use Rattle.bits.specs.Field.{field, within, taken_of, number_of}
use Rattle.bits.proofs.Laws.{number_at, part_at}
use Rattle.rules.specs.declared.Wire.{Wire}
use Rattle.rules.specs.Numbers.{rates, head_bits, wire_bits, rate_bits, prop_bits, room_bits}
use Rattle.rules.specs.Table.{view_of, wire_at, code_of, rate_of, prop_of, room_of}
use Rattle.rules.specs.Decoded.{wire_of}
use Rattle.rules.proofs.Tables.Search.{wire-1, wire-5, wire-passes, no-rate, some-rate}
use Rattle.table.proofs.Answers.{held, missed}
use Rattle.table.proofs.wire_of.Goals as goal

-- Of the record of wire w, its number, and the rate by its code.
module _
    (s : List ℕ) (w number code bytes : ℕ) (there : wire_at w + wire_bits ≤ 8 * length s)
    (all : number ≡ number_of (taken_of s (head_bits + wire_bits * w) wire_bits))
    (part : code ≡ number / 2 ^ (prop_bits + room_bits) % 2 ^ rate_bits) (rated : bytes ≡ get_or rates code 0)
  where
    bits : number ≡ field s (wire_at w) wire_bits
    unfolding wire_at
    bits = number_at s _ _ (omega arith) (omega (arith, there)) all

    coded : bytes ≡ get_or rates (code_of s w) 0
    unfolding code_of
    coded =
        rated
        ∙ ap (λ (k : ℕ). get_or rates k 0)
        (part_at s (wire_at w) wire_bits (wire_at w) rate_bits (prop_bits + room_bits) (omega arith) (omega arith) part bits)

    passes : bytes ≢ 0 → code_of s w < length rates
    passes ne = some-rate (code_of s w) (λ e. ne (coded ∙ e))

    stops : bytes ≡ 0 → length rates ≤ code_of s w
    stops e = no-rate (code_of s w) (sym coded ∙ e)

    read : (r : Wire) → r.rate ≡ bytes → r.prop ≡ number / 2 ^ room_bits % 2 ^ prop_bits → r.room ≡ number / 2 ^ 0 % 2 ^ room_bits
        → r ≡ wire_of (view_of s) w
    unfolding wire_of rate_of prop_of room_of
    read r e p q =
        λ i. record {
          rate = (e ∙ coded) i;
          prop = part_at s (wire_at w) wire_bits (wire_at w + rate_bits) prop_bits room_bits (omega arith) (omega arith) p bits i;
          room =
              part_at s (wire_at w) wire_bits (wire_at w + rate_bits + prop_bits) room_bits 0 (omega arith) (omega arith) q bits
              i;
        }

inside :
    (s : List ℕ) (w : ℕ) (b : Bool) → b ≡ within s (head_bits + wire_bits * w) wire_bits → b ≡ true →
    wire_at w + wire_bits ≤ 8 * length s
unfolding wire_at
inside s w b e h = held s (wire_at w) wire_bits b e h

past :
    (s : List ℕ) (w : ℕ) (b : Bool) → b ≡ within s (head_bits + wire_bits * w) wire_bits → b ≡ false →
    8 * length s < wire_at w + wire_bits
unfolding wire_at
past s w b e h = missed s (wire_at w) wire_bits b e h

pub returns-then-not-holds-clause-answered : goal.returns-then-not-holds-clause-answered
returns-then-not-holds-clause-answered c =
    let s = c.args.s.now in
    let w = c.args.w in
    wire-1 s w (past s w c.holds.result c.holds.ensures c.if-not-holds.true)

pub returns-then-rate-eq0-clause-answered : goal.returns-then-rate-eq0-clause-answered
returns-then-rate-eq0-clause-answered c =
    let s = c.args.s.now in
    let w = c.args.w in
    let there = inside s w c.holds.result c.holds.ensures c.if-not-holds.false in
    wire-5 s w there
    (stops s w c.number-record.result c.part-code.result _ there c.number-record.ensures c.part-code.ensures c.rate-rate.ensures
    c.if-rate-eq0.true)

pub returns-clause-answered : goal.returns-clause-answered
returns-clause-answered c =
    let s = c.args.s.now in
    let w = c.args.w in
    let there = inside s w c.holds.result c.holds.ensures c.if-not-holds.false in
    wire-passes s w there
    (passes s w c.number-record.result c.part-code.result _ there c.number-record.ensures c.part-code.ensures c.rate-rate.ensures
    c.if-rate-eq0.false)

pub returns-clause-told : goal.returns-clause-told
returns-clause-told c =
    let s = c.args.s.now in
    let w = c.args.w in
    let there = inside s w c.holds.result c.holds.ensures c.if-not-holds.false in
    read s w c.number-record.result c.part-code.result _ there c.number-record.ensures c.part-code.ensures c.rate-rate.ensures _
    refl c.part.ensures c.part-2.ensures
