-- Channel by channel: the record's fixed fields, then its route hop by hop, whose tests are the channel's.
use Rattle.std.proofs.Common.{ℕ, List, Ok, Err, length, ◌≡◌, ◌∙◌, ◌+◌, ◌-◌, ◌*◌, ◌/◌, ◌%◌, ◌^◌, ◌≤◌, ◌<◌}
use Rattle.std.proofs.Common.{refl, sym, ap, ap₂, subst, add-one, arith}
use Rattle.std.specs.Prelude.{Result}
use Rattle.std.proofs.Math.ListN.{replicate, length-set}
use Rattle.std.proofs.Math.Seq.{length-take-le}
use Rattle.bits.specs.Field.{field, taken_of, number_of}
use Rattle.bits.proofs.Laws.{number_at, part_at}
use Rattle.rules.specs.declared.Channel.{Channel}
use Rattle.rules.specs.declared.Refusal.{Refusal}
use Rattle.rules.specs.declared.Refusal.TheVariants as refusal
use Rattle.rules.specs.Words.{entries}
use Rattle.rules.specs.Numbers.{head_bits, wire_bits, fixed_bits, hop_bits, hops_most, channels_most}
use Rattle.rules.specs.Replies.{Reply, each}
use Rattle.rules.specs.Table.{view_of, wires_of, wire_at, hops_at, route_at, channel_at}
use Rattle.rules.specs.Channel.{route_tests}
use Rattle.rules.specs.Reading.{record_tests, channel_tests}
use Rattle.rules.specs.Decoded.{column, no_channel, channel_of}
use Rattle.rules.proofs.Answers.{Refused}
use Rattle.rules.proofs.Tests.{Through}
use Rattle.rules.proofs.Tables.Columns.{column-set}
use Rattle.rules.proofs.Tables.Laws.{length-route}
use Rattle.rules.proofs.Tables.Search.{from_start, from_next, from-stop, from_end, channel-record}
use Rattle.rules.proofs.Tables.Search.{hops-start, hops-9, hops-10, hops-next, hops-end, get_or-route}
use Rattle.table.specs.declared.Head.{Head}
use Rattle.table.specs.Stages.{HeadRead, FixedRead, ChannelRead, hops_left}
use Rattle.table.proofs.Answers.{handed}
use Rattle.table.proofs.Columns.{column_first, column_whole}
use Rattle.table.proofs.channels_of.Goals as goal
use Rattle.table.proofs.channels_of.Goals.{else-search-test, then-search-test+in_ok-fixed+then-loop-i-test+then-head-wire}
use Rattle.table.proofs.channels_of.Goals.{then-search-test+in_ok-fixed+then-loop-i-test+else-head-wire+then-wire-least}

-- the channels start where the wires end, and each where the one before it ends
first : (s : List ℕ) (n : ℕ) → n ≡ wires_of s → head_bits + wire_bits * n ≡ channel_at s 0
unfolding channel_at wire_at
first s n e = omega arith

next : (s : List ℕ) (c at hops : ℕ) → at ≡ channel_at s c → hops ≡ hops_at s (channel_at s c)
    → at + fixed_bits + hop_bits * hops ≡ channel_at s (c + 1)
unfolding channel_at
next s c at hops begins e = rw add-one (omega (arith, begins, e))

-- of the bits of a route, those of hop i
wire_is :
    (s : List ℕ) (at hops i wires wire : ℕ) → i < hops → hops ≤ hops_most → at + hop_bits * hops ≤ 8 * length s →
    wires ≡ number_of (taken_of s at (hop_bits * hops)) → wire ≡ wires / 2 ^ (hop_bits * (hops - 1 - i)) % 2 ^ hop_bits →
    wire ≡ field s (at + hop_bits * i) hop_bits
wire_is s at hops i wires wire hop few inside all part =
    part_at s _ (hop_bits * hops) _ _ _ (omega arith) (omega arith) part
    (number_at s _ _ (omega (arith, few)) (omega (arith, inside)) all)

-- Of channel c, whose record starts at bit `at`, and whose fixed fields passed.
module _
    (s : List ℕ) (head : Head) (h : HeadRead s head) (c at : ℕ) (begins : at ≡ channel_at s c) (r : Channel)
    (f : FixedRead s at r) (passed : (rest : Reply) → record_tests s c at rest ≡ hops_left s c at rest)
    (hops : ℕ) (number : hops ≡ r.hops)
  where
    few : hops ≤ hops_most
    few = omega (arith, number, f.hops_at_most)

    inside : at + fixed_bits + hop_bits * hops ≤ 8 * length s
    inside = omega (arith, number, f.route_inside)

    of_hop :
        (i wires wire : ℕ) → i < hops → wires ≡ number_of (taken_of s (at + fixed_bits) (hop_bits * hops)) →
        wire ≡ wires / 2 ^ (hop_bits * (hops - 1 - i)) % 2 ^ hop_bits →
        wire ≡ field s (at + fixed_bits + hop_bits * i) hop_bits
    of_hop i wires wire l all part = wire_is s (at + fixed_bits) hops i wires wire l few inside all part

    -- its tests are those of its route
    tests : (rest : Reply) → channel_tests s c rest ≡ route_tests head.wires c (route_at s (at + fixed_bits) hops) rest
    tests rest =
        channel-record s c rest
        ∙ ap (λ (a : ℕ). record_tests s c a rest) (sym begins)
        ∙ passed rest
        ∙ ap₂ (λ (w k : ℕ). route_tests w c (route_at s (at + fixed_bits) k) rest) (sym h.wires) (sym f.hops ∙ sym number)

    stops : (x : Refusal) → Refused (route_tests head.wires c (route_at s (at + fixed_bits) hops)) x → Refused (channel_tests s c) x
    stops x e rest = tests rest ∙ e rest

    through : Through (route_tests head.wires c (route_at s (at + fixed_bits) hops)) → Through (channel_tests s c)
    through e rest = tests rest ∙ e rest

    read : (route : List ℕ) → route ≡ column 0 hops_most hops (entries (route_at s (at + fixed_bits) hops))
        → ChannelRead s c (record { price = r.price; times = r.times; deadline = r.deadline; hops = r.hops; route = route })
    unfolding channel_of
    read route e =
        let there = subst (λ (a : ℕ). FixedRead s a r) begins f in
        let long = there.hops ∙ sym (length-route s (channel_at s c + fixed_bits) (hops_at s (channel_at s c))) in
        let same : column 0 hops_most hops (entries (route_at s (at + fixed_bits) hops))
        ≡ column 0 hops_most (length ((view_of s).route c)) (entries ((view_of s).route c)) =
        λ i. column 0 hops_most ((number ∙ long) i)
        (entries (route_at s (begins i + fixed_bits) ((number ∙ there.hops) i))) in
        record {
          channel =
              λ i. record {
                price = there.price i;
                times = there.times i;
                deadline = there.deadline i;
                hops = long i;
                route = (e ∙ same) i;
              };
          hops = there.hops;
          hops_at_most = f.hops_at_most;
          inside = there.route_inside;
        }

pub search-init : goal.search-init
search-init c =
    let a = c.args in
    record {
      none = refl;
      search = from_start (channel_tests a.s.now) a.head.channels;
      long = length-take-le a.head.channels a.channels.now (omega arith);
      channels =
          rw c.requires.none
          (column_first no_channel channels_most (channel_of (view_of a.s.now)) a.head.channels
          c.requires.head_read.channels_at_most);
      start = first a.s.now a.head.wires c.requires.head_read.wires;
      short = omega arith;
      inside = λ l. omega arith;
    }

pub returns-in_err-fixed-clause-answered : goal.returns-in_err-fixed-clause-answered
returns-in_err-fixed-clause-answered c =
    let s = c.args.s.now in
    let k = c.search.c in
    let f = channel_tests s in
    let m = c.args.head.channels in
    handed (each f 0 m) (λ rest. rest) c.from_residual.result c.in_err-fixed.field-0.0 c.from_residual.ensures.1
    (from-stop f m k (omega arith) c.search.invariant.search
    (λ rest. channel-record s k rest
    ∙ ap (λ (a : ℕ). record_tests s k a rest) (sym c.search.invariant.start)
    ∙ c.in_err-fixed.ensures.answered rest))

pub loop-i-init : goal.loop-i-init
loop-i-init c =
    let s = c.args.s.now in
    let hops = c.from-hops.result in
    let at = c.search.end + fixed_bits in
    let few : hops ≤ hops_most = omega (arith, c.from-hops.ensures, c.in_ok-fixed.ensures.told.hops_at_most) in
    record {
      none = c.search.invariant.none;
      search = hops-start s c.args.head.wires c.search.c at hops;
      long = length-take-le hops (replicate hops_most 0) few;
      route = column_first 0 hops_most (entries (route_at s at hops)) hops few;
    }

pub loop-i-preserved : goal.loop-i-preserved
loop-i-preserved c =
    let s = c.args.s.now in
    let hops = c.from-hops.result in
    let at = c.search.end + fixed_bits in
    let i = c.loop-i.i in
    let here = c.loop-i.invariant in
    let is =
    of_hop s c.args.head c.requires.head_read c.search.c c.search.end c.search.invariant.start c.in_ok-fixed.fixed
    c.in_ok-fixed.ensures.told c.in_ok-fixed.ensures.answered hops c.from-hops.ensures i c.number-wires.result
    c.part-wire.result (omega arith) c.number-wires.ensures c.part-wire.ensures in
    record {
      none = here.none;
      search =
          hops-next s c.args.head.wires c.search.c at hops i c.loop-i.least (omega arith) here.search c.part-wire.result is
          (omega arith) (omega arith);
      long = length-set c.loop-i.hop-items i c.part-wire.result ∙ here.long;
      route =
          column-set 0 hops (entries (route_at s at hops)) i (omega arith) here.route
          (is ∙ sym (get_or-route s at hops i (omega arith)));
    }

pub search-preserved : goal.search-preserved
search-preserved c =
    let s = c.args.s.now in
    let m = c.args.head.channels in
    let k = c.search.c in
    let here = c.search.invariant in
    let hops = c.from-hops.result in
    let at = c.search.end + fixed_bits in
    let fixed = c.in_ok-fixed.ensures in
    let all : c.loop-i.i ≡ hops = omega arith in
    let few : hops ≤ hops_most = omega (arith, c.from-hops.ensures, fixed.told.hops_at_most) in
    let f = entries (route_at s at hops) in
    let told =
    read s c.args.head c.requires.head_read k c.search.end here.start c.in_ok-fixed.fixed fixed.told fixed.answered hops
    c.from-hops.ensures _
    (column_whole 0 hops_most f hops few c.loop-i.hop-items
    (c.loop-i.invariant.route ∙ ap (λ (j : ℕ). column 0 hops j f) all)) in
    let passes =
    through s c.args.head c.requires.head_read k c.search.end here.start c.in_ok-fixed.fixed fixed.told fixed.answered hops
    c.from-hops.ensures
    (hops-end s c.args.head.wires k at hops c.loop-i.i c.loop-i.least (omega arith) c.loop-i.invariant.search) in
    record {
      none = c.loop-i.invariant.none;
      search = from_next (channel_tests s) m k (omega arith) here.search passes;
      long = length-set c.search.channel-items k _ ∙ here.long;
      channels = column-set no_channel m (channel_of (view_of s)) k (omega arith) here.channels told.channel;
      start = next s k c.search.end hops here.start (c.from-hops.ensures ∙ told.hops);
      short = omega (arith, here.short, few);
      inside = λ l. omega (arith, told.inside, here.start, c.from-hops.ensures);
    }

-- what the search found, as it was told twice
found-none : {a : Result (Unit {0}) Refusal} {x : Refusal} → a ≡ Ok tt → a ≡ Err x → ⊥
found-none {a} {x} p q =
    let e : ◌≡◌ {A = Result (Unit {0}) Refusal} (Ok tt) (Err x) = sym p ∙ q in
    cc

found-same : {a : Result (Unit {0}) Refusal} {x y : Refusal} → a ≡ Err y → a ≡ Err x → y ≡ x
found-same {a} {x} {y} p q =
    let e : ◌≡◌ {A = Result (Unit {0}) Refusal} (Err y) (Err x) = sym p ∙ q in
    cc

pub returns-in_err-found-clause-answered : goal.returns-in_err-found-clause-answered
returns-in_err-found-clause-answered c =
    let s = c.args.s.now in
    let f = channel_tests s in
    let m = c.args.head.channels in
    let k = c.search.c in
    let here = c.search.invariant in
    let exit = c.from_residual-in_err-found in
    let was = c.in_err-found.was {u = tt} in
    handed (each f 0 m) (λ rest. rest) exit.result c.in_err-found.field-0.0 exit.ensures.1
    (elim c.search-test.branch [
      | else-search-test w ↦ absurd (found-none (w.found-is ∙ here.none) was)
      | then-search-test+in_ok-fixed+then-loop-i-test+then-head-wire w ↦
          (let is =
          of_hop s c.args.head c.requires.head_read k c.search.end here.start w.in_ok-fixed.fixed w.in_ok-fixed.ensures.told
          w.in_ok-fixed.ensures.answered w.from-hops.result w.from-hops.ensures w.loop-i.i w.number-wires.result
          w.part-wire.result (omega arith) w.number-wires.ensures w.part-wire.ensures in
          let stop =
          hops-9 s c.args.head.wires k (c.search.end + fixed_bits) w.from-hops.result w.loop-i.i w.loop-i.least (omega arith)
          w.loop-i.invariant.search w.part-wire.result is (omega arith) in
          subst (Refused (each f 0 m)) (found-same w.found-is was)
          (from-stop f m k (omega arith) here.search
          (stops s c.args.head c.requires.head_read k c.search.end here.start w.in_ok-fixed.fixed w.in_ok-fixed.ensures.told
          w.in_ok-fixed.ensures.answered w.from-hops.result w.from-hops.ensures (refusal.RouteWire k) stop)))
      | then-search-test+in_ok-fixed+then-loop-i-test+else-head-wire+then-wire-least w ↦
          (let is =
          of_hop s c.args.head c.requires.head_read k c.search.end here.start w.in_ok-fixed.fixed w.in_ok-fixed.ensures.told
          w.in_ok-fixed.ensures.answered w.from-hops.result w.from-hops.ensures w.loop-i.i w.number-wires.result
          w.part-wire.result (omega arith) w.number-wires.ensures w.part-wire.ensures in
          let stop =
          hops-10 s c.args.head.wires k (c.search.end + fixed_bits) w.from-hops.result w.loop-i.i w.loop-i.least (omega arith)
          w.loop-i.invariant.search w.part-wire.result is (omega arith) (omega arith) in
          subst (Refused (each f 0 m)) (found-same w.found-is was)
          (from-stop f m k (omega arith) here.search
          (stops s c.args.head c.requires.head_read k c.search.end here.start w.in_ok-fixed.fixed w.in_ok-fixed.ensures.told
          w.in_ok-fixed.ensures.answered w.from-hops.result w.from-hops.ensures (refusal.RouteOrder k) stop)))
    ])

pub returns-clause-answered : goal.returns-clause-answered
returns-clause-answered c =
    let was = c.in_ok-found.was {u = tt} in
    elim c.search-test.branch [
      | else-search-test w ↦
          from_end (channel_tests c.args.s.now) c.args.head.channels c.search.c (omega arith) c.search.invariant.search
      | then-search-test+in_ok-fixed+then-loop-i-test+then-head-wire w ↦ absurd (found-none was w.found-is)
      | then-search-test+in_ok-fixed+then-loop-i-test+else-head-wire+then-wire-least w ↦ absurd (found-none was w.found-is)
    ]

pub returns-clause-told : goal.returns-clause-told
returns-clause-told c =
    let was = c.in_ok-found.was {u = tt} in
    elim c.search-test.branch [
      | else-search-test w ↦
          (let m = c.args.head.channels in
          let f = channel_of (view_of c.args.s.now) in
          let e : c.search.c ≡ m = omega arith in
          w.channels-is
          ∙ rw c.requires.none
          (column_whole no_channel channels_most f m c.requires.head_read.channels_at_most c.search.channel-items
          (c.search.invariant.channels ∙ ap (λ (k : ℕ). column no_channel m k f) e)))
      | then-search-test+in_ok-fixed+then-loop-i-test+then-head-wire w ↦ absurd (found-none was w.found-is)
      | then-search-test+in_ok-fixed+then-loop-i-test+else-head-wire+then-wire-least w ↦ absurd (found-none was w.found-is)
    ]
