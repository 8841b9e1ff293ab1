-- What the tests of reading say, in plain facts.
use mathlib.Core.Path.{◌≡◌, refl, ap}
use mathlib.Core.List.{List, [], ◌∷◌}
use Prim.Native.Nat.{ℕ, zero, suc, ◌+◌, ◌*◌, ◌%◌, ◌≤◌, ◌<◌}
use native.Mathlib.Nat.{div-add-mod'}
use native.Mathlib.Omega.{arith}
use lib.ListN.{length, get_or}
use lib.Dec.{ltb, eqb}
use Rattle.bits.proofs.Laws.{field_lt}
use Rattle.rules.specs.Words.{up}
use Rattle.rules.specs.Numbers.{rates, hyper_most, wires_most, channels_most, payload_most}
use Rattle.rules.specs.Numbers.{hops_most, head_bits, wire_bits, fixed_bits, hop_bits}
use Rattle.rules.specs.Replies.{Reply, granted, refused, test, each}
use Rattle.rules.specs.Table.{view_of, hyper_of, wires_of, channels_of, wire_at, code_of, rate_of, channel_at}
use Rattle.rules.specs.Table.{framing_at, payload_at, period_at, hops_at, route_at, end_of, filling_of}
use Rattle.rules.specs.Channel.{divides, value_tests, hop_tests}
use Rattle.rules.specs.Reading.{head_tests, wire_tests, record_tests, channel_tests, filling_tests, reading_tests, reading}
use Rattle.rules.proofs.Tests.{Gate, through, gate-granted, gate-refused, gate_through, gate_iff}
use Rattle.rules.proofs.Tests.{gate_then, le-gate, lt-gate, eq-gate, both_gate, between-gate, all-gate}
use Rattle.rules.specs.Sound.{Climbs, Sound}

-- 1 to 4
pub record HeadPasses (s : List ℕ) : Type 0 where
  pub inside : head_bits ≤ 8 * length s
  pub hyper_at_least : 1 ≤ hyper_of s
  pub hyper_at_most : hyper_of s ≤ hyper_most
  pub wires_at_least : 1 ≤ wires_of s
  pub wires_at_most : wires_of s ≤ wires_most
  pub channels_at_least : 1 ≤ channels_of s
  pub channels_at_most : channels_of s ≤ channels_most

-- 1 and 5, of wire w
pub record WirePasses (s : List ℕ) (w : ℕ) : Type 0 where
  pub inside : wire_at w + wire_bits ≤ 8 * length s
  pub code_lt : code_of s w < length rates

-- 6 to 8
pub record ValuesPass (hyper payload period hops : ℕ) : Type 0 where
  pub payload_at_least : 1 ≤ payload
  pub payload_at_most : payload ≤ payload_most
  pub period_at_least : 1 ≤ period
  pub divided : hyper % period ≡ 0
  pub hops_at_least : 1 ≤ hops
  pub hops_at_most : hops ≤ hops_most

-- 1 and 6 to 10, of the record that starts at bit `at`
pub record RecordPasses (s : List ℕ) (at : ℕ) : Type 0 where
  pub inside : at + fixed_bits ≤ 8 * length s
  pub values : ValuesPass (hyper_of s) (payload_at s at) (period_at s at) (hops_at s at)
  pub route_inside : at + fixed_bits + hop_bits * hops_at s at ≤ 8 * length s
  pub climbs : Climbs (wires_of s) 0 (route_at s (at + fixed_bits) (hops_at s at))

-- 1 to 10: all fields
pub record FieldsPass (s : List ℕ) : Type 0 where
  pub head : HeadPasses s
  pub wire : (w : ℕ) → w < wires_of s → WirePasses s w
  pub channel : (c : ℕ) → c < channels_of s → RecordPasses s (channel_at s c)

-- 11
pub record FillingPasses (s : List ℕ) : Type 0 where
  pub no_more : length s ≤ up (end_of s) 8
  pub zeros : filling_of s (end_of s) ≡ 0

pub record Passes (s : List ℕ) : Type 0 where
  pub fields : FieldsPass s
  pub filling : FillingPasses s

module _ (s : List ℕ) where
  pub head_gate : Gate (HeadPasses s) (head_tests s)
  unfolding head_tests
  head_gate =
      gate_iff
      (λ h. grind arith) (λ r. grind arith)
      (gate_then (le-gate 1 0 head_bits (8 * length s))
      (gate_then (between-gate 2 0 1 (hyper_of s) hyper_most)
      (gate_then (between-gate 3 0 1 (wires_of s) wires_most) (between-gate 4 0 1 (channels_of s) channels_most))))

  pub wire-gate : (w : ℕ) → Gate (WirePasses s w) (wire_tests s w)
  unfolding wire_tests
  wire-gate w =
      gate_iff (λ h. record { inside = h.0; code_lt = h.1 }) (λ r. (r.inside, r.code_lt))
      (gate_then (le-gate 1 0 _ _) (lt-gate 5 w _ _))

pub divides-gate : (n p a b : ℕ) → Gate ((0 < a) × (b % a ≡ 0)) (test (divides a b) n p)
divides-gate n p a b = both_gate n p (ltb 0 a) (eqb (b % a) 0) (lt-gate n p 0 a) (eq-gate n p (b % a) 0)

pub value_gate : (c hyper payload period hops : ℕ)
    → Gate (ValuesPass hyper payload period hops) (value_tests c hyper payload period hops)
unfolding value_tests
value_gate c hyper payload period hops =
    gate_iff
    (λ h. grind arith) (λ r. grind arith)
    (gate_then (between-gate 6 c 1 payload payload_most)
    (gate_then (divides-gate 7 c period hyper) (between-gate 8 c 1 hops hops_most)))

pub hop_gate : (n c least : ℕ) (xs : List ℕ) → Gate (Climbs n least xs) (hop_tests n c least xs)
unfolding hop_tests
hop_gate n c least [] = through tt (λ rest. refl)
hop_gate n c least (x ∷ xs) =
    gate_iff (λ h. (h.0, h.1.0, h.1.1)) (λ r. (r.0, (r.1, r.2)))
    (gate_then (lt-gate 9 c _ _) (gate_then (le-gate 10 c _ _) (hop_gate n c (suc x) xs)))

module _ (s : List ℕ) where
  pub record_gate : (c at : ℕ) → Gate (RecordPasses s at) (record_tests s c at)
  unfolding record_tests
  record_gate c at =
      gate_iff
      (λ h. record { inside = h.0; values = h.1.0; route_inside = h.1.1.0; climbs = h.1.1.1 })
      (λ r. (r.inside, (r.values, (r.route_inside, r.climbs))))
      (gate_then (le-gate 1 0 _ _)
      (gate_then (value_gate c _ _ _ _)
      (gate_then (le-gate 1 0 _ _) (hop_gate _ c 0 _))))

  pub channel-gate : (c : ℕ) → Gate (RecordPasses s (channel_at s c)) (channel_tests s c)
  unfolding channel_tests
  channel-gate c = record_gate c (channel_at s c)

  pub filling_gate : Gate (FillingPasses s) (filling_tests s)
  unfolding filling_tests
  filling_gate =
      gate_iff (λ h. record { no_more = h.0; zeros = h.1 }) (λ r. (r.no_more, r.zeros))
      (both_gate 11 0 _ _ (le-gate 11 0 _ _) (eq-gate 11 0 _ _))

-- the tests before the filling
abbrev pub fields_tests : List ℕ → Reply → Reply
fields_tests s rest = head_tests s (each (wire_tests s) 0 (wires_of s) (each (channel_tests s) 0 (channels_of s) rest))

module _ (s : List ℕ) where
  pub fields_gate : Gate (FieldsPass s) (fields_tests s)
  fields_gate =
      gate_iff (λ h. record { head = h.0; wire = h.1.0; channel = h.1.1 }) (λ r. (r.head, (r.wire, r.channel)))
      (gate_then (head_gate s)
      (gate_then (all-gate (WirePasses s) (wire_tests s) (wire-gate s) (wires_of s))
      (all-gate (λ c. RecordPasses s (channel_at s c)) (channel_tests s) (channel-gate s) (channels_of s))))

  pub reading-gate : Gate (Passes s) (reading_tests s)
  unfolding reading_tests
  reading-gate =
      gate_iff (λ h. record { fields = h.0; filling = h.1 }) (λ r. (r.fields, r.filling))
      (gate_then fields_gate (filling_gate s))

  pub reading-passes : reading s ≡ granted [] → Passes s
  unfolding reading
  reading-passes e = (gate-granted reading-gate (granted []) [] e).0

  pub passes-reading : Passes s → (rest : Reply) → reading_tests s rest ≡ rest
  passes-reading = gate_through reading-gate

  pub reading-refused : (n p : ℕ) → reading s ≡ refused n p → (rest : Reply) → reading_tests s rest ≡ refused n p
  unfolding reading
  reading-refused n p e = gate-refused reading-gate [] n p e

-- ---- a table that passes is sound

pub rates-range : (c : ℕ) → c < length rates → (1 ≤ get_or rates c 0) × (get_or rates c 0 ≤ 100)
rates-range zero l = omega arith
rates-range (suc zero) l = omega arith
rates-range (suc (suc zero)) l = omega arith
rates-range (suc (suc (suc c))) l = absurd (omega arith)

pub length-route : (s : List ℕ) (at left : ℕ) → length (route_at s at left) ≡ left
unfolding route_at
length-route s at zero = refl
length-route s at (suc left) = ap suc (length-route s (at + hop_bits) left)

module _ (s : List ℕ) where
  rate-range : (w : ℕ) → code_of s w < length rates → (1 ≤ rate_of s w) × (rate_of s w ≤ 100)
  unfolding rate_of
  rate-range w = rates-range (code_of s w)

  framing-lt : (at : ℕ) → framing_at s at < 2
  unfolding framing_at
  framing-lt at = field_lt s at 1

  pub passes-sound : FieldsPass s → Sound (view_of s)
  passes-sound r =
      record {
        hyper_at_least = r.head.hyper_at_least;
        hyper_at_most = r.head.hyper_at_most;
        wires_at_least = r.head.wires_at_least;
        wires_at_most = r.head.wires_at_most;
        channels_at_least = r.head.channels_at_least;
        channels_at_most = r.head.channels_at_most;
        rate_at_least = λ w l. (rate-range w (r.wire w l).code_lt).0;
        rate_at_most = λ w l. (rate-range w (r.wire w l).code_lt).1;
        framing_at_most = λ k l. omega (arith, framing-lt (channel_at s k));
        payload_at_least = λ k l. (r.channel k l).values.payload_at_least;
        payload_at_most = λ k l. (r.channel k l).values.payload_at_most;
        period_at_least = λ k l. (r.channel k l).values.period_at_least;
        divides = λ k l. omega (arith, div-add-mod' (hyper_of s) (period_at s (channel_at s k)), (r.channel k l).values.divided);
        hops_at_least = λ k l. rw length-route (r.channel k l).values.hops_at_least;
        hops_at_most = λ k l. rw length-route (r.channel k l).values.hops_at_most;
        climbs = λ k l. (r.channel k l).climbs;
      }

  pub granted-sound : reading s ≡ granted [] → Sound (view_of s)
  granted-sound e = passes-sound (reading-passes s e).fields

-- ---- where the fields of a table that passes end

module _ (s : List ℕ) (r : FieldsPass s) where
  pub wires-inside : (w : ℕ) → w ≤ wires_of s → wire_at w ≤ 8 * length s
  unfolding wire_at
  wires-inside zero l = r.head.inside
  wires-inside (suc w) l = omega (arith, (r.wire w l).inside)

  pub channels-inside : (c : ℕ) → c ≤ channels_of s → channel_at s c ≤ 8 * length s
  unfolding channel_at
  channels-inside zero l = wires-inside (wires_of s) (omega arith)
  channels-inside (suc c) l = (r.channel c l).route_inside

  pub end-inside : end_of s ≤ 8 * length s
  unfolding end_of
  end-inside = channels-inside (channels_of s) (omega arith)

pub length-told : (s : List ℕ) → Passes s → length s ≡ up (end_of s) 8
length-told s p = omega (arith, end-inside s p.fields, p.filling.no_more)
