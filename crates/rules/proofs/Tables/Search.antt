-- The searches of reading, as code goes through them: what is left of a search from where it stands, and the refusal that
-- ends it.
use mathlib.Core.Path.{◌≡◌, refl, ap, ◌∙◌}
use mathlib.Core.Logic.{◌⊎◌, inl}
use mathlib.Core.List.{List}
use Prim.Native.Nat.{ℕ, zero, suc, ◌+◌, ◌-◌, ◌*◌, ◌%◌, ◌≤◌, ◌<◌}
use native.Mathlib.Numerals.{add-one}
use native.Mathlib.Omega.{arith}
use lib.ListN.{length, get_or}
use lib.Dec.{leb, ltb}
use borrow.Author.Tests.{lt-leb, le-ltb}
use Rattle.std.proofs.lemmas.Bool.Decides.{nat_tests}
use Rattle.std.proofs.lemmas.Grind.{common_steps}
use Rattle.bits.specs.Field.{field}
use Rattle.bits.proofs.Laws.{field_lt}
use Rattle.rules.specs.Words.{between, up}
use Rattle.rules.specs.Numbers.{rates, hyper_most, wires_most, channels_most, payload_most, framing_bits}
use Rattle.rules.specs.Numbers.{payload_bits, hops_most, head_bits, wire_bits, fixed_bits, hop_bits}
use Rattle.rules.specs.Replies.{Reply, test, each}
use Rattle.rules.specs.Table.{hyper_of, wires_of, channels_of, wire_at, code_of, channel_at}
use Rattle.rules.specs.Table.{payload_at, period_at, hops_at, route_at, end_of, filling_of}
use Rattle.rules.specs.Channel.{divides, value_tests, hop_tests, route_tests}
use Rattle.rules.specs.Reading.{head_tests, wire_tests, record_tests, channel_tests, filling_tests}
use Rattle.rules.proofs.Tests.{Through, Stops, gate_through, le-gate, lt-gate, between-gate}
use Rattle.rules.proofs.Tables.Laws.{rates-range, divides-gate, value_gate, filling_gate}

-- ---- one test

-- x is not in the range
abbrev pub Outside : ℕ → ℕ → ℕ → Type 0
Outside low x high = (x < low) ⊎ (high < x)

module _ (n p : ℕ) where
  pub le-stops : (a b : ℕ) → b < a → Stops (test (leb a b) n p) n p
  unfolding test
  le-stops a b l rest = rw (lt-leb a b l)

  pub lt-stops : (a b : ℕ) → b ≤ a → Stops (test (ltb a b) n p) n p
  unfolding test
  lt-stops a b l rest = rw (le-ltb a b l)

  pub between-stops : (low x high : ℕ) → Outside low x high → Stops (test (between low x high) n p) n p
  unfolding test
  between-stops low x high o rest = grind (arith, nat_tests)

  pub divides-stops : (a b : ℕ) → (a ≡ 0) ⊎ (b % a ≡ 0 → ⊥) → Stops (test (divides a b) n p) n p
  unfolding test
  divides-stops a b o rest = grind (arith, nat_tests)

-- ---- a search over items

-- the search over m items from the start is the search from item i
abbrev pub FromHere : (ℕ → Reply → Reply) → ℕ → ℕ → Type 0
FromHere f m i = (rest : Reply) → each f 0 m rest ≡ each f i (m - i) rest

module _ (f : ℕ → Reply → Reply) where
  pub each-here : (m i : ℕ) → i < m → (rest : Reply) → each f i (m - i) rest ≡ f i (each f (i + 1) (m - (i + 1)) rest)
  unfolding each
  each-here m i l rest =
      let e : m - i ≡ suc (m - (i + 1)) = omega arith in
      rw (e, add-one)

  pub from_start : (m : ℕ) → FromHere f m 0
  from_start m rest = ap (λ (k : ℕ). each f 0 k rest) (omega arith)

  pub from_next : (m i : ℕ) → i < m → FromHere f m i → Through (f i) → FromHere f m (i + 1)
  from_next m i l h t rest = h rest ∙ each-here m i l rest ∙ t _

  pub from-stop : (m i : ℕ) → i < m → FromHere f m i → {n p : ℕ} → Stops (f i) n p → Stops (each f 0 m) n p
  from-stop m i l h t rest = h rest ∙ each-here m i l rest ∙ t _

  pub from_end : (m i : ℕ) → m ≤ i → FromHere f m i → Through (each f 0 m)
  unfolding each
  from_end m i l h rest =
      let e : m - i ≡ 0 = omega arith in
      h rest ∙ rw e

-- ---- a search over hops

module _ (s : List ℕ) (n c at h : ℕ) where
  -- the search over a route of h hops from its start is the search from hop i
  abbrev pub HopsHere : ℕ → ℕ → Type 0
  HopsHere i least =
      (rest : Reply) → hop_tests n c 0 (route_at s at h) rest ≡ hop_tests n c least (route_at s (at + hop_bits * i) (h - i)) rest

  pub hops-start : HopsHere 0 0
  hops-start rest =
      let e : at + hop_bits * 0 ≡ at = omega arith in
      let q : h - 0 ≡ h = omega arith in
      rw (e, q)

  module _ (i least : ℕ) (l : i < h) (here : HopsHere i least) where
    hops-here : (rest : Reply) → hop_tests n c 0 (route_at s at h) rest
        ≡ test (ltb (field s (at + hop_bits * i) hop_bits) n) 9 c
        (test (leb least (field s (at + hop_bits * i) hop_bits)) 10 c
        (hop_tests n c (suc (field s (at + hop_bits * i) hop_bits)) (route_at s (at + hop_bits * i + hop_bits) (h - (i + 1))) rest))
    unfolding hop_tests route_at
    hops-here rest =
        let e : h - i ≡ suc (h - (i + 1)) = omega arith in
        here rest ∙ rw e

    module _ (x : ℕ) (e : x ≡ field s (at + hop_bits * i) hop_bits) where
      pub hops-9 : n ≤ x → Stops (hop_tests n c 0 (route_at s at h)) 9 c
      hops-9 m rest = hops-here rest ∙ lt-stops 9 c _ n (omega arith) _

      pub hops-10 : x < n → x < least → Stops (hop_tests n c 0 (route_at s at h)) 10 c
      hops-10 m o rest = hops-here rest ∙ gate_through (lt-gate 9 c _ n) (omega arith) _ ∙ le-stops 10 c least _ (omega arith) _

      pub hops-next : x < n → least ≤ x → HopsHere (i + 1) (x + 1)
      hops-next m o rest =
          let q : at + hop_bits * i + hop_bits ≡ at + hop_bits * (i + 1) = omega arith in
          let y : suc (field s (at + hop_bits * i) hop_bits) ≡ x + 1 = omega arith in
          hops-here rest
          ∙ gate_through (lt-gate 9 c _ n) (omega arith) _
          ∙ gate_through (le-gate 10 c least _) (omega arith) _
          ∙ rw (q, y)

  pub hops-end : (i least : ℕ) → h ≤ i → HopsHere i least → Through (hop_tests n c 0 (route_at s at h))
  unfolding hop_tests route_at
  hops-end i least l here rest =
      let e : h - i ≡ 0 = omega arith in
      here rest ∙ rw e

-- hop i of a route
pub get_or-route : (s : List ℕ) (at left i : ℕ) → i < left → get_or (route_at s at left) i 0 ≡ field s (at + hop_bits * i) hop_bits
unfolding route_at
get_or-route s at zero i l = absurd (omega arith)
get_or-route s at (suc left) zero l = ap (λ (k : ℕ). field s k hop_bits) (omega arith)
get_or-route s at (suc left) (suc i) l =
    get_or-route s (at + hop_bits) left i (omega arith) ∙ ap (λ (k : ℕ). field s k hop_bits) (omega arith)

-- ---- the refusals, by number

module _ (s : List ℕ) where
  pub head_1 : 8 * length s < head_bits → Stops (head_tests s) 1 0
  unfolding head_tests
  head_1 l rest = le-stops 1 0 _ _ l _

  module _ (inside : head_bits ≤ 8 * length s) where
    pub head_2 : Outside 1 (hyper_of s) hyper_most → Stops (head_tests s) 2 0
    unfolding head_tests
    head_2 o rest = gate_through (le-gate 1 0 _ _) inside _ ∙ between-stops 2 0 _ _ _ o _

    module _ (hyper : (1 ≤ hyper_of s) × (hyper_of s ≤ hyper_most)) where
      pub head_3 : Outside 1 (wires_of s) wires_most → Stops (head_tests s) 3 0
      unfolding head_tests
      head_3 o rest =
          gate_through (le-gate 1 0 _ _) inside _
          ∙ gate_through (between-gate 2 0 _ _ _) hyper _
          ∙ between-stops 3 0 _ _ _ o _

      module _ (wires : (1 ≤ wires_of s) × (wires_of s ≤ wires_most)) where
        pub head_4 : Outside 1 (channels_of s) channels_most → Stops (head_tests s) 4 0
        unfolding head_tests
        head_4 o rest =
            gate_through (le-gate 1 0 _ _) inside _
            ∙ gate_through (between-gate 2 0 _ _ _) hyper _
            ∙ gate_through (between-gate 3 0 _ _ _) wires _
            ∙ between-stops 4 0 _ _ _ o _

        pub head_passes : (1 ≤ channels_of s) × (channels_of s ≤ channels_most) → Through (head_tests s)
        unfolding head_tests
        head_passes channels rest =
            gate_through (le-gate 1 0 _ _) inside _
            ∙ gate_through (between-gate 2 0 _ _ _) hyper _
            ∙ gate_through (between-gate 3 0 _ _ _) wires _
            ∙ gate_through (between-gate 4 0 _ _ _) channels _

module _ (s : List ℕ) (w : ℕ) where
  pub wire-1 : 8 * length s < wire_at w + wire_bits → Stops (wire_tests s w) 1 0
  unfolding wire_tests
  wire-1 l rest = le-stops 1 0 _ _ l _

  pub wire-5 : wire_at w + wire_bits ≤ 8 * length s → length rates ≤ code_of s w → Stops (wire_tests s w) 5 w
  unfolding wire_tests
  wire-5 inside l rest = gate_through (le-gate 1 0 _ _) inside _ ∙ lt-stops 5 w _ _ l _

  pub wire-passes : wire_at w + wire_bits ≤ 8 * length s → code_of s w < length rates → Through (wire_tests s w)
  unfolding wire_tests
  wire-passes inside l rest = gate_through (le-gate 1 0 _ _) inside _ ∙ gate_through (lt-gate 5 w _ _) l _

-- ---- the tests of a channel's values

module _ (c hyper payload period hops : ℕ) where
  pub values_6 : payload ≤ 0 → Stops (value_tests c hyper payload period hops) 6 c
  unfolding value_tests
  values_6 l rest = between-stops 6 c 1 payload payload_most (inl (omega arith)) _

  module _ (fine : (1 ≤ payload) × (payload ≤ payload_most)) where
    pub values_7 : (period ≡ 0) ⊎ (hyper % period ≡ 0 → ⊥) → Stops (value_tests c hyper payload period hops) 7 c
    unfolding value_tests
    values_7 o rest = gate_through (between-gate 6 c 1 payload payload_most) fine _ ∙ divides-stops 7 c period hyper o _

    pub values_8 : (0 < period) × (hyper % period ≡ 0) → Outside 1 hops hops_most
        → Stops (value_tests c hyper payload period hops) 8 c
    unfolding value_tests
    values_8 divided o rest =
        gate_through (between-gate 6 c 1 payload payload_most) fine _
        ∙ gate_through (divides-gate 7 c period hyper) divided _
        ∙ between-stops 8 c 1 hops hops_most o _

-- ---- the tests of a record

pub payload-small : (s : List ℕ) (at : ℕ) → payload_at s at ≤ payload_most
unfolding payload_at
payload-small s at = omega (arith, field_lt s (at + framing_bits) payload_bits)

module _ (s : List ℕ) (c at : ℕ) where
  pub record_1 : 8 * length s < at + fixed_bits → Stops (record_tests s c at) 1 0
  unfolding record_tests
  record_1 l rest = le-stops 1 0 _ _ l _

  module _ (inside : at + fixed_bits ≤ 8 * length s) where
    -- what the values are refused for, the record is
    record_stops : {n p : ℕ} → Stops (value_tests c (hyper_of s) (payload_at s at) (period_at s at) (hops_at s at)) n p
        → Stops (record_tests s c at) n p
    unfolding record_tests
    record_stops h rest = gate_through (le-gate 1 0 _ _) inside _ ∙ h _

    pub record_6 : payload_at s at ≤ 0 → Stops (record_tests s c at) 6 c
    record_6 l = record_stops (values_6 c _ _ _ _ l)

    module _ (payload : 1 ≤ payload_at s at) where
      pub record_7 : (period_at s at ≡ 0) ⊎ (hyper_of s % period_at s at ≡ 0 → ⊥) → Stops (record_tests s c at) 7 c
      record_7 o = record_stops (values_7 c _ _ _ _ (payload, payload-small s at) o)

      module _ (period : (0 < period_at s at) × (hyper_of s % period_at s at ≡ 0)) where
        pub record_8 : Outside 1 (hops_at s at) hops_most → Stops (record_tests s c at) 8 c
        record_8 o = record_stops (values_8 c _ _ _ _ (payload, payload-small s at) period o)

        module _ (hops : (1 ≤ hops_at s at) × (hops_at s at ≤ hops_most)) where
          values : Through (value_tests c (hyper_of s) (payload_at s at) (period_at s at) (hops_at s at))
          values =
              gate_through (value_gate c _ _ _ _)
              (record {
                payload_at_least = payload;
                payload_at_most = payload-small s at;
                period_at_least = period.0;
                divided = period.1;
                hops_at_least = hops.0;
                hops_at_most = hops.1;
              })

          pub record-route : 8 * length s < at + fixed_bits + hop_bits * hops_at s at → Stops (record_tests s c at) 1 0
          unfolding record_tests
          record-route l rest = gate_through (le-gate 1 0 _ _) inside _ ∙ values _ ∙ le-stops 1 0 _ _ l _

          pub record-hops : at + fixed_bits + hop_bits * hops_at s at ≤ 8 * length s
              → (rest : Reply)
              → record_tests s c at rest ≡ route_tests (wires_of s) c (route_at s (at + fixed_bits) (hops_at s at)) rest
          unfolding record_tests
          record-hops route rest = gate_through (le-gate 1 0 _ _) inside _ ∙ values _ ∙ gate_through (le-gate 1 0 _ _) route _

module _ (s : List ℕ) where
  pub channel-record : (c : ℕ) (rest : Reply) → channel_tests s c rest ≡ record_tests s c (channel_at s c) rest
  unfolding channel_tests
  channel-record c rest = refl

  -- the filling is the field of the bits that are left
  pub filling_is : (end w : ℕ) {x : ℕ} → x ≡ field s end w → end ≡ end_of s → end + w ≡ 8 * length s → x ≡ filling_of s (end_of s)
  unfolding filling_of
  filling_is end w e q l =
      let f : w ≡ 8 * length s - end = omega arith in
      e ∙ ap (λ (k : ℕ). field s end k) f ∙ ap (λ (k : ℕ). field s k (8 * length s - k)) q

  pub filling_long : up (end_of s) 8 < length s → Stops (filling_tests s) 11 0
  unfolding filling_tests test
  filling_long l rest = grind (arith, nat_tests)

  pub filling_not_0 : (filling_of s (end_of s) ≡ 0 → ⊥) → Stops (filling_tests s) 11 0
  unfolding filling_tests test
  filling_not_0 o rest = grind (arith, nat_tests)

  pub filling_passes : length s ≤ up (end_of s) 8 → filling_of s (end_of s) ≡ 0 → Through (filling_tests s)
  filling_passes l e = gate_through (filling_gate s) (record { no_more = l; zeros = e })

-- a code has a rate where the rate is not 0
pub no-rate : (code : ℕ) → get_or rates code 0 ≡ 0 → length rates ≤ code
no-rate code e = grind (arith, rates-range code)

pub some-rate : (code : ℕ) → (get_or rates code 0 ≡ 0 → ⊥) → code < length rates
some-rate code o = grind (arith, common_steps)
