-- A table cut short, or with more behind it, never passes for another.
use mathlib.Core.Path.{◌≡◌, refl, sym, ap, ap₂, subst, ◌∙◌}
use mathlib.Core.Bool.{Bool}
use mathlib.Core.List.{List, [], ◌∷◌, ◌++◌}
use Prim.Native.Nat.{ℕ, zero, suc, ◌+◌, ◌-◌, ◌*◌, ◌/◌, ◌≤◌, ◌<◌}
use native.Mathlib.Nat.{add-zero}
use native.Mathlib.Omega.{arith}
use native.Mathlib.Decide.{dec_le, dec_lt}
use lib.ListN.{length, get_or, take, length-append}
use lib.Seq.{length-take-le, take-append_seam, take-length}
use lib.Dec.{ltb}
use Rattle.std.proofs.lemmas.Bool.Decides.{nat_tests}
use Rattle.bits.specs.Field.{bit, field, within, Bytes}
use Rattle.bits.proofs.Laws.{field-take, field-bits, bits-eq}
use Rattle.rules.specs.Words.{up, between}
use Rattle.rules.specs.Numbers.{rates, hyper_bits, hyper_most, wires_bits, wires_most, channels_bits, channels_most}
use Rattle.rules.specs.Numbers.{head_bits, rate_bits, prop_bits, room_bits, wire_bits, framing_bits, payload_bits}
use Rattle.rules.specs.Numbers.{period_bits, deadline_bits, hops_bits, hops_most, fixed_bits, hop_bits, table_longest}
use Rattle.rules.specs.Replies.{Reply, granted, test, each}
use Rattle.rules.specs.Table.{view_of, hyper_of, wires_of, channels_of, wire_at, code_of, rate_of, prop_of, room_of}
use Rattle.rules.specs.Table.{channel_at, framing_at, payload_at, period_at, deadline_at, hops_at, route_at, end_of, filling_of}
use Rattle.rules.specs.Channel.{value_tests, hop_tests}
use Rattle.rules.specs.Reading.{head_tests, wire_tests, record_tests, channel_tests, filling_tests, reading_tests, reading}
use Rattle.rules.specs.Judgement.{judge}
use Rattle.rules.specs.Incident.{PrefixesRefused, ExtensionsRefused, LongerAlike, SameView, OneString}
use Rattle.rules.proofs.Tests.{Through, Stops, Gate, through, stops, gate_through, lt-gate, between-gate}
use Rattle.rules.proofs.Tables.Laws.{HeadPasses, Passes, value_gate, hop_gate, fields_tests}
use Rattle.rules.proofs.Tables.Laws.{fields_gate, reading-passes, length-route, end-inside, length-told}

-- ---- two chains of tests side by side

-- Both pass, and then P; or both give the same refusal; or the second lacks a field, and then Q.
data Alike (P Q : Type 0) (f g : Reply → Reply) : Type 0 where
  pass : P → Through f → Through g → Alike P Q f g
  same : (n p : ℕ) → Stops f n p → Stops g n p → Alike P Q f g
  lack : Q → Stops g 1 0 → Alike P Q f g

module _ {P Q : Type 0} where
  alike-map : {P' : Type 0} {f g : Reply → Reply} → (P → P') → Alike P Q f g → Alike P' Q f g
  alike-map a (pass x e e') = pass (a x) e e'
  alike-map a (same n p e e') = same n p e e'
  alike-map a (lack q e') = lack q e'

  alike_then : {R : Type 0} {f g f' g' : Reply → Reply} → Alike P Q f g → (P → Alike R Q f' g')
      → Alike R Q (λ rest. f (f' rest)) (λ rest. g (g' rest))
  alike_then (same n p e e') y = same n p (λ rest. e _) (λ rest. e' _)
  alike_then (lack q e') y = lack q (λ rest. e' _)
  alike_then (pass x e e') y = elim (y x) [
    | pass r d d' ↦ pass r (λ rest. e _ ∙ d rest) (λ rest. e' _ ∙ d' rest)
    | same n p d d' ↦ same n p (λ rest. e _ ∙ d rest) (λ rest. e' _ ∙ d' rest)
    | lack q d' ↦ lack q (λ rest. e' _ ∙ d' rest)
  ]

  gate_alike : {f g : Reply → Reply} → Gate P f → ((rest : Reply) → g rest ≡ f rest) → Alike P Q f g
  gate_alike (through x e) q = pass x e (λ rest. q rest ∙ e rest)
  gate_alike (stops o n p e) q = same n p e (λ rest. q rest ∙ e rest)

  test-alike : (n p : ℕ) {b b' : Bool} → Gate P (test b n p) → b' ≡ b → Alike P Q (test b n p) (test b' n p)
  test-alike n p g e = gate_alike g (λ rest. ap (λ (x : Bool). test x n p rest) e)

-- I i holds where the items below i have passed
each-alike : {Q : Type 0} (I : ℕ → Type 0) (f g : ℕ → Reply → Reply) (end : ℕ)
    → ((i : ℕ) → i < end → I i → Alike (I (suc i)) Q (f i) (g i))
    → (a left : ℕ) → a + left ≡ end → I a → Alike (I end) Q (each f a left) (each g a left)
unfolding each
each-alike I f g end step a zero e x = pass (subst I (sym (add-zero a) ∙ e) x) (λ rest. refl) (λ rest. refl)
each-alike I f g end step a (suc left) e x =
    alike_then (step a (omega arith) x) (λ y. each-alike I f g end step (suc a) left (omega arith) y)

-- ---- a string and its first k bytes

-- where the last field of the longest table ends
abbrev pub longest_end : ℕ
longest_end = head_bits + wire_bits * wires_most + (fixed_bits + hop_bits * hops_most) * channels_most

-- where the channels' records below c have passed, in both
record Reached (s t : List ℕ) (k c : ℕ) : Type 0 where
  alike : channel_at t c ≡ channel_at s c
  inside : channel_at s c ≤ 8 * k
  most : channel_at s c ≤ head_bits + wire_bits * wires_most + (fixed_bits + hop_bits * hops_most) * c

module _ (s : List ℕ) (k : ℕ) (le : k ≤ length s) where
  within-alike : (at w w' : ℕ) → w' ≡ w → at + w ≤ longest_end
      → Alike (at + w ≤ 8 * k) (8 * k < longest_end) (test (within s at w) 1 0) (test (within (take k s) at w') 1 0)
  unfolding test
  within-alike at w w' e h = elim (dec_le (at + w) (8 * k)) [
    | yes l ↦ pass l
        (λ rest. grind (arith, nat_tests))
        (λ rest. grind (arith, nat_tests, length-take-le k s le))
    | no o ↦ lack (omega arith) (λ rest. grind (arith, nat_tests, length-take-le k s le))
  ]

  head_fields : head_bits ≤ 8 * k
      → (hyper_of (take k s) ≡ hyper_of s) × (wires_of (take k s) ≡ wires_of s) × (channels_of (take k s) ≡ channels_of s)
  unfolding hyper_of wires_of channels_of
  head_fields l =
      (field-take s k _ _ (omega arith), field-take s k _ _ (omega arith), field-take s k _ _ (omega arith))

  route-fields : (at left : ℕ) → at + hop_bits * left ≤ 8 * k → route_at (take k s) at left ≡ route_at s at left
  unfolding route_at
  route-fields at zero l = refl
  route-fields at (suc left) l =
      ap₂ (λ (x : ℕ) (xs : List ℕ). x ∷ xs) (field-take s k at hop_bits (omega arith))
      (route-fields (at + hop_bits) left (omega arith))

  fixed_fields : (at : ℕ) → at + fixed_bits ≤ 8 * k
      → (payload_at (take k s) at ≡ payload_at s at) × (period_at (take k s) at ≡ period_at s at)
      × (hops_at (take k s) at ≡ hops_at s at)
  unfolding payload_at period_at hops_at
  fixed_fields at l =
      (field-take s k _ _ (omega arith), field-take s k _ _ (omega arith), field-take s k _ _ (omega arith))

  code-field : (w : ℕ) → wire_at w + wire_bits ≤ 8 * k → code_of (take k s) w ≡ code_of s w
  unfolding code_of
  code-field w l = field-take s k (wire_at w) rate_bits (omega arith)

  head_alike : Alike (HeadPasses s × (head_bits ≤ 8 * k)) (8 * k < longest_end) (head_tests s) (head_tests (take k s))
  unfolding head_tests
  head_alike =
      alike_then (within-alike 0 head_bits head_bits refl (omega arith)) (λ l.
      let same = head_fields l in
      alike_then
      (test-alike 2 0 (between-gate 2 0 1 (hyper_of s) hyper_most) (ap (λ (x : ℕ). between 1 x hyper_most) same.0)) (λ h.
      alike_then
      (test-alike 3 0 (between-gate 3 0 1 (wires_of s) wires_most) (ap (λ (x : ℕ). between 1 x wires_most) same.1)) (λ n.
      alike-map
      (λ m. (
        record {
          inside = omega arith;
          hyper_at_least = h.0;
          hyper_at_most = h.1;
          wires_at_least = n.0;
          wires_at_most = n.1;
          channels_at_least = m.0;
          channels_at_most = m.1;
        },
        l,
      ))
      (test-alike 4 0 (between-gate 4 0 1 (channels_of s) channels_most) (ap (λ (x : ℕ). between 1 x channels_most) same.2)))))

  wire-alike : (w : ℕ) → w < wires_most
      → Alike (wire_at w + wire_bits ≤ 8 * k) (8 * k < longest_end) (wire_tests s w) (wire_tests (take k s) w)
  unfolding wire_at wire_tests
  wire-alike w h =
      alike_then (within-alike (wire_at w) wire_bits wire_bits refl (omega arith)) (λ l.
      alike-map (λ x. l)
      (test-alike 5 w (lt-gate 5 w (code_of s w) (length rates)) (ap (λ (x : ℕ). ltb x (length rates)) (code-field w l))))

  record_alike : head_bits ≤ 8 * k → (c at : ℕ) → at + (fixed_bits + hop_bits * hops_most) ≤ longest_end
      → Alike
      ((hops_at (take k s) at ≡ hops_at s at) × (hops_at s at ≤ hops_most) × (at + fixed_bits + hop_bits * hops_at s at ≤ 8 * k))
      (8 * k < longest_end) (record_tests s c at) (record_tests (take k s) c at)
  unfolding record_tests
  record_alike i c at b =
      let head = head_fields i in
      alike_then (within-alike at fixed_bits fixed_bits refl (omega arith)) (λ l.
      let same = fixed_fields at l in
      alike_then
      (gate_alike
      {g = value_tests c (hyper_of (take k s)) (payload_at (take k s) at) (period_at (take k s) at) (hops_at (take k s) at)}
      (value_gate c (hyper_of s) (payload_at s at) (period_at s at) (hops_at s at))
      (λ rest. rw (head.0, same.0, same.1, same.2))) (λ h.
      alike_then
      (within-alike (at + fixed_bits) (hop_bits * hops_at s at) (hop_bits * hops_at (take k s) at)
      (ap (λ (x : ℕ). hop_bits * x) same.2) (omega arith))
      (λ m.
      alike-map (λ _. (same.2, h.hops_at_most, m))
      (gate_alike
      {g = hop_tests (wires_of (take k s)) c 0 (route_at (take k s) (at + fixed_bits) (hops_at (take k s) at))}
      (hop_gate (wires_of s) c 0 (route_at s (at + fixed_bits) (hops_at s at)))
      (λ rest. rw (head.1, same.2, route-fields (at + fixed_bits) (hops_at s at) m))))))

  channel-alike : head_bits ≤ 8 * k → (c : ℕ) → c < channels_most → Reached s (take k s) k c
      → Alike (Reached s (take k s) k (suc c)) (8 * k < longest_end) (channel_tests s c) (channel_tests (take k s) c)
  unfolding channel_at channel_tests
  channel-alike i c less r =
      subst
      (λ (at : ℕ). Alike (Reached s (take k s) k (suc c)) (8 * k < longest_end) (record_tests s c (channel_at s c))
      (record_tests (take k s) c at))
      (sym r.alike)
      (alike-map
      (λ x. record {
        alike = rw (r.alike, x.0);
        inside = x.2;
        most = omega (arith, r.most, x.1);
      })
      (record_alike i c (channel_at s c) (omega (arith, r.most))))

  -- where both pass, their last fields end at the same bit, within the k bytes
  fields_alike : Alike ((end_of (take k s) ≡ end_of s) × (end_of s ≤ 8 * k) × (end_of s ≤ longest_end)) (8 * k < longest_end)
      (fields_tests s) (fields_tests (take k s))
  unfolding wire_at channel_at end_of
  fields_alike =
      alike_then head_alike (λ h.
      let head = head_fields h.1 in
      rw (head.1, head.2)
      (alike_then
      (each-alike (λ w. wire_at w ≤ 8 * k) (wire_tests s) (wire_tests (take k s)) (wires_of s)
      (λ w l x. alike-map (λ m. omega arith) (wire-alike w (omega (arith, h.0.wires_at_most))))
      0 (wires_of s) (omega arith) (omega arith))
      (λ x.
      alike-map
      (λ r. (r.alike, r.inside, omega (arith, r.most, h.0.channels_at_most)))
      (each-alike (Reached s (take k s) k) (channel_tests s) (channel_tests (take k s)) (channels_of s)
      (λ c l r. channel-alike h.1 c (omega (arith, h.0.channels_at_most)) r)
      0 (channels_of s) (omega arith)
      (record { alike = rw head.1; inside = x; most = omega (arith, h.0.wires_at_most) })))))

-- ---- the laws

not_both : {f : Reply → Reply} {n p : ℕ} → Through f → Stops f n p → ⊥
not_both a b = cc (a (granted []), b (granted []))

more-stops : (s : List ℕ) → end_of s ≤ 8 * (length s - 1) → 1 ≤ length s → Stops (filling_tests s) 11 0
unfolding test filling_tests
more-stops s l h rest = grind (arith, nat_tests)

fields_through : (s : List ℕ) → reading s ≡ granted [] → Through (fields_tests s)
fields_through s e = gate_through (fields_gate s) (reading-passes s e).fields

pub prefix-refused : PrefixesRefused
unfolding reading reading_tests
prefix-refused s e k l =
    elim (fields_alike s k (omega arith)) [
      | pass x a b ↦ absurd (omega (arith, x.1, (reading-passes s e).filling.no_more))
      | same n p a b ↦ absurd (not_both (fields_through s e) a)
      | lack q b ↦ b _
    ]

pub extension-refused : ExtensionsRefused
unfolding reading reading_tests
extension-refused s t e l =
    let n : length (s ++ t) ≡ length s + length t = length-append s t in
    let whole : Through (fields_tests (take (length s) (s ++ t))) = rw (take-append_seam s t) (fields_through s e) in
    elim (fields_alike (s ++ t) (length s) (omega arith)) [
      | pass x a b ↦ a _ ∙ more-stops (s ++ t) (omega (arith, x.1)) (omega arith) _
      | same n p a b ↦ absurd (not_both whole b)
      | lack q b ↦ absurd (not_both whole b)
    ]

pub longest : (s : List ℕ) → reading s ≡ granted [] → length s ≤ table_longest
longest s e =
    elim (fields_alike s (length s) (omega arith)) [
      | pass x a b ↦ omega (arith, x.2, (reading-passes s e).filling.no_more)
      | same n p a b ↦ absurd (not_both (fields_through s e) a)
      | lack q b ↦ absurd (not_both (fields_through s e) (rw take-length at b))
    ]

-- and that long is one of most wires, channels and hops
pub longest_reached : up longest_end 8 ≡ table_longest
longest_reached = refl

-- A string longer than the longest table is refused as its first 2,166 bytes are, whatever would follow.
pub longer-reading : (s : List ℕ) → suc table_longest ≤ length s
    → (rest rest' : Reply) → reading_tests s rest ≡ reading_tests (take (suc table_longest) s) rest'
unfolding reading_tests
longer-reading s l rest rest' =
    let n : length (take (suc table_longest) s) ≡ suc table_longest = length-take-le (suc table_longest) s l in
    elim (fields_alike s (suc table_longest) l) [
      | pass x a b ↦
          a _ ∙ more-stops s (omega (arith, x.2)) (omega arith) _
          ∙ sym (b _ ∙ more-stops (take (suc table_longest) s) (omega (arith, x.0, x.2)) (omega arith) _)
      | same n p a b ↦ a _ ∙ sym (b _)
      | lack q b ↦ absurd (omega arith)
    ]

pub longer_alike : LongerAlike
unfolding judge
longer_alike s l lent = longer-reading s l _ _

-- ---- no two tables have the same view

-- the code that a rate has
rate-code : (c : ℕ) → c < length rates → get_or rates c 0 / 10 - 8 * (get_or rates c 0 / 100) ≡ c
rate-code zero l = refl
rate-code (suc zero) l = refl
rate-code (suc (suc zero)) l = refl
rate-code (suc (suc (suc c))) l = absurd (omega arith)

abbrev Agree : List ℕ → List ℕ → ℕ → Type 0
Agree s t end = (i : ℕ) → i < end → bit s i ≡ bit t i

-- the record of one that starts at bit `at`, and that of the other
abbrev SameRecord : List ℕ → List ℕ → ℕ → ℕ → Type 0
SameRecord s t at at' =
    (framing_at s at ≡ framing_at t at')
    × (payload_at s at ≡ payload_at t at')
    × (period_at s at ≡ period_at t at')
    × (deadline_at s at ≡ deadline_at t at')
    × (route_at s (at + fixed_bits) (hops_at s at) ≡ route_at t (at' + fixed_bits) (hops_at t at'))

module _ (s t : List ℕ) where
  agree-field : (at w : ℕ) → Agree s t at → field s at w ≡ field t at w → Agree s t (at + w)
  agree-field at w a e i l = elim (dec_lt i at) [ yes m ↦ a i m | no o ↦ field-bits s t at w e i (omega arith) l ]

  agree_head : hyper_of s ≡ hyper_of t → wires_of s ≡ wires_of t → channels_of s ≡ channels_of t → Agree s t (wire_at 0)
  unfolding hyper_of wires_of channels_of wire_at
  agree_head h n m =
      agree-field (hyper_bits + wires_bits) channels_bits
      (agree-field hyper_bits wires_bits (agree-field 0 hyper_bits (λ i l. absurd (omega arith)) h) n) m

  same_code : (w : ℕ) → code_of s w < length rates → code_of t w < length rates → rate_of s w ≡ rate_of t w → code_of s w ≡ code_of t w
  unfolding rate_of
  same_code w l m e =
      sym (rate-code (code_of s w) l) ∙ ap (λ (r : ℕ). r / 10 - 8 * (r / 100)) e ∙ rate-code (code_of t w) m

  agree-wire : (w : ℕ) → code_of s w ≡ code_of t w → prop_of s w ≡ prop_of t w → room_of s w ≡ room_of t w
      → Agree s t (wire_at w) → Agree s t (wire_at (suc w))
  unfolding code_of prop_of room_of wire_at
  agree-wire w c p r a i l =
      agree-field (wire_at w + rate_bits + prop_bits) room_bits
      (agree-field (wire_at w + rate_bits) prop_bits (agree-field (wire_at w) rate_bits a c) p) r i (omega arith)

  agree-route : (at left : ℕ) → route_at s at left ≡ route_at t at left → Agree s t at → Agree s t (at + hop_bits * left)
  unfolding route_at
  agree-route at zero e a i l = a i (omega arith)
  agree-route at (suc left) e a i l =
      let x : field s at hop_bits ≡ field t at hop_bits = cc in
      let xs : route_at s (at + hop_bits) left ≡ route_at t (at + hop_bits) left = cc in
      agree-route (at + hop_bits) left xs (agree-field at hop_bits a x) i (omega arith)

  agree_record : (at : ℕ) → SameRecord s t at at → Agree s t at
      → (hops_at s at ≡ hops_at t at) × Agree s t (at + fixed_bits + hop_bits * hops_at s at)
  unfolding framing_at payload_at period_at deadline_at hops_at
  agree_record at e a =
      let h : hops_at s at ≡ hops_at t at
      = sym (length-route s (at + fixed_bits) (hops_at s at)) ∙ ap length e.4 ∙ length-route t (at + fixed_bits) (hops_at t at) in
      let one = agree-field at framing_bits a e.0 in
      let two = agree-field (at + framing_bits) payload_bits one e.1 in
      let three = agree-field (at + framing_bits + payload_bits) period_bits two e.2 in
      let four = agree-field (at + framing_bits + payload_bits + period_bits) deadline_bits three e.3 in
      let five = agree-field (at + framing_bits + payload_bits + period_bits + deadline_bits) hops_bits four h in (
        h,
        agree-route (at + fixed_bits) (hops_at s at) (e.4 ∙ ap (λ (n : ℕ). route_at t (at + fixed_bits) n) (sym h))
            (λ i l. five i (omega arith)),
      )

  module _ (p : Passes s) (q : Passes t) (e : SameView (view_of s) (view_of t)) where
    agree-wires : (w : ℕ) → w ≤ wires_of s → Agree s t (wire_at w)
    agree-wires zero l = agree_head e.hyper e.wires e.channels
    agree-wires (suc w) l =
        let m : w < wires_of t = rw (← e.wires) l in
        agree-wire w
        (same_code w (p.fields.wire w l).code_lt (q.fields.wire w m).code_lt (e.rate w (omega arith)))
        (e.prop w (omega arith)) (e.room w (omega arith))
        (agree-wires w (omega arith))

    agree-channels : (c : ℕ) → c ≤ channels_of s → (channel_at s c ≡ channel_at t c) × Agree s t (channel_at s c)
    unfolding channel_at
    agree-channels zero l = (ap wire_at e.wires, agree-wires (wires_of s) (omega arith))
    agree-channels (suc c) l =
        let before = agree-channels c (omega arith) in
        let here : SameRecord s t (channel_at s c) (channel_at s c)
        = subst (λ (at : ℕ). SameRecord s t (channel_at s c) at) (sym before.0) (
          e.framing c (omega arith),
          e.payload c (omega arith),
          e.period c (omega arith),
          e.deadline c (omega arith),
          e.route c (omega arith),
        ) in
        let after = agree_record (channel_at s c) here before.1 in (
          ap₂ (λ (at hops : ℕ). at + fixed_bits + hop_bits * hops) before.0
              (after.0 ∙ ap (λ (at : ℕ). hops_at t at) before.0),
          after.1,
        )

    same_string : Bytes s → Bytes t → s ≡ t
    unfolding end_of filling_of
    same_string a b =
        let ended = agree-channels (channels_of s) (omega arith) in
        let ends : end_of s ≡ end_of t = ended.0 ∙ ap (λ (c : ℕ). channel_at t c) e.channels in
        let n : length s ≡ length t = omega (arith, length-told s p, length-told t q) in
        let fill : field s (end_of s) (8 * length s - end_of s) ≡ field t (end_of s) (8 * length s - end_of s)
        = p.filling.zeros ∙ sym (rw (n, ends) q.filling.zeros) in
        bits-eq s t a b n (λ i l.
        agree-field (end_of s) (8 * length s - end_of s) ended.1 fill i (omega (arith, end-inside s p.fields)))

pub one_string : OneString
one_string s t a b p q e = same_string s t (reading-passes s p) (reading-passes t q) e a b
