-- Laws of the sheet: its length, its bytes, and that each field reads back what was written.
use mathlib.Core.Path.{◌≡◌, refl, subst, ◌∙◌}
use mathlib.Core.Logic.{◌⊎◌, inl, inr}
use mathlib.Core.List.{List}
use Prim.Native.Nat.{ℕ, zero, suc, ◌+◌, ◌*◌, ◌^◌, ◌≤◌, ◌<◌}
use native.Mathlib.Nat.{add-zero, add-suc, le_dest}
use native.Mathlib.Omega.{arith}
use lib.ListN.{length, replicate, length-replicate}
use Rattle.std.proofs.lemmas.Grind.{common_steps}
use Rattle.bits.specs.Field.{field, put_field, Bytes}
use Rattle.bits.proofs.Laws.{length-put_field, field-put_field, field-put_field-other, field-zeros, bytes-put_field}
use Rattle.rules.specs.Numbers.{wires_bits, wires_most, channels_bits, channels_most}
use Rattle.rules.specs.Numbers.{backlog_bits, delay_bits, end_bits, sheet_longest}
use Rattle.rules.specs.Table.{filling_of}
use Rattle.rules.specs.Fits.{Fits}
use Rattle.rules.specs.Sheet.{figures_at, end_at, sheet_length, with_head, with_wires}
use Rattle.rules.specs.Sheet.{with_channels, sheet_of, sheet_wires, sheet_channels}

-- ---- writing from one place to another

-- t is s with nothing changed but bits from p to below q
pub record Touched (p q : ℕ) (s t : List ℕ) : Type 0 where
  pub ordered : p ≤ q
  pub same_length : length t ≡ length s
  pub outside : (at w : ℕ) → (at + w ≤ p) ⊎ (q ≤ at) → field t at w ≡ field s at w
  pub stays : Bytes s → Bytes t

untouched : (p : ℕ) (s : List ℕ) → Touched p p s s
untouched p s = record { ordered = omega arith; same_length = refl; outside = λ at w o. refl; stays = λ h. h }

put : (s : List ℕ) (p w v q : ℕ) → q ≡ p + w → Touched p q s (put_field s p w v)
put s p w v q e =
    record {
      ordered = omega arith;
      same_length = length-put_field s p w v;
      outside = λ at w' o. field-put_field-other s p w v at w' (elim o [ inl l ↦ inl l | inr l ↦ inr (omega arith) ]);
      stays = bytes-put_field s p w v;
    }

joined : {p q r : ℕ} {s t u : List ℕ} → Touched p q s t → Touched q r t u → Touched p r s u
joined a b =
    record {
      ordered = omega arith;
      same_length = b.same_length ∙ a.same_length;
      outside = λ at w o. elim o [
        | inl l ↦ b.outside at w (inl (omega arith)) ∙ a.outside at w (inl l)
        | inr l ↦ b.outside at w (inr l) ∙ a.outside at w (inr (omega arith))
      ];
      stays = λ h. b.stays (a.stays h);
    }

-- what was written last at a place is read there
read_back : (s : List ℕ) (at w v p : ℕ) {q : ℕ} {t : List ℕ} → p ≡ at + w → Touched p q (put_field s at w v) t
    → q ≤ 8 * length t → v < 2 ^ w → field t at w ≡ v
read_back s at w v p e o h l =
    o.outside at w (inl (omega arith))
    ∙ field-put_field s at w v (omega (arith, o.same_length, length-put_field s at w v)) l

-- steps that each go on where the one before ended
module _ (start : ℕ → ℕ) (run : ℕ → List ℕ) (step : (j : ℕ) → Touched (start j) (start (suc j)) (run j) (run (suc j))) where
  steps : (i d : ℕ) → Touched (start i) (start (i + d)) (run i) (run (i + d))
  steps i zero = rw add-zero (untouched (start i) (run i))
  steps i (suc d) = rw add-suc (joined (steps i d) (step (i + d)))

  steps_to : (i j : ℕ) → i ≤ j → Touched (start i) (start j) (run i) (run j)
  steps_to i j l = subst (λ (x : ℕ). Touched (start i) (start x) (run i) (run x)) (le_dest l).1 (steps i (le_dest l).0)

-- ---- where the fields stand

pub sheet-longest : (n m : ℕ) → n ≤ wires_most → m ≤ channels_most → sheet_length n m ≤ sheet_longest
unfolding figures_at end_at sheet_length
sheet-longest n m a b = omega arith

pub sheet-longest_reached : sheet_length wires_most channels_most ≡ sheet_longest
unfolding figures_at end_at sheet_length
sheet-longest_reached = refl

pub sheet-shortest : (n m : ℕ) → 2 ≤ sheet_length n m
unfolding figures_at end_at sheet_length
sheet-shortest n m = omega arith

figures-at : (w : ℕ) → figures_at (suc w) ≡ figures_at w + backlog_bits + delay_bits
unfolding figures_at
figures-at w = omega arith

end-at : (n k : ℕ) → end_at n (suc k) ≡ end_at n k + end_bits
unfolding end_at
end-at n k = omega arith

end-first : (n : ℕ) → end_at n 0 ≡ figures_at n
unfolding end_at
end-first n = omega arith

-- what ends by the last field is within the bytes
end-within : (n m : ℕ) → end_at n m ≤ 8 * sheet_length n m
unfolding sheet_length
end-within n m = omega arith

pub bytes-replicate : (n a : ℕ) → a < 256 → Bytes (replicate n a)
bytes-replicate n a h i = grind (arith, common_steps)

-- ---- the parts of the sheet, each from where it starts

module _ (n m : ℕ) (b d e : ℕ → ℕ) where
  abbrev blank : List ℕ
  blank = replicate (sheet_length n m) 0

  abbrev headed : List ℕ
  headed = with_head n m blank

  abbrev wired : ℕ → List ℕ
  wired w = with_wires b d w headed

  abbrev ended : ℕ → List ℕ
  ended k = with_channels n e k (wired n)

  head_touched : Touched 0 (figures_at 0) blank headed
  unfolding figures_at with_head
  head_touched = joined (put blank 0 wires_bits n wires_bits refl) (put _ wires_bits channels_bits m (figures_at 0) refl)

  wire-touched : (w : ℕ) → Touched (figures_at w) (figures_at (suc w)) (wired w) (wired (suc w))
  unfolding with_wires
  wire-touched w =
      joined (put (wired w) (figures_at w) backlog_bits (b w) (figures_at w + backlog_bits) refl)
      (put _ (figures_at w + backlog_bits) delay_bits (d w) (figures_at (suc w)) (figures-at w))

  channel-touched : (k : ℕ) → Touched (end_at n k) (end_at n (suc k)) (ended k) (ended (suc k))
  unfolding with_channels
  channel-touched k = put (ended k) (end_at n k) end_bits (e k) (end_at n (suc k)) (end-at n k)

  -- what is written after the channels before k
  from-channel : (k : ℕ) → k ≤ m → Touched (end_at n k) (end_at n m) (ended k) (sheet_of n m b d e)
  unfolding sheet_of
  from-channel k l = steps_to (end_at n) ended channel-touched k m l

  -- after the wires before w
  from-wire : (w : ℕ) → w ≤ n → Touched (figures_at w) (end_at n m) (wired w) (sheet_of n m b d e)
  unfolding with_channels
  from-wire w l = joined (steps_to figures_at wired wire-touched w n l) (rw (← end-first n) (from-channel 0 (omega arith)))

  from-head : Touched (figures_at 0) (end_at n m) headed (sheet_of n m b d e)
  unfolding with_wires
  from-head = from-wire 0 (omega arith)

  all-touched : Touched 0 (end_at n m) blank (sheet_of n m b d e)
  all-touched = joined head_touched from-head

  pub length-sheet_of : length (sheet_of n m b d e) ≡ sheet_length n m
  length-sheet_of = all-touched.same_length ∙ length-replicate (sheet_length n m) 0

  pub bytes-sheet_of : Bytes (sheet_of n m b d e)
  bytes-sheet_of = all-touched.stays (bytes-replicate (sheet_length n m) 0 (omega arith))

  pub filling-sheet_of : filling_of (sheet_of n m b d e) (end_at n m) ≡ 0
  unfolding filling_of
  filling-sheet_of = all-touched.outside (end_at n m) _ (inr (omega arith)) ∙ field-zeros (sheet_length n m) (end_at n m) _

  within-sheet : end_at n m ≤ 8 * length (sheet_of n m b d e)
  within-sheet = rw length-sheet_of (end-within n m)

  module _ (fits : Fits n m b d e) where
    pub wires-sheet_of : sheet_wires (sheet_of n m b d e) ≡ n
    unfolding sheet_wires with_head figures_at
    wires-sheet_of =
        read_back blank 0 wires_bits n wires_bits refl
        (joined (put _ wires_bits channels_bits m (figures_at 0) refl) from-head) within-sheet (omega arith)

    pub channels-sheet_of : sheet_channels (sheet_of n m b d e) ≡ m
    unfolding sheet_channels with_head figures_at
    channels-sheet_of = read_back _ wires_bits channels_bits m (figures_at 0) refl from-head within-sheet (omega arith)

    pub backlog-sheet_of : (w : ℕ) → w < n → field (sheet_of n m b d e) (figures_at w) backlog_bits ≡ b w
    unfolding with_wires
    backlog-sheet_of w l =
        read_back (wired w) (figures_at w) backlog_bits (b w) (figures_at w + backlog_bits) refl
        (joined (put _ (figures_at w + backlog_bits) delay_bits (d w) (figures_at (suc w)) (figures-at w)) (from-wire (suc w) l))
        within-sheet (fits.backlog_fits w l)

    pub delay-sheet_of : (w : ℕ) → w < n → field (sheet_of n m b d e) (figures_at w + backlog_bits) delay_bits ≡ d w
    unfolding with_wires
    delay-sheet_of w l =
        read_back _ (figures_at w + backlog_bits) delay_bits (d w) (figures_at (suc w)) (figures-at w) (from-wire (suc w) l)
        within-sheet (fits.delay_fits w l)

    pub end-sheet_of : (k : ℕ) → k < m → field (sheet_of n m b d e) (end_at n k) end_bits ≡ e k
    unfolding with_channels
    end-sheet_of k l =
        read_back (ended k) (end_at n k) end_bits (e k) (end_at n (suc k)) (end-at n k) (from-channel (suc k) l)
        within-sheet (fits.end_fits k l)
