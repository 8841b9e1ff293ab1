-- Laws of filing: one channel more under a wire, and under all wires of its route.
use mathlib.Core.Path.{◌≡◌, refl, sym, ap, ◌∙◌}
use mathlib.Core.Bool.{Bool, true, false, or-true, or-false}
use mathlib.Core.List.{List, [], ◌∷◌}
use Prim.Native.Nat.{ℕ, ◌+◌, ◌^◌, ◌≤◌, ◌<◌}
use native.Mathlib.Numerals.{add-one}
use native.Mathlib.Omega.{arith}
use native.Mathlib.Decide.{ℕ_discrete}
use lib.ListN.{length, get_or, set, take, replicate, length-set, length-replicate, length-append, get_or-replicate}
use lib.Seq.{get_or-set_same, get_or-set_other, take_all}
use lib.Dec.{eqb}
use borrow.Author.Tests.{eq-eqb, ne_eqb}
use Rattle.std.proofs.lemmas.List.{take_more_set}
use Rattle.bounds.specs.declared.filing.Filed.{Filed}
use Rattle.rules.specs.Words.{sum, has, begins, some}
use Rattle.rules.specs.Numbers.{wires_most, channels_most}
use Rattle.rules.specs.Table.{View}
use Rattle.rules.specs.Bounds.{part, on}
use Rattle.rules.specs.Sound.{Sound}
use Rattle.rules.proofs.Bounds.Reach.{hop-below, hop_new, hop-there, hop_others}
use Rattle.rules.proofs.Bounds.Sizes.{part-most, carried-most}
use Rattle.bounds.specs.Filed.{no_filed, filed_with, those, with_last, tally, Holds}
use Rattle.bounds.specs.Stages.{FiledTo, FiledBelow}
use Rattle.bounds.proofs.Those.{length-those}

-- ---- under one wire

module _ (inside : ℕ → Bool) (part : ℕ → ℕ) where
  pub holds_none : Holds inside part 0 false no_filed
  unfolding those sum
  holds_none =
      record { room = length-replicate {A = ℕ} channels_most 0; channels = refl; count = refl; load = refl }

  module _ (c : ℕ) (f : Filed) where
    -- channel c is filed where it is in
    pub holds_next : Holds inside part c (inside c) f → Holds inside part (c + 1) false f
    unfolding those sum
    holds_next h =
        record {
          room = h.room;
          channels = rw add-one h.channels;
          count = rw add-one h.count;
          load = rw add-one (omega (arith, h.load));
        }

    module _ (h : Holds inside part c false f) where
      pub holds-most : f.count ≤ c
      holds-most = omega (arith, h.count, length-those inside c)

      pub holds-load : f.load ≡ tally inside part c
      holds-load = omega (arith, h.load)

      pub holds_put : c < channels_most → (p : ℕ) → p ≡ part c → Holds inside part c true (filed_with f c p)
      holds_put l p e =
          record {
            room = length-set f.list f.count c ∙ h.room;
            channels =
                take_more_set f.list f.count c (omega (arith, holds-most, h.room))
                ∙ ap (λ (xs : List ℕ). with_last true c xs) h.channels;
            count = omega (arith, h.count, length-append (those inside c) (c ∷ []));
            load = omega (arith, h.load, e);
          }

-- ---- under all wires

begins-first : (w : ℕ) (xs : List ℕ) → 1 ≤ length xs → begins w xs ≡ eqb (get_or xs 0 0) w
unfolding begins
begins-first w [] l = absurd (omega arith)
begins-first w (x ∷ xs) l = refl

pub filed-none : (t : View) → FiledBelow t 0 (replicate wires_most no_filed)
unfolding some
filed-none t =
    record {
      same_length = length-replicate wires_most no_filed;
      wire = λ w d l. rw (get_or-replicate wires_most w no_filed d l) (holds_none (on t w) (part t));
      first = λ w d l. rw (get_or-replicate wires_most w no_filed d l);
    }

-- first on a route
abbrev pub filed_first : Filed → Filed
filed_first f = record { list = f.list; count = f.count; load = f.load; first = true }

module _ (t : View) (k : ℕ) (done : ℕ → Bool) (filed : List Filed) (here : FiledTo t k done filed) where
  module _ (x : ℕ) (d : Filed) (l : x < wires_most) where
    pub filed-put : (after : ℕ → Bool) → k < channels_most → done x ≡ false → after x ≡ true
        → ((w : ℕ) → (w ≡ x → ⊥) → after w ≡ done w) → (p : ℕ) → p ≡ part t k
        → FiledTo t k after (set filed x (filed_with (get_or filed x d) k p))
    filed-put after most out now same p e =
        record {
          same_length = length-set filed x _ ∙ here.same_length;
          wire = λ w g lw. elim (ℕ_discrete w x) [
            | yes q ↦
                (let before : Holds (on t x) (part t) k false (get_or filed x d) = rw out at (here.wire x d l) in
                rw (q, now, get_or-set_same filed x (filed_with (get_or filed x d) k p) g (omega (arith, here.same_length)))
                (holds_put (on t x) (part t) k (get_or filed x d) before most p e))
            | no o ↦ rw (same w o, get_or-set_other filed x w (filed_with (get_or filed x d) k p) g o) (here.wire w g lw)
          ];
          first = λ w g lw. elim (ℕ_discrete w x) [
            | yes q ↦
                rw (q, get_or-set_same filed x (filed_with (get_or filed x d) k p) g (omega (arith, here.same_length)))
                (here.first x d l)
            | no o ↦ rw (get_or-set_other filed x w (filed_with (get_or filed x d) k p) g o) (here.first w g lw)
          ];
        }

    -- channel k is filed under all its wires, and marks its first
    pub filed-next : ((w : ℕ) → done w ≡ on t w k) → 1 ≤ length (t.route k) → x ≡ get_or (t.route k) 0 0
        → FiledBelow t (k + 1) (set filed x (filed_first (get_or filed x d)))
    unfolding some
    filed-next all long is =
        record {
          same_length = length-set filed x _ ∙ here.same_length;
          wire = λ w g lw. elim (ℕ_discrete w x) [
            | yes q ↦
                (let before : Holds (on t x) (part t) k (on t x k) (get_or filed x d) = rw (all x) at (here.wire x d l) in
                let after = holds_next (on t x) (part t) k (get_or filed x d) before in
                rw (q, get_or-set_same filed x (filed_first (get_or filed x d)) g (omega (arith, here.same_length)))
                (record { room = after.room; channels = after.channels; count = after.count; load = after.load }))
            | no o ↦
                (let before : Holds (on t w) (part t) k (on t w k) (get_or filed w g) = rw (all w) at (here.wire w g lw) in
                rw (get_or-set_other filed x w (filed_first (get_or filed x d)) g o)
                (holds_next (on t w) (part t) k (get_or filed w g) before))
          ];
          first = λ w g lw. elim (ℕ_discrete w x) [
            | yes q ↦
                rw (
                  add-one,
                  q,
                  get_or-set_same filed x (filed_first (get_or filed x d)) g (omega (arith, here.same_length)),
                  begins-first x (t.route k) long,
                  eq-eqb (get_or (t.route k) 0 0) x (sym is),
                  or-true,
                ) refl
            | no o ↦
                rw (
                  add-one,
                  get_or-set_other filed x w (filed_first (get_or filed x d)) g o,
                  begins-first w (t.route k) long,
                  ne_eqb (get_or (t.route k) 0 0) w (λ e. o (sym e ∙ sym is)),
                  or-false,
                )
                (here.first w g lw)
          ];
        }

-- ---- hop by hop

-- the channels below k are filed, and channel k under the wires of its first i hops
abbrev pub FiledHops : View → ℕ → ℕ → List Filed → Type 0
FiledHops t k i filed = FiledTo t k (λ w. has w (take i (t.route k))) filed

module _ (t : View) (k : ℕ) (filed : List Filed) where
  pub hops-start : FiledBelow t k filed → FiledHops t k 0 filed
  unfolding has
  hops-start h = record { same_length = h.same_length; wire = h.wire; first = h.first }

  module _ (sound : Sound t) (less : k < t.channels) where
    pub hops-most : k < channels_most
    hops-most = omega (arith, sound.channels_at_most)

    pub hops-end : (i : ℕ) → length (t.route k) ≤ i → FiledHops t k i filed → (x : ℕ) (d : Filed) → x ≡ get_or (t.route k) 0 0
        → FiledBelow t (k + 1) (set filed x (filed_first (get_or filed x d)))
    hops-end i l here x d is =
        let long : 1 ≤ length (t.route k) = sound.hops_at_least k less in
        filed-next t k _ filed here x d
        (omega (arith, is, hop-below t.wires 0 (t.route k) (sound.climbs k less) long, sound.wires_at_most))
        (λ w. ap (λ (xs : List ℕ). has w xs) (take_all i (t.route k) l)) long is

    module _ (i : ℕ) (short : i < length (t.route k))
        (here : FiledHops t k i filed) (w : ℕ) (d : Filed) (wire : w ≡ get_or (t.route k) i 0) where
      pub hop-wire : w < wires_most
      hop-wire = omega (arith, wire, hop-below t.wires i (t.route k) (sound.climbs k less) short, sound.wires_at_most)

      new : has w (take i (t.route k)) ≡ false
      new = rw wire (hop_new t.wires 0 i (t.route k) (sound.climbs k less) short)

      before : Holds (on t w) (part t) k false (get_or filed w d)
      before = rw new at (here.wire w d hop-wire)

      pub hop-place : (get_or filed w d).count < channels_most
      hop-place = omega (arith, holds-most (on t w) (part t) k (get_or filed w d) before, hops-most)

      pub hop-load : (get_or filed w d).load + part t k < 2 ^ 64
      hop-load =
          omega (
            arith,
            holds-load (on t w) (part t) k (get_or filed w d) before,
            carried-most t sound w k (omega arith),
            part-most t sound k less,
            hops-most,
          )

      pub hop_filed : (p : ℕ) → p ≡ part t k → FiledHops t k (i + 1) (set filed w (filed_with (get_or filed w d) k p))
      hop_filed =
          filed-put t k _ filed here w d hop-wire (λ x. has x (take (i + 1) (t.route k))) hops-most new
          (rw wire (hop-there (t.route k) i short))
          (λ x o. hop_others (t.route k) i short x (λ e. o (e ∙ sym wire)))
