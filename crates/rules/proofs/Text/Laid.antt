-- A text laid over a buffer, one text after another, and lines.
use mathlib.Core.Path.{◌≡◌, refl, sym, ap, ◌∙◌}
use mathlib.Core.List.{List, [], ◌∷◌, ◌++◌, append-nil, append_assoc}
use Prim.Native.Nat.{ℕ, zero, suc, ◌+◌, ◌-◌, ◌≤◌, ◌<◌}
use native.Mathlib.Nat.{suc-add}
use native.Mathlib.Numerals.{unary_clauses}
use native.Mathlib.Omega.{arith}
use lib.ListN.{length, take, replicate, length-append, length-replicate}
use Rattle.std.proofs.lemmas.Bool.Decides.{nat_tests}
use Rattle.std.specs.Prelude.{Some, None}
use Rattle.rules.specs.Words.{cut, gathered}
use Rattle.rules.specs.Text.{decimal, spaced, line, lines, laid, place_after, Put, text_written, text_left}

pub length-laid : (b : List ℕ) (at : ℕ) (w : List ℕ) → length (laid b at w) ≡ length b
unfolding laid
length-laid [] at w = refl
length-laid (x ∷ b) (suc at) w = ap suc (length-laid b at w)
length-laid (x ∷ b) zero [] = refl
length-laid (x ∷ b) zero (c ∷ w) = ap suc (length-laid b zero w)

pub laid-nothing : (b : List ℕ) (at : ℕ) → laid b at [] ≡ b
unfolding laid
laid-nothing [] at = refl
laid-nothing (x ∷ b) (suc at) = rw (laid-nothing b at)
laid-nothing (x ∷ b) zero = refl

pub laid-past : (b : List ℕ) (at : ℕ) (w : List ℕ) → length b ≤ at → laid b at w ≡ b
unfolding laid
laid-past [] at w h = refl
laid-past (x ∷ b) (suc at) w h = rw (laid-past b at w (omega (arith, h)))
laid-past (x ∷ b) zero w h = absurd (omega (arith, h))

pub laid_then : (b : List ℕ) (at : ℕ) (v w : List ℕ) → laid (laid b at v) (at + length v) w ≡ laid b at (v ++ w)
unfolding laid
laid_then [] at v w = refl
laid_then (x ∷ b) (suc at) v w = simp suc-add (ap (λ (l : List ℕ). x ∷ l) (laid_then b at v w))
laid_then (x ∷ b) zero [] w = refl
laid_then (x ∷ b) zero (c ∷ v) w =
    simp unary_clauses (ap (λ (l : List ℕ). c ∷ l) (laid_then b zero v w))

-- what does not fit makes no difference
pub laid-cut : (b : List ℕ) (at i : ℕ) (w : List ℕ) → length b ≤ at + i → laid b at (take i w) ≡ laid b at w
unfolding laid
laid-cut [] at i w h = refl
laid-cut (x ∷ b) (suc at) i w h = rw (laid-cut b at i w (omega (arith, h)))
laid-cut (x ∷ b) zero zero w h = absurd (omega (arith, h))
laid-cut (x ∷ b) zero (suc i) [] h = refl
laid-cut (x ∷ b) zero (suc i) (c ∷ w) h = rw (laid-cut b zero i w (omega (arith, h)))

pub laid_filled : (n v : ℕ) (w : List ℕ) → length w ≤ n → laid (replicate n v) 0 w ≡ w ++ replicate (n - length w) v
unfolding laid
laid_filled zero v [] h = refl
laid_filled zero v (c ∷ w) h = absurd (omega (arith, h))
laid_filled (suc n) v [] h = simp unary_clauses refl
laid_filled (suc n) v (c ∷ w) h = simp unary_clauses (ap (λ (r : List ℕ). c ∷ r) (laid_filled n v w (omega (arith, h))))

-- ---- one text after another

cut_past : (x most : ℕ) → most ≤ x → cut x most ≡ most
cut_past x most l = grind (arith, nat_tests)

pub place_in : (lent at : ℕ) (w : List ℕ) → at + length w ≤ lent → place_after lent at w ≡ at + length w
place_in lent at w l = grind (arith, nat_tests)

pub place_out : (lent at : ℕ) (w : List ℕ) → lent < at + length w → place_after lent at w ≡ suc lent
place_out lent at w l = cut_past (at + length w) (suc lent) (omega (arith, l))

pub put-nothing : (b : List ℕ) (at : ℕ) → at ≤ suc (length b) → Put b at [] at b
put-nothing b at h =
    record { place = grind (arith, nat_tests); bytes = sym (laid-nothing b at) }

pub put_then : {b left left' : List ℕ} {at after after' : ℕ} {v w : List ℕ}
    → Put b at v after left → Put left after w after' left' → Put b at (v ++ w) after' left'
put_then {b} {left} {left'} {at} {after} {after'} {v} {w} p q =
    let same : length left ≡ length b = ap length p.bytes ∙ length-laid b at v in
    let long : length (v ++ w) ≡ length v + length w = length-append v w in
    record {
      place = grind (arith, nat_tests, p.place, q.place, same, long);
      bytes =
          grind (
            arith,
            nat_tests,
            p.place,
            p.bytes,
            q.bytes,
            same,
            length-laid b at v,
            laid_then b at v w,
            laid-past left after w,
            laid-past (laid b at v) (at + length v) w,
          );
    }

-- the same text, written in another way
pub put_as : {b left : List ℕ} {at after : ℕ} {v w : List ℕ} → v ≡ w → Put b at v after left → Put b at w after left
put_as e p = rw e at p

-- ---- numbers in a row

pub spaced-one : (n : ℕ) → spaced (n ∷ []) ≡ (32 ∷ []) ++ decimal n
unfolding spaced
spaced-one n = ap (λ (ds : List ℕ). 32 ∷ ds) (append-nil (decimal n))

pub spaced-append : (ns ms : List ℕ) → spaced (ns ++ ms) ≡ spaced ns ++ spaced ms
unfolding spaced
spaced-append [] ms = refl
spaced-append (n ∷ ns) ms =
    rw (spaced-append ns ms, append_assoc (decimal n) (spaced ns) (spaced ms))

-- the lines of the same figures
pub lines_same : (w : List ℕ) (first first' second second' : ℕ → ℕ) (n : ℕ)
    → ((i : ℕ) → i < n → first i ≡ first' i) → ((i : ℕ) → i < n → second i ≡ second' i)
    → lines w first second n ≡ lines w first' second' n
unfolding lines gathered
lines_same w first first' second second' zero e f = refl
lines_same w first first' second second' (suc n) e f =
    let a = lines_same w first first' second second' n (λ i l. e i (omega (arith, l))) (λ i l. f i (omega (arith, l))) in
    λ i. a i ++ line w (n ∷ e n (omega arith) i ∷ f n (omega arith) i ∷ [])

-- one line more
pub lines_more : (w : List ℕ) (first second : ℕ → ℕ) (n : ℕ)
    → lines w first second (suc n) ≡ lines w first second n ++ line w (n ∷ first n ∷ second n ∷ [])
unfolding lines gathered
lines_more w first second n = refl

pub lines_none : (w : List ℕ) (first second : ℕ → ℕ) → lines w first second 0 ≡ []
unfolding lines gathered
lines_none w first second = refl

-- ---- a text written into a filled buffer

module _ (lent : ℕ) (w : List ℕ) {b left : List ℕ} {after : ℕ} (filled : b ≡ replicate lent 255) (p : Put b 0 w after left) where
  long : length b ≡ lent
  long = ap length filled ∙ length-replicate lent 255

  place : after ≡ place_after lent 0 w
  place = p.place ∙ ap (λ (n : ℕ). place_after n 0 w) long

  pub written-whole : after ≤ lent → (Some after ≡ text_written w lent) × (left ≡ text_left w lent)
  written-whole l =
      grind (arith, nat_tests, place, place_in lent 0 w, place_out lent 0 w, p.bytes, laid_filled lent 255 w)

  pub written_short : lent < after → (None ≡ text_written w lent) × (replicate lent 255 ≡ text_left w lent)
  written_short l =
      grind (arith, nat_tests, place, place_in lent 0 w)
