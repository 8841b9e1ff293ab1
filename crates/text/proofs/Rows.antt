-- Lines put one after another.
use Rattle.std.proofs.Common.{List, ℕ, ◌≡◌, ◌∙◌, [], ◌∷◌, ◌++◌, suc, ◌+◌, ◌≤◌, length, sym, ap, arith}
use Rattle.rules.specs.Text.{line, lines, laid, place_after, Put}
use Rattle.rules.proofs.Text.Laid.{put-nothing, put_then, put_as, lines_more, lines_none}

pub put_none : (b : List ℕ) (at : ℕ) (w : List ℕ) (f g : ℕ → ℕ) → at ≤ suc (length b) → Put b at (lines w f g 0) at b
put_none b at w f g h = put_as (sym (lines_none w f g)) (put-nothing b at h)

-- the line of row i after those before it
pub put_more : {b left left' : List ℕ} {at end end' : ℕ} (w : List ℕ) (f g : ℕ → ℕ) (i : ℕ) {k x y : ℕ}
    → k ≡ i → x ≡ f i → y ≡ g i → Put b at (lines w f g i) end left
    → end' ≡ place_after (length left) end (line w (k ∷ x ∷ y ∷ [])) → left' ≡ laid left end (line w (k ∷ x ∷ y ∷ []))
    → Put b at (lines w f g (i + 1)) end' left'
put_more {b} {left} {left'} {at} {end} {end'} w f g i {k} {x} {y} n p q put place bytes =
    let e : suc i ≡ i + 1 = omega arith in
    let same : lines w f g i ++ line w (k ∷ x ∷ y ∷ []) ≡ lines w f g (i + 1) =
    (λ j. lines w f g i ++ line w (n j ∷ p j ∷ q j ∷ []))
    ∙ sym (lines_more w f g i)
    ∙ ap (λ (k : ℕ). lines w f g k) e in
    put_as same (put_then put (record { place = place; bytes = bytes }))
