-- What a copy of a word, or of its front, into a part of a buffer leaves.
use Rattle.std.proofs.Common.{◌≡◌, ◌∙◌, refl, ap, List, [], ◌∷◌, ℕ, zero, suc, ◌+◌, ◌-◌, ◌≤◌, ◌<◌, length, take, sym, length-take-le, arith}
use borrow.Rule.Slice.PartMut.{put_mid}
use Rattle.rules.specs.Text.{laid}
use Rattle.rules.proofs.Text.Laid.{laid-cut, laid-past}

whole : (b : List ℕ) (at : ℕ) (w : List ℕ) → at + length w ≤ length b → put_mid at (length w) b w ≡ laid b at w
unfolding laid
whole [] zero [] h = refl
whole [] zero (c ∷ w) h = absurd (omega (arith, h))
whole [] (suc at) w h = absurd (omega (arith, h))
whole (x ∷ b) (suc at) w h = ap (λ (l : List ℕ). x ∷ l) (whole b at w (omega (arith, h)))
whole (x ∷ b) zero [] h = refl
whole (x ∷ b) zero (c ∷ w) h = ap (λ (l : List ℕ). c ∷ l) (whole b zero w (omega (arith, h)))

pub past : (b : List ℕ) (at : ℕ) (w : List ℕ) → length b < at → b ≡ laid b at w
past b at w h = sym (laid-past b at w (omega arith))

pub front : (b : List ℕ) (at room : ℕ) (w : List ℕ) → at + room ≡ length b → room < length w
    → put_mid at (length b - at) b (take room w) ≡ laid b at w
front b at room w e h =
    let n : length b - at ≡ length (take room w) = omega (arith, length-take-le room w (omega arith)) in
    ap (λ (k : ℕ). put_mid at k b (take room w)) n
    ∙ whole b at (take room w) (omega (arith, length-take-le room w (omega arith)))
    ∙ laid-cut b at room w (omega arith)

pub all : (b : List ℕ) (at end : ℕ) (w : List ℕ) → end ≡ at + length w → end ≤ length b → put_mid at (end - at) b w ≡ laid b at w
all b at end w e h =
    let n : end - at ≡ length w = omega arith in
    ap (λ (k : ℕ). put_mid at k b w) n ∙ whole b at w (omega arith)

pub ruleset placed = (past, front, all)
