-- A loop over two slices side by side, with the number of each pair.
use Rattle.std.proofs.Common.{List, ℕ, ◌≡◌, ◌∙◌, [], ◌∷◌, ◌+◌, ◌<◌, length, get_or, refl, ap, arith, Some, Option}
use denote.Ref.{Bor}
use Rattle.std.specs.Iterator.{Yields}
use Rattle.std.specs.Iterator.Adapters.{enumerate_steps, enumerate_source, enumerate_count, zip_first, zip_second}
use Rattle.std.specs.Slice.Iter.{iter_rest}
use Rattle.std.specs.declared.iter.Enumerate.{Enumerate}
use Rattle.std.specs.declared.iter.Zip.{Zip}
use Rattle.std.specs.declared.slice.Iter.{Iter}
use Rattle.std.proofs.iter.Yields.{fronts}
use Rattle.std.proofs.lemmas.Iterator.{zips}
use Rattle.std.proofs.lemmas.Slice.Zip.{zip_turn}

-- without the numbers
bare : {A : Type 0} → List (ℕ × A) → List A
bare [] = []
bare (x ∷ xs) = x.1 ∷ bare xs

length_bare : {A : Type 0} (xs : List (ℕ × A)) → length (bare xs) ≡ length xs
unfolding bare
length_bare [] = refl
length_bare (x ∷ xs) = omega (arith, length_bare xs)

numbered : {S A : Type 0} (steps : S → Option A → S → Type 0) (xs : List (ℕ × A)) (s t : Enumerate S)
    → Yields (enumerate_steps steps) s xs t
    → (enumerate_count t ≡ enumerate_count s + length xs) × Yields steps (enumerate_source s) (bare xs) (enumerate_source t)
unfolding bare
numbered steps [] s t y = (omega (arith, ap enumerate_count y), ap enumerate_source y)
numbered steps (x ∷ xs) s t y =
    let h = numbered steps xs y.0 t y.2 in
    (omega (arith, h.0, y.1.2), (enumerate_source y.0, y.1.0, h.1))

pub numbered_turn : {A B : Type 0} (ks : List A) (vs : List B) (xs : List (ℕ × (Bor A × Bor B)))
    (s t u : Enumerate (Zip (Iter A) (Iter B))) → enumerate_count s ≡ 0
    → iter_rest (zip_first (enumerate_source s)) ≡ ks → iter_rest (zip_second (enumerate_source s)) ≡ vs
    → Yields (enumerate_steps (zips fronts fronts)) s xs t
    → (p : ℕ × (Bor A × Bor B)) → enumerate_steps (zips fronts fronts) t (Some p) u
    → (p.0 ≡ length xs) × (length xs < length ks) × (length xs < length vs)
    × ((d : A) → p.1.0.now ≡ get_or ks (length xs) d) × ((d : B) → p.1.1.now ≡ get_or vs (length xs) d)
numbered_turn ks vs xs s t u z first second y p step =
    let n = numbered (zips fronts fronts) xs s t y in
    let pair = zip_turn ks vs (bare xs) (enumerate_source s) (enumerate_source t) (enumerate_source u) (Some p.1) first second n.1
    p.1 refl step.0 in
    let turn = rw length_bare at pair in
    (step.1 ∙ omega (arith, n.0, z), turn.0, turn.1, turn.2, turn.3)
