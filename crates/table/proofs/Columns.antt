-- A column whose first places alone are filled, in a loop over them.
use Rattle.std.proofs.Common.{ℕ, List, length, get_or, take, drop, ◌++◌, ◌≡◌, ◌∙◌, ◌-◌, ◌≤◌, ap, arith, length-append}
use Rattle.std.proofs.Math.ListN.{replicate, length-replicate, get_or-append}
use Rattle.std.proofs.lemmas.List.{take-replicate, drop-replicate, get_or-append_right, get_or-replicate}
use Rattle.rules.specs.Decoded.{column}
use Rattle.rules.proofs.Tables.Columns.{length-column, column-at, column-told, column-none}

module _ {A : Type 0} (none : A) (places : ℕ) (f : ℕ → A) (n : ℕ) (l : n ≤ places) where
  pub column_first : take n (replicate places none) ≡ column none n 0 f
  column_first = take-replicate n places none l ∙ column-none none n f

  pub column_whole : (a : List A) → a ≡ column none n n f → a ++ drop n (replicate places none) ≡ column none places n f
  column_whole a e =
      let long : length a ≡ n = ap length e ∙ length-column none n f n in
      rw (drop-replicate n places none)
      (column-told none places f n (a ++ replicate (places - n) none)
      (length-append a (replicate (places - n) none) ∙ omega (arith, long, length-replicate (places - n) none))
      (λ i h m.
      get_or-append a (replicate (places - n) none) none i (omega (arith, long))
      ∙ ap (λ (x : List A). get_or x i none) e
      ∙ column-at none n f n i none h h)
      (λ i h m.
      get_or-append_right a (replicate (places - n) none) n i none long h
      ∙ get_or-replicate (places - n) (i - n) none none (omega arith)))
