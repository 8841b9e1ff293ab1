use Rattle.std.proofs.Common.{ℕ, List, [], ◌∷◌, ◌++◌, ◌≡◌, ◌∙◌, suc, ◌+◌, ◌-◌, ◌/◌, ◌%◌, ◌^◌, ◌<◌, ◌≤◌, length, set, drop, sym, ap, append_assoc, pow-suc, div-add-mod', take_all, length-drop, length-set, arith}
use Rattle.std.proofs.lemmas.List.{drop-set}
use Rattle.rules.specs.Text.{digit, digits_most, decimal}
use Rattle.rules.proofs.Text.Digits.{decimal-last, decimal-more}
use Rattle.words.proofs.digits.Goals as goal

-- one digit more, in front of those that stand from `at + 1` on
module _ (n rest at : ℕ) (row : List ℕ) (inside : at < length row) (fits : rest < 10 ^ digits_most)
    (stand : decimal n ≡ decimal rest ++ drop (at + 1) row) where
  abbrev wrote : List ℕ
  wrote = set row at (digit (rest % 10))

  stood : digit (rest % 10) ∷ drop (at + 1) row ≡ drop at wrote
  stood = sym (drop-set row at (digit (rest % 10)) inside)

  last : rest < 10 → drop at wrote ≡ decimal n
  last small =
      let e : rest % 10 ≡ rest = omega arith in
      sym stood
      ∙ ap (λ (d : ℕ). digit d ∷ drop (at + 1) row) e
      ∙ sym (stand ∙ ap (λ (ds : List ℕ). ds ++ drop (at + 1) row) (decimal-last rest small))

  more : 10 ≤ rest → decimal n ≡ decimal (rest / 10) ++ drop at wrote
  more big =
      stand
      ∙ ap (λ (ds : List ℕ). ds ++ drop (at + 1) row) (decimal-more rest big fits)
      ∙ append_assoc (decimal (rest / 10)) (digit (rest % 10) ∷ []) (drop (at + 1) row)
      ∙ ap (λ (ds : List ℕ). decimal (rest / 10) ++ ds) stood

room-less : (rest at : ℕ) → rest < 10 ^ (at + 1) → rest / 10 < 10 ^ at
room-less rest at l =
    let e : at + 1 ≡ suc at = omega arith in
    omega (arith, ap (λ (k : ℕ). 10 ^ k) e, pow-suc 10 at, div-add-mod' rest 10)

pub returns-then-rest-eq0 : goal.returns-then-rest-eq0
returns-then-rest-eq0 c =
    let l = c.loop-at in
    let at = l.at - 1 in
    let e : l.at ≡ at + 1 = omega arith in
    let wrote : List ℕ = set l.row at (digit (l.rest % 10)) in
    take_all (digits_most - at) (drop at wrote) (omega (arith, length-drop at wrote, length-set l.row at (digit (l.rest % 10))))
    ∙ last c.args.n l.rest at l.row (omega arith) (omega arith) (rw e at l.invariant.stand) (omega arith)

pub loop-at-preserved : goal.loop-at-preserved
loop-at-preserved c =
    let l = c.loop-at in
    let at = l.at - 1 in
    let e : l.at ≡ at + 1 = omega arith in
    record {
      some = omega arith;
      room = room-less l.rest at (rw e at l.invariant.room);
      stand = more c.args.n l.rest at l.row (omega arith) (omega arith) (rw e at l.invariant.stand) (omega arith);
    }
