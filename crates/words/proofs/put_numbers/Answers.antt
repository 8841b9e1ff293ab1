use Rattle.std.proofs.Common.{ℕ, List, ◌≡◌, ◌∙◌, [], ◌∷◌, ◌++◌, ◌+◌, get_or, take, sym, ap, arith}
use Rattle.std.proofs.lemmas.List.{take_more}
use Rattle.rules.specs.Text.{spaced, Put}
use Rattle.rules.proofs.Text.Laid.{put-nothing, put_then, put_as, spaced-append}
use Rattle.words.proofs.put_numbers.Goals as goal

pub loop-number-init : goal.loop-number-init
unfolding spaced
loop-number-init c = put-nothing c.args.lent.now c.args.at c.requires

pub loop-number-preserved : goal.loop-number-preserved
loop-number-preserved c =
    let ns : List ℕ = c.args.numbers.now in
    let l = c.loop-number in
    let put = c.put_number-end in
    let n : ℕ = get_or ns l.number-index 0 in
    let so_far : List ℕ = take l.number-index ns in
    let more : take (l.number-index + 1) ns ≡ so_far ++ (n ∷ []) = take_more ns l.number-index 0 (omega arith) in
    let one : Put l.lent l.end (spaced (n ∷ [])) put.result put.new.lent =
    record { place = put.ensures.value; bytes = put.ensures.lent_after } in
    put_as (sym (ap spaced more ∙ spaced-append so_far (n ∷ []))) (put_then l.invariant one)
