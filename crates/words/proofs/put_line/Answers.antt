-- The word, the numbers and the newline, one after another.
use Rattle.std.proofs.Common.{[], ◌∷◌}
use Rattle.rules.specs.Text.{spaced, line, Put}
use Rattle.rules.proofs.Text.Laid.{put_then}
use Rattle.words.proofs.put_line.Goals as goal

pub returns : goal.returns
unfolding line
returns c =
    let a = c.args in
    let named = c.put-named in
    let numbers = c.put_numbers-end in
    let p : Put a.lent.now a.at a.word.now named.result named.new.lent =
    record { place = named.ensures.value; bytes = named.ensures.lent_after } in
    let q : Put named.new.lent named.result (spaced a.numbers.now) numbers.result numbers.new.lent =
    record { place = numbers.ensures.value; bytes = numbers.ensures.lent_after } in
    let e : Put numbers.new.lent numbers.result (10 ∷ []) c.put.result c.put.new.lent =
    record { place = c.put.ensures.value; bytes = c.put.ensures.lent_after } in
    let r = put_then (put_then p q) e in
    record { value = r.place; lent_after = r.bytes }
