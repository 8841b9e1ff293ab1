-- The blank, then the digits.
use Rattle.std.proofs.Common.{[], ◌∷◌, sym}
use Rattle.rules.specs.Text.{decimal, Put}
use Rattle.rules.proofs.Text.Laid.{put_then, put_as, spaced-one}
use Rattle.words.proofs.put_number.Goals as goal

pub returns : goal.returns
returns c =
    let a = c.args in
    let p : Put a.lent.now a.at (32 ∷ []) c.put-blank.result c.put-blank.new.lent =
    record { place = c.put-blank.ensures.value; bytes = c.put-blank.ensures.lent_after } in
    let q : Put c.put-blank.new.lent c.put-blank.result (decimal a.n) c.put.result c.put.new.lent =
    put_as c.digits.ensures (record { place = c.put.ensures.value; bytes = c.put.ensures.lent_after }) in
    let r = put_as (sym (spaced-one a.n)) (put_then p q) in
    record { value = r.place; lent_after = r.bytes }
