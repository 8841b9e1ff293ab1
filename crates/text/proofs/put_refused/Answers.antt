use Rattle.rules.specs.Text.{word, refused_text}
use Rattle.text.proofs.put_refused.Goals as goal

pub returns : goal.returns
unfolding refused_text word
returns c =
    rw (← c.number-number.ensures, ← c.place-place.ensures)
    (record { place = c.put_line.ensures.value; bytes = c.put_line.ensures.lent_after })
