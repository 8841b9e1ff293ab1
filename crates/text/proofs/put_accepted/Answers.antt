-- Three texts, one after another.
use Rattle.rules.specs.Text.{word}
use Rattle.rules.proofs.Text.Laid.{put_then}
use Rattle.text.proofs.put_accepted.Goals as goal

pub returns : goal.returns
unfolding word
returns c =
    put_then
    (put_then (record { place = c.put_line-head.ensures.value; bytes = c.put_line-head.ensures.lent_after }) c.put_wires-links.ensures)
    c.put_channels.ensures
