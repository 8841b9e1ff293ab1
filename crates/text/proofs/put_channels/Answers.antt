use Rattle.std.proofs.Common.{◌∙◌, ◌<◌, ap, arith, take, length, length-append}
use lib.ListN.{length-take}
use lib.Seq.{get_or-take}
use Rattle.rules.specs.declared.Channel.{Channel}
use Rattle.rules.specs.Decoded.{end_in, no_channel}
use Rattle.rules.specs.Text.{word}
use Rattle.text.specs.Rows.{deadline_in}
use Rattle.text.proofs.Rows.{put_none, put_more}
use Rattle.text.proofs.Turns.{numbered_turn}
use Rattle.text.proofs.put_channels.Goals as goal

pub loop-k-init : goal.loop-k-init
loop-k-init c = put_none c.args.lent.now c.args.at (word "channel") _ _ c.requires.at_bound

pub loop-k-preserved : goal.loop-k-preserved
unfolding word
loop-k-preserved c =
    let b = c.args.bounded.now in
    let n = b.table.channels in
    let i = length c.loop-k.yielded in
    let turn = numbered_turn (take n b.figures.end) (take n b.table.channel) c.loop-k.yielded c.into_iter-k-iterator.result
    c.loop-k.k-iterator c.next.new.self (cc) (cc) (cc) c.loop-k.yielded_by (c.in-Some.k, (c.in-Some.delay, c.in-Some.channel))
    c.in-Some.ensures.steps in
    let within : i < n = omega (arith, turn.1, length-take n b.figures.end) in
    rw (length-append c.loop-k.yielded)
    (put_more (word "channel") (end_in b.figures) (deadline_in b.table) i turn.0
    (turn.3 0 ∙ get_or-take n b.figures.end i 0 within)
    (c.from.ensures
    ∙ ap (λ (r : Channel). r.deadline) (turn.4 no_channel ∙ get_or-take n b.table.channel i no_channel within))
    c.loop-k.invariant c.put_line-end.ensures.value c.put_line-end.ensures.lent_after)
