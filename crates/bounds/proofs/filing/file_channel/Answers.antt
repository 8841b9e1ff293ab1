use Rattle.std.proofs.Common.{ℕ, List, ◌≡◌, ◌∙◌, ◌*◌, ◌^◌, ◌<◌, length, get_or, take, arith}
use Rattle.std.proofs.lemmas.List.{get_or-take}
use Rattle.bounds.specs.declared.filing.Filed.{Filed}
use Rattle.rules.specs.declared.Channel.{Channel}
use Rattle.rules.specs.Words.{entries}
use Rattle.rules.specs.Numbers.{wires_most, hops_most}
use Rattle.rules.specs.Table.{View}
use Rattle.rules.specs.Bounds.{part}
use Rattle.rules.proofs.Tables.Columns.{entry_at}
use Rattle.rules.proofs.Tables.Told.{ChannelTold, channel_told}
use Rattle.bounds.specs.Stages.{ToFile}
use Rattle.bounds.proofs.Hops.{hops-start, hops-end, hop-wire, hop-place, hop-load, hop_filed}
use Rattle.rules.proofs.Bounds.Reach.{hop-below}
use Rattle.bounds.proofs.Read.{blank, part-fits}
use Rattle.bounds.proofs.filing.file_channel.Goals as goal

module _ {t : View} {k : ℕ} {r : Channel} {filed : List Filed} (to : ToFile t k r filed) where
  told : ChannelTold t k r
  told = channel_told t k r to.channel

  -- the wire of hop i
  hop : (i d : ℕ) → i < r.hops → get_or r.route i d ≡ get_or (t.route k) i 0
  hop i d l =
      entry_at 0 hops_most (length (t.route k)) (entries (t.route k)) r.route told.route
      (to.sound.hops_at_most k to.less) i d (omega (arith, told.hops))

  hop_taken : {hops : ℕ} → hops ≡ r.hops → (i d : ℕ) → i < r.hops → get_or (take hops r.route) i d ≡ get_or (t.route k) i 0
  hop_taken is i d l = rw is (get_or-take r.hops r.route i d l ∙ hop i d l)

  -- what it adds to a wire's load
  adds : {price times : ℕ} → price ≡ r.price → times ≡ r.times → (price * times ≡ part t k) × (price * times < 2 ^ 64)
  adds p q = rw (p, q) (part-fits t to.sound k r to.less to.channel)

  short : (i : ℕ) → i < r.hops → i < length (t.route k)
  short i l = omega (arith, told.hops)

  some-hop : 0 < r.hops
  some-hop = omega (arith, told.hops, to.sound.hops_at_least k to.less)

  first_wire : {w : ℕ} → w ≡ get_or (t.route k) 0 0 → w < wires_most
  first_wire e =
      omega (arith, e, hop-below t.wires 0 (t.route k) (to.sound.climbs k to.less) (short 0 some-hop), to.sound.wires_at_most)

pub overflow_mul-part : goal.overflow_mul-part
overflow_mul-part c =
    omega (arith, (adds c.requires.1 c.from.ensures c.from-2.ensures).1)

pub loop-w-init : goal.loop-w-init
loop-w-init c = λ t to. hops-start t c.args.k c.args.filed.now to.before

pub bounds-filed-wide : goal.bounds-filed-wide
bounds-filed-wide c =
    let t = c.requires.0 in
    let to = c.requires.1 in
    let l : c.loop-w.w-index < c.args.channel.now.hops = omega arith in
    hop-wire t c.args.k c.loop-w.filed to.sound to.less c.loop-w.w-index (short to c.loop-w.w-index l) (c.loop-w.invariant t to)
    c.wide-in-loop-w.result blank (c.wide-in-loop-w.ensures ∙ hop_taken to c.wide.ensures c.loop-w.w-index 0 l)

pub add-requires : goal.add-requires
add-requires c =
    let t = c.requires.0 in
    let to = c.requires.1 in
    let i = c.loop-w.w-index in
    let l : i < c.args.channel.now.hops = omega arith in
    let is = c.wide-in-loop-w.ensures ∙ hop_taken to c.wide.ensures i 0 l in
    let part = adds to c.from.ensures c.from-2.ensures in (
      hop-place t c.args.k c.loop-w.filed to.sound to.less i (short to i l) (c.loop-w.invariant t to) c.wide-in-loop-w.result blank is,
      omega (
        arith,
        part.0,
        hop-load t c.args.k c.loop-w.filed to.sound to.less i (short to i l) (c.loop-w.invariant t to) c.wide-in-loop-w.result blank is,
      ),
    )

pub loop-w-preserved : goal.loop-w-preserved
loop-w-preserved c = λ t to.
    (let i = c.loop-w.w-index in
    let l : i < c.args.channel.now.hops = omega arith in
    let is = c.wide-in-loop-w.ensures ∙ hop_taken to c.wide.ensures i 0 l in
    let part = adds to c.from.ensures c.from-2.ensures in
    rw c.add.ensures
    (hop_filed t c.args.k c.loop-w.filed to.sound to.less i (short to i l) (c.loop-w.invariant t to) c.wide-in-loop-w.result blank is
    (c.from.result * c.from-2.result) part.0))

pub bounds-filed-wide-2 : goal.bounds-filed-wide-2
bounds-filed-wide-2 c =
    let t = c.requires.0 in
    let to = c.requires.1 in
    first_wire to (c.wide-2.ensures ∙ hop to 0 0 (some-hop to))

pub returns : goal.returns
returns c = λ t to.
    hops-end t c.args.k c.loop-w.filed to.sound to.less c.loop-w.w-index (omega (arith, (told to).hops)) (c.loop-w.invariant t to)
    c.wide-2.result blank (c.wide-2.ensures ∙ hop to 0 0 (some-hop to))
