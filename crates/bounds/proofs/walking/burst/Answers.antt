use Rattle.std.proofs.Common.{ℕ, List, ◌≡◌, ◌∙◌, ◌+◌, ◌*◌, ◌^◌, ◌<◌, length, get_or, take, refl, sym, ap, arith}
use Rattle.std.proofs.lemmas.List.Elements.{All-get_or}
use Rattle.rules.specs.declared.Table.{Table}
use Rattle.rules.specs.Words.{total}
use Rattle.bounds.specs.declared.filing.Filed.{Filed}
use Rattle.bounds.specs.Filed.{filed_under}
use Rattle.bounds.specs.Stages.{channel_in, Priced, share_in, Shared, Gathers}
use Rattle.bounds.proofs.Those.{total-take, total-more}
use Rattle.bounds.proofs.walking.burst.Goals as goal

-- channel k is the next
module _ {r : Table} {f : Filed} {jitters : List ℕ} (so : Gathers r f jitters) {xs : List ℕ} (is : xs ≡ filed_under f)
    (i : ℕ) (l : i < length xs) {k : ℕ} (e : k ≡ get_or xs i 0)
    {sum : ℕ} (here : sum ≡ total (share_in r jitters) (take i xs)) where
  shared : Shared r k
  shared = rw e (All-get_or (Shared r) xs i 0 l (rw is so.channels))

  next : total (share_in r jitters) (take (i + 1) xs) ≡ sum + share_in r jitters k
  next =
      total-more (share_in r jitters) i xs l
      ∙ ap (λ (n : ℕ). n + share_in r jitters (get_or xs i 0)) (sym here)
      ∙ ap (λ (n : ℕ). sum + share_in r jitters n) (sym e)

  next_small : sum + share_in r jitters k < 2 ^ 64
  next_small =
      omega (
        arith,
        next,
        total-take (share_in r jitters) (i + 1) xs,
        ap (λ (ys : List ℕ). total (share_in r jitters) ys) is,
        so.small,
      )

  -- with its price at hand
  module _ (prices : List ℕ) (priced : Priced r prices) where
    told_part : get_or prices k 0 * (channel_in r k).times < 2 ^ 64
    told_part = rw (priced k shared.below) shared.part_fits

    told_share :
        share_in r jitters k ≡ get_or prices k 0 * r.hyper + get_or prices k 0 * (channel_in r k).times * get_or jitters k 0
    told_share = rw (priced k shared.below) refl

pub loop-k-init : goal.loop-k-init
unfolding total
loop-k-init c = refl

pub share-sum-requires-clause-part_fits : goal.share-sum-requires-clause-part_fits
share-sum-requires-clause-part_fits c =
    let r = c.requires in
    let l : c.loop-k.k-index < length c.channels-k-items.result.now = omega arith in
    told_part r.gathers c.channels-k-items.ensures c.loop-k.k-index l c.wide-k.ensures c.loop-k.invariant c.args.price.now r.priced

pub share-sum-requires-clause-share_fits : goal.share-sum-requires-clause-share_fits
share-sum-requires-clause-share_fits c =
    let r = c.requires in
    let l : c.loop-k.k-index < length c.channels-k-items.result.now = omega arith in
    omega (
      arith,
      told_share r.gathers c.channels-k-items.ensures c.loop-k.k-index l c.wide-k.ensures c.loop-k.invariant c.args.price.now r.priced,
      next_small r.gathers c.channels-k-items.ensures c.loop-k.k-index l c.wide-k.ensures c.loop-k.invariant,
    )

pub overflow_add-sum : goal.overflow_add-sum
overflow_add-sum c =
    let r = c.requires in
    let l : c.loop-k.k-index < length c.channels-k-items.result.now = omega arith in
    omega (
      arith,
      c.share-sum.ensures,
      told_share r.gathers c.channels-k-items.ensures c.loop-k.k-index l c.wide-k.ensures c.loop-k.invariant c.args.price.now r.priced,
      next_small r.gathers c.channels-k-items.ensures c.loop-k.k-index l c.wide-k.ensures c.loop-k.invariant,
    )

pub loop-k-preserved : goal.loop-k-preserved
loop-k-preserved c =
    let r = c.requires in
    let l : c.loop-k.k-index < length c.channels-k-items.result.now = omega arith in
    omega (
      arith,
      c.share-sum.ensures,
      told_share r.gathers c.channels-k-items.ensures c.loop-k.k-index l c.wide-k.ensures c.loop-k.invariant c.args.price.now r.priced,
      next r.gathers c.channels-k-items.ensures c.loop-k.k-index l c.wide-k.ensures c.loop-k.invariant,
    )
