-- Of arrays and their first entries.
use Rattle.std.proofs.Common.{ℕ, zero, suc, List, length, get_or, take, ◌≡◌, ◌∙◌, ◌^◌, ◌≤◌, ◌&&◌, Bool, true, false}
use Rattle.std.proofs.Common.{refl, sym, add-one, arith}
use Rattle.std.specs.List.{list_all}
use Rattle.std.proofs.lemmas.List.{length-take}
use Rattle.std.proofs.lemmas.List.Folds.{list_all_more}
use lib.Dec.{ltb}
use borrow.Author.Tests.{le-leb}
use Rattle.rules.specs.declared.Figures.{Figures}
use Rattle.rules.specs.Words.{every}
use Rattle.rules.specs.Numbers.{wires_most, channels_most, backlog_bits, delay_bits, end_bits}
use Rattle.rules.specs.Decoded.{no_wire_figures, backlog_in, delay_in}
use Rattle.rules.specs.Sheet.{fits}
use Rattle.sheet.specs.declared.Counts.{Counts}
use Rattle.sheet.proofs.fit.Goals as goal

and_both : (a b c d : Bool) → (a && b) && (c && d) ≡ (a && c) && (b && d)
and_both true true c d = refl
and_both true false true d = refl
and_both true false false d = refl
and_both false b c d = refl

every_both : (f g : ℕ → Bool) (n : ℕ) → every (λ i. f i && g i) n ≡ every f n && every g n
unfolding every
every_both f g zero = refl
every_both f g (suc n) = rw (every_both f g n) (and_both (every f n) (every g n) (f n) (g n))

-- of the first n entries each passes
all-every : {A : Type 0} (test : A → Bool) (d : A) (a : List A) (n : ℕ) → n ≤ length a
    → list_all test (take n a) ≡ every (λ i. test (get_or a i d)) n
unfolding every
all-every test d a zero l = refl
all-every test d a (suc n) l =
    rw (← add-one n, list_all_more test a n d (omega arith), all-every test d a n (omega arith))

module _ (n : Counts) (f : Figures) (wires : length (take n.wires f.wire) ≡ n.wires)
    (channels : length (take n.channels f.end) ≡ n.channels) where
  fits-all : fits n.wires n.channels f
      ≡ list_all (λ x. ltb x.backlog (2 ^ backlog_bits) && ltb x.delay (2 ^ delay_bits)) (take n.wires f.wire)
      && list_all (λ x. ltb x (2 ^ end_bits)) (take n.channels f.end)
  unfolding fits
  fits-all =
      rw (
        all-every (λ x. ltb x.backlog (2 ^ backlog_bits) && ltb x.delay (2 ^ delay_bits)) no_wire_figures f.wire n.wires
            (omega (arith, length-take n.wires f.wire)),
        all-every (λ x. ltb x (2 ^ end_bits)) 0 f.end n.channels (omega (arith, length-take n.channels f.end)),
        every_both (λ w. ltb (backlog_in f w) (2 ^ backlog_bits)) (λ w. ltb (delay_in f w) (2 ^ delay_bits)) n.wires,
        le-leb 1 n.wires (omega arith),
        le-leb n.wires wires_most (omega arith),
        le-leb 1 n.channels (omega arith),
        le-leb n.channels channels_most (omega arith),
      )

pub returns-then-wires_fit : goal.returns-then-wires_fit
returns-then-wires_fit c =
    let a = c.args in
    c.ends_fit.ensures
    ∙ sym (fits-all a.counts a.figures.now (omega arith) (omega arith) ∙ rw (sym c.wires_fit.ensures ∙ c.if-wires_fit.true))

pub returns-else-wires_fit : goal.returns-else-wires_fit
returns-else-wires_fit c =
    let a = c.args in
    c.if-wires_fit.false
    ∙ sym (fits-all a.counts a.figures.now (omega arith) (omega arith) ∙ rw (sym c.wires_fit.ensures ∙ c.if-wires_fit.false))
