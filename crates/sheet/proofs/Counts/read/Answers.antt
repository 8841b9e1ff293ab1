-- Each return by the law of the test that failed.
use Rattle.std.proofs.Common.{ℕ, List, length, ◌≡◌, ◌∙◌, ◌+◌, ◌*◌, ◌-◌, ◌/◌, ◌<◌, ◌≤◌, ◌&&◌, false, Option, None, Some}
use Rattle.std.proofs.Common.{Ok, Err, IfSome, refl, sym, ap, ap₂, arith}
use Rattle.std.specs.Option.{is_some, ok_or}
use Rattle.std.proofs.lemmas.Option.{MatchOption-at_some}
use Rattle.std.proofs.lemmas.Result.{err_from_is_err_and}
use Rattle.bits.specs.Field.{field, taken_of, number_of}
use Rattle.bits.proofs.Laws.{number_at}
use Rattle.rules.specs.declared.Refusal.{Refusal}
use Rattle.rules.specs.Words.{between}
use Rattle.rules.specs.Numbers.{wires_bits, wires_most, channels_bits, channels_most}
use Rattle.rules.specs.Sheet.{figures_at, end_at, sheet_length, sheet_wires, sheet_channels}
use Rattle.rules.proofs.Sheet.Replies.{Counted, counts, tests_short, tests_counts, tests-length, tests_filling, tests_pass}
use Rattle.sheet.specs.declared.Counts.{Counts}
use Rattle.sheet.proofs.Counts.read.Goals as goal

-- what the option o is, by what `ok_or` made of it
none : {A E : Type 0} (d : E) {e : E} (o : Option A) → ok_or o d ≡ Err e → (o ≡ None) × (e ≡ d)
none d None h = (refl, cc h)
none d (Some x) h = absurd (cc h)

some : {A E : Type 0} (d : E) (o : Option A) (x : A) → ok_or o d ≡ Ok x → o ≡ Some x
some d None x h = absurd (cc h)
some d (Some y) x h = cc h

-- n are the counts in the head of s
record Head (s : List ℕ) (n : Counts) : Type 0 where
  two_bytes : 2 ≤ length s
  wires : n.wires ≡ sheet_wires s
  channels : n.channels ≡ sheet_channels s

-- of the numbers w and m that stand there
module _ (s : List ℕ) (two : 2 ≤ length s) {w m : ℕ} (wires : w ≡ number_of (taken_of s 0 wires_bits))
    (channels : m ≡ number_of (taken_of s wires_bits channels_bits)) where
  wires_told : w ≡ sheet_wires s
  unfolding sheet_wires
  wires_told = number_at s 0 wires_bits (omega arith) (omega arith) wires

  channels_told : m ≡ sheet_channels s
  unfolding sheet_channels
  channels_told = number_at s wires_bits channels_bits (omega arith) (omega arith) channels

  told : between 1 w wires_most && between 1 m channels_most ≡ counts s
  told = ap₂ (λ (n m : ℕ). between 1 n wires_most && between 1 m channels_most) wires_told channels_told

  head : (d : Refusal) (n : Counts) (o : Option Counts) → ok_or o d ≡ Ok n
      → IfSome o (λ x. (x.wires ≡ w) × (x.channels ≡ m)) → Head s n
  head d n o e h =
      let is = MatchOption-at_some _ _ n (some d o n e) h in
      record { two_bytes = two; wires = is.0 ∙ wires_told; channels = is.1 ∙ channels_told }

module _ (s : List ℕ) (n : Counts) (h : Head s n) where
  counted : Counted s
  counted =
      record {
        two_bytes = h.two_bytes;
        wires_at_least = omega arith;
        wires_at_most = omega arith;
        channels_at_least = omega arith;
        channels_at_most = omega arith;
      }

  -- where the last field ends
  ended : {end : ℕ} → end ≡ end_at n.wires n.channels → end ≡ end_at (sheet_wires s) (sheet_channels s)
  ended e = e ∙ ap₂ end_at h.wires h.channels

-- the bits after the last field are fewer than 8
filling : (s : List ℕ) (end number : ℕ) → length s ≡ (end + 7) / 8 → number ≡ number_of (taken_of s end (8 * length s - end))
    → number ≡ field s end (8 * length s - end)
filling s end number e = number_at s end _ (omega arith) (omega arith)

-- there are fewer than 1000 bytes
low : (n : Counts) {length : ℕ} → length ≡ sheet_length n.wires n.channels → length < 1000
unfolding figures_at end_at sheet_length
low n e = omega arith

pub returns-then-sheet-lt-HEAD_BYTES-clause-tests : goal.returns-then-sheet-lt-HEAD_BYTES-clause-tests
returns-then-sheet-lt-HEAD_BYTES-clause-tests c rest = tests_short c.args.sheet.now rest c.if-sheet-lt-HEAD_BYTES.true

pub returns-in_err-counts-clause-tests : goal.returns-in_err-counts-clause-tests
returns-in_err-counts-clause-tests c rest =
    let s = c.args.sheet.now in
    let p = err_from_is_err_and c.from_residual.result c.from_residual.ensures.1 in
    let two = c.if-sheet-lt-HEAD_BYTES.false in
    let h = none _ c.new.result (sym c.ok_or.ensures.value ∙ c.in_err-counts.was {u = tt}) in
    let e : counts s ≡ false
    = sym (told s two c.number-wires.ensures c.number-channels.ensures) ∙ sym c.new.ensures.answer ∙ ap is_some h.0 in
    rw (p.1, p.2, h.1) (tests_counts s rest two e)

pub returns-then-sheet-length-clause-tests : goal.returns-then-sheet-length-clause-tests
unfolding sheet_length
returns-then-sheet-length-clause-tests c rest =
    let s = c.args.sheet.now in
    let n = c.in_ok-counts.counts in
    let h = head s c.if-sheet-lt-HEAD_BYTES.false c.number-wires.ensures c.number-channels.ensures _ n c.new.result
    (sym c.ok_or.ensures.value ∙ c.in_ok-counts.was {u = tt}) c.new.ensures.counts in
    tests-length s rest (counted s n h) _ (ended s n h refl) (λ e. c.if-sheet-length.true (e ∙ sym c.length.ensures))

pub overflow_mul-sheet : goal.overflow_mul-sheet
overflow_mul-sheet c = omega (arith, low c.in_ok-counts.counts c.length.ensures)

pub overflow_sub-sheet : goal.overflow_sub-sheet
unfolding sheet_length
overflow_sub-sheet c = omega arith

pub returns-then-number-ne0-clause-tests : goal.returns-then-number-ne0-clause-tests
unfolding sheet_length
returns-then-number-ne0-clause-tests c rest =
    let s = c.args.sheet.now in
    let n = c.in_ok-counts.counts in
    let h = head s c.if-sheet-lt-HEAD_BYTES.false c.number-wires.ensures c.number-channels.ensures _ n c.new.result
    (sym c.ok_or.ensures.value ∙ c.in_ok-counts.was {u = tt}) c.new.ensures.counts in
    let end = c.end_at-end.result in
    let all : length s ≡ (end + 7) / 8 = omega arith in
    let found = filling s end c.number.result all c.number.ensures in
    tests_filling s rest (counted s n h) end (ended s n h c.end_at-end.ensures) all (omega arith)

pub returns-clause-tests : goal.returns-clause-tests
unfolding sheet_length
returns-clause-tests c rest =
    let s = c.args.sheet.now in
    let n = c.in_ok-counts.counts in
    let h = head s c.if-sheet-lt-HEAD_BYTES.false c.number-wires.ensures c.number-channels.ensures _ n c.new.result
    (sym c.ok_or.ensures.value ∙ c.in_ok-counts.was {u = tt}) c.new.ensures.counts in
    let end = c.end_at-end.result in
    let all : length s ≡ (end + 7) / 8 = omega arith in
    let found = filling s end c.number.result all c.number.ensures in
    tests_pass s rest (counted s n h) end (ended s n h c.end_at-end.ensures) all (omega arith)

pub returns-clause-counts : goal.returns-clause-counts
returns-clause-counts c =
    let s = c.args.sheet.now in
    let n = c.in_ok-counts.counts in
    let h = head s c.if-sheet-lt-HEAD_BYTES.false c.number-wires.ensures c.number-channels.ensures _ n c.new.result
    (sym c.ok_or.ensures.value ∙ c.in_ok-counts.was {u = tt}) c.new.ensures.counts in
    (h.wires, h.channels)
