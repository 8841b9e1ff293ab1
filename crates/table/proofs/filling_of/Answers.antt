-- What is left of the last byte is the filling.
use Rattle.std.proofs.Common.{ℕ, List, length, ◌≡◌, ◌∙◌, ◌+◌, ◌-◌, ◌*◌, ◌≤◌, sym, arith}
use Rattle.bits.specs.Field.{taken_of, number_of}
use Rattle.bits.proofs.Laws.{number_at}
use Rattle.rules.specs.Table.{end_of, filling_of}
use Rattle.rules.proofs.Tables.Search.{filling_is, filling_long, filling_not_0, filling_passes}
use Rattle.table.proofs.filling_of.Goals as goal
use Rattle.table.proofs.filling_of.Goals.{then-div_ceil-s-via-then-div_ceil-s}
use Rattle.table.proofs.filling_of.Goals.{then-div_ceil-s-via-else-div_ceil-s+then-number-ne0}

filled :
    (s : List ℕ) (end : ℕ) {n : ℕ} → n ≡ number_of (taken_of s end (8 * length s - end)) → end ≡ end_of s → end ≤ 8 * length s →
    8 * length s ≤ end + 7 → n ≡ filling_of s (end_of s)
filled s end told is some near =
    filling_is s end (8 * length s - end) (number_at s _ (8 * length s - end) (omega arith) (omega arith) told) is (omega arith)

pub returns-then-div_ceil-s : goal.returns-then-div_ceil-s
returns-then-div_ceil-s c =
    let s = c.args.s.now in
    elim c.then-div_ceil-s.branch [
      | then-div_ceil-s-via-then-div_ceil-s w ↦ filling_long s (omega (arith, c.requires.end_value))
      | then-div_ceil-s-via-else-div_ceil-s+then-number-ne0 w ↦
          filling_not_0 s (λ e. w.if-number-ne0.true
          (filled s c.args.end w.number.ensures c.requires.end_value (omega arith) (omega arith) ∙ e))
    ]

pub returns : goal.returns
returns c =
    filling_passes c.args.s.now (omega (arith, c.requires.end_value))
    (sym (filled c.args.s.now c.args.end c.number.ensures c.requires.end_value (omega arith) (omega arith))
    ∙ c.if-number-ne0.false)
