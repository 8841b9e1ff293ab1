-- The digits of n are those of rest, and those that stand from the place on.
use Rattle.std.proofs.Common.{◌^◌, ◌<◌, ◌≡◌, ◌++◌, drop}
use Rattle.rules.specs.Text.{digits_most, decimal}
use Rattle.words.proofs.digits.Given as goal

abbrev pub invariant-loop-at : goal.invariant-loop-at
invariant-loop-at l = record {
  some : l.at < digits_most → 0 < l.rest;
  room : l.rest < 10 ^ l.at;
  stand : decimal l.n ≡ decimal l.rest ++ drop l.at l.row;
}
