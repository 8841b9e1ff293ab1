-- The labels so far are sound, and end at `at`.
use Rattle.std.proofs.Common.{◌≡◌, true}
use Rattle.rules.specs.Roll.{length_at, sound_labels}
use Rattle.roll.proofs.end_of.Given as goal

abbrev pub invariant-loop : goal.invariant-loop
invariant-loop l = record {
  sound : sound_labels l.roll l.counter ≡ true;
  there : l.at ≡ length_at l.roll l.counter;
}
