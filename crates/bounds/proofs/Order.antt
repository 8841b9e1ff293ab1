-- 12, then 13.
use mathlib.Core.Path.{◌≡◌, ◌∙◌}
use Rattle.std.specs.Prelude.{Result, Ok, Err}
use Rattle.rules.specs.declared.Refusal.{Refusal}
use Rattle.rules.specs.Replies.{Answered}
use Rattle.rules.specs.Table.{View}
use Rattle.rules.specs.Judgement.{load_tests, room_tests, bounds_tests}
use Rattle.rules.proofs.Answers.{Refused}
use Rattle.rules.proofs.Tests.{Through}

module _ {A : Type 0} (t : View) (a : Result A Refusal) (loads : Answered (load_tests t) a) where
  pub loads-stop : (r : Refusal) → a ≡ Err r → Refused (bounds_tests t) r
  unfolding bounds_tests
  loads-stop r e rest = loads _ ∙ rw e

  module _ (x : A) (e : a ≡ Ok x) where
    pub loads-through : Through (load_tests t)
    loads-through rest = loads rest ∙ rw e

    pub rooms-after : {B : Type 0} (b : Result B Refusal) → Answered (room_tests t) b → Answered (bounds_tests t) b
    unfolding bounds_tests
    rooms-after b rooms rest = loads-through _ ∙ rooms rest
