-- What is filed under a wire.
use Rattle.std.specs.Prelude.{◌≡◌, Bool, false, cond, List, [], ◌∷◌, ◌++◌, ℕ, zero, suc, ◌+◌, ◌*◌, length, take, replicate, ltb}
use Rattle.std.specs.Prelude.{slice_set}
use Rattle.bounds.specs.declared.filing.Filed.{Filed}
use Rattle.rules.specs.Words.{sum, only}
use Rattle.rules.specs.Numbers.{channels_most}
use Rattle.rules.specs.Price.{full_frame}

abbrev pub no_filed : Filed
no_filed = record { list = replicate channels_most 0; count = 0; load = 0; first = false }

-- one channel more, and its part of the load
abbrev pub filed_with : Filed → ℕ → ℕ → Filed
filed_with f k part =
    record { list = slice_set f.list f.count k; count = f.count + 1; load = f.load + part; first = f.first }

abbrev pub filed_under : Filed → List ℕ
filed_under f = take f.count f.list

abbrev pub carries : Filed → Bool
carries f = ltb 0 f.count

-- the bytes that Q-4's K goes by
abbrev pub ahead : Filed → ℕ
ahead f = cond f.first (2 * full_frame) full_frame

-- a list, with k after it where the test holds
abbrev pub with_last : Bool → ℕ → List ℕ → List ℕ
with_last ok k xs = cond ok (xs ++ (k ∷ [])) xs

-- the numbers below c that are in, in ascending order
unfoldable pub those : (ℕ → Bool) → ℕ → List ℕ
those inside zero = []
those inside (suc c) = with_last (inside c) c (those inside c)

-- the sum of f over the numbers below c that are in
abbrev pub tally : (ℕ → Bool) → (ℕ → ℕ) → ℕ → ℕ
tally inside f c = sum (λ k. only (inside k) (f k)) c

-- Under a wire the channels below c that are in are filed, with their parts of the load; and channel c where that is done.
pub record Holds (inside : ℕ → Bool) (part : ℕ → ℕ) (c : ℕ) (done : Bool) (f : Filed) : Type 0 where
  pub room : length f.list ≡ channels_most
  pub channels : filed_under f ≡ with_last done c (those inside c)
  pub count : f.count ≡ length (with_last done c (those inside c))
  pub load : f.load ≡ tally inside part c + only done (part c)
