-- What a channel's numbers must be, whatever they are taken from: tests 6 to 10 over values. `c` is the place.
use Rattle.std.specs.Prelude.{Bool, ◌&&◌, List, [], ◌∷◌, ℕ, suc, ◌%◌, leb, ltb, eqb}
use Rattle.rules.specs.Words.{between}
use Rattle.rules.specs.Numbers.{hops_most}
use Rattle.rules.specs.Replies.{Reply, test}
use Rattle.rules.specs.Price.{payload_test}

-- p divides h, and is not 0
abbrev pub divides : ℕ → ℕ → Bool
divides p h = ltb 0 p && eqb (h % p) 0

-- 6: payload 0 or over 65,535. 7: period 0 or no divisor of H. 8: hops 0 or over 8.
unfoldable pub value_tests : ℕ → ℕ → ℕ → ℕ → ℕ → Reply → Reply
value_tests c hyper payload period hops rest =
    payload_test c payload (test (divides period hyper) 7 c (test (between 1 hops hops_most) 8 c rest))

-- 9 and 10 hop by hop, 9 before 10. 9: route names a wire not below n. 10: route wire not above the one before; `least` is
-- the least wire that is above it, and 0 at the first hop.
unfoldable pub hop_tests : ℕ → ℕ → ℕ → List ℕ → Reply → Reply
hop_tests n c least [] rest = rest
hop_tests n c least (x ∷ xs) rest = test (ltb x n) 9 c (test (leb least x) 10 c (hop_tests n c (suc x) xs rest))

abbrev pub route_tests : ℕ → ℕ → List ℕ → Reply → Reply
route_tests n c route rest = hop_tests n c 0 route rest
