-- Words that several sections use.
use Rattle.std.specs.Prelude.{Bool, true, false, cond, ◌&&◌, ◌||◌, List, [], ◌∷◌, ◌++◌, ℕ, zero, suc, ◌+◌, ◌-◌, ◌/◌, get_or, leb, eqb}

-- f 0 + f 1 + .. + f (n - 1)
unfoldable pub sum : (ℕ → ℕ) → ℕ → ℕ
sum f zero = 0
sum f (suc n) = sum f n + f n

-- the sum of f over a list
unfoldable pub total : {A : Type 0} → (A → ℕ) → List A → ℕ
total f [] = 0
total f (x ∷ xs) = f x + total f xs

-- f 0, f 1, .. f (n - 1)
unfoldable pub listed : {A : Type 0} → (ℕ → A) → ℕ → List A
listed f zero = []
listed f (suc n) = listed f n ++ (f n ∷ [])

-- f 0 ++ f 1 ++ .. ++ f (n - 1)
unfoldable pub gathered : {A : Type 0} → (ℕ → List A) → ℕ → List A
gathered f zero = []
gathered f (suc n) = gathered f n ++ f n

-- a / b, rounded up
abbrev pub up : ℕ → ℕ → ℕ
up a b = (a + (b - 1)) / b

-- low ≤ x ≤ high
abbrev pub between : ℕ → ℕ → ℕ → Bool
between low x high = leb low x && leb x high

-- x, and no more than most
abbrev pub cut : ℕ → ℕ → ℕ
cut x most = cond (leb x most) x most

-- x where the test holds, else 0
abbrev pub only : Bool → ℕ → ℕ
only ok x = cond ok x 0

-- the number w is in the list
unfoldable pub has : ℕ → List ℕ → Bool
has w [] = false
has w (x ∷ xs) = eqb x w || has w xs

-- the list begins with the number w
unfoldable pub begins : ℕ → List ℕ → Bool
begins w [] = false
begins w (x ∷ xs) = eqb x w

-- what stands in a list at each place, and 0 past its end
abbrev pub entries : List ℕ → ℕ → ℕ
entries a i = get_or a i 0

-- the test holds of 0, and 1, .. and n - 1
unfoldable pub every : (ℕ → Bool) → ℕ → Bool
every f zero = true
every f (suc n) = every f n && f n

-- the test holds of 0, or 1, .. or n - 1
unfoldable pub some : (ℕ → Bool) → ℕ → Bool
some f zero = false
some f (suc n) = some f n || f n
