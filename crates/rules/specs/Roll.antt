-- Request Q-1, names beside the numbers: the label roll, and asking it for a channel's label.
use Rattle.std.specs.Prelude.{Bool, ◌&&◌, List, [], ◌∷◌, ℕ, zero, suc, ◌+◌, ◌*◌, length, get_or, take, drop, leb, ltb, eqb}
use Rattle.rules.specs.Words.{between, every}
use Rattle.rules.specs.Numbers.{channels_most}
use Rattle.rules.specs.Replies.{Reply, granted, refused, test}

-- The longest label, and with 128 of them the longest roll.
abbrev pub label_most : ℕ
label_most = 24

abbrev pub roll_longest : ℕ
roll_longest = 1 + channels_most * (1 + label_most)

-- A byte for the count (1 to 128).
abbrev pub labels : List ℕ → ℕ
labels roll = get_or roll 0 0

-- Then for each channel a length byte and that many bytes: where the next length byte stands.
abbrev pub behind : List ℕ → ℕ → ℕ
behind roll at = at + 1 + get_or roll at 0

-- Where the length byte of label k stands.
unfoldable pub length_at : List ℕ → ℕ → ℕ
length_at roll zero = 1
length_at roll (suc k) = behind roll (length_at roll k)

-- The label's stretch: where it starts, its length, its bytes.
abbrev pub label_start : List ℕ → ℕ → ℕ
label_start roll k = length_at roll k + 1

abbrev pub label_length : List ℕ → ℕ → ℕ
label_length roll k = get_or roll (length_at roll k) 0

abbrev pub label : List ℕ → ℕ → List ℕ
label roll k = take (label_length roll k) (drop (label_start roll k) roll)

-- Of the label whose length byte stands at `at`: a length byte (1 to 24) and that many bytes, each from 32 to 126.
unfoldable pub sound_at : List ℕ → ℕ → Bool
sound_at roll at =
    between 1 (get_or roll at 0) label_most
    && leb (behind roll at) (length roll)
    && every (λ i. between 32 (get_or roll (at + 1 + i) 0) 126) (get_or roll at 0)

-- The first n labels are sound.
abbrev pub sound_labels : List ℕ → ℕ → Bool
sound_labels roll n = every (λ k. sound_at roll (length_at roll k)) n

-- A sound roll: the count, its labels, and nothing after.
unfoldable pub sound_roll : List ℕ → Bool
sound_roll roll =
    between 1 (labels roll) channels_most && sound_labels roll (labels roll) && eqb (length_at roll (labels roll)) (length roll)

-- "The whole roll is tested first": 21 for any fault in the roll, then 22 for a number not below the count, place 0.
unfoldable pub ask_label : List ℕ → ℕ → Reply
ask_label roll number =
    test (sound_roll roll) 21 0
    (test (ltb number (labels roll)) 22 0 (granted (label_start roll number ∷ label_length roll number ∷ [])))

-- What is handed back of a byte string: the stretch that was granted; "a refusal hands back an empty stretch".
unfoldable pub stretch_start : Reply → ℕ
stretch_start (granted (start ∷ _)) = start
stretch_start (granted []) = 0
stretch_start (refused number place) = 0

unfoldable pub stretch_length : Reply → ℕ
stretch_length (granted (start ∷ length ∷ _)) = length
stretch_length (granted (start ∷ [])) = 0
stretch_length (granted []) = 0
stretch_length (refused number place) = 0

abbrev pub stretch : Reply → List ℕ → List ℕ
stretch reply bytes = take (stretch_length reply) (drop (stretch_start reply) bytes)
