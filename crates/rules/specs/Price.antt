-- The price of a message.
use Rattle.std.specs.Prelude.{cond, List, [], ◌∷◌, ◌++◌, ℕ, ◌+◌, ◌*◌, ◌/◌, ◌%◌, length, get_or, replicate, leb, ltb, eqb}
use Rattle.rules.specs.declared.Row.{Row}
use Rattle.rules.specs.Words.{between}
use Rattle.rules.specs.Numbers.{payload_most}
use Rattle.rules.specs.Replies.{Reply, granted, test}

-- The table of framings has one row each: plain 1,492 data, 50 overhead, 38 least data; with IP and UDP 1,464, 78, 10. These are
-- request Q-2's: document 01's 46 and 74, and the 4 bytes of the priority tag; makers pad before it is put in, so the least
-- data stays.
abbrev pub rows : List Row
rows =
    record { most = 1492; overhead = 50; least = 38 }
    ∷ record { most = 1464; overhead = 78; least = 10 }
    ∷ []

abbrev pub no_row : Row
no_row = record { most = 0; overhead = 0; least = 0 }

abbrev pub row_of : ℕ → Row
row_of framing = get_or rows framing no_row

-- Bytes on the wire of a full frame, and of the smallest.
abbrev pub full_frame : ℕ
full_frame = 1542

abbrev pub small_frame : ℕ
small_frame = 88

-- A remainder of at least the least data adds one frame of remainder + overhead; a smaller nonzero remainder adds the
-- smallest; a zero remainder adds nothing.
unfoldable pub last_bytes : Row → ℕ → ℕ
last_bytes row rest = cond (eqb rest 0) 0 (cond (leb row.least rest) (rest + row.overhead) small_frame)

-- Payload L gives (L div data) full frames, and the last.
unfoldable pub price : ℕ → ℕ → ℕ
price framing payload =
    payload / (row_of framing).most * full_frame + last_bytes (row_of framing) (payload % (row_of framing).most)

-- The frames that a message is cut into: full ones, and at most one last.
unfoldable pub last_frame : Row → ℕ → List ℕ
last_frame row rest = cond (eqb rest 0) [] (last_bytes row rest ∷ [])

unfoldable pub frames : ℕ → ℕ → List ℕ
frames framing payload =
    replicate (payload / (row_of framing).most) full_frame ++ last_frame (row_of framing) (payload % (row_of framing).most)

-- 6: payload 0 or over 65,535.
abbrev pub payload_test : ℕ → ℕ → Reply → Reply
payload_test place payload rest = test (between 1 payload payload_most) 6 place rest

-- Asking a price: 20 framing other than 0 or 1, then 6.
unfoldable pub ask_price : ℕ → ℕ → Reply
ask_price framing payload =
    test (ltb framing (length rows)) 20 0 (payload_test 0 payload (granted (price framing payload ∷ [])))
