-- The judgement: tests 12 to 15 after 1 to 11, the reply, and the lent buffer afterwards.
use Rattle.std.specs.Prelude.{List, [], ◌∷◌, ◌++◌, ℕ, ◌-◌, ◌*◌, replicate, leb}
use Rattle.rules.specs.Replies.{Reply, granted, refused, test, each}
use Rattle.rules.specs.Table.{View, view_of}
use Rattle.rules.specs.Reading.{reading_tests}
use Rattle.rules.specs.Bounds.{load, backlog, delay, end_to_end}
use Rattle.rules.specs.Sheet.{sheet_length, sheet_of}

-- 12: load over rate × H. Allowed up to rate × H, that value included.
unfoldable pub load_test : View → ℕ → Reply → Reply
load_test t w rest = test (leb (load t w) (t.rate w * t.hyper)) 12 w rest

-- 13: backlog over the wire's room.
unfoldable pub room_test : View → ℕ → Reply → Reply
room_test t w rest = test (leb (backlog t w) (t.room w)) 13 w rest

-- 14: end-to-end delay over deadline.
unfoldable pub deadline_test : View → ℕ → Reply → Reply
deadline_test t k rest = test (leb (end_to_end t k) (t.deadline k)) 14 k rest

-- 12 over all wires, 13 over all wires, 14 over all channels, each lowest number first.
abbrev pub load_tests : View → Reply → Reply
load_tests t rest = each (load_test t) 0 t.wires rest

abbrev pub room_tests : View → Reply → Reply
room_tests t rest = each (room_test t) 0 t.wires rest

abbrev pub deadline_tests : View → Reply → Reply
deadline_tests t rest = each (deadline_test t) 0 t.channels rest

-- 12 and 13, which leave every figure.
unfoldable pub bounds_tests : View → Reply → Reply
bounds_tests t rest = load_tests t (room_tests t rest)

-- The reply to working out the bounds alone: 1 to 13.
unfoldable pub bounding : List ℕ → Reply
bounding s = reading_tests s (bounds_tests (view_of s) (granted []))

abbrev pub length_of : View → ℕ
length_of t = sheet_length t.wires t.channels

-- Then 15: lent buffer shorter than the sheet. Acceptance returns the sheet's length in bytes.
unfoldable pub judge : List ℕ → ℕ → Reply
judge s lent =
    reading_tests s
    (bounds_tests (view_of s)
    (deadline_tests (view_of s)
    (test (leb (length_of (view_of s)) lent) 15 0 (granted (length_of (view_of s) ∷ [])))))

unfoldable pub sheet : View → List ℕ
sheet t = sheet_of t.wires t.channels (backlog t) (delay t) (end_to_end t)

-- The lent buffer's bytes after the sheet are 255. Every refusal of a table fills the whole lent buffer with 255.
unfoldable pub leaves : Reply → View → ℕ → List ℕ
leaves (granted values) t lent = sheet t ++ replicate (lent - length_of t) 255
leaves (refused number place) t lent = replicate lent 255

unfoldable pub buffer : List ℕ → ℕ → List ℕ
buffer s lent = leaves (judge s lent) (view_of s) lent
