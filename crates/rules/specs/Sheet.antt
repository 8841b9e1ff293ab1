-- The sheet, bit by bit; writing it and asking it.
use Rattle.std.specs.Prelude.{Bool, Option, Some, None, cond, ◌&&◌, List, [], ◌∷◌, ◌++◌, ℕ, zero, suc, ◌+◌, ◌-◌, ◌*◌, ◌^◌, length, replicate, leb, ltb, eqb}
use Rattle.bits.specs.Field.{field, put_field}
use Rattle.rules.specs.declared.Figures.{Figures}
use Rattle.rules.specs.Words.{up, between, every}
use Rattle.rules.specs.Numbers.{wires_bits, wires_most, channels_bits, channels_most}
use Rattle.rules.specs.Numbers.{sheet_head_bits, backlog_bits, delay_bits, figures_bits, end_bits}
use Rattle.rules.specs.Replies.{Reply, granted, test}
use Rattle.rules.specs.Table.{filling_of}
use Rattle.rules.specs.Decoded.{backlog_in, delay_in, end_in}

-- n (7), m (8), for each wire its backlog (24) and delay (24), for each channel its end-to-end delay (28)
unfoldable pub figures_at : ℕ → ℕ
figures_at w = sheet_head_bits + figures_bits * w

unfoldable pub end_at : ℕ → ℕ → ℕ
end_at n k = figures_at n + end_bits * k

unfoldable pub sheet_length : ℕ → ℕ → ℕ
sheet_length n m = up (end_at n m) 8

-- the fields written one after the other into bytes of 0, whose last bits are the filling
unfoldable pub with_head : ℕ → ℕ → List ℕ → List ℕ
with_head n m b = put_field (put_field b 0 wires_bits n) wires_bits channels_bits m

unfoldable pub with_wires : (ℕ → ℕ) → (ℕ → ℕ) → ℕ → List ℕ → List ℕ
with_wires backlog delay zero b = b
with_wires backlog delay (suc w) b =
    put_field (put_field (with_wires backlog delay w b) (figures_at w) backlog_bits (backlog w))
    (figures_at w + backlog_bits) delay_bits (delay w)

unfoldable pub with_channels : ℕ → (ℕ → ℕ) → ℕ → List ℕ → List ℕ
with_channels n end zero b = b
with_channels n end (suc k) b = put_field (with_channels n end k b) (end_at n k) end_bits (end k)

unfoldable pub sheet_of : ℕ → ℕ → (ℕ → ℕ) → (ℕ → ℕ) → (ℕ → ℕ) → List ℕ
sheet_of n m backlog delay end =
    with_channels n end m (with_wires backlog delay n (with_head n m (replicate (sheet_length n m) 0)))

-- Writing a sheet into a lent buffer: its counts are in their ranges, each figure fits its field, and the buffer holds it.
unfoldable pub fits : ℕ → ℕ → Figures → Bool
fits n m f =
    between 1 n wires_most
    && between 1 m channels_most
    && every (λ w. ltb (backlog_in f w) (2 ^ backlog_bits)) n
    && every (λ w. ltb (delay_in f w) (2 ^ delay_bits)) n
    && every (λ k. ltb (end_in f k) (2 ^ end_bits)) m

abbrev pub writes : ℕ → ℕ → Figures → ℕ → Bool
writes n m f lent = fits n m f && leb (sheet_length n m) lent

abbrev pub written_of : ℕ → ℕ → Figures → ℕ → Option ℕ
written_of n m f lent = cond (writes n m f lent) (Some (sheet_length n m)) None

-- the lent buffer afterwards: the sheet and 255 after it, or 255 alone
abbrev pub wrote_sheet : ℕ → ℕ → Figures → ℕ → List ℕ
wrote_sheet n m f lent =
    cond (writes n m f lent)
    (sheet_of n m (backlog_in f) (delay_in f) (end_in f) ++ replicate (lent - sheet_length n m) 255)
    (replicate lent 255)

-- Asking a sheet for a wire or a channel.
unfoldable pub sheet_wires : List ℕ → ℕ
sheet_wires s = field s 0 wires_bits

unfoldable pub sheet_channels : List ℕ → ℕ
sheet_channels s = field s wires_bits channels_bits

-- Order: under 2 bytes (16); 17 a count outside its range; not the length its counts need (16); 18 a filling bit not 0.
unfoldable pub sheet_tests : List ℕ → Reply → Reply
sheet_tests s rest =
    test (leb 2 (length s)) 16 0
    (test (between 1 (sheet_wires s) wires_most) 17 0
    (test (between 1 (sheet_channels s) channels_most) 17 0
    (test (eqb (length s) (sheet_length (sheet_wires s) (sheet_channels s))) 16 0
    (test (eqb (filling_of s (end_at (sheet_wires s) (sheet_channels s))) 0) 18 0 rest))))

-- Then 19: no such wire or channel.
unfoldable pub ask_wire : List ℕ → ℕ → Reply
ask_wire s w =
    sheet_tests s
    (test (ltb w (sheet_wires s)) 19 0
    (granted (field s (figures_at w) backlog_bits ∷ field s (figures_at w + backlog_bits) delay_bits ∷ [])))

unfoldable pub ask_channel : List ℕ → ℕ → Reply
ask_channel s k =
    sheet_tests s
    (test (ltb k (sheet_channels s)) 19 0
    (granted (field s (end_at (sheet_wires s) k) end_bits ∷ [])))
