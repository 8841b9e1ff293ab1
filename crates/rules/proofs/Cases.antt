-- The marked cases hold, by computation.
use mathlib.Core.Path.{◌≡◌, refl}
use mathlib.Core.List.{[], ◌∷◌}
use Prim.Native.Nat.{ℕ}
use lib.ListN.{get_or, replicate}
use Rattle.bits.specs.Field.{bit, field, put_bit, put_field}
use Rattle.rules.specs.Words.{sum, total, listed, gathered, has, begins, some}
use Rattle.rules.specs.Replies.{granted, refused, test, each}
use Rattle.rules.specs.Price.{last_bytes, price, ask_price}
use Rattle.rules.specs.Table.{hyper_of, wires_of, channels_of, wire_at, code_of, rate_of, prop_of, room_of, framing_at}
use Rattle.rules.specs.Table.{payload_at, period_at, deadline_at, hops_at, route_at, channel_at, end_of, filling_of}
use Rattle.rules.specs.Channel.{value_tests, hop_tests}
use Rattle.rules.specs.Reading.{head_tests, wire_tests, record_tests, channel_tests, filling_tests, reading_tests, reading}
use Rattle.rules.specs.Office.{K}
use Rattle.rules.specs.Bounds.{load_of, load, along, jitter, share_of, burst, backlog_after}
use Rattle.rules.specs.Bounds.{delay_after, delays_below, backlog, delay, end_to_end}
use Rattle.rules.specs.Sheet.{figures_at, end_at, sheet_length, with_head, with_wires, with_channels, sheet_of}
use Rattle.rules.specs.Judgement.{load_test, room_test, deadline_test, bounds_tests, judge, sheet, leaves, buffer}
use Rattle.rules.specs.Text.{word, digits, decimal, spaced, line, lines, accepted_text, refused_text, text_of, text}
use Rattle.rules.specs.Cases.{Case, priced, case_a, case_a_sheet, case_a_late, cases, Same}
use Rattle.rules.specs.Cases.{MarkedCases, all, ◌and◌, figures_of, evaluate}

-- what the cases are computed by
unfoldable definitions : Unit {0}
unfolding bit field put_bit put_field sum total has begins some test each last_bytes price ask_price hyper_of wires_of channels_of
    wire_at code_of rate_of prop_of room_of framing_at payload_at period_at deadline_at hops_at route_at channel_at end_of filling_of
    head_tests wire_tests value_tests hop_tests record_tests channel_tests filling_tests reading_tests reading load_of load along
    jitter share_of K burst backlog_after delay_after delays_below backlog delay end_to_end figures_at end_at sheet_length with_head
    with_wires with_channels sheet_of load_test room_test deadline_test bounds_tests judge sheet leaves buffer listed figures_of
    word digits decimal spaced line lines accepted_text refused_text text_of text gathered evaluate
definitions = tt

abbrev nth : ℕ → Case
nth n = get_or {A = Case} cases n (priced 0 0 0)

abbrev Row : ℕ → Type 0
Row n = Same (evaluate (nth n).question) (nth n).figures

-- Each row by itself, figure by figure: where one differs, the refusal names it, and each one that fails is shown.
row0 : Row 0
unfolding definitions
row0 = (refl, refl, refl, refl, refl, refl)

row1 : Row 1
unfolding definitions
row1 = (refl, refl, refl, refl, refl, refl)

row2 : Row 2
unfolding definitions
row2 = (refl, refl, refl, refl, refl, refl)

row3 : Row 3
unfolding definitions
row3 = (refl, refl, refl, refl, refl, refl)

row4 : Row 4
unfolding definitions
row4 = (refl, refl, refl, refl, refl, refl)

row5 : Row 5
unfolding definitions
row5 = (refl, refl, refl, refl, refl, refl)

row6 : Row 6
unfolding definitions
row6 = (refl, refl, refl, refl, refl, refl)

row7 : Row 7
unfolding definitions
row7 = (refl, refl, refl, refl, refl, refl)

row8 : Row 8
unfolding definitions
row8 = (refl, refl, refl, refl, refl, refl)

row9 : Row 9
unfolding definitions
row9 = (refl, refl, refl, refl, refl, refl)

row10 : Row 10
unfolding definitions
row10 = (refl, refl, refl, refl, refl, refl)

row11 : Row 11
unfolding definitions
row11 = (refl, refl, refl, refl, refl, refl)

row12 : Row 12
unfolding definitions
row12 = (refl, refl, refl, refl, refl, refl)

row13 : Row 13
unfolding definitions
row13 = (refl, refl, refl, refl, refl, refl)

row14 : Row 14
unfolding definitions
row14 = (refl, refl, refl, refl, refl, refl)

row15 : Row 15
unfolding definitions
row15 = (refl, refl, refl, refl, refl, refl)

row16 : Row 16
unfolding definitions
row16 = (refl, refl, refl, refl, refl, refl)

row17 : Row 17
unfolding definitions
row17 = (refl, refl, refl, refl, refl, refl)

row18 : Row 18
unfolding definitions
row18 = (refl, refl, refl, refl, refl, refl)

row19 : Row 19
unfolding definitions
row19 = (refl, refl, refl, refl, refl, refl)

row20 : Row 20
unfolding definitions
row20 = (refl, refl, refl, refl, refl, refl)

row21 : Row 21
unfolding definitions
row21 = (refl, refl, refl, refl, refl, refl)

row22 : Row 22
unfolding definitions
row22 = (refl, refl, refl, refl, refl, refl)

row23 : Row 23
unfolding definitions
row23 = (refl, refl, refl, refl, refl, refl)

row24 : Row 24
unfolding definitions
row24 = (refl, refl, refl, refl, refl, refl)

row25 : Row 25
unfolding definitions
row25 = (refl, refl, refl, refl, refl, refl)

row26 : Row 26
unfolding definitions
row26 = (refl, refl, refl, refl, refl, refl)

row27 : Row 27
unfolding definitions
row27 = (refl, refl, refl, refl, refl, refl)

row28 : Row 28
unfolding definitions
row28 = (refl, refl, refl, refl, refl, refl)

row29 : Row 29
unfolding definitions
row29 = (refl, refl, refl, refl, refl, refl)

row30 : Row 30
unfolding definitions
row30 = (refl, refl, refl, refl, refl, refl)

row31 : Row 31
unfolding definitions
row31 = (refl, refl, refl, refl, refl, refl)

row32 : Row 32
unfolding definitions
row32 = (refl, refl, refl, refl, refl, refl)

row33 : Row 33
unfolding definitions
row33 = (refl, refl, refl, refl, refl, refl)

row34 : Row 34
unfolding definitions
row34 = (refl, refl, refl, refl, refl, refl)

row35 : Row 35
unfolding definitions
row35 = (refl, refl, refl, refl, refl, refl)

row36 : Row 36
unfolding definitions
row36 = (refl, refl, refl, refl, refl, refl)

row37 : Row 37
unfolding definitions
row37 = (refl, refl, refl, refl, refl, refl)

row38 : Row 38
unfolding definitions
row38 = (refl, refl, refl, refl, refl, refl)

row39 : Row 39
unfolding definitions
row39 = (refl, refl, refl, refl, refl, refl)

row40 : Row 40
unfolding definitions
row40 = (refl, refl, refl, refl, refl, refl)

row41 : Row 41
unfolding definitions
row41 = (refl, refl, refl, refl, refl, refl)

row42 : Row 42
unfolding definitions
row42 = (refl, refl, refl, refl, refl, refl)

row43 : Row 43
unfolding definitions
row43 = (refl, refl, refl, refl, refl, refl)

row44 : Row 44
unfolding definitions
row44 = (refl, refl, refl, refl, refl, refl)

row45 : Row 45
unfolding definitions
row45 = (refl, refl, refl, refl, refl, refl)

row46 : Row 46
unfolding definitions
row46 = (refl, refl, refl, refl, refl, refl)

row47 : Row 47
unfolding definitions
row47 = (refl, refl, refl, refl, refl, refl)

row48 : Row 48
unfolding definitions
row48 = (refl, refl, refl, refl, refl, refl)

pub marked-cases : MarkedCases
marked-cases =
    row0 and row1 and row2 and row3 and row4 and row5 and row6 and row7 and row8 and row9 and row10 and row11 and row12 and
    row13 and row14 and row15 and row16 and row17 and row18 and row19 and row20 and row21 and row22 and row23 and row24 and
    row25 and row26 and row27 and row28 and row29 and row30 and row31 and row32 and row33 and row34 and row35 and row36 and
    row37 and row38 and row39 and row40 and row41 and row42 and row43 and row44 and row45 and row46 and row47 and row48 and
    all

-- The first two tables among them.
pub case_a_lem : (judge case_a 12 ≡ granted (12 ∷ [])) × (buffer case_a 12 ≡ case_a_sheet)
unfolding evaluate figures_of
case_a_lem = (row9.0, row9.5)

pub case_a_late_lem : (judge case_a_late 12 ≡ refused 14 0) × (buffer case_a_late 12 ≡ replicate 12 255)
unfolding evaluate figures_of
case_a_late_lem = (row10.0, row10.5)
