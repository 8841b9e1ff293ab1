-- Asking: a sheet as written gives its figures and 19 for other numbers; what is no sheet gives one refusal to all.
use mathlib.Core.Path.{◌≡◌, refl, sym, ap, ap₂, ◌∙◌}
use mathlib.Core.List.{List, [], ◌∷◌, ◌++◌}
use Prim.Native.Nat.{ℕ, zero, suc, ◌+◌, ◌-◌, ◌≤◌, ◌<◌}
use native.Mathlib.Omega.{arith}
use lib.ListN.{length, take, drop, replicate, length-append, length-replicate}
use lib.Seq.{take_at, drop_at}
use borrow.Author.Tests.{lt-ltb, le-ltb}
use Rattle.std.proofs.lemmas.Bool.Decides.{nat_tests}
use Rattle.bits.specs.Field.{bit, field, Bytes}
use Rattle.bits.proofs.Laws.{field-append}
use Rattle.rules.specs.Numbers.{wires_bits, channels_bits}
use Rattle.rules.specs.Replies.{Reply, granted, refused, test}
use Rattle.rules.specs.Table.{View, view_of, filling_of}
use Rattle.rules.specs.Bounds.{backlog, delay, end_to_end}
use Rattle.rules.specs.Sheet.{end_at, sheet_length, sheet_of, sheet_wires, sheet_channels, sheet_tests, ask_wire, ask_channel}
use Rattle.rules.specs.Judgement.{length_of, judge, sheet, leaves, buffer}
use Rattle.rules.specs.Incident.{Always, NoSheet, Answers, AnswersOf, LeavesNoSheet}
use Rattle.rules.proofs.Sheet.Replies.{Counted, tests_short, tests-length, tests_pass}
use Rattle.rules.specs.Fits.{Fits}
use Rattle.rules.proofs.Sheet.Laws.{sheet-shortest, length-sheet_of, bytes-sheet_of, filling-sheet_of}
use Rattle.rules.proofs.Sheet.Laws.{wires-sheet_of, channels-sheet_of, backlog-sheet_of, delay-sheet_of, end-sheet_of}

always : (s : List ℕ) (r : Reply) → ((rest : Reply) → sheet_tests s rest ≡ r) → Always s r
unfolding ask_wire ask_channel
always s r h i = (h _, h _)

-- ---- a sheet as written, and with more behind it

module _ (n m : ℕ) (b d e : ℕ → ℕ) (fits : Fits n m b d e) where
  counted : (s : List ℕ) → 2 ≤ length s → sheet_wires s ≡ n → sheet_channels s ≡ m → Counted s
  counted s two wires channels =
      record {
        two_bytes = two;
        wires_at_least = omega arith;
        wires_at_most = omega arith;
        channels_at_least = omega arith;
        channels_at_most = omega arith;
      }

  two_bytes : 2 ≤ length (sheet_of n m b d e)
  two_bytes = rw length-sheet_of (sheet-shortest n m)

  tests-sheet_of : (rest : Reply) → sheet_tests (sheet_of n m b d e) rest ≡ rest
  unfolding sheet_length filling_of
  tests-sheet_of rest =
      let wires : sheet_wires (sheet_of n m b d e) ≡ n = wires-sheet_of n m b d e fits in
      let channels : sheet_channels (sheet_of n m b d e) ≡ m = channels-sheet_of n m b d e fits in
      tests_pass (sheet_of n m b d e) rest (counted _ two_bytes wires channels) (end_at n m) (ap₂ end_at (sym wires) (sym channels))
      (length-sheet_of n m b d e) (filling-sheet_of n m b d e)

  pub ask-written : Answers (sheet_of n m b d e) n m b d e
  unfolding ask_wire ask_channel test
  ask-written =
      let wires : sheet_wires (sheet_of n m b d e) ≡ n = wires-sheet_of n m b d e fits in
      let channels : sheet_channels (sheet_of n m b d e) ≡ m = channels-sheet_of n m b d e fits in
      record {
        wire =
            λ w l. tests-sheet_of _
            ∙ rw (wires, lt-ltb w n l, backlog-sheet_of n m b d e fits w l, delay-sheet_of n m b d e fits w l);
        no_wire = λ w l. tests-sheet_of _ ∙ rw (wires, le-ltb w n l);
        channel = λ k l. tests-sheet_of _ ∙ rw (wires, channels, lt-ltb k m l, end-sheet_of n m b d e fits k l);
        no_channel = λ k l. tests-sheet_of _ ∙ rw (channels, le-ltb k m l);
      }

  -- with bytes behind it a sheet has not the length that its counts need
  pub ask-longer : (t : List ℕ) → 1 ≤ length t → Always (sheet_of n m b d e ++ t) (refused 16 0)
  unfolding sheet_wires sheet_channels sheet_length
  ask-longer t l =
      let s : List ℕ = sheet_of n m b d e in
      let two : 2 ≤ length s = two_bytes in
      let more : length (s ++ t) ≡ length s + length t = length-append s t in
      let wires : sheet_wires (s ++ t) ≡ n = field-append s t 0 wires_bits (omega arith) ∙ wires-sheet_of n m b d e fits in
      let channels : sheet_channels (s ++ t) ≡ m
      = field-append s t wires_bits channels_bits (omega arith) ∙ channels-sheet_of n m b d e fits in
      always (s ++ t) (refused 16 0) (λ rest.
      tests-length (s ++ t) rest (counted (s ++ t) (omega arith) wires channels) (end_at n m)
      (ap₂ end_at (sym wires) (sym channels))
      (λ q. omega (arith, length-sheet_of n m b d e)))

-- ---- what a refusal left

-- fewer than 2 bytes
pub ask-short : (s : List ℕ) → length s < 2 → Always s (refused 16 0)
ask-short s l = always s (refused 16 0) (λ rest. tests_short s rest l)

-- the first 7 bits of 255 are 127 wires
ask-filled : (lent : ℕ) → 2 ≤ lent → Always (replicate lent 255) (refused 17 0)
unfolding bit field sheet_wires sheet_tests test
ask-filled zero l = absurd (omega arith)
ask-filled (suc k) l =
    always (255 ∷ replicate k 255) (refused 17 0) (λ rest.
    grind (arith, nat_tests, length-replicate {A = ℕ} k 255))

pub no-sheet : (lent : ℕ) → NoSheet lent (replicate lent 255)
no-sheet lent =
    (λ l. ask-short (replicate lent 255) (rw length-replicate (omega arith)), λ l. ask-filled lent (omega arith))

-- ---- the lent buffer after a judgement

-- the view's counts and figures fit the sheet
abbrev pub FitsSheet : View → Type 0
FitsSheet t = Fits t.wires t.channels (backlog t) (delay t) (end_to_end t)

pub length-sheet : (t : View) → length (sheet t) ≡ length_of t
unfolding sheet
length-sheet t = length-sheet_of t.wires t.channels (backlog t) (delay t) (end_to_end t)

pub bytes-sheet : (t : View) → Bytes (sheet t)
unfolding sheet
bytes-sheet t = bytes-sheet_of t.wires t.channels (backlog t) (delay t) (end_to_end t)

module _ (t : View) (lent : ℕ) where
  pub length-granted : (v : List ℕ) → length_of t ≤ lent → length (leaves (granted v) t lent) ≡ lent
  unfolding leaves
  length-granted v l = simp (length-append, length-sheet t, length-replicate) (omega arith)

  pub take-granted : (v : List ℕ) → take (length_of t) (leaves (granted v) t lent) ≡ sheet t
  unfolding leaves
  take-granted v = take_at (sheet t) _ (length_of t) (length-sheet t)

  pub drop-granted : (v : List ℕ) → drop (length_of t) (leaves (granted v) t lent) ≡ replicate (lent - length_of t) 255
  unfolding leaves
  drop-granted v = drop_at (sheet t) _ (length_of t) (length-sheet t)

  pub ask-granted : (v : List ℕ) → FitsSheet t → AnswersOf (take (length_of t) (leaves (granted v) t lent)) t
  unfolding sheet
  ask-granted v fits = rw (take-granted v) (ask-written t.wires t.channels (backlog t) (delay t) (end_to_end t) fits)

  pub ask-whole : (v : List ℕ) → FitsSheet t → length_of t < lent → Always (leaves (granted v) t lent) (refused 16 0)
  unfolding leaves sheet
  ask-whole v fits l =
      ask-longer t.wires t.channels (backlog t) (delay t) (end_to_end t) fits (replicate (lent - length_of t) 255)
      (rw length-replicate (omega arith))

  pub leaves-refused : (number place : ℕ) → leaves (refused number place) t lent ≡ replicate lent 255
  unfolding leaves
  leaves-refused number place = refl

  pub ask-refused : (number place : ℕ) → NoSheet lent (leaves (refused number place) t lent)
  ask-refused number place = rw (leaves-refused number place) (no-sheet lent)

module _ (s : List ℕ) (lent : ℕ) where
  pub buffer-of : (r : Reply) → judge s lent ≡ r → buffer s lent ≡ leaves r (view_of s) lent
  unfolding buffer
  buffer-of r e = ap (λ (x : Reply). leaves x (view_of s) lent) e

  module _ (len : ℕ) (e : judge s lent ≡ granted (len ∷ [])) (is : len ≡ length_of (view_of s)) where
    pub accepted-sheet : take len (buffer s lent) ≡ sheet (view_of s)
    accepted-sheet = rw (buffer-of _ e, is) (take-granted (view_of s) lent _)

    pub accepted-asked : FitsSheet (view_of s) → AnswersOf (take len (buffer s lent)) (view_of s)
    accepted-asked fits = rw (buffer-of _ e, is) (ask-granted (view_of s) lent _ fits)

    pub accepted-whole : FitsSheet (view_of s) → len < lent → Always (buffer s lent) (refused 16 0)
    accepted-whole fits l = rw (buffer-of _ e) (ask-whole (view_of s) lent _ fits (rw (← is) l))

pub refused-asked : LeavesNoSheet
refused-asked s lent number place e = rw (buffer-of s lent _ e) (ask-refused (view_of s) lent number place)
