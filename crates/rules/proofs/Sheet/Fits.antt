-- The figures of a table that passed 13 and 14 fit the sheet.
use Prim.Native.Nat.{ℕ, suc, ◌^◌, ◌≤◌, ◌<◌}
use native.Mathlib.Nat.{div-lt_iff_lt-mul, mul-le-mul_left}
use native.Mathlib.Omega.{arith}
use mathlib.Core.List.{List}
use Rattle.bits.proofs.Laws.{field_lt}
use Rattle.rules.specs.Words.{up}
use Rattle.rules.specs.Numbers.{room_bits, deadline_bits}
use Rattle.rules.specs.Table.{View, view_of, room_of, deadline_at}
use Rattle.rules.specs.Bounds.{backlog, delay, delay_after, end_to_end}
use Rattle.rules.specs.Sound.{Sound}
use Rattle.rules.proofs.Sheet.Asking.{FitsSheet}

pub up_le : (a b : ℕ) → 1 ≤ b → up a b ≤ a
up_le a b l =
    let less : up a b < suc a = (div-lt_iff_lt-mul l).1 (omega (arith, mul-le-mul_left a l)) in
    omega arith

pub delay-le : (t : View) (w : ℕ) → 1 ≤ t.rate w → delay t w ≤ backlog t w
unfolding delay delay_after backlog
delay-le t w l = up_le _ (t.rate w) l

module _ (t : View) (sound : Sound t) (rooms : (w : ℕ) → t.room w < 2 ^ room_bits)
    (deadlines : (k : ℕ) → t.deadline k < 2 ^ deadline_bits)
    (roomy : (w : ℕ) → w < t.wires → backlog t w ≤ t.room w)
    (timely : (k : ℕ) → k < t.channels → end_to_end t k ≤ t.deadline k) where
  pub fits-sheet : FitsSheet t
  fits-sheet =
      record {
        wires_at_least = sound.wires_at_least;
        wires_at_most = sound.wires_at_most;
        channels_at_least = sound.channels_at_least;
        channels_at_most = sound.channels_at_most;
        backlog_fits = λ w l. omega (arith, roomy w l, rooms w);
        delay_fits = λ w l. omega (arith, delay-le t w (sound.rate_at_least w l), roomy w l, rooms w);
        end_fits = λ k l. omega (arith, timely k l, deadlines k);
      }

pub fits-view : (s : List ℕ) → Sound (view_of s) → ((w : ℕ) → w < (view_of s).wires → backlog (view_of s) w ≤ (view_of s).room w)
    → ((k : ℕ) → k < (view_of s).channels → end_to_end (view_of s) k ≤ (view_of s).deadline k) → FitsSheet (view_of s)
unfolding room_of deadline_at
fits-view s sound roomy timely =
    fits-sheet (view_of s) sound (λ w. field_lt s _ room_bits) (λ k. field_lt s _ deadline_bits) roomy timely
