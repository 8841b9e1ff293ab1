-- What the fields that are put leave: the head, a turn of each loop, and the whole sheet in a filled buffer.
use mathlib.Core.Path.{◌≡◌, refl, ap, ◌∙◌}
use mathlib.Core.List.{List, ◌++◌}
use Prim.Native.Nat.{ℕ, ◌+◌, ◌-◌, ◌*◌, ◌^◌, ◌≤◌, ◌<◌}
use native.Mathlib.Numerals.{add-one}
use native.Mathlib.Omega.{arith}
use lib.ListN.{length, take, drop, replicate, length-replicate}
use lib.Seq.{length-take-le}
use Rattle.std.proofs.lemmas.List.{drop-replicate}
use Rattle.bits.specs.Field.{put_field, widest, wrote_field}
use Rattle.bits.proofs.Laws.{length-put_field, wrote_field-put}
use Rattle.rules.specs.Numbers.{wires_bits, channels_bits, backlog_bits, delay_bits, end_bits}
use Rattle.rules.specs.Sheet.{figures_at, end_at, sheet_length, with_head, with_wires, with_channels, sheet_of}

-- two fields, the second where the first ends
two-put : (s : List ℕ) (at v w u v' w' : ℕ) → u ≡ at + w → w ≤ widest → w' ≤ widest → u + w' ≤ 8 * length s
    → v < 2 ^ w → v' < 2 ^ w'
    → wrote_field (wrote_field s at w v) u w' v' ≡ put_field (put_field s at w v) u w' v'
two-put s at v w u v' w' e a b h l l' =
    ap (λ (t : List ℕ). wrote_field t u w' v') (wrote_field-put s at w a (omega arith) v l)
    ∙ wrote_field-put (put_field s at w v) u w' b (omega (arith, length-put_field s at w v)) v' l'

pub head-put : (s : List ℕ) (n m : ℕ) → n < 2 ^ wires_bits → m < 2 ^ channels_bits → figures_at 0 ≤ 8 * length s
    → wrote_field (wrote_field s 0 wires_bits n) wires_bits channels_bits m ≡ with_head n m s
unfolding figures_at with_head
head-put s n m a b h = two-put s 0 n wires_bits wires_bits m channels_bits refl (omega arith) (omega arith) h a b

-- t is s with the items before in; at is where the next one goes
module _ (s t : List ℕ) (at : ℕ) where
  pub wire-put : (b d : ℕ → ℕ) (w : ℕ) → t ≡ with_wires b d w s → at ≡ figures_at w → figures_at (w + 1) ≤ 8 * length t
      → b w < 2 ^ backlog_bits → d w < 2 ^ delay_bits
      → wrote_field (wrote_field t at backlog_bits (b w)) (at + backlog_bits) delay_bits (d w) ≡ with_wires b d (w + 1) s
  unfolding figures_at with_wires
  wire-put b d w e place h lb ld =
      two-put t at (b w) backlog_bits (at + backlog_bits) (d w) delay_bits refl (omega arith) (omega arith) (omega arith) lb ld
      ∙ rw (e, place, add-one w)

  pub channel-put : (n : ℕ) (e : ℕ → ℕ) (k : ℕ) → t ≡ with_channels n e k s → at ≡ end_at n k → end_at n (k + 1) ≤ 8 * length t
      → e k < 2 ^ end_bits → wrote_field t at end_bits (e k) ≡ with_channels n e (k + 1) s
  unfolding end_at with_channels
  channel-put n e k q place h l =
      wrote_field-put t at end_bits (omega arith) (omega arith) (e k) l ∙ rw (q, place, add-one k)

-- a buffer s of 255 whose first bytes are made 0 and then the sheet
pub sheet-put : (n m : ℕ) (b d e : ℕ → ℕ) (r : ℕ) (s f z h w c : List ℕ) → r ≡ sheet_length n m → r ≤ length s
    → f ≡ replicate (length s) 255 → z ≡ replicate (length (take r f)) 0
    → h ≡ with_head n m z → w ≡ with_wires b d n h → c ≡ with_channels n e m w
    → c ++ drop r f ≡ sheet_of n m b d e ++ replicate (length s - sheet_length n m) 255
unfolding sheet_of
sheet-put n m b d e r s f z h w c er lr ef ez eh ew ec =
    let long : r ≤ length f = rw (ef, length-replicate) lr in
    rw (ec, ew, eh, ez, length-take-le r f long, ef, er, drop-replicate)
