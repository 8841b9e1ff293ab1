-- Wire by wire, ascending: where the burst rule of a wire follows from what the wires below it pass on, it holds of all.
use mathlib.Core.List.{List}
use Prim.Native.Nat.{ℕ, suc, ◌+◌, ◌*◌, ◌≤◌, ◌<◌}
use native.Mathlib.Omega.{arith}
use Rattle.rules.specs.Words.{sum}
use Rattle.rules.specs.Machine.{Waiting, Frame, bytes, joined}
use Rattle.rules.proofs.Sums.{ascend}
use Rattle.rules.proofs.Machine.Server.{Server, Bursts, Passes, unsent-most, passes}

module _
    (wires : ℕ) (rate : ℕ → ℕ) (room block extra : ℕ → ℕ → ℕ) (queue : ℕ → ℕ → List Waiting) (arrived gone : ℕ → ℕ → List Frame)
    (server : (w : ℕ) → w < wires → Server (rate w) (room w) (block w) (extra w) (queue w) (arrived w) (gone w))
    (burst lag : ℕ → ℕ)
    (rule :
    (w : ℕ) → w < wires → ((v : ℕ) → v < w → v < wires → Passes (arrived v) (gone v) (lag v)) →
    Bursts (rate w) (block w) (extra w) (queue w) (arrived w) (burst w))
    (enough :
    (w s : ℕ) → w < wires →
    burst w + sum (extra w) (suc (suc (s + lag w))) ≤ rate w * suc (lag w) + sum (extra w) (suc s))
  where
    pub network :
        (w : ℕ) → w < wires →
        Passes (arrived w) (gone w) (lag w) × ((s : ℕ) → bytes (joined (queue w s) (arrived w s)) + block w s ≤ burst w)
    network =
        ascend
        (λ (w : ℕ). w < wires → Passes (arrived w) (gone w) (lag w)
        × ((s : ℕ) → bytes (joined (queue w s) (arrived w s)) + block w s ≤ burst w))
        (λ w below l.
        let most =
        unsent-most (rate w) (room w) (block w) (extra w) (queue w) (arrived w) (gone w) (server w l) (burst w)
        (rule w l (λ v less lv. (below v less lv).0)) in (
          passes (rate w) (room w) (block w) (extra w) (queue w) (arrived w) (gone w) (server w l) (lag w)
              (λ s. omega (arith, most s, enough w s l)),
          most,
        ))
