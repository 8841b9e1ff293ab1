-- One wire, over all slots. What it may send in a slot, what stands in the way and what goes first are parameters: nothing
-- here says how a wire comes by them.
use mathlib.Core.Path.{◌≡◌, refl, ap, sym, ◌∙◌}
use mathlib.Core.List.{List, [], ◌∷◌, ◌++◌, map, append_assoc, append-nil}
use Prim.Native.Nat.{ℕ, zero, suc, ◌+◌, ◌-◌, ◌*◌, ◌≤◌, ◌<◌}
use native.Mathlib.Decide.{dec_le}
use native.Mathlib.Omega.{arith}
use Rattle.std.proofs.lemmas.Bool.Decides.{nat_tests}
use Rattle.rules.specs.Words.{sum, total}
use Rattle.rules.specs.Machine.{Frame, Waiting, whole, sent, kept, bytes, joined}
use Rattle.rules.proofs.Sums.{sum-grows, total-append, total-map}

-- the weight of the frames in a queue, each whole
abbrev pub weight : (Frame → ℕ) → List Waiting → ℕ
weight g q = total (λ (x : Waiting). g x.frame) q

-- the weight of what a stream of frames brings in the slots before one
abbrev pub before : (ℕ → List Frame) → (Frame → ℕ) → ℕ → ℕ
before stream g slot = sum (λ (s : ℕ). total g (stream s)) slot

-- bytes on the wire, as a weight
abbrev pub size_of : Frame → ℕ
size_of f = f.size

-- One slot. No frame is lost, and no frame is added.
conserved : (g : Frame → ℕ) (b : ℕ) (q : List Waiting) → total g (sent b q) + weight g (kept b q) ≡ weight g q
unfolding sent kept total
conserved g b [] = refl
conserved g b (x ∷ q) = grind (arith, nat_tests, conserved g (b - x.left) q)

-- It sends all it may, as long as there is something.
kept-bytes : (b : ℕ) (q : List Waiting) → bytes (kept b q) ≡ bytes q - b
unfolding kept bytes total
kept-bytes b [] = omega arith
kept-bytes b (x ∷ q) = grind (arith, nat_tests, kept-bytes (b - x.left) q)

-- First come, first served: of a queue p, then r, p goes first.
all-sent : (g : Frame → ℕ) (b : ℕ) (p r : List Waiting) → bytes p ≤ b → weight g p ≤ total g (sent b (p ++ r))
unfolding sent bytes total
all-sent g b [] r h = omega arith
all-sent g b (x ∷ p) r h = grind (arith, nat_tests, all-sent g (b - x.left) p r)

first-kept : (b : ℕ) (p r : List Waiting) → b < bytes p → kept b (p ++ r) ≡ kept b p ++ r
unfolding kept bytes total
first-kept b [] r h = absurd (omega arith)
first-kept b (x ∷ p) r h = grind (arith, nat_tests, first-kept (b - x.left) p r)

first-sent : (b : ℕ) (p r : List Waiting) → b < bytes p → sent b (p ++ r) ≡ sent b p
unfolding sent bytes total
first-sent b [] r h = absurd (omega arith)
first-sent b (x ∷ p) r h = grind (arith, nat_tests, first-sent (b - x.left) p r)

bytes-append : (p r : List Waiting) → bytes (p ++ r) ≡ bytes p + bytes r
unfolding bytes
bytes-append p r = total-append (λ (x : Waiting). x.left) p r

bytes_whole : (fs : List Frame) → bytes (map whole fs) ≡ total size_of fs
unfolding bytes
bytes_whole fs = total-map (λ (x : Waiting). x.left) whole fs

weight-joined : (g : Frame → ℕ) (q : List Waiting) (fs : List Frame) → weight g (joined q fs) ≡ weight g q + total g fs
weight-joined g q fs =
    omega (arith, total-append (λ (x : Waiting). g x.frame) q (map whole fs), total-map (λ (x : Waiting). g x.frame) whole fs)

-- A server: in slot s it may send `room s` bytes. Where its queue is left with bytes it has sent its rate, but for what
-- stands in the way, `block s`; that grows only by `extra s`, which comes in slot s and goes first.
pub record Server (rate : ℕ) (room block extra : ℕ → ℕ) (queue : ℕ → List Waiting) (arrived gone : ℕ → List Frame) : Type 0 where
  pub empty : queue 0 ≡ []
  pub sends : (s : ℕ) → gone s ≡ sent (room s) (joined (queue s) (arrived s))
  pub keeps : (s : ℕ) → queue (suc s) ≡ kept (room s) (joined (queue s) (arrived s))
  pub serves : (s : ℕ) → 0 < bytes (queue (suc s)) → block (suc s) + rate ≤ block s + room s + extra (suc s)

-- The burst rule: a window of d further slots that begins with an empty queue brings, with what stands in the way and what
-- goes first, at most burst + rate × d.
abbrev pub Bursts : ℕ → (ℕ → ℕ) → (ℕ → ℕ) → (ℕ → List Waiting) → (ℕ → List Frame) → ℕ → Type 0
Bursts rate block extra queue arrived burst =
    (a d : ℕ) → bytes (queue a) ≡ 0 →
    block a + before arrived size_of (suc (a + d)) + sum extra (suc (a + d))
    ≤ before arrived size_of a + sum extra (suc a) + rate * d + burst

-- What the network needs to know of a wire: no more has left than came, and what came by slot s has left by slot s + lag.
pub record Passes (arrived gone : ℕ → List Frame) (lag : ℕ) : Type 0 where
  pub fair : (g : Frame → ℕ) (s : ℕ) → before gone g s ≤ before arrived g s
  pub prompt : (g : Frame → ℕ) (s : ℕ) → before arrived g (suc s) ≤ before gone g (suc (s + lag))

module _
    (rate : ℕ) (room block extra : ℕ → ℕ) (queue : ℕ → List Waiting) (arrived gone : ℕ → List Frame)
    (server : Server rate room block extra queue arrived gone)
  where
    unsent-bytes : (s : ℕ) → bytes (joined (queue s) (arrived s)) ≡ bytes (queue s) + total size_of (arrived s)
    unsent-bytes s = omega (arith, bytes-append (queue s) (map whole (arrived s)), bytes_whole (arrived s))

    left-bytes : (s : ℕ) → bytes (queue (suc s)) ≡ bytes (joined (queue s) (arrived s)) - room s
    left-bytes s = ap bytes (server.keeps s) ∙ kept-bytes (room s) (joined (queue s) (arrived s))

    -- what came is gone or waits
    pub balance : (g : Frame → ℕ) (s : ℕ) → before gone g s + weight g (queue s) ≡ before arrived g s
    unfolding sum total
    balance g zero = rw server.empty refl
    balance g (suc s) =
        rw (server.keeps s, server.sends s)
        (omega (
          arith,
          balance g s,
          conserved g (room s) (joined (queue s) (arrived s)),
          weight-joined g (queue s) (arrived s),
        ))

    -- Busy period: where every window that ends in slot s and begins with an empty queue brings little enough, so much is unsent.
    -- `more` is what is still to come.
    pub busy :
        (s bound more : ℕ) →
        ((a d : ℕ) → a + d ≡ s → bytes (queue a) ≡ 0 →
        block a + before arrived size_of (suc s) + sum extra (suc s) + more
        ≤ before arrived size_of a + sum extra (suc a) + rate * d + bound) →
        bytes (joined (queue s) (arrived s)) + block s + more ≤ bound
    unfolding sum bytes total
    busy zero bound more h =
        let none : bytes (queue 0) ≡ 0 = ap bytes server.empty in
        omega (arith, unsent-bytes 0, h 0 0 refl none)
    busy (suc s) bound more h =
        grind (
          arith,
          unsent-bytes (suc s),
          left-bytes s,
          server.serves s,
          busy s (bound + rate) (more + total size_of (arrived (suc s)) + extra (suc s))
              (λ a d e none. omega (arith, h a (suc d) (omega arith) none)),
          h (suc s) 0,
        )

    -- of what is unsent in slot s, p at the head
    module _ (s : ℕ) (p r : List Waiting) (e : joined (queue s) (arrived s) ≡ p ++ r) where
      at_once : (g : Frame → ℕ) (n : ℕ) → bytes p ≤ room s → before gone g s + weight g p ≤ before gone g (suc (s + n))
      unfolding sum
      at_once g n l =
          omega (
            arith,
            all-sent g (room s) p r l,
            ap (λ (fs : List Frame). total g fs) (rw e at (server.sends s)),
            sum-grows (λ (i : ℕ). total g (gone i)) (suc s) (suc (s + n)) (omega arith),
          )

      rests : room s < bytes p → queue (suc s) ≡ kept (room s) p ++ r
      rests l = server.keeps s ∙ ap (kept (room s)) e ∙ first-kept (room s) p r l

      in-part : (g : Frame → ℕ) → room s < bytes p → total g (gone s) + weight g (kept (room s) p) ≡ weight g p
      in-part g l = rw (server.sends s, e, first-sent (room s) p r l) (conserved g (room s) p)

      slower : room s < bytes p → block (suc s) + rate ≤ block s + room s + extra (suc s)
      slower l =
          server.serves s
          (omega (arith, ap bytes (rests l), bytes-append (kept (room s) p) r, kept-bytes (room s) p))

    -- p, at the head of what is unsent in slot s, is gone n slots later.
    pub drained :
        (g : Frame → ℕ) (n s : ℕ) (p r : List Waiting) →
        joined (queue s) (arrived s) ≡ p ++ r →
        bytes p + block s + sum extra (suc (suc (s + n))) ≤ rate * suc n + sum extra (suc s) →
        before gone g s + weight g p ≤ before gone g (suc (s + n))
    unfolding sum
    drained g zero s p r e h =
        grind (arith, at_once s p r e g 0, slower s p r e)
    drained g (suc n) s p r e h =
        elim (dec_le (bytes p) (room s)) [
          | yes l ↦ at_once s p r e g (suc n) l
          | no m ↦
              (let l : room s < bytes p = omega arith in
              let next : joined (queue (suc s)) (arrived (suc s)) ≡ kept (room s) p ++ (r ++ map whole (arrived (suc s))) =
              rw (rests s p r e l) (append_assoc (kept (room s) p) r (map whole (arrived (suc s)))) in
              let shift : s + suc n ≡ suc s + n = omega arith in
              omega (
                arith,
                in-part s p r e g l,
                ap (λ (x : ℕ). before gone g (suc x)) shift,
                drained g n (suc s) (kept (room s) p) (r ++ map whole (arrived (suc s))) next
                    (omega (
                      arith,
                      kept-bytes (room s) p,
                      slower s p r e l,
                      ap (λ (x : ℕ). sum extra (suc (suc x))) shift,
                    )),
              ))
        ]

    pub unsent-most :
        (burst : ℕ) → Bursts rate block extra queue arrived burst →
        (s : ℕ) → bytes (joined (queue s) (arrived s)) + block s ≤ burst
    unsent-most burst rule s =
        omega (arith, busy s burst 0 (λ a d e none. grind (arith, rule a d none)))

    -- what is unsent in slot s, and what comes first, is no more than is sent by slot s + lag
    pub passes :
        (lag : ℕ) →
        ((s : ℕ) → bytes (joined (queue s) (arrived s)) + block s + sum extra (suc (suc (s + lag)))
        ≤ rate * suc lag + sum extra (suc s)) →
        Passes arrived gone lag
    unfolding sum
    passes lag enough =
        record {
          fair = λ g s. omega (arith, balance g s);
          prompt = λ g s.
              omega (
                arith,
                balance g s,
                weight-joined g (queue s) (arrived s),
                drained g lag s (joined (queue s) (arrived s)) [] (sym (append-nil (joined (queue s) (arrived s)))) (enough s),
              );
        }
