-- What a green square promises: demand 3, over the definitions and nothing else.
use Rattle.std.specs.Prelude.{◌≡◌, List, [], ◌∷◌, ◌++◌, ℕ, suc, ◌+◌, ◌≤◌, ◌<◌, take}
use Rattle.rules.specs.Words.{gathered}
use Rattle.rules.specs.Replies.{granted}
use Rattle.rules.specs.Table.{view_of}
use Rattle.rules.specs.Sheet.{ask_wire, ask_channel}
use Rattle.rules.specs.Judgement.{judge, buffer}
use Rattle.rules.specs.Machine.{Frame, Releases, Keeps, Holding, Run, Allowed, nobody, AnyOrder, message, delivered, unsent}

-- ys holds the frames of xs, each as often, and maybe more
abbrev pub Among : List Frame → List Frame → Type 0
Among xs ys = (rest : List Frame) × AnyOrder (xs ++ rest) ys

-- Of a table s, its sheet, what is released, who holds, and a run:
module _ (s sheet : List ℕ) (released : Releases) (held : Holding) (run : Run (view_of s) released held) where
  -- asking the sheet for wire w replies a backlog and a delay;
  pub record WirePromised (w : ℕ) : Type 0 where
    pub backlog : ℕ
    pub delay : ℕ
    pub asked : ask_wire sheet w ≡ granted (backlog ∷ delay ∷ [])
    -- the wire never holds more bytes, after arrivals and before sending, than the backlog,
    pub backlog_at_most : (slot : ℕ) → unsent run w slot ≤ backlog
    -- which is within its room;
    pub within_room : backlog ≤ (view_of s).room w
    -- and what has reached the wire by a slot has left it within the delay, the last byte at the latest delay - 1 slots after.
    pub left : (slot : ℕ) → Among (gathered (run.arrived w) (suc slot)) (gathered (run.gone w) (slot + delay))

  -- Asking it for channel k replies a delay;
  pub record ChannelPromised (k : ℕ) : Type 0 where
    pub delay : ℕ
    pub asked : ask_channel sheet k ≡ granted (delay ∷ [])
    -- it is within the channel's deadline;
    pub within_deadline : delay ≤ (view_of s).deadline k
    -- and from that many slots after its release on, what has reached the destination of a message is all its frames.
    pub whole :
        (r slot : ℕ) → r + delay ≤ slot →
        AnyOrder (message (view_of s) released k r) (delivered (view_of s) run.gone k r slot)

  -- Every wire, and every channel.
  pub record Promised : Type 0 where
    pub wires : (w : ℕ) → w < (view_of s).wires → WirePromised w
    pub channels : (k : ℕ) → k < (view_of s).channels → ChannelPromised k

-- For any table accepted with any lent room, whatever is released as declared, however long the office machines hold the
-- wires where they may, in any run: the promise holds of the sheet, which is the first `length` bytes of the lent buffer.
abbrev pub Promise : Type 0
Promise =
    (s : List ℕ) (lent length : ℕ) → judge s lent ≡ granted (length ∷ []) →
    (released : Releases) → Keeps (view_of s) released →
    (held : Holding) (run : Run (view_of s) released held) → Allowed run →
    Promised s (take length (buffer s lent)) released held run

-- Document 01's own machine is the one in which nobody holds: the same of any run of it.
abbrev pub PromiseAlone : Type 0
PromiseAlone =
    (s : List ℕ) (lent length : ℕ) → judge s lent ≡ granted (length ∷ []) →
    (released : Releases) → Keeps (view_of s) released → (run : Run (view_of s) released nobody) →
    Promised s (take length (buffer s lent)) released nobody run
