-- The slot machine: as a relation, and as a step function with which a run can be computed.
use Rattle.std.specs.Prelude.{◌≡◌, cond, List, [], ◌∷◌, ◌++◌, map, ℕ, zero, suc, ◌+◌, ◌-◌, ◌≤◌, ◌<◌, get_or, replicate, leb, eqb}
use Rattle.rules.specs.Words.{total, listed, gathered, cut}
use Rattle.rules.specs.Price.{frames}
use Rattle.rules.specs.Table.{View, Source, nowhere, release, wire, source, last_wire}
use Rattle.rules.specs.Office.{K}

-- A frame, with its message: the channel, and the slot of its release.
pub record Frame : Type 0 where
  pub channel : ℕ
  pub born : ℕ
  pub size : ℕ

-- A frame in a queue, and its bytes not yet sent.
pub record Waiting : Type 0 where
  pub frame : Frame
  pub left : ℕ

abbrev pub whole : Frame → Waiting
whole f = record { frame = f; left = f.size }

-- Releases: for a channel and a slot, the payload of the message released, and 0 where none is.
abbrev pub Releases : Type 0
Releases = ℕ → ℕ → ℕ

-- Messages may carry 1 byte up to the declared payload. Demand 3: each channel's are at least its period apart.
pub record Keeps (t : View) (released : Releases) : Type 0 where
  pub declared : (k r : ℕ) → k < t.channels → released k r ≤ t.payload k
  pub apart : (k r later : ℕ) → k < t.channels → r < later → 0 < released k r → 0 < released k later → r + t.period k ≤ later

-- A message enters as the frames of its price.
unfoldable pub message : View → Releases → ℕ → ℕ → List Frame
message t released k r =
    map (λ (size : ℕ). record { channel = k; born = r; size = size }) (frames (t.framing k) (released k r))

-- the frames of a list that belong to channel k
unfoldable pub of_channel : ℕ → List Frame → List Frame
of_channel k [] = []
of_channel k (f ∷ fs) = cond (eqb f.channel k) (f ∷ of_channel k fs) (of_channel k fs)

-- the frames of a list that belong to the message released in slot r
unfoldable pub born_in : ℕ → List Frame → List Frame
born_in r [] = []
born_in r (f ∷ fs) = cond (eqb f.born r) (f ∷ born_in r fs) (born_in r fs)

-- Frames whose last byte left a wire, for each wire and slot.
abbrev pub Gone : Type 0
Gone = ℕ → ℕ → List Frame

-- A frame whose last byte leaves in slot t reaches the next wire, or the destination, whole, in slot t + 1 + propagation:
-- those that reach it from wire v in this slot
unfoldable pub reaching : View → Gone → ℕ → ℕ → List Frame
reaching t gone v slot = cond (leb (1 + t.prop v) slot) (gone v (slot - (1 + t.prop v))) []

-- Frames of channel k due at wire w in a slot: messages released in this slot enter the first wire's queue as whole
-- frames, and frames due in this slot enter theirs.
unfoldable pub due_from : Source → View → Releases → Gone → ℕ → ℕ → List Frame
due_from nowhere t released gone slot k = []
due_from release t released gone slot k = message t released k slot
due_from (wire v) t released gone slot k = of_channel k (reaching t gone v slot)

unfoldable pub due : View → Releases → Gone → ℕ → ℕ → List Frame
due t released gone w slot = gathered (λ k. due_from (source (t.route k) w) t released gone slot k) t.channels

-- In any order: zs holds x and the frames of ys, x put in at some place
pub data Put (x : Frame) : List Frame → List Frame → Type 0 where
  here : {ys : List Frame} → Put x ys (x ∷ ys)
  later : {y : Frame} {ys zs : List Frame} → Put x ys zs → Put x (y ∷ ys) (y ∷ zs)

pub data AnyOrder : List Frame → List Frame → Type 0 where
  none : AnyOrder [] []
  more : {x : Frame} {xs ys zs : List Frame} → AnyOrder xs ys → Put x ys zs → AnyOrder (x ∷ xs) zs

-- Each wire sends from the head up to its rate in bytes, going on to the next frame in the same slot: the frames whose last
-- byte leaves, and what is kept.
unfoldable pub sent : ℕ → List Waiting → List Frame
sent b [] = []
sent b (x ∷ q) = cond (leb x.left b) (x.frame ∷ sent (b - x.left) q) []

unfoldable pub kept : ℕ → List Waiting → List Waiting
kept b [] = []
kept b (x ∷ q) = cond (leb x.left b) (kept (b - x.left) q) (record { frame = x.frame; left = x.left - b } ∷ q)

-- Backlog holds the bytes not yet sent.
unfoldable pub bytes : List Waiting → ℕ
bytes q = total (λ (x : Waiting). x.left) q

-- Arrivals go behind all earlier frames.
abbrev pub joined : List Waiting → List Frame → List Waiting
joined queue arrivals = queue ++ map whole arrivals

-- Request Q-4, the office machines: for each wire and slot, how many slots the wire is still held, this one counted.
abbrev pub Holding : Type 0
Holding = ℕ → ℕ → ℕ

-- the bytes that a wire may send in a slot: none where it is held
abbrev pub sending : ℕ → ℕ → ℕ
sending rate held = cond (eqb held 0) rate 0

-- A run, for each wire and slot: the queue before the slot, what arrives, what is gone.
pub record Run (t : View) (released : Releases) (held : Holding) : Type 0 where
  pub queue : ℕ → ℕ → List Waiting
  pub arrived : ℕ → ℕ → List Frame
  pub gone : Gone
  pub empty : (w : ℕ) → w < t.wires → queue w 0 ≡ []
  pub any_order : (w slot : ℕ) → w < t.wires → AnyOrder (due t released gone w slot) (arrived w slot)
  pub sends : (w slot : ℕ) → w < t.wires
      → gone w slot ≡ sent (sending (t.rate w) (held w slot)) (joined (queue w slot) (arrived w slot))
  pub keeps : (w slot : ℕ) → w < t.wires
      → queue w (suc slot) ≡ kept (sending (t.rate w) (held w slot)) (joined (queue w slot) (arrived w slot))

-- Request Q-4's three conditions on whoever runs the cabins; where listed frames reach an empty queue, any number of slots
-- from 0 to K may be chosen.
pub record Allowed {t : View} {released : Releases} {held : Holding} (run : Run t released held) : Type 0 where
  -- When listed frames reach an empty queue, a wire may be held from that slot on: not where nothing waits,
  pub from_then_on : (w slot : ℕ) → w < t.wires → run.queue w slot ≡ [] → run.arrived w slot ≡ [] → held w slot ≡ 0
  -- at most K slots in a row (the next of which is one less),
  pub at_most : (w slot : ℕ) → w < t.wires → held w slot ≤ K t w
  -- and not again until that queue has run empty after sending.
  pub not_again : (w slot : ℕ) → w < t.wires → ¬ (run.queue w (suc slot) ≡ []) → held w (suc slot) ≡ held w slot - 1

-- nobody holds
abbrev pub nobody : Holding
nobody w slot = 0

-- Backlog is counted after arrivals and before sending.
abbrev pub unsent : {t : View} {released : Releases} {held : Holding} → Run t released held → ℕ → ℕ → ℕ
unsent run w slot = bytes (joined (run.queue w slot) (run.arrived w slot))

-- The frames of channel k's message of slot r that have reached the destination by a slot.
unfoldable pub delivered : View → Gone → ℕ → ℕ → ℕ → List Frame
delivered t gone k r slot =
    born_in r (of_channel k (gathered (reaching t gone (last_wire (t.route k))) (suc slot)))

-- The step function. An adversary orders what is due, for each slot and wire, and chooses how many slots the wire is held
-- from this one on, cut to K, where it may.
abbrev pub Order : Type 0
Order = ℕ → ℕ → List Frame → List Frame

abbrev pub Choice : Type 0
Choice = ℕ → ℕ → ℕ

-- Before a slot: each wire's queue, how many slots it was still held in the slot before, and what was gone in each slot
-- before, the last first.
pub record State : Type 0 where
  pub queues : List (List Waiting)
  pub holds : List ℕ
  pub past : List (List (List Frame))

abbrev pub queue_in : State → ℕ → List Waiting
queue_in state w = get_or state.queues w []

abbrev pub held_in : State → ℕ → ℕ
held_in state w = get_or state.holds w 0

-- seen from before `slot`
abbrev pub gone_in : State → ℕ → Gone
gone_in state slot v earlier = get_or (get_or state.past (slot - suc earlier) []) v []

unfoldable pub arrivals : View → Releases → Order → ℕ → State → ℕ → List Frame
arrivals t released order slot state w = order slot w (due t released (gone_in state slot) w slot)

-- Of a queue before and after arrivals: nothing is held where nothing waits; where frames reach an empty queue, what is
-- chosen; else what is left of the hold.
unfoldable pub holding : List Waiting → List Waiting → ℕ → ℕ → ℕ
holding [] [] chosen left = 0
holding [] (x ∷ full) chosen left = chosen
holding (x ∷ queue) full chosen left = left

unfoldable pub step : View → Releases → Order → Choice → ℕ → State → State
step t released order choice slot state =
    let full = listed (λ w. joined (queue_in state w) (arrivals t released order slot state w)) t.wires in
    let holds =
    listed (λ w. holding (queue_in state w) (get_or full w []) (cut (choice slot w) (K t w)) (held_in state w - 1)) t.wires in
    record {
      queues = listed (λ w. kept (sending (t.rate w) (get_or holds w 0)) (get_or full w [])) t.wires;
      holds = holds;
      past = listed (λ w. sent (sending (t.rate w) (get_or holds w 0)) (get_or full w [])) t.wires ∷ state.past;
    }

unfoldable pub played : View → Releases → Order → Choice → ℕ → State
played t released order choice zero = record { queues = replicate t.wires []; holds = replicate t.wires 0; past = [] }
played t released order choice (suc slot) = step t released order choice slot (played t released order choice slot)
