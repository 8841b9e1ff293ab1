-- The statements read back, each from its text alone: what they are believed to say follows from them, to the very figure.
-- Where one is made to say less, a law here fails.
use mathlib.Core.Path.{◌≡◌, refl, ap, ap₂, ◌∙◌}
use mathlib.Core.List.{List, [], ◌∷◌, ◌++◌, map}
use Prim.Native.Nat.{ℕ, suc, ◌+◌, ◌≤◌, ◌<◌}
use native.Mathlib.Decide.{dec_lt}
use native.Mathlib.Omega.{arith}
use lib.ListN.{length, take, length-append}
use lib.Seq.{take-append_seam, take_at}
use Rattle.bits.specs.Field.{Bytes}
use Rattle.rules.specs.Words.{gathered}
use Rattle.rules.specs.Numbers.{table_longest}
use Rattle.rules.specs.Replies.{Reply, granted, refused}
use Rattle.rules.specs.Table.{View, view_of}
use Rattle.rules.specs.Reading.{reading}
use Rattle.rules.specs.Bounds.{backlog, delay, end_to_end}
use Rattle.rules.specs.Sheet.{ask_wire, ask_channel}
use Rattle.rules.specs.Judgement.{judge, buffer}
use Rattle.rules.specs.Machine.{Frame, Releases, Keeps, Holding, Run, Allowed, nobody, AnyOrder, message, delivered, unsent}
use Rattle.rules.specs.Cases.{Case, Figures, Same, Hold, all, ◌and◌, cases, evaluate, MarkedCases}
use Rattle.rules.specs.Incident.{PrefixesRefused, ExtensionsRefused, LongerAlike}
use Rattle.rules.specs.Incident.{SameView, OneString, LeavesNoSheet, GivesBack}
use Rattle.rules.specs.Promise.{WirePromised, ChannelPromised, Promised, Promise, PromiseAlone}
use Rattle.rules.proofs.Bounds.Judgement.{judge-refused}
use Rattle.rules.proofs.Machine.Orders.{count, among_before}

-- ---- the promise

-- Of a table's view and a run, by the figures of the definitions.
pub record Kept (t : View) (released : Releases) {held : Holding} (run : Run t released held) : Type 0 where
  pub backlogs : (w slot : ℕ) → w < t.wires → unsent run w slot ≤ backlog t w
  pub rooms : (w slot : ℕ) → w < t.wires → unsent run w slot ≤ t.room w
  pub lefts :
      (w slot later : ℕ) (f : Frame) → w < t.wires →
      count f (gathered (run.arrived w) (suc slot)) ≤ count f (gathered (run.gone w) (slot + delay t w + later))
  pub deadlines : (k : ℕ) → k < t.channels → end_to_end t k ≤ t.deadline k
  pub wholes :
      (k r later : ℕ) → k < t.channels →
      AnyOrder (message t released k r) (delivered t run.gone k r (r + end_to_end t k + later))

-- From what is promised of the sheet, and what asking it replies.
read :
    GivesBack → (s : List ℕ) (lent len : ℕ) → judge s lent ≡ granted (len ∷ []) →
    (released : Releases) (held : Holding) (run : Run (view_of s) released held) →
    Promised s (take len (buffer s lent)) released held run → Kept (view_of s) released run
read back s lent len e released held run promised =
    let t = view_of s in
    let asked = (back s lent len e).0 in
    let wire : (w : ℕ) → w < t.wires → WirePromised s (take len (buffer s lent)) released held run w =
    λ w l. promised.wires w (omega arith) in
    let channel : (k : ℕ) → k < t.channels → ChannelPromised s (take len (buffer s lent)) released held run k =
    λ k l. promised.channels k (omega arith) in
    let backlog-is : (w : ℕ) (l : w < t.wires) → (wire w l).backlog ≡ backlog t w
    = λ w l. cc ((wire w l).asked, asked.wire w l) in
    let delay-is : (w : ℕ) (l : w < t.wires) → (wire w l).delay ≡ delay t w = λ w l. cc ((wire w l).asked, asked.wire w l) in
    let end_is : (k : ℕ) (l : k < t.channels) → (channel k l).delay ≡ end_to_end t k
    = λ k l. cc ((channel k l).asked, asked.channel k l) in
    record {
      backlogs = λ w slot l. omega (arith, (wire w l).backlog_at_most slot, backlog-is w l);
      rooms = λ w slot l. omega (arith, (wire w l).backlog_at_most slot, (wire w l).within_room);
      lefts = λ w slot later f l.
          among_before _ (run.gone w) _ (slot + delay t w + later) ((wire w l).left slot) (omega (arith, delay-is w l)) f;
      deadlines = λ k l. omega (arith, (channel k l).within_deadline, end_is k l);
      wholes = λ k r later l. (channel k l).whole r (r + end_to_end t k + later) (omega (arith, end_is k l));
    }

-- For every wire and channel, any lent length, any releases, holds and run: no premise more.
pub promise-read :
    Promise → GivesBack → (s : List ℕ) (lent len : ℕ) → judge s lent ≡ granted (len ∷ []) →
    (released : Releases) → Keeps (view_of s) released → (held : Holding) (run : Run (view_of s) released held) → Allowed run →
    Kept (view_of s) released run
promise-read promise back s lent len e released keeps held run allowed =
    read back s lent len e released held run (promise s lent len e released keeps held run allowed)

pub alone-read :
    PromiseAlone → GivesBack → (s : List ℕ) (lent len : ℕ) → judge s lent ≡ granted (len ∷ []) →
    (released : Releases) → Keeps (view_of s) released → (run : Run (view_of s) released nobody) →
    Kept (view_of s) released run
alone-read promise back s lent len e released keeps run =
    read back s lent len e released nobody run (promise s lent len e released keeps run)

-- ---- what is asked of the releases: these two conditions, and no third

pub keeps-built :
    (t : View) (released : Releases) →
    ((k r : ℕ) → k < t.channels → released k r ≤ t.payload k) →
    ((k r later : ℕ) → k < t.channels → r < later → 1 ≤ released k r → 1 ≤ released k later → r + t.period k ≤ later) →
    Keeps t released
keeps-built t released declared apart =
    record {
      declared = λ k r l. omega (arith, declared k r (omega arith));
      apart = λ k r later l less x y. omega (arith, apart k r later (omega arith) (omega arith) (omega arith) (omega arith));
    }

-- ---- reading, and the sheet

pub prefix-read :
    PrefixesRefused → (p q : List ℕ) → 1 ≤ length q → reading (p ++ q) ≡ granted [] → (lent : ℕ) → judge p lent ≡ refused 1 0
prefix-read h p q l e lent =
    judge-refused p lent 1 0 (rw take-append_seam at (h (p ++ q) e (length p) (omega (arith, length-append p q))))

pub extension-read :
    ExtensionsRefused → (p q : List ℕ) (b lent : ℕ) → reading p ≡ granted [] → judge (p ++ (b ∷ q)) lent ≡ refused 11 0
extension-read h p q b lent e = judge-refused (p ++ (b ∷ q)) lent 11 0 (h p (b ∷ q) e (omega arith))

pub longer-read :
    LongerAlike → (p q : List ℕ) (lent : ℕ) → length p ≡ suc table_longest → judge (p ++ q) lent ≡ judge p lent
longer-read h p q lent e =
    h (p ++ q) (omega (arith, length-append p q)) lent ∙ ap (λ (s : List ℕ). judge s lent) (take_at p q (suc table_longest) e)

-- the eleven equations of a view, and no twelfth
pub same_view_built :
    (a b : View) → a.hyper ≡ b.hyper → a.wires ≡ b.wires → a.channels ≡ b.channels →
    ((w : ℕ) → w < a.wires → (a.rate w ≡ b.rate w) × (a.prop w ≡ b.prop w) × (a.room w ≡ b.room w)) →
    ((k : ℕ) → k < a.channels →
    (a.framing k ≡ b.framing k) × (a.payload k ≡ b.payload k) × (a.period k ≡ b.period k) × (a.deadline k ≡ b.deadline k)
    × (a.route k ≡ b.route k)) →
    SameView a b
same_view_built a b hyper wires channels wire channel =
    record {
      hyper = hyper;
      wires = wires;
      channels = channels;
      rate = λ w l. (wire w (omega arith)).0;
      prop = λ w l. (wire w (omega arith)).1;
      room = λ w l. (wire w (omega arith)).2;
      framing = λ k l. (channel k (omega arith)).0;
      payload = λ k l. (channel k (omega arith)).1;
      period = λ k l. (channel k (omega arith)).2;
      deadline = λ k l. (channel k (omega arith)).3;
      route = λ k l. (channel k (omega arith)).4;
    }

pub one_string-read :
    OneString → (s t : List ℕ) → Bytes s → Bytes t → reading s ≡ granted [] → reading t ≡ granted [] → view_of s ≡ view_of t → s ≡ t
one_string-read h s t a b p q e =
    h s t a b p q
    (same_view_built (view_of s) (view_of t) (ap (λ (v : View). v.hyper) e) (ap (λ (v : View). v.wires) e)
    (ap (λ (v : View). v.channels) e)
    (λ w l. (ap (λ (v : View). v.rate w) e, ap (λ (v : View). v.prop w) e, ap (λ (v : View). v.room w) e))
    (λ k l. (
      ap (λ (v : View). v.framing k) e,
      ap (λ (v : View). v.payload k) e,
      ap (λ (v : View). v.period k) e,
      ap (λ (v : View). v.deadline k) e,
      ap (λ (v : View). v.route k) e,
    )))

-- no figure can be asked from what a refusal leaves
pub no-sheet-read :
    LeavesNoSheet → (s : List ℕ) (lent number place : ℕ) → judge s lent ≡ refused number place →
    (i : ℕ) (values : List ℕ) → ¬ (ask_wire (buffer s lent) i ≡ granted values) × ¬ (ask_channel (buffer s lent) i ≡ granted values)
no-sheet-read h s lent number place e i values =
    elim (dec_lt lent 2) [
      | yes l ↦ (let no-figure = (h s lent number place e).0 (omega arith) i in (never no-figure.0, never no-figure.1))
      | no l ↦ (let no-figure = (h s lent number place e).1 (omega arith) i in (never no-figure.0, never no-figure.1))
    ]
  where
    never : {r : Reply} {n p : ℕ} {values : List ℕ} → r ≡ refused n p → ¬ (r ≡ granted values)
    never e f = cc

-- every other number gets 19, and a longer buffer 16
pub others-read :
    GivesBack → (s : List ℕ) (lent len : ℕ) → judge s lent ≡ granted (len ∷ []) → (n more : ℕ) →
    (ask_wire (take len (buffer s lent)) ((view_of s).wires + n) ≡ refused 19 0)
    × (ask_channel (take len (buffer s lent)) ((view_of s).channels + n) ≡ refused 19 0)
    × (lent ≡ suc (len + more) → (ask_wire (buffer s lent) n ≡ refused 16 0) × (ask_channel (buffer s lent) n ≡ refused 16 0))
others-read h s lent len e n more =
    let asked = h s lent len e in (
      asked.0.no_wire ((view_of s).wires + n) (omega arith),
      asked.0.no_channel ((view_of s).channels + n) (omega arith),
      λ l. asked.1 (omega arith) n,
    )

-- ---- the marked cases: every figure of every row

same-figures : (a b : Figures) → Same a b → a ≡ b
same-figures a b e =
    let reply : a.reply ≡ b.reply = e.0 in
    let loads : a.loads ≡ b.loads = e.1 in
    let backlogs : a.backlogs ≡ b.backlogs = e.2 in
    let delays : a.delays ≡ b.delays = e.3 in
    let ends : a.ends ≡ b.ends = e.4 in
    let bytes : a.buffer ≡ b.buffer = e.5 in
    λ i. record { reply = reply i; loads = loads i; backlogs = backlogs i; delays = delays i; ends = ends i; buffer = bytes i }

figures-read : (cs : List Case) → Hold cs → map (λ (c : Case). evaluate c.question) cs ≡ map (λ (c : Case). c.figures) cs
figures-read [] all = refl
figures-read (c ∷ cs) (e and rest) =
    ap₂ (λ (x : Figures) (xs : List Figures). x ∷ xs)
    (same-figures (evaluate c.question) c.figures e) (figures-read cs rest)

pub cases-read : MarkedCases → map (λ (c : Case). evaluate c.question) cases ≡ map (λ (c : Case). c.figures) cases
cases-read h = figures-read cases h
