-- What the judge's own contract settles: case A's bytes force its reply and its sheet, another table another reply, and for any
-- reply and buffer that meet it with acceptance the promise holds of the buffer's first bytes.
use mathlib.Core.Path.{◌≡◌, sym, ap, ap₂, ◌∙◌}
use mathlib.Core.List.{List}
use Prim.Native.Nat.{ℕ}
use lib.ListN.{length, take, replicate}
use contract.Lifetimes.{Lfts}
use denote.Triple.Clauses.{AtExit}
use borrow.Fn.World.{ArgsD, ResD}
use borrow.Fn.Kinds.{ended_of}
use Rattle.std.specs.Prelude.{Result, Ok, Err}
use Rattle.rules.specs.declared.Refusal.{Refusal}
use Rattle.rules.specs.declared.Refusal.TheVariants as refusal
use Rattle.rules.specs.Replies.{judging_reply}
use Rattle.rules.specs.Table.{view_of}
use Rattle.rules.specs.Judgement.{judge as judged, buffer}
use Rattle.rules.specs.Cases.{case_a, case_a_sheet, case_a_late}
use Rattle.rules.specs.Machine.{Releases, Keeps, Holding, Run, Allowed}
use Rattle.rules.specs.Promise.{Promised}
use Rattle.rules.proofs.Replies.{judging-one}
use Rattle.rules.proofs.Cases.{case_a_lem, case_a_late_lem}
use Rattle.rules.proofs.Machine.Promised.{promise}
use Rattle.judge.specs.contracts.judge as judge
use Rattle.judge.proofs.judge.Kinds as judge-kinds
use Rattle.judge.proofs.judge.Reads as judge-reads

module _ (κs : Lfts 2) (a : ArgsD judge.signature κs) (r : ResD judge.signature κs)
    (e : AtExit (ended_of 2 judge-kinds.ps judge-kinds.r) κs) (met : judge-reads.Post κs a r e) where
  abbrev table : List ℕ
  table = a.0.now

  abbrev left : List ℕ
  left = e.1.0.now

  pub promise-kept :
      (len : ℕ) → r ≡ Ok len → (released : Releases) → Keeps (view_of table) released →
      (held : Holding) (run : Run (view_of table) released held) → Allowed run → Promised table (take len left) released held run
  promise-kept len is released keeps held run allowed =
      rw met.1 (promise table _ len (sym met.0 ∙ ap judging_reply is) released keeps held run allowed)

  -- a table and a lent length for which the definitions give one reply and one buffer
  forced : (s : List ℕ) (lent : ℕ) (j : Result ℕ Refusal) (bytes : List ℕ) → table ≡ s → length a.1.0.now ≡ lent
      → (judged s lent ≡ judging_reply j) × (buffer s lent ≡ bytes) → (r ≡ j) × (left ≡ bytes)
  forced s lent j bytes is long h = (
    judging-one r j (met.0 ∙ ap₂ judged is long ∙ h.0),
    met.1 ∙ ap₂ buffer is long ∙ h.1,
  )

  -- Refusing everything, one fixed reply and an untouched sheet do not meet the contract.
  pub case_a_forced :
      table ≡ case_a → length a.1.0.now ≡ 12 → (r ≡ Ok 12) × (left ≡ case_a_sheet)
  case_a_forced is long = forced case_a 12 (Ok 12) _ is long case_a_lem

  pub case_a_late_forced :
      table ≡ case_a_late → length a.1.0.now ≡ 12 → (r ≡ Err (refusal.Deadline 0)) × (left ≡ replicate 12 255)
  case_a_late_forced is long = forced case_a_late 12 (Err (refusal.Deadline 0)) _ is long case_a_late_lem
