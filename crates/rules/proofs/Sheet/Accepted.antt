-- An accepted table's sheet answers by its figures; with bytes behind it, it is no sheet; and it is no longer than the longest.
use mathlib.Core.Path.{◌≡◌}
use mathlib.Core.List.{List, [], ◌∷◌}
use Prim.Native.Nat.{ℕ, ◌≤◌}
use native.Mathlib.Omega.{arith}
use Rattle.rules.specs.Numbers.{sheet_longest}
use Rattle.rules.specs.Replies.{granted}
use Rattle.rules.specs.Table.{view_of}
use Rattle.rules.specs.Judgement.{judge}
use Rattle.rules.specs.Incident.{GivesBack}
use Rattle.rules.proofs.Sheet.Laws.{sheet-longest}
use Rattle.rules.proofs.Bounds.Judgement.{judge-accepted}
use Rattle.rules.proofs.Sheet.Asking.{accepted-asked, accepted-whole}
use Rattle.rules.proofs.Sheet.Fits.{fits-view}

pub accepted_answers : GivesBack
accepted_answers s lent length e =
    let accepted = judge-accepted s lent length e in
    let bounded = accepted.0.bounded in
    let fits = fits-view s accepted.0.sound bounded.backlogs bounded.ends in
    (accepted-asked s lent length e accepted.1 fits, λ l. accepted-whole s lent length e accepted.1 fits (omega arith))

pub accepted_longest : (s : List ℕ) (lent length : ℕ) → judge s lent ≡ granted (length ∷ []) → length ≤ sheet_longest
accepted_longest s lent length e =
    let accepted = judge-accepted s lent length e in
    let sound = accepted.0.sound in
    omega (arith, accepted.1, sheet-longest (view_of s).wires (view_of s).channels sound.wires_at_most sound.channels_at_most)
