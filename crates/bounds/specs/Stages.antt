-- What one stage of the bounds tells the next. A table as read, `r`, has the view `t`.
use Rattle.std.specs.Prelude.{◌≡◌, Bool, false, List, [], ℕ, ◌+◌, ◌*◌, ◌^◌, ◌≤◌, ◌<◌, length, get_or, eqb}
use Rattle.std.specs.List.{All}
use Rattle.rules.specs.declared.Channel.{Channel}
use Rattle.rules.specs.declared.Table.{Table}
use Rattle.bounds.specs.declared.filing.Filed.{Filed}
use Rattle.rules.specs.Words.{total, only, begins, some}
use Rattle.rules.specs.Numbers.{wires_most, channels_most, prop_bits, room_bits}
use Rattle.rules.specs.Table.{View}
use Rattle.rules.specs.Bounds.{part, on, load}
use Rattle.rules.specs.Sound.{Sound}
use Rattle.rules.specs.Decoded.{channel_of, table_of}
use Rattle.bounds.specs.Filed.{filed_under, Holds}

-- a table as read, whose wires' fields have their widths
pub record AsRead (t : View) (r : Table) : Type 0 where
  pub sound : Sound t
  pub room_fits : (w : ℕ) → t.room w < 2 ^ room_bits
  pub prop_fits : (w : ℕ) → t.prop w < 2 ^ prop_bits
  pub table : r ≡ table_of t

abbrev pub IsRead : Table → Type 0
IsRead r = (t : View) × AsRead t r

-- the route of a channel below c begins with wire w
abbrev pub first_of : View → ℕ → ℕ → Bool
first_of t c w = some (λ k. begins w (t.route k)) c

-- Channels below c are filed under the wires of their routes; channel c under those wires that are done.
pub record FiledTo (t : View) (c : ℕ) (done : ℕ → Bool) (filed : List Filed) : Type 0 where
  pub same_length : length filed ≡ wires_most
  pub wire : (w : ℕ) (d : Filed) → w < wires_most → Holds (on t w) (part t) c (done w) (get_or filed w d)
  pub first : (w : ℕ) (d : Filed) → w < wires_most → (get_or filed w d).first ≡ first_of t c w

abbrev pub FiledBelow : View → ℕ → List Filed → Type 0
FiledBelow t c filed = FiledTo t c (λ w. false) filed

-- channel k is to be filed
pub record ToFile (t : View) (k : ℕ) (r : Channel) (filed : List Filed) : Type 0 where
  pub sound : Sound t
  pub less : k < t.channels
  pub channel : r ≡ channel_of t k
  pub before : FiledBelow t k filed

-- a table as read, whose loads passed 12
pub record ToWalk (t : View) (r : Table) : Type 0 where
  pub read : AsRead t r
  pub loads : (w : ℕ) → w < t.wires → load t w ≤ t.rate w * t.hyper

abbrev pub channel_in : Table → ℕ → Channel
channel_in r k = get_or r.channel k (record { price = 0; times = 0; deadline = 0; hops = 0; route = [] })

-- these are the prices of a table's channels
abbrev pub Priced : Table → List ℕ → Type 0
Priced r prices = (k : ℕ) → k < channels_most → get_or prices k 0 ≡ (channel_in r k).price

-- C × H + C × (H / P) × J of channel k
abbrev pub share_in : Table → List ℕ → ℕ → ℕ
share_in r jitters k =
    (channel_in r k).price * r.hyper + (channel_in r k).price * (channel_in r k).times * get_or jitters k 0

abbrev pub shares : Table → Filed → List ℕ → ℕ
shares r f jitters = total (share_in r jitters) (filed_under f)

-- what a channel's share is worked out from
pub record Shared (r : Table) (k : ℕ) : Type 0 where
  pub below : k < channels_most
  pub part_fits : (channel_in r k).price * (channel_in r k).times < 2 ^ 64

-- what a wire's burst is worked out from
pub record Gathers (r : Table) (f : Filed) (jitters : List ℕ) : Type 0 where
  pub room : f.count ≤ channels_most
  pub channels : All (Shared r) (filed_under f)
  pub small : shares r f jitters < 2 ^ 64

-- by how much entry k is raised, where each of these is raised by d
abbrev pub raised_by : List ℕ → ℕ → ℕ → ℕ
raised_by channels d k = total (λ x. only (eqb x k) d) channels

-- each of these channels' entries can be raised by d
pub record Spare (channels : List ℕ) (d : ℕ) (a : List ℕ) : Type 0 where
  pub below : All (λ k. k < channels_most) channels
  pub fits : (k : ℕ) → k < channels_most → get_or a k 0 + raised_by channels d k < 2 ^ 64

-- each of these channels' entries is raised by d
pub record Raised (channels : List ℕ) (d : ℕ) (before after : List ℕ) : Type 0 where
  pub same_length : length after ≡ length before
  pub raised : (k : ℕ) → k < channels_most → get_or after k 0 ≡ get_or before k 0 + raised_by channels d k
