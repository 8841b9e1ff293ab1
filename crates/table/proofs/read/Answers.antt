-- After each stage that passes, the reading is what the stages after it give.
use Rattle.std.proofs.Common.{ℕ, List, [], ◌≡◌, ◌∙◌, refl, sym, ap, ap₂}
use Rattle.std.proofs.Math.ListN.{replicate}
use Rattle.std.specs.Prelude.{Result, IsErrAnd}
use Rattle.std.proofs.lemmas.Result.{err_from_is_err_and}
use Rattle.rules.specs.declared.Refusal.{Refusal}
use Rattle.rules.specs.declared.Wire.{Wire}
use Rattle.rules.specs.declared.Channel.{Channel}
use Rattle.rules.specs.declared.Table.{Table}
use Rattle.rules.specs.Numbers.{wires_most, channels_most}
use Rattle.rules.specs.Replies.{Reply, granted, each, refusal_reply, reading_reply}
use Rattle.rules.specs.Table.{view_of, wires_of, channels_of, channel_at, end_of}
use Rattle.rules.specs.Reading.{head_tests, wire_tests, channel_tests, filling_tests, reading_tests, reading}
use Rattle.rules.specs.Decoded.{column, no_wire, wire_of, no_channel, channel_of, table_of, no_table}
use Rattle.rules.proofs.Tests.{Through}
use Rattle.table.specs.declared.Head.{Head}
use Rattle.table.specs.Stages.{HeadRead, ChannelsEnd}
use Rattle.table.proofs.read.Goals as goal

-- the tests of n wires and m channels, and of the filling
abbrev wires-on : List ℕ → ℕ → ℕ → Reply
wires-on s n m = each (wire_tests s) 0 n (each (channel_tests s) 0 m (filling_tests s (granted [])))

start : (s : List ℕ) → reading s ≡ head_tests s (wires-on s (wires_of s) (channels_of s))
unfolding reading reading_tests
start s = refl

-- at the exit of a `?`
refuses : (s : List ℕ) (a : Result Table Refusal) (r : Refusal) → IsErrAnd a (λ e. e ≡ r) → reading s ≡ refusal_reply r
    → reading_reply a ≡ reading s
refuses s a r h e =
    let y = err_from_is_err_and a h in
    rw (y.1, y.2) (sym e)

module _ (s : List ℕ) (h : Head) (told : HeadRead s h) (headed : Through (head_tests s)) where
  after-head : reading s ≡ wires-on s h.wires h.channels
  after-head = start s ∙ headed _ ∙ ap₂ (wires-on s) (sym told.wires) (sym told.channels)

  module _ (wired : Through (each (wire_tests s) 0 h.wires)) where
    after-wires : reading s ≡ each (channel_tests s) 0 h.channels (filling_tests s (granted []))
    after-wires = after-head ∙ wired _

    module _ (searched : Through (each (channel_tests s) 0 h.channels)) where
      after-channels : reading s ≡ filling_tests s (granted [])
      after-channels = after-wires ∙ searched _

module _ (s : List ℕ) (h : Head) (told : HeadRead s h) where
  end_is : (end : ℕ) → ChannelsEnd s h.channels end → end ≡ end_of s
  unfolding end_of
  end_is end read = read.told ∙ ap (channel_at s) told.channels

  table : (wire : List Wire) (channel : List Channel) → wire ≡ column no_wire wires_most h.wires (wire_of (view_of s))
      → channel ≡ column no_channel channels_most h.channels (channel_of (view_of s))
      → record { hyper = h.hyper; wires = h.wires; channels = h.channels; wire = wire; channel = channel }
      ≡ table_of (view_of s)
  unfolding table_of
  table wire channel wired searched =
      λ i. record {
        hyper = told.hyper i;
        wires = told.wires i;
        channels = told.channels i;
        wire = (wired ∙ ap (λ (n : ℕ). column no_wire wires_most n (wire_of (view_of s))) told.wires) i;
        channel = (searched ∙ ap (λ (m : ℕ). column no_channel channels_most m (channel_of (view_of s))) told.channels) i;
      }

-- of a table of which nothing is filled yet
module _ (t : Table) (e : t ≡ no_table) where
  no-wires : t.wire ≡ replicate wires_most no_wire
  unfolding no_table
  no-wires = ap (λ (x : Table). x.wire) e

  no-channels : t.channel ≡ replicate channels_most no_channel
  unfolding no_table
  no-channels = ap (λ (x : Table). x.channel) e

pub returns-in_err-head-clause-answer_value : goal.returns-in_err-head-clause-answer_value
returns-in_err-head-clause-answer_value c =
    let s = c.args.s.now in
    refuses s c.from_residual.result c.in_err-head.field-0.0 c.from_residual.ensures.1
    (start s ∙ c.in_err-head.ensures.answered _)

pub wires_of-requires-clause-none : goal.wires_of-requires-clause-none
wires_of-requires-clause-none c = no-wires c.none-table.result c.none-table.ensures

pub returns-in_err-wires_of-clause-answer_value : goal.returns-in_err-wires_of-clause-answer_value
returns-in_err-wires_of-clause-answer_value c =
    let s = c.args.s.now in
    let exit = c.from_residual-in_err-wires_of in
    let head = c.in_ok-head.ensures in
    refuses s exit.result c.in_err-wires_of.field-0.0 exit.ensures.1
    (after-head s c.in_ok-head.head head.told head.answered ∙ c.in_err-wires_of.ensures.answered _)

pub channels_of-requires-clause-none : goal.channels_of-requires-clause-none
channels_of-requires-clause-none c = no-channels c.none-table.result c.none-table.ensures

pub returns-in_err-end-clause-answer_value : goal.returns-in_err-end-clause-answer_value
returns-in_err-end-clause-answer_value c =
    let s = c.args.s.now in
    let exit = c.from_residual-in_err-end in
    let head = c.in_ok-head.ensures in
    refuses s exit.result c.in_err-end.field-0.0 exit.ensures.1
    (after-wires s c.in_ok-head.head head.told head.answered c.in_ok-wires_of.ensures.answered ∙ c.in_err-end.ensures.answered _)

pub filling_of-requires-clause-end_value : goal.filling_of-requires-clause-end_value
filling_of-requires-clause-end_value c =
    end_is c.args.s.now c.in_ok-head.head c.in_ok-head.ensures.told c.in_ok-end.end c.in_ok-end.ensures.end

pub returns-in_err-filling_of-clause-answer_value : goal.returns-in_err-filling_of-clause-answer_value
returns-in_err-filling_of-clause-answer_value c =
    let s = c.args.s.now in
    let exit = c.from_residual-in_err-filling_of in
    let head = c.in_ok-head.ensures in
    refuses s exit.result c.in_err-filling_of.field-0.0 exit.ensures.1
    (after-channels s c.in_ok-head.head head.told head.answered c.in_ok-wires_of.ensures.answered c.in_ok-end.ensures.answered
    ∙ c.in_err-filling_of.ensures _)

pub returns-clause-answer_value : goal.returns-clause-answer_value
returns-clause-answer_value c =
    let s = c.args.s.now in
    let head = c.in_ok-head.ensures in
    sym
    (after-channels s c.in_ok-head.head head.told head.answered c.in_ok-wires_of.ensures.answered c.in_ok-end.ensures.answered
    ∙ c.in_ok-filling_of.ensures _)

pub returns-clause-table_value : goal.returns-clause-table_value
returns-clause-table_value c =
    table c.args.s.now c.in_ok-head.head c.in_ok-head.ensures.told c.wires_of.new.wires c.channels_of.new.channels
    c.in_ok-wires_of.ensures.told c.in_ok-end.ensures.told
