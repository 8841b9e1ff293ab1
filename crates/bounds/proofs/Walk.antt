-- One wire of the walk: what it is worked out from, what is worked out, and what that adds.
use mathlib.Core.Path.{◌≡◌, refl, sym, ap, ap₂, ◌∙◌}
use mathlib.Core.Bool.{Bool, true, false}
use mathlib.Core.Logic.{inl, inr}
use mathlib.Core.List.{List}
use Prim.Native.Nat.{ℕ, ◌+◌, ◌-◌, ◌*◌, ◌/◌, ◌^◌, ◌≤◌, ◌<◌}
use native.Mathlib.Nat.{div-le_self, mul-div-le}
use native.Mathlib.Omega.{arith}
use lib.ListN.{get_or, set, take}
use Rattle.std.proofs.lemmas.Bool.{cases_Bool}
use Rattle.rules.specs.declared.Wire.{Wire}
use Rattle.rules.specs.declared.Table.{Table}
use Rattle.rules.specs.declared.Figures.{Figures}
use Rattle.bounds.specs.declared.filing.Filed.{Filed}
use Rattle.rules.specs.Words.{total, up, only}
use Rattle.rules.specs.Price.{full_frame}
use Rattle.rules.specs.Numbers.{channels_most}
use Rattle.rules.specs.Table.{View}
use Rattle.rules.specs.Office.{K}
use Rattle.rules.specs.Bounds as bounds
use Rattle.rules.specs.Judgement.{room_test}
use Rattle.rules.specs.Decoded.{no_wire, wire_figures_of}
use Rattle.rules.proofs.Sums.{sum_same}
use Rattle.rules.proofs.Tables.Told.{WireTold, ChannelTold, channel_at}
use Rattle.rules.proofs.Tests.{Stops}
use Rattle.rules.proofs.Bounds.Judgement.{room-stops}
use Rattle.rules.proofs.Bounds.Sizes.{part-most, delay-up}
use Rattle.rules.proofs.Sheet.Fits.{delay-le}
use Rattle.bounds.specs.Filed.{filed_under, carries, ahead, those, Holds}
use Rattle.bounds.specs.Stages.{first_of, channel_in, share_in, shares, Shared, Gathers, Spare, Raised, FiledBelow, ToWalk}
use Rattle.bounds.proofs.Those.{length-those, total-those, some-those, all-those}
use Rattle.bounds.proofs.Read.{blank, table-told, wire-less, wire-small, wire-told}
use Rattle.bounds.proofs.Wires.{Walking, loaded, late, spent, gathered, backlog-is, spare-column, walking_next}
use Rattle.bounds.proofs.Wires.{jitter-small, end-small, jitter_told, burst-lt}

ahead-most : (f : Filed) → ahead f ≤ 2 * full_frame
ahead-most f = elim (cases_Bool f.first) [ inl e ↦ rw e (omega arith) | inr e ↦ rw e (omega arith) ]

-- at most two full frames, and less than a slot's bytes more
hold-most : (b : Bool) (rate bytes : ℕ) → 1 ≤ rate → rate ≤ 100 → bytes ≤ 2 * full_frame
    → only b (rate * up bytes rate) < 2 * full_frame + 100
hold-most true rate bytes l m a = omega (arith, mul-div-le (bytes + (rate - 1)) rate)
hold-most false rate bytes l m a = omega arith

module _ {t : View} {r : Table} {filed : List Filed} (to : ToWalk t r) (filed-all : FiledBelow t t.channels filed) where
  pub some-hyper : 0 < r.hyper
  some-hyper = omega (arith, (table-told to.read).hyper, to.read.sound.hyper_at_least)

  module _ (w : ℕ) (l : w < r.wires) where
    abbrev wire : Wire
    wire = get_or (take r.wires r.wire) w no_wire

    abbrev under : Filed
    under = get_or filed w blank

    less : w < t.wires
    less = wire-less to.read w l

    told : WireTold t w wire
    told = wire-told to.read w l no_wire

    holds : Holds (bounds.on t w) (bounds.part t) t.channels false under
    holds = filed-all.wire w blank (wire-small to.read w l)

    told-first : under.first ≡ first_of t t.channels w
    told-first = filed-all.first w blank (wire-small to.read w l)

    pub rate_at_least : 1 ≤ wire.rate
    rate_at_least = omega (arith, told.rate, to.read.sound.rate_at_least w less)

    pub rate_at_most : wire.rate ≤ 100
    rate_at_most = omega (arith, told.rate, to.read.sound.rate_at_most w less)

    pub count-most : under.count ≤ channels_most
    count-most =
        omega (arith, holds.count, length-those (bounds.on t w) t.channels, to.read.sound.channels_at_most)

    channel_told : (k : ℕ) → k < t.channels → ChannelTold t k (channel_in r k)
    channel_told k less = channel_at t to.read.sound r (table-told to.read) k _ less

    module _ {figures : Figures} {jitters : List ℕ} (here : Walking t w figures jitters) where
      burst-most : bounds.burst t (bounds.known t w) w < 2 ^ 63
      burst-most = burst-lt t (loaded to) w figures jitters here less

      share-told : (k : ℕ) → k < t.channels → bounds.on t w k ≡ true
          → share_in r jitters k ≡ bounds.cost t k * t.hyper + bounds.part t k * bounds.jitter t (bounds.known t w) w k
      share-told k m there =
          let c = channel_told k m in
          ap₂ (λ (x y : ℕ). x + y) (ap₂ (λ (x y : ℕ). x * y) c.price (table-told to.read).hyper)
          (ap₂ (λ (x y : ℕ). x * y) (ap₂ (λ (x y : ℕ). x * y) c.price c.times)
          (jitter_told t (loaded to) w figures jitters here (omega (arith, less)) k m there))

      only-same : (b : Bool) (x y : ℕ) → (b ≡ true → x ≡ y) → only b x ≡ only b y
      only-same true x y h = h refl
      only-same false x y h = refl

      pub told-burst : shares r under jitters ≡ bounds.burst t (bounds.known t w) w
      unfolding bounds.burst bounds.share_of
      told-burst =
          ap (λ (xs : List ℕ). total (share_in r jitters) xs) holds.channels
          ∙ total-those (bounds.on t w) (share_in r jitters) t.channels
          ∙ sum_same _ _ t.channels (λ k m. only-same (bounds.on t w k) _ _ (share-told k m))

      shared : (k : ℕ) → k < t.channels → Shared r k
      shared k m =
          let c = channel_told k m in
          record {
            below = omega (arith, to.read.sound.channels_at_most);
            part_fits = omega (
              arith,
              ap₂ (λ (x y : ℕ). x * y) c.price c.times,
              part-most t to.read.sound k m,
            );
          }

      pub gathers : Gathers r under jitters
      gathers =
          record {
            room = count-most;
            channels = rw holds.channels (all-those (bounds.on t w) (Shared r) t.channels (λ k m e. shared k m));
            small = omega (arith, told-burst, burst-most);
          }

      -- with its burst times H, and what it is held for
      module _ {burst held : ℕ} (bursts : burst ≡ shares r under jitters)
          (holding : held ≡ only (carries under) (wire.rate * up (ahead under) wire.rate)) where
        told-hold : held ≡ only (bounds.carries t w) (t.rate w * K t w)
        unfolding K
        told-hold =
            holding ∙ rw (holds.count, told.rate, told-first, some-those (bounds.on t w) t.channels) refl

        hold-small : held < 2 * full_frame + 100
        hold-small = rw holding (hold-most (carries under) wire.rate (ahead under) rate_at_least rate_at_most (ahead-most under))

        pub bytes_fit : burst / r.hyper + held < 2 ^ 64
        bytes_fit = omega (arith, hold-small, div-le_self burst r.hyper, bursts, told-burst, burst-most)

        told-backlog : burst / r.hyper + held ≡ bounds.backlog t w
        told-backlog =
            ap₂ (λ (x y : ℕ). x + y) (ap₂ (λ (x y : ℕ). x / y) (bursts ∙ told-burst) (table-told to.read).hyper) told-hold
            ∙ sym (backlog-is t w)

        pub over-stops : wire.room < burst / r.hyper + held → Stops (room_test t w) 13 w
        over-stops over = room-stops t w (omega (arith, told-backlog, told.room))

        -- it passes 13
        module _ (enough : burst / r.hyper + held ≤ wire.room) where
          pub passed : bounds.backlog t w ≤ t.room w
          passed = omega (arith, told-backlog, told.room)

          delay-lt : bounds.delay t w < 2 ^ 24
          delay-lt =
              omega (
                arith,
                delay-le t w (to.read.sound.rate_at_least w less),
                passed,
                to.read.room_fits w,
              )

          spent-lt : spent t w < 2 ^ 25
          spent-lt = omega (arith, delay-lt, to.read.prop_fits w)

          module _ {wait : ℕ} (waits : wait ≡ up (burst / r.hyper + held) wire.rate) where
            told-delay : wait ≡ bounds.delay t w
            told-delay = waits ∙ ap₂ up told-backlog told.rate ∙ sym (delay-up t w)

            told-late : wait - 1 ≡ late t w
            told-late = omega (arith, told-delay)

            told-spent : wait + wire.prop ≡ spent t w
            told-spent = omega (arith, told-delay, told.prop)

            pub spent-fits : wait + wire.prop < 2 ^ 64
            spent-fits = omega (arith, told-spent, spent-lt)

            module _ {channels : List ℕ} (is : channels ≡ filed_under under) where
              told-channels : channels ≡ those (bounds.on t w) t.channels
              told-channels = is ∙ holds.channels

              pub spare-jitters : Spare channels (wait - 1) jitters
              spare-jitters =
                  let inside : w ≤ t.wires = omega (arith, less) in
                  spare-column t.channels (wait - 1) (gathered t (late t) w) (bounds.on t w) channels jitters
                  to.read.sound.channels_at_most told-channels here.jitters_told
                  (λ k m. omega (arith, told-late, delay-lt, jitter-small t (loaded to) w figures jitters here inside k m))

              pub spare-ends : Spare channels (wait + wire.prop) figures.end
              spare-ends =
                  let inside : w ≤ t.wires = omega (arith, less) in
                  spare-column t.channels (wait + wire.prop) (gathered t (spent t) w) (bounds.on t w) channels figures.end
                  to.read.sound.channels_at_most told-channels here.ends_told
                  (λ k m. omega (arith, told-spent, spent-lt, end-small t (loaded to) w figures jitters here inside k m))

              pub next : {jitters' ends' : List ℕ} → Raised channels (wait - 1) jitters jitters'
                  → Raised channels (wait + wire.prop) figures.end ends'
                  → Walking t (w + 1)
                  (record {
                    wire = set figures.wire w (record { backlog = burst / r.hyper + held; delay = wait });
                    end = ends';
                  }) jitters'
              unfolding wire_figures_of
              next j e =
                  walking_next t (loaded to) w figures jitters here less passed
                  (record { backlog = burst / r.hyper + held; delay = wait })
                  (λ i. record { backlog = told-backlog i; delay = told-delay i }) (wait - 1) (wait + wire.prop)
                  told-late told-spent channels told-channels _ _ j e
