-- The walk over the wires, before wire w: what is worked out, that it is small, and the step to the next wire.
use mathlib.Core.Path.{◌≡◌, refl, sym, ap, ◌∙◌}
use mathlib.Core.Bool.{Bool, true, false}
use mathlib.Core.List.{List}
use Prim.Native.Nat.{ℕ, ◌+◌, ◌-◌, ◌*◌, ◌/◌, ◌^◌, ◌≤◌, ◌<◌}
use native.Mathlib.Nat.{mul-le-mul, mul-le-mul_right, le_trans}
use native.Mathlib.Omega.{arith}
use lib.ListN.{length, get_or, set, replicate, length-replicate, get_or-replicate}
use Rattle.rules.specs.Words.{only}
use Rattle.rules.specs.Numbers.{wires_most, channels_most, hops_most, hyper_most}
use Rattle.rules.specs.Table.{View}
use Rattle.rules.specs.Office.{K}
use Rattle.rules.specs.Bounds.{on, carries, load, jitter, burst, backlog_after, known, backlog, delay, end_to_end}
use Rattle.rules.specs.declared.WireFigures.{WireFigures}
use Rattle.rules.specs.declared.Figures.{Figures}
use Rattle.rules.specs.declared.Table.{Table}
use Rattle.rules.specs.Decoded.{column, no_wire_figures, wire_figures_of, figures_of, no_figures}
use Rattle.rules.specs.Sound.{Sound}
use Rattle.rules.proofs.Bounds.Delays.{jitter-known}
use Rattle.rules.proofs.Tables.Columns.{column-none, column-set, column-told, column-at, column-past, length-column, entry_at}
use native.Mathlib.Decide.{dec_lt, ℕ_discrete}
use Rattle.bounds.specs.Filed.{those}
use Rattle.bounds.specs.Stages.{raised_by, Spare, Raised, ToWalk}
use Rattle.bounds.proofs.Those.{all-those, raised-those, raised-past}
use Rattle.rules.proofs.Sheet.Fits.{delay-le}
use Rattle.rules.proofs.Bounds.Reach.{reach, along-reach, reach_next, reach_start, reach-end, reach-most}
use Rattle.rules.proofs.Bounds.Sizes.{burst-small}

-- what a wire adds to a channel's jitter, and to its delay
abbrev pub late : View → ℕ → ℕ
late t x = delay t x - 1

abbrev pub spent : View → ℕ → ℕ
spent t x = delay t x + t.prop x

-- eight wires whose delays have 24 bits
abbrev pub jitter_most : ℕ
jitter_most = 134217728

abbrev pub gathered : View → (ℕ → ℕ) → ℕ → ℕ → ℕ
gathered t f w k = reach f (t.route k) w

pub record Walking (t : View) (w : ℕ) (figures : Figures) (jitters : List ℕ) : Type 0 where
  pub wires_told : figures.wire ≡ column no_wire_figures wires_most w (wire_figures_of t)
  pub jitters_told : jitters ≡ column 0 channels_most t.channels (gathered t (late t) w)
  pub ends_told : figures.end ≡ column 0 channels_most t.channels (gathered t (spent t) w)
  pub passed : (x : ℕ) → x < w → backlog t x ≤ t.room x

-- 12 is passed, and the fields of the wires have their widths
pub record Loaded (t : View) : Type 0 where
  pub sound : Sound t
  pub loads : (w : ℕ) → w < t.wires → load t w ≤ t.rate w * t.hyper
  pub room_lt : (w : ℕ) → t.room w < 2 ^ 24
  pub prop_lt : (w : ℕ) → t.prop w < 2 ^ 10

pub loaded : {t : View} {r : Table} → ToWalk t r → Loaded t
loaded to =
    let read = to.read in
    record { sound = read.sound; loads = to.loads; room_lt = read.room_fits; prop_lt = read.prop_fits }

pub backlog-is : (t : View) (w : ℕ)
    → backlog t w ≡ burst t (known t w) w / t.hyper + only (carries t w) (t.rate w * K t w)
unfolding backlog backlog_after
backlog-is t w = refl

-- an array of zeros
zeros : (places n : ℕ) (f : ℕ → ℕ) → ((i : ℕ) → f i ≡ 0) → replicate places 0 ≡ column 0 places n f
zeros places n f z =
    column-told 0 places f n (replicate places 0) (length-replicate {A = ℕ} places 0)
    (λ i l h. get_or-replicate {A = ℕ} places i 0 0 h ∙ sym (z i)) (λ i l h. get_or-replicate {A = ℕ} places i 0 0 h)

pub walking_start : (t : View) (f : Figures) → f ≡ no_figures → Walking t 0 f (replicate channels_most 0)
unfolding no_figures
walking_start t f e =
    record {
      wires_told = ap (λ (x : Figures). x.wire) e ∙ column-none no_wire_figures wires_most (wire_figures_of t);
      jitters_told = zeros channels_most t.channels (gathered t (late t) 0) (λ k. reach_start (late t) (t.route k));
      ends_told =
          ap (λ (x : Figures). x.end) e
          ∙ zeros channels_most t.channels (gathered t (spent t) 0) (λ k. reach_start (spent t) (t.route k));
      passed = λ x l. absurd (omega arith);
    }

-- entries of a column that are raised
raised-column : (m d : ℕ) (f g : ℕ → ℕ) (inside : ℕ → Bool) (channels before after : List ℕ) → m ≤ channels_most
    → channels ≡ those inside m → before ≡ column 0 channels_most m f → Raised channels d before after
    → ((k : ℕ) → k < m → g k ≡ f k + only (inside k) d) → after ≡ column 0 channels_most m g
raised-column m d f g inside channels before after h c e r next =
    let at : (k : ℕ) → get_or before k 0 ≡ get_or (column 0 channels_most m f) k 0 = λ k. ap (λ (a : List ℕ). get_or a k 0) e in
    let by : (k : ℕ) → raised_by channels d k ≡ raised_by (those inside m) d k = λ k. ap (λ (a : List ℕ). raised_by a d k) c in
    column-told 0 channels_most g m after (r.same_length ∙ ap length e ∙ length-column 0 channels_most f m)
    (λ k l p. omega (
      arith,
      r.raised k p,
      at k,
      column-at 0 channels_most f m k 0 l p,
      by k,
      raised-those inside m d k l,
      next k l,
    ))
    (λ k l p. omega (arith, r.raised k p, at k, column-past 0 channels_most f m k 0 l p, by k, raised-past inside m d k l))

-- entries of a column that can be raised
pub spare-column : (m d : ℕ) (f : ℕ → ℕ) (inside : ℕ → Bool) (channels a : List ℕ) → m ≤ channels_most
    → channels ≡ those inside m → a ≡ column 0 channels_most m f → ((k : ℕ) → k < m → f k + d < 2 ^ 64) → Spare channels d a
spare-column m d f inside channels a h c e small =
    record {
      below = rw c (all-those inside (λ k. k < channels_most) m (λ k l y. omega arith));
      fits = λ k p.
          (let at : get_or a k 0 ≡ get_or (column 0 channels_most m f) k 0 = ap (λ (x : List ℕ). get_or x k 0) e in
          let by : raised_by channels d k ≡ raised_by (those inside m) d k = ap (λ (x : List ℕ). raised_by x d k) c in
          elim (dec_lt k m) [
            | yes l ↦
                omega (
                  arith,
                  at,
                  column-at 0 channels_most f m k 0 l p,
                  by,
                  raised-those inside m d k l,
                  only-most (inside k) d,
                  small k l,
                )
            | no o ↦
                omega (
                  arith,
                  at,
                  column-past 0 channels_most f m k 0 (omega arith) p,
                  by,
                  raised-past inside m d k (omega arith),
                )
          ]);
    }
  where
    only-most : (b : Bool) (x : ℕ) → only b x ≤ x
    only-most true x = omega arith
    only-most false x = omega arith

module _ (t : View) (loaded : Loaded t) (w : ℕ) (figures : Figures) (jitters : List ℕ)
    (here : Walking t w figures jitters) where
  gathered_next : (f : ℕ → ℕ) (d : ℕ) → d ≡ f w → (k : ℕ) → k < t.channels
      → gathered t f (w + 1) k ≡ gathered t f w k + only (on t w k) d
  gathered_next f d e k l =
      reach_next f t.wires 0 w (t.route k) (loaded.sound.climbs k l)
      ∙ ap (λ (x : ℕ). gathered t f w k + only (on t w k) x) (sym e)

  -- with the wire's figures, and what it adds
  pub walking_next : w < t.wires → backlog t w ≤ t.room w → (f : WireFigures) → f ≡ wire_figures_of t w
      → (more-jitter more-delay : ℕ) → more-jitter ≡ late t w → more-delay ≡ spent t w
      → (channels : List ℕ) → channels ≡ those (on t w) t.channels
      → (jitters' ends' : List ℕ) → Raised channels more-jitter jitters jitters' → Raised channels more-delay figures.end ends'
      → Walking t (w + 1) (record { wire = set figures.wire w f; end = ends' }) jitters'
  walking_next l room f ef more-jitter more-delay ej ee channels ec jitters' ends' j e =
      let most = loaded.sound.channels_at_most in
      let small : w < wires_most = omega (arith, loaded.sound.wires_at_most) in
      record {
        wires_told = column-set no_wire_figures wires_most (wire_figures_of t) w small here.wires_told ef;
        jitters_told =
            raised-column t.channels more-jitter _ _ (on t w) channels jitters jitters' most ec here.jitters_told j
            (gathered_next (late t) more-jitter ej);
        ends_told =
            raised-column t.channels more-delay _ _ (on t w) channels figures.end ends' most ec here.ends_told e
            (gathered_next (spent t) more-delay ee);
        passed = λ x less. elim (ℕ_discrete x w) [
          | yes q ↦ rw q room
          | no o ↦ here.passed x (omega arith)
        ];
      }

  -- ---- how large: of every wire before w the backlog passed 13

  module _ (fits : w ≤ t.wires) where
    pub delay-small : (x : ℕ) → x < w → delay t x < 2 ^ 24
    delay-small x l = omega (arith, delay-le t x (loaded.sound.rate_at_least x (omega arith)), here.passed x l, loaded.room_lt x)

    gathered-most : (f : ℕ → ℕ) (most : ℕ) → ((x : ℕ) → x < w → f x ≤ most) → (k : ℕ) → k < t.channels
        → gathered t f w k ≤ hops_most * most
    gathered-most f most h k l =
        le_trans (reach-most f most w (t.route k) h) (mul-le-mul_right most (loaded.sound.hops_at_most k l))

    pub jitter-small : (k : ℕ) → k < t.channels → gathered t (late t) w k ≤ jitter_most
    jitter-small k l = omega (arith, gathered-most (late t) (2 ^ 24) (λ x less. omega (arith, delay-small x less)) k l)

    pub end-small : (k : ℕ) → k < t.channels → gathered t (spent t) w k < 2 ^ 28
    end-small k l =
        omega (
          arith,
          gathered-most (spent t) (2 ^ 24 + 2 ^ 10) (λ x less. omega (arith, delay-small x less, loaded.prop_lt x)) k l,
        )

    jitter-at : (k : ℕ) → k < t.channels → get_or jitters k 0 ≡ gathered t (late t) w k
    jitter-at k = entry_at 0 channels_most t.channels _ jitters here.jitters_told loaded.sound.channels_at_most k 0

    known-gathered : (k : ℕ) → k < t.channels → on t w k ≡ true → jitter t (known t w) w k ≡ gathered t (late t) w k
    known-gathered k l there =
        let climbs = loaded.sound.climbs k l in
        jitter-known t w k climbs there ∙ along-reach (late t) t.wires 0 w (t.route k) climbs there

    pub jitter_told : (k : ℕ) → k < t.channels → on t w k ≡ true → get_or jitters k 0 ≡ jitter t (known t w) w k
    jitter_told k l there = jitter-at k l ∙ sym (known-gathered k l there)

  pub burst-lt : w < t.wires → burst t (known t w) w < 2 ^ 63
  burst-lt l =
      let sound = loaded.sound in
      let most : load t w ≤ 100 * hyper_most
      = le_trans (loaded.loads w l) (mul-le-mul (sound.rate_at_most w l) sound.hyper_at_most) in
      omega (
        arith,
        burst-small t sound (known t w) w jitter_most
            (λ k less there. omega (arith, known-gathered (omega arith) k less there, jitter-small (omega arith) k less)),
        sound.channels_at_most,
        most,
      )

-- all wires are worked out
pub walking-ends : (t : View) → Sound t → (w : ℕ) → w ≡ t.wires → (figures : Figures) (jitters : List ℕ)
    → Walking t w figures jitters → figures ≡ figures_of t
unfolding figures_of end_to_end
walking-ends t sound w all figures jitters here =
    let wires : figures.wire ≡ column no_wire_figures wires_most t.wires (wire_figures_of t)
    = here.wires_told ∙ ap (λ (n : ℕ). column no_wire_figures wires_most n (wire_figures_of t)) all in
    let at : (k : ℕ) → get_or figures.end k 0 ≡ get_or (column 0 channels_most t.channels (gathered t (spent t) w)) k 0
    = λ k. ap (λ (a : List ℕ). get_or a k 0) here.ends_told in
    let ends : figures.end ≡ column 0 channels_most t.channels (end_to_end t)
    = column-told 0 channels_most (end_to_end t) t.channels figures.end
    (ap length here.ends_told ∙ length-column 0 channels_most _ t.channels)
    (λ k l p. at k
    ∙ column-at 0 channels_most _ t.channels k 0 l p
    ∙ ap (λ (x : ℕ). gathered t (spent t) x k) all
    ∙ reach-end (spent t) t.wires 0 (t.route k) (sound.climbs k l))
    (λ k l p. at k ∙ column-past 0 channels_most _ t.channels k 0 l p) in
    λ i. record { wire = wires i; end = ends i }
