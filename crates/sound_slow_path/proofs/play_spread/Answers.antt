-- `play_spread` plays every frame and stores its two samples. The invariant: what is played so far is the definition's of the lanes so far.
use Prim.Native.Nat.{ℕ, ◌*◌, ◌/◌, ◌≤◌, ◌<◌}
use mathlib.Core.Path.{◌≡◌, refl, sym, ap, ◌∙◌, subst}
use native.Mathlib.Omega.{arith}
use lib.ListN.{length, get_or, length-set}
use lib.Dec.{T}
use lib.Ieee.{nan}
use Rattle.sound_lanes.specs.declared.Gains.{Gains}
use Rattle.sound_lanes.specs.Lanes.{Lane, Lanes, lanes_of, slow}
use Rattle.sound_lanes.proofs.Rows.{sized_parts}
use Rattle.sound_update.specs.declared.Slice.{Slice}
use Rattle.sound_state.specs.Voices.{slice_of, moved}
use Rattle.sound_state.proofs.WellFormed.{updatable_of}
use Rattle.resampler.specs.declared.Reading.{Reading}
use Rattle.resampler.specs.Windows.{reading}
use Rattle.sound_slow_path.specs.Plays.{lower}
use Rattle.sound_slow_path.specs.FrameSteps.{frame_with_gains_at, spread, frame_steps, Steppable}
use Rattle.sound_slow_path.proofs.Loops.{lane_at, framed, played_none, played_more, played_all, slow_at, turned_few, turned_on}
use Rattle.sound_slow_path.proofs.Lowest.{min_lower}
use Rattle.sound_slow_path.proofs.Spread.{spread_at, spread_below}
use Rattle.sound_slow_path.proofs.play_spread.Goals.{After-frame_steps-next, After-lane_frame-j, In-loop-i}
use Rattle.sound_slow_path.proofs.play_spread.Goals as goal

-- the lanes as they are passed, and as the block reads them
abbrev given : In-loop-i → Lanes
given c = let a = c.args in lanes_of a.lanes

abbrev lent : In-loop-i → Lanes
lent c = spread (length c.args.out.now / 2) (given c)

abbrev given-there : After-lane_frame-j → Lanes
given-there c = let a = c.args in lanes_of a.lanes

abbrev lent-there : After-lane_frame-j → Lanes
lent-there c = spread (length c.args.out.now / 2) (given-there c)

-- a frame of the output is a frame of the lanes
within-lanes : (m n i : ℕ) → m ≡ 2 * n → i < m / 2 → i < n
within-lanes m n i e h = omega arith

inside : (c : In-loop-i) → c.loop-i.i < length (lent c).rate
inside c = within-lanes _ _ _ c.requires.playable.long c.loop-i-test.true

inside-there : (c : After-lane_frame-j) → c.loop-i.i < length (lent-there c).rate
inside-there c = within-lanes _ _ _ c.requires.playable.long c.loop-i-test.true

-- the frame of the lanes that is read
lane_is : (c : After-lane_frame-j) → lane_at (lent-there c) c.loop-i.i ≡ lane_at (given-there c) c.lane_frame-j.result
lane_is c = spread_at (given-there c) _ c.loop-i.i c.lane_frame-j.result c.loop-i-test.true c.lane_frame-j.ensures

-- what a frame's steps ask
turning : (c : After-lane_frame-j)
    → let a = c.args in
    Steppable a.sound.now (slice_of a.voice) a.voice.setup.sample_rate (get_or a.lanes.rate.now c.lane_frame-j.result nan) a.dt c.loop-i.moving c.loop-i.fractional_position
turning c =
    let p = c.requires.playable in
    let v = c.args.voice in
    record {
      updatable = updatable_of c.args.sound.now (moved v c.loop-i.fractional_position c.loop-i.moving) c.loop-i.invariant.well_formed p.lent;
      below = c.loop-i.invariant.well_formed.fraction;
      is_time_step = p.is_time_step;
      slow =
          subst (λ (l : Lane). T (slow v.setup.sample_rate c.args.dt l.rate)) (lane_is c)
          (slow_at c.args.sound.now c.args.dt (lent-there c) v v.setup.sample_rate c.loop-i.i (inside-there c) p.near);
    }

-- what is known of the numbers in an iteration
record Numbers (n i m steps : ℕ) : Type 0 where
  below : i < n
  most : n ≤ 4096
  long : m ≡ 2 * n
  few : steps ≤ 257 * i

numbers : (c : In-loop-i) → Numbers (length (lent c).rate) c.loop-i.i (length c.loop-i.out) c.loop-i.steps
numbers c =
    let p = c.requires.playable in
    let s = sized_parts (lent c) p.sized in
    record { below = inside c; most = s.most; long = c.loop-i.invariant.as_long ∙ p.long; few = c.loop-i.invariant.few }

lane-there : (c : After-lane_frame-j) → c.lane_frame-j.result < length (given-there c).rate
lane-there c = spread_below (given-there c) _ c.loop-i.i c.lane_frame-j.result (inside-there c) c.lane_frame-j.ensures

-- the steps are the definition's, at the rate that is read
turn-here : (c : After-frame_steps-next)
    → let a = c.args in
    c.frame_steps-next.result
    ≡ frame_steps a.sound.now (slice_of a.voice) a.voice.setup.sample_rate (get_or a.lanes.rate.now c.lane_frame-j.result nan) a.dt c.loop-i.moving c.loop-i.fractional_position
turn-here c =
    let a = c.args in
    c.frame_steps-next.ensures
    ∙ ap (λ (k : Slice). frame_steps a.sound.now k a.voice.setup.sample_rate (get_or a.lanes.rate.now c.lane_frame-j.result nan) a.dt c.loop-i.moving c.loop-i.fractional_position)
    c.slice-slice.ensures

-- ---- the needs
pub loop-i-init : goal.loop-i-init
loop-i-init c =
    let a = c.args in
    record {
      within = omega arith;
      few = omega arith;
      as_long = refl;
      well_formed = c.requires.playable.well_formed;
      so_far_lem =
          played_none a.sound.now a.dt (spread (length a.out.now / 2) (lanes_of a.lanes)) a.voice a.out.now;
    }

pub gains-requires : goal.gains-requires
gains-requires c =
    let k = c.requires.alike in
    let h = lane-there (goal.at.gains-requires c).After-lane_frame-j in
    record { fade = omega (arith, h, k.fade); volume = omega (arith, h, k.volume); left = omega (arith, h, k.left); right = omega (arith, h, k.right) }

pub frame_with_gains-read-requires : goal.frame_with_gains-read-requires
frame_with_gains-read-requires c = c.loop-i.invariant.well_formed.fraction

pub overflow_mul-out : goal.overflow_mul-out
overflow_mul-out c = omega (arith, numbers (goal.at.overflow_mul-out c).In-loop-i)

pub offset_bounds-out-i : goal.offset_bounds-out-i
offset_bounds-out-i c = omega (arith, numbers (goal.at.offset_bounds-out-i c).In-loop-i)

pub bounds-out-i : goal.bounds-out-i
bounds-out-i c = omega (arith, numbers (goal.at.bounds-out-i c).In-loop-i)

pub overflow_mul-out-in-loop-i : goal.overflow_mul-out-in-loop-i
overflow_mul-out-in-loop-i c = omega (arith, numbers (goal.at.overflow_mul-out-in-loop-i c).In-loop-i)

pub overflow_add-out : goal.overflow_add-out
overflow_add-out c = omega (arith, numbers (goal.at.overflow_add-out c).In-loop-i)

pub offset_bounds-out-i-in-loop-i : goal.offset_bounds-out-i-in-loop-i
offset_bounds-out-i-in-loop-i c = omega (arith, numbers (goal.at.offset_bounds-out-i-in-loop-i c).In-loop-i)

pub bounds-out-i-in-loop-i : goal.bounds-out-i-in-loop-i
bounds-out-i-in-loop-i c = simp length-set (omega (arith, numbers (goal.at.bounds-out-i-in-loop-i c).In-loop-i))

pub offset_bounds-lanes-j : goal.offset_bounds-lanes-j
offset_bounds-lanes-j c = omega (arith, lane-there (goal.at.offset_bounds-lanes-j c).After-lane_frame-j)

pub bounds-lanes-j : goal.bounds-lanes-j
bounds-lanes-j c = lane-there (goal.at.bounds-lanes-j c).After-lane_frame-j

pub frame_steps-next-requires : goal.frame_steps-next-requires
frame_steps-next-requires c =
    rw c.slice-slice.ensures (turning (goal.at.frame_steps-next-requires c).After-lane_frame-j)

pub overflow_add-steps : goal.overflow_add-steps
overflow_add-steps c = omega (arith, numbers (goal.at.overflow_add-steps c).In-loop-i, turned_few _ _ _ _ _ _ _ c.frame_steps-next.result (turning (goal.at.overflow_add-steps c).After-lane_frame-j) (turn-here (goal.at.overflow_add-steps c).After-frame_steps-next))

pub loop-i-preserved : goal.loop-i-preserved
unfolding reading
loop-i-preserved c =
    let in-loop = (goal.at.loop-i-preserved c).In-loop-i in
    let there = (goal.at.loop-i-preserved c).After-lane_frame-j in
    let n = numbers in-loop in
    let here = turn-here (goal.at.loop-i-preserved c).After-frame_steps-next in
    let w = turned_few _ _ _ _ _ _ _ c.frame_steps-next.result (turning there) here in
    let read = c.frame_with_gains-read in
    let a = c.args in
    let l = c.loop-i in
    let turn = here ∙ ap (λ (l : Lane). frame_steps a.sound.now (slice_of a.voice) a.voice.setup.sample_rate l.rate a.dt c.loop-i.moving c.loop-i.fractional_position) (sym (lane_is there)) in
    record {
      within = omega (arith, n);
      few = omega (arith, n, w);
      as_long = simp length-set l.invariant.as_long;
      well_formed = turned_on a.sound.now a.dt a.voice _ l.moving l.fractional_position c.frame_steps-next.result l.invariant.well_formed (turning there) here;
      so_far_lem =
          played_more a.sound.now a.dt (lent in-loop) a.voice l.i l.steps l.lowest_count l.out l.moving l.fractional_position
          read.result.frame c.min-lowest_count.result c.frame_steps-next.result (inside in-loop) (omega (arith, n)) l.invariant.so_far_lem
          (ap (λ (r : Reading). r.frame) read.ensures
          ∙ ap (λ (g : Gains). (frame_with_gains_at l.moving.resampler l.fractional_position g).frame) c.gains.ensures
          ∙ ap (λ (l : Lane). framed c.loop-i.moving c.loop-i.fractional_position l) (sym (lane_is there))) (c.min-lowest_count.ensures ∙ min_lower c.loop-i.lowest_count read.result.count ∙ ap (λ (r : Reading). lower c.loop-i.lowest_count r.count) read.ensures) turn;
    }

pub shape_of-out : goal.shape_of-out
shape_of-out c = c.loop-i.invariant.as_long

all_lanes : (m n i : ℕ) → m ≡ 2 * n → m / 2 ≤ i → n ≤ i
all_lanes m n i e h = omega arith

pub returns : goal.returns
returns c =
    let p = c.requires.playable in
    let a = c.args in
    let l = c.loop-i in
    played_all _ _ (spread (length a.out.now / 2) (lanes_of a.lanes)) _ l.i l.steps l.lowest_count l.out _ (all_lanes _ _ _ p.long c.loop-i-test.false) l.invariant.within (l.invariant.as_long ∙ p.long)
    l.invariant.so_far_lem
