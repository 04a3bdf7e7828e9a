-- `play` scans where the window is contiguous, and plays the other frames, if any, one by one.
use Prim.Native.Nat.{ℕ, ◌+◌, ◌-◌, ◌*◌, ◌/◌, ◌^◌, ◌≤◌, ◌<◌}
use mathlib.Core.Path.{◌≡◌, sym, ap, ◌∙◌, subst}
use native.Mathlib.Omega.{arith}
use lib.ListN.{length}
use Rattle.sound_lanes.specs.Lanes.{Lanes}
use Rattle.sound_lanes.proofs.Rows.{sized_parts}
use Rattle.sound_update.specs.declared.Wraps.{Wraps}
use Rattle.sound_state.specs.declared.StaticSound.{StaticSound}
use Rattle.sound_state.specs.Voices.{slice_of, moved}
use Rattle.sound_state.specs.WellFormed.{WellFormed}
use Rattle.sound_track.specs.Tracks.{track_of}
use Rattle.sound_track.specs.Contiguous.{InsideSound, contiguous_of, Contiguous}
use Rattle.sound_slow_path.specs.Plays.{accepted}
use Rattle.sound_slow_path.specs.FrameSteps.{Playable}
use Rattle.sound_fast_path.specs.BlockLanes.{block_lanes}
use Rattle.sound_fast_path.specs.Scans.{Tracked, scanned_to}
use Rattle.sound_fast_path.proofs.Scans.{position_on, Heard, heard_of, scannable, scan_begins}
use Rattle.sound_fast_path.proofs.Joins.{lies_of, from_few, reached_on, reached_whole}
use Rattle.sound_fast_path.proofs.play.Goals.{After-apply_gains, After-contiguous_at, After-track_of-track, Else-not-is_contiguous}
use Rattle.sound_fast_path.proofs.play.Goals as goal

abbrev lent : After-track_of-track → Lanes
lent c = block_lanes c.args.lanes

-- the track is the voice's
track-is : (c : After-track_of-track) → (let v = c.args.voice in c.track_of-track.result ≡ track_of v.moving.transport.loop_region (slice_of v))
track-is c = let v = c.args.voice in c.track_of-track.ensures ∙ ap (track_of v.moving.transport.loop_region) c.slice.ensures

tracked : (c : After-track_of-track) → Tracked c.args.sound.now c.args.voice c.track_of-track.result
tracked c =
    let v = c.args.voice in
    record { is = track-is c; lies = subst (InsideSound c.args.sound.now) (sym (track-is c)) (lies_of c.args.sound.now v c.requires.well_formed c.requires.lent) }

sum_fits : (a b i n : ℕ) → a ≤ 257 * i → b ≤ 257 * (n - i) → i ≤ n → n ≤ 4096 → a + b < 2 ^ 64
sum_fits a b i n h k l m = omega arith

-- the window is the voice's contiguous window
contiguous : (c : Else-not-is_contiguous) → Contiguous c.args.sound.now c.track_of-track.result c.args.voice.moving
contiguous c = c.is_contiguous.ensures.contiguous (c.if-not-is_contiguous.false)

-- the frames after the gains are applied
heard : (c : After-apply_gains) → (let a = c.args in
    Tracked a.sound.now a.voice c.track_of-track.result → Contiguous a.sound.now c.track_of-track.result a.voice.moving
    → Heard a.sound.now a.dt (block_lanes a.lanes) a.voice c.track_of-track.result c.scan-reached.result c.apply_gains.new.out)
heard c t w =
    let a = c.args in
    let r = c.scan-reached in
    heard_of a.sound.now a.dt (block_lanes a.lanes) a.voice c.track_of-track.result t w c.requires r.result r.new.out c.apply_gains.new.out r.ensures c.apply_gains.ensures

-- the voice after the scan
abbrev passed : After-contiguous_at → StaticSound
passed c = moved c.args.voice c.scan-reached.result.fractional_position c.contiguous_at.result

passed_is : (c : After-contiguous_at)
    → (let t = c in
    let v = t.args.voice in
    let r = c.scan-reached.result in
    moved v r.fractional_position c.contiguous_at.result ≡ moved v r.fractional_position (scanned_to t.args.sound.now t.track_of-track.result v r.steps r.at))
passed_is c =
    let v = c.args.voice in
    let r = c.scan-reached.result in
    ap (moved v r.fractional_position) (c.contiguous_at.ensures ∙ ap (λ (w : Wraps). contiguous_of c.args.sound.now c.track_of-track.result v.moving w r.at) c.wraps_after-wraps.ensures)

passed-plays : (c : After-contiguous_at) → (let a = c.args in
    let b = block_lanes a.lanes in
    Heard a.sound.now a.dt b a.voice c.track_of-track.result c.scan-reached.result c.apply_gains.new.out
    → Playable a.sound.now (passed c) a.dt b (length c.apply_gains.new.out))
passed-plays c h =
    record {
      well_formed = subst WellFormed (sym (passed_is c)) h.well_formed;
      lent = c.requires.lent;
      sized = c.requires.sized;
      long = h.as_long;
      is_time_step = c.requires.is_time_step;
      near = c.requires.near;
    }

pub scan-reached-requires-clause-scannable : goal.scan-reached-requires-clause-scannable
scan-reached-requires-clause-scannable c =
    let a = c.args in
    let p = goal.at.scan-reached-requires-clause-scannable c in
    scannable a.sound.now a.dt (lent p.After-track_of-track) a.voice c.track_of-track.result (tracked p.After-track_of-track) (contiguous p.Else-not-is_contiguous) c.requires

pub scan-reached-requires-clause-scanned : goal.scan-reached-requires-clause-scanned
scan-reached-requires-clause-scanned c =
    let a = c.args in
    let p = goal.at.scan-reached-requires-clause-scanned c in
    scan_begins a.sound.now a.dt (lent p.After-track_of-track) a.voice c.track_of-track.result (tracked p.After-track_of-track) (contiguous p.Else-not-is_contiguous) c.requires a.out.now c.requires.long

pub wraps_after-wraps-requires-clause-on : goal.wraps_after-wraps-requires-clause-on
wraps_after-wraps-requires-clause-on c = position_on _ _ _ (contiguous (goal.at.wraps_after-wraps-requires-clause-on c).Else-not-is_contiguous)

pub contiguous_at-requires-clause-inside_sound : goal.contiguous_at-requires-clause-inside_sound
contiguous_at-requires-clause-inside_sound c = (tracked (goal.at.contiguous_at-requires-clause-inside_sound c).After-track_of-track).lies

pub returns-then-reached-frames : goal.returns-then-reached-frames
returns-then-reached-frames c =
    let a = c.args in
    let p = goal.at.returns-then-reached-frames c in
    let b = lent p.After-track_of-track in
    let h = heard p.After-apply_gains (tracked p.After-track_of-track) (contiguous p.Else-not-is_contiguous) in
    reached_whole a.sound.now a.dt b a.voice _ c.track_of-track.result c.scan-reached.result c.apply_gains.new.out (passed-plays p.After-contiguous_at h) h (passed_is p.After-contiguous_at) (all_of _ _ _ c.if-reached-frames.true c.requires.long)
  where
    all_of : (i m n : ℕ) → i ≡ m / 2 → m ≡ 2 * n → i ≡ n
    all_of i m n e l = omega arith

pub play_from-played-requires-clause-playable : goal.play_from-played-requires-clause-playable
play_from-played-requires-clause-playable c =
    let p = goal.at.play_from-played-requires-clause-playable c in
    passed-plays p.After-contiguous_at (heard p.After-apply_gains (tracked p.After-track_of-track) (contiguous p.Else-not-is_contiguous))

pub overflow_add-result : goal.overflow_add-result
overflow_add-result c =
    let a = c.args in
    let q = c.play_from-played in
    let p = goal.at.overflow_add-result c in
    let b = lent p.After-track_of-track in
    let h = heard p.After-apply_gains (tracked p.After-track_of-track) (contiguous p.Else-not-is_contiguous) in
    let f = from_few a.sound.now _ a.dt b c.apply_gains.new.out (passed-plays p.After-contiguous_at h) c.scan-reached.result.next (accepted q.result) _ q.ensures in
    record { fits = sum_fits _ _ _ _ h.few f h.within (sized_parts b c.requires.sized).most }

pub returns : goal.returns
returns c =
    let a = c.args in
    let q = c.play_from-played in
    let p = goal.at.returns c in
    let h = heard p.After-apply_gains (tracked p.After-track_of-track) (contiguous p.Else-not-is_contiguous) in
    reached_on a.sound.now a.dt (lent p.After-track_of-track) a.voice _ c.track_of-track.result c.scan-reached.result (accepted q.result) c.apply_gains.new.out _ h (passed_is p.After-contiguous_at) q.ensures
