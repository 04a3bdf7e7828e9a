-- A scan whose readings are multiplied by their gains is the block's definition, frame by frame, as far as it goes. By the contiguous window's law
-- of n updates, and by induction on the rates. Assumes nothing.
use mathlib.Core.Path.{◌≡◌, refl, sym, ap, ap₂, ◌∙◌, subst}
use mathlib.Core.List.{List, [], ◌∷◌}
use Prim.Native.Nat.{ℕ, zero, suc, ◌+◌, ◌*◌, ◌≤◌}
use native.Mathlib.Nat.{le_refl, add_assoc, add_comm, add-zero, zero-add}
use lib.Dec.{T}
use lib.ListN.{length, get_or, take, drop, take-append-drop}
use lib.Seq.{length-take-le}
use lib.Ieee.{Float, nan, binary64, add}
use Rattle.numbers.specs.Words.{whole, part, advance}
use Rattle.numbers.specs.Lists.{all}
use Rattle.numbers.proofs.Lists.{all_front}
use Rattle.sound_lanes.specs.Lanes.{Lane, Lanes, beside, rows, near}
use Rattle.sound_lanes.proofs.Rows.{near_all, sized_parts}
use Rattle.resampler.specs.Windows.{reading}
use Rattle.sound_update.specs.declared.Moving.{Moving}
use Rattle.sound_update.specs.declared.Wraps.{Wraps}
use Rattle.sound_state.specs.declared.StaticSound.{StaticSound}
use Rattle.sound_state.specs.Voices.{slice_of, moved}
use Rattle.sound_state.specs.WellFormed.{WellFormed}
use Rattle.sound_track.specs.declared.Track.{Track}
use Rattle.sound_track.specs.Tracks.{nexts, counts, On, roomy}
use Rattle.sound_track.specs.Contiguous.{ahead, contiguous_of, first_index, Contiguous}
use Rattle.sound_track.proofs.Tracks.{on_nexts, nexts_add}
use Rattle.sound_track.proofs.Counts.{counts_add}
use Rattle.sound_track.proofs.Contiguous.{Fits, inside_of, updates_contiguous}
use Rattle.sound_fast_reading.specs.declared.Way.{Way}
use Rattle.sound_fast_reading.specs.declared.Reached.{Reached}
use Rattle.sound_fast_reading.specs.Scans.{Scan, scans, read_on, begun, Scannable, Scanned}
use Rattle.sound_fast_reading.proofs.Moves.{roomy_first, roomy_rest}
use Rattle.sound_fast_reading.proofs.Scans.{scanned_none}
use Rattle.sound_gains.specs.Gained.{gained}
use Rattle.sound_gains.proofs.Gained.{gained_take, gained_length}
use Rattle.sound_slow_path.specs.Plays.{Played, then, plays, after_frame, total, frame_with_gains}
use Rattle.sound_slow_path.specs.FrameSteps.{Playable}
use Rattle.sound_slow_path.proofs.Lowest.{lower_four}
use Rattle.sound_slow_path.proofs.Loops.{played}
use Rattle.sound_slow_path.proofs.Keeps.{plays_well_formed}
use Rattle.sound_fast_path.specs.Scans.{Tracked, scanned_to}

pub fits_of : (snd : List Float) (v : StaticSound) (k : Track) → Tracked snd v k → WellFormed v → Fits k v.moving.transport.loop_region (slice_of v)
fits_of snd v k t w = record { is = t.is; held = w.transport_well_formed.loop }

-- the transport is on the track
pub position_on : (snd : List Float) (k : Track) (m : Moving) → Contiguous snd k m → On k m.transport.position
unfolding nexts
position_on snd k m t = subst (On k) (sym (ap (λ (m : Moving). m.transport.position) t.is)) (on_nexts 4 k (first_index m) t.on)

-- four places on, then n: n places on, then four
ahead_on : (n : ℕ) (k : Track) (q : ℕ) → ahead k (nexts n k q) ≡ nexts n k (ahead k q)
unfolding nexts
ahead_on n k q = sym (nexts_add n 4 k q) ∙ ap (λ (m : ℕ). nexts m k q) (add_comm n 4) ∙ nexts_add 4 n k q

module _ (snd : List Float) (dt : Float) (v : StaticSound) (k : Track) (t : Tracked snd v k) (w : WellFormed v) where
  abbrev hz : ℕ
  hz = v.setup.sample_rate

  abbrev first : ℕ
  first = v.moving.transport.position

  -- the voice once n steps have brought its window to q
  abbrev at : Float → ℕ → ℕ → StaticSound
  at f n q = moved v f (scanned_to snd k v n q)

  -- one frame's steps
  one_turned : (l : Lane) (n q : ℕ) (f : Float) → ahead k q ≡ nexts n k first → On k q → T (roomy k (whole (add binary64 f (advance hz l.rate dt))) q)
      → let x = add binary64 f (advance hz l.rate dt) in
      after_frame snd dt (at f n q) l ≡ at (part x) (n + whole x) (nexts (whole x) k q)
  unfolding after_frame total
  one_turned l n q f came o r =
      let x = add binary64 f (advance hz l.rate dt) in
      let c₀ = counts n k first v.moving.wraps in
      ap (moved v (part x))
      (updates_contiguous (whole x) snd k v.moving (slice_of v) c₀ q (fits_of snd v k t w) (inside_of k (whole x) q o r)
      ∙ ap (λ (c : Wraps). contiguous_of snd k v.moving c (nexts (whole x) k q))
      (ap (λ (p : ℕ). counts (whole x) k p c₀) came ∙ sym (counts_add n (whole x) k first v.moving.wraps)))

  -- one frame, and what follows it
  first_frame : (l : Lane) (ls : List Lane) (n q : ℕ) (f : Float)
      → plays snd dt (l ∷ ls) (at f n q) ≡ then (frame_with_gains (at f n q) l) (whole (add binary64 f (advance hz l.rate dt))) 4 (plays snd dt ls (after_frame snd dt (at f n q) l))
  unfolding plays total reading
  first_frame l ls n q f = refl

  -- joined with the frames after it
  then_played : (x : Float) (y : Float) (m s n q : ℕ) (f : Float) (samples : List Float)
      → then (record { left = x; right = y }) m 4 (played (at f (n + m + s) q) samples s 4) ≡ played (at f (n + (m + s)) q) (x ∷ y ∷ samples) (m + s) 4
  then_played x y m s n q f samples =
      ap₂ (λ (a c : ℕ). played (at f a q) (x ∷ y ∷ samples) (m + s) c) (add_assoc n m s) (lower_four 4 (le_refl 4))

  pub scans_plays : (fs vs ls rs qs : List Float) (n q : ℕ) (f : Float) → ahead k q ≡ nexts n k first → On k q → T (roomy k (scans snd k hz dt qs q f).steps q)
      → let z = scans snd k hz dt qs q f in
      plays snd dt (beside fs vs ls rs qs) (at f n q) ≡ played (at z.fractional_position (n + z.steps) z.at) (gained fs vs ls rs (length qs) z.samples) z.steps 4
  unfolding scans plays gained frame_with_gains reading read_on
  scans_plays fs vs ls rs [] n q f came o r = ap (λ (m : ℕ). played (at f m q) [] 0 4) (sym (add-zero n))
  scans_plays fs vs ls rs (p ∷ qs) n q f came o r =
      let x = add binary64 f (advance hz p dt) in
      let m = whole x in
      let p₂ = nexts m k q in
      let z = scans snd k hz dt qs p₂ (part x) in
      let l : Lane = record { fade = get_or fs 0 nan; volume = get_or vs 0 nan; left = get_or ls 0 nan; right = get_or rs 0 nan; rate = p } in
      let rest = beside (drop 1 fs) (drop 1 vs) (drop 1 ls) (drop 1 rs) qs in
      let h = frame_with_gains (at f n q) l in
      first_frame l rest n q f
      ∙ ap (λ (u : StaticSound). then h m 4 (plays snd dt rest u)) (one_turned l n q f came o (roomy_first k q m z.steps o r))
      ∙ ap (then h m 4)
      (scans_plays (drop 1 fs) (drop 1 vs) (drop 1 ls) (drop 1 rs) qs (n + m) p₂ (part x)
      (ahead_on m k q ∙ ap (nexts m k) came ∙ sym (nexts_add n m k first)) (on_nexts m k q o) (roomy_rest k q m z.steps o r))
      ∙ then_played h.left h.right m z.steps n z.at z.fractional_position (gained (drop 1 fs) (drop 1 vs) (drop 1 ls) (drop 1 rs) (length qs) z.samples)

-- ---- as the block has it

-- the way of a voice's scan
abbrev pub way_of : StaticSound → Track → Float → Way
way_of v k dt = record { track = k; at = first_index v.moving; fractional_position = v.fractional_position; dt = dt; sample_rate = v.setup.sample_rate }

beside_first : (i : ℕ) (fs vs ls rs qs : List Float) → take i (beside fs vs ls rs qs) ≡ beside fs vs ls rs (take i qs)
beside_first zero fs vs ls rs qs = refl
beside_first (suc i) fs vs ls rs [] = refl
beside_first (suc i) fs vs ls rs (q ∷ qs) =
    ap (λ (r : List Lane). record { fade = get_or fs 0 nan; volume = get_or vs 0 nan; left = get_or ls 0 nan; right = get_or rs 0 nan; rate = q } ∷ r) (beside_first i (drop 1 fs) (drop 1 vs) (drop 1 ls) (drop 1 rs) qs)

-- the frames so far are the definition's for the lanes so far, and the moving part has the contiguous window at r's position
pub record Heard (snd : List Float) (dt : Float) (b : Lanes) (v : StaticSound) (k : Track) (r : Reached) (out : List Float) : Type 0 where
  pub within : r.next ≤ length b.rate
  pub few : r.steps ≤ 257 * r.next
  pub as_long : length out ≡ 2 * length b.rate
  pub on : On k r.at
  pub well_formed : WellFormed (moved v r.fractional_position (scanned_to snd k v r.steps r.at))
  pub so_far :
      plays snd dt (take r.next (rows b)) v
      ≡ record {
        voice = moved v r.fractional_position (scanned_to snd k v r.steps r.at);
        samples = take (2 * r.next) out;
        steps = r.steps;
        lowest_count = 4;
      }

module _ (snd : List Float) (dt : Float) (b : Lanes) (v : StaticSound) (k : Track) (t : Tracked snd v k) (tr : Contiguous snd k v.moving) {m : ℕ} (p : Playable snd v dt b m) where
  pub scannable : Scannable snd (way_of v k dt) b.rate
  scannable =
      record {
        lies = t.lies;
        is_time_step = p.is_time_step;
        slow = subst T (near_all v.setup.sample_rate dt b.fade b.volume b.left b.right b.rate) p.near;
        most = (sized_parts b p.sized).most;
      }

  pub scan_begins : (out : List Float) → length out ≡ 2 * length b.rate → Scanned snd (way_of v k dt) b.rate (begun (way_of v k dt)) out
  scan_begins out len = scanned_none snd (way_of v k dt) b.rate out len tr.on p.well_formed.fraction tr.room

  so_far_lem : (r : Reached) (out o : List Float) → Scanned snd (way_of v k dt) b.rate r out → o ≡ gained b.fade b.volume b.left b.right r.next out
      → plays snd dt (take r.next (rows b)) v ≡ played (moved v r.fractional_position (scanned_to snd k v r.steps r.at)) (take (2 * r.next) o) r.steps 4
  unfolding counts nexts
  so_far_lem r out o h e =
      let q = first_index v.moving in
      let i = r.next in
      let hz = v.setup.sample_rate in
      let f = v.fractional_position in
      let rates = take i b.rate in
      let ev : v.moving ≡ contiguous_of snd k v.moving v.moving.wraps q = tr.is in
      let room : T (roomy k (scans snd k hz dt rates q f).steps q) = subst (λ (z : Scan). T (roomy k z.steps q)) (sym h.so_far) h.room in
      ap (λ (l : List Lane). plays snd dt l v) (beside_first i b.fade b.volume b.left b.right b.rate)
      ∙ ap (λ (m : Moving). plays snd dt (beside b.fade b.volume b.left b.right rates) (moved v f m)) ev
      ∙ scans_plays snd dt v k t p.well_formed b.fade b.volume b.left b.right rates 0 q f (sym (ap (λ (m : Moving). m.transport.position) ev)) tr.on room
      ∙ ap (λ (z : Scan). played (moved v z.fractional_position (scanned_to snd k v (0 + z.steps) z.at)) (gained b.fade b.volume b.left b.right (length rates) z.samples) z.steps 4) h.so_far
      ∙ ap₂ (λ (s n : ℕ). played (moved v r.fractional_position (scanned_to snd k v s r.at)) (gained b.fade b.volume b.left b.right n (take (2 * i) out)) r.steps 4) (zero-add r.steps) (length-take-le i b.rate h.within)
      ∙ ap (λ (l : List Float). played (moved v r.fractional_position (scanned_to snd k v r.steps r.at)) l r.steps 4)
      (sym (ap (take (2 * i)) e ∙ gained_take b.fade b.volume b.left b.right i out))

  pub heard_of : (r : Reached) (out o : List Float) → Scanned snd (way_of v k dt) b.rate r out → o ≡ gained b.fade b.volume b.left b.right r.next out → Heard snd dt b v k r o
  heard_of r out o h e =
      let s = so_far_lem r out o h e in
      let i = r.next in
      record {
        within = h.within;
        few = h.few;
        as_long = ap length e ∙ gained_length b.fade b.volume b.left b.right i out ∙ h.as_long;
        on = h.on;
        well_formed =
            subst (λ (p : Played). WellFormed p.voice) s
            (plays_well_formed snd dt p.is_time_step (take i (rows b)) v
            (all_front (near v.setup.sample_rate dt) (take i (rows b)) (drop i (rows b)) (subst (λ (l : List Lane). T (all (near v.setup.sample_rate dt) l)) (sym (take-append-drop i (rows b))) p.near))
            p.well_formed);
        so_far = s;
      }
