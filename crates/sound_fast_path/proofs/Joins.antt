-- A scan and the frames after it make the block: the lanes cut, the two joined, the steps few. Assumes nothing.
use Rattle.std.specs.Prelude.{Option, Some, None}
use mathlib.Core.Path.{◌≡◌, sym, ap, ◌∙◌, subst}
use mathlib.Core.List.{List, [], ◌++◌, append-nil}
use Prim.Native.Nat.{ℕ, ◌+◌, ◌-◌, ◌*◌, ◌≤◌, ◌<◌}
use native.Mathlib.Nat.{le_of_eq, le_refl}
use native.Mathlib.Omega.{arith}
use lib.Dec.{T}
use lib.ListN.{length, take, drop, take-append-drop, length-drop, drop_of_length-le}
use lib.Seq.{take_all}
use lib.Ieee.{Float}
use Rattle.numbers.specs.Lists.{all}
use Rattle.numbers.proofs.Lists.{all_drop}
use Rattle.sound_lanes.specs.Lanes.{Lane, Lanes, five, rows, near, rest_lanes}
use Rattle.sound_lanes.proofs.Rows.{beside_drop, beside_length, rest_sized}
use Rattle.playback_position.specs.Positions.{within}
use Rattle.playback_position.proofs.Ranges.{ranged_parts}
use Rattle.sound_state.specs.declared.Setup.{Setup}
use Rattle.sound_state.specs.declared.StaticSound.{StaticSound}
use Rattle.sound_state.specs.Voices.{length_of_slice, slice_of, moved}
use Rattle.sound_state.specs.WellFormed.{well_formed_setup, WellFormed}
use Rattle.sound_state.proofs.WellFormed.{setup_parts, updatable_of}
use Rattle.sound_track.specs.declared.Track.{Track}
use Rattle.sound_track.specs.Tracks.{track_of}
use Rattle.sound_track.specs.Contiguous.{InsideSound}
use Rattle.sound_slow_path.specs.Plays.{BlockAnswer, Played, plays, Outcome, accepted_with, accepted_as}
use Rattle.sound_slow_path.specs.FrameSteps.{Playable}
use Rattle.sound_slow_path.proofs.Lowest.{lower_four}
use Rattle.sound_slow_path.proofs.Plays.{joined, plays_append, plays_lowest}
use Rattle.sound_slow_path.proofs.Keeps.{plays_steps}
use Rattle.sound_fast_reading.specs.declared.Reached.{Reached}
use Rattle.sound_fast_path.specs.Scans.{scanned_to, played_from}
use Rattle.sound_fast_path.proofs.Scans.{Heard}

-- ---- the lanes from frame i on, as code cuts them

pub part_is : (i : ℕ) (l : List Float) → take (length l - i) (drop i l) ≡ drop i l
part_is i l = take_all (length l - i) (drop i l) (le_of_eq (length-drop i l))

abbrev pub cut : ℕ → List Float → List Float
cut i l = take (length l - i) (drop i l)

abbrev pub part_lanes : ℕ → Lanes → Lanes
part_lanes i b = five (cut i b.fade) (cut i b.volume) (cut i b.left) (cut i b.right) (cut i b.rate)

part_lanes_lem : (i : ℕ) (b : Lanes) → part_lanes i b ≡ rest_lanes i b
part_lanes_lem i b = rw (part_is i b.fade, part_is i b.volume, part_is i b.left, part_is i b.right, part_is i b.rate)

rest_rows : (i : ℕ) (b : Lanes) → rows (rest_lanes i b) ≡ drop i (rows b)
rest_rows i b = beside_drop i b.fade b.volume b.left b.right b.rate

module _ (snd : List Float) (v : StaticSound) (dt : Float) (b : Lanes) (out : List Float) (p : Playable snd v dt b (length out)) where
  near_rest : (i : ℕ) → T (all (near v.setup.sample_rate dt) (drop i (rows b)))
  near_rest i = all_drop (near v.setup.sample_rate dt) i (rows b) p.near

  pub playable_from : (i : ℕ) → i ≤ length b.rate → Playable snd v dt (part_lanes i b) (length (cut (2 * i) out))
  playable_from i h =
      subst (λ (l : Lanes). Playable snd v dt l (length (cut (2 * i) out))) (sym (part_lanes_lem i b))
      (record {
        well_formed = p.well_formed;
        lent = p.lent;
        sized = rest_sized i b p.sized;
        long =
            ap length (part_is (2 * i) out) ∙ length-drop (2 * i) out ∙ twice (length out) (length b.rate) i p.long ∙ ap (λ (n : ℕ). 2 * n) (sym (length-drop i b.rate));
        is_time_step = p.is_time_step;
        near = subst (λ (l : List Lane). T (all (near v.setup.sample_rate dt) l)) (sym (rest_rows i b)) (near_rest i);
      })
    where
      twice : (m n i : ℕ) → m ≡ 2 * n → m - 2 * i ≡ 2 * (n - i)
      twice m n i e = omega arith

  pub played_from_lem : (i : ℕ) (r : BlockAnswer) (samples : List Float)
      → record { answer = r; samples = samples } ≡ accepted_as (plays snd dt (rows (part_lanes i b)) v)
      → record { answer = r; samples = take (2 * i) out ++ (samples ++ drop (length out - 2 * i) (drop (2 * i) out)) } ≡ played_from snd dt b i v out
  played_from_lem i r samples e =
      ap (λ (l : List Float). record { answer = r; samples = take (2 * i) out ++ l })
      (ap (λ (l : List Float). samples ++ l) (drop_of_length-le (drop (2 * i) out) (le_of_eq (length-drop (2 * i) out))) ∙ append-nil samples)
      ∙ ap (λ (o : Outcome). record { answer = o.answer; samples = take (2 * i) out ++ o.samples }) e
      ∙ ap (λ (l : List Lane). let q = plays snd dt l v in accepted_with q (take (2 * i) out ++ q.samples)) (ap rows (part_lanes_lem i b) ∙ rest_rows i b)

  -- where no frame is left
  pub played_none_left : (i : ℕ) → i ≡ length b.rate → record { answer = record { refusal = 0; voice = v; steps = 0; lowest_count = 4 }; samples = out } ≡ played_from snd dt b i v out
  unfolding plays
  played_none_left i e =
      let rows_long : length (rows b) ≡ i = beside_length b.fade b.volume b.left b.right b.rate ∙ sym e in
      let long : length out ≡ 2 * i = p.long ∙ ap (λ (n : ℕ). 2 * n) (sym e) in
      let none : drop i (rows b) ≡ [] = drop_of_length-le (rows b) (le_of_eq rows_long) in
      sym
      (ap (λ (l : List Lane). let q = plays snd dt l v in accepted_with q (take (2 * i) out ++ q.samples)) none
      ∙ ap (λ (o : List Float). record { answer = record { refusal = 0; voice = v; steps = 0; lowest_count = 4 }; samples = o }) (append-nil (take (2 * i) out) ∙ take_all (2 * i) out (le_of_eq long)))

  rows_left : (i : ℕ) → length (drop i (rows b)) ≡ length b.rate - i
  rows_left i = length-drop i (rows b) ∙ ap (λ (n : ℕ). n - i) (beside_length b.fade b.volume b.left b.right b.rate)

  -- the steps from frame i on are few
  pub from_few : (i : ℕ) (r : BlockAnswer) (samples : List Float) → record { answer = r; samples = samples } ≡ played_from snd dt b i v out → r.steps ≤ 257 * (length b.rate - i)
  from_few i r samples e =
      subst (λ (s : ℕ). s ≤ 257 * (length b.rate - i)) (sym (ap (λ (o : Outcome). o.answer.steps) e))
      (subst (λ (m : ℕ). (plays snd dt (drop i (rows b)) v).steps ≤ 257 * m) (rows_left i) (plays_steps snd dt p.is_time_step (drop i (rows b)) v (near_rest i) p.well_formed))

-- ---- the track lies in the sound

span_some : (k : Setup) → T (well_formed_setup k) → 0 < length_of_slice k
span_some k h = let f = setup_parts k h in go k.slice f.slice f.some
  where
    go : (r : Option (ℕ × ℕ)) → T (within k.num_frames r) → 0 < k.num_frames → 0 < elim r as (λ (r : Option (ℕ × ℕ)). ℕ) [ None ↦ k.num_frames | Some (s, e) ↦ e - s ]
    go None w l = l
    go (Some (s, e)) w l = less s e (ranged_parts k.num_frames s e w).more
      where
        less : (s e : ℕ) → s < e → 0 < e - s
        less s e h = omega arith

pub lies_of : (snd : List Float) (v : StaticSound) → WellFormed v → length snd ≡ 2 * v.setup.num_frames → InsideSound snd (track_of v.moving.transport.loop_region (slice_of v))
lies_of snd v w len =
    let a = updatable_of snd v w len in
    go v.moving.transport.loop_region w.transport_well_formed.loop (span_some v.setup w.setup) a.few a.inside (short (length snd) v.setup.num_frames len (setup_parts v.setup w.setup).few)
  where
    short : (m n : ℕ) → m ≡ 2 * n → n ≤ 16777216 → m ≤ 33554432
    short m n e h = omega arith

    go : (r : Option (ℕ × ℕ)) → (let c = slice_of v in
        T (within c.num_frames r) → 0 < c.num_frames → c.num_frames ≤ 16777216 → 2 * (c.start + c.num_frames) ≤ length snd → length snd ≤ 33554432 → InsideSound snd (track_of r c))
    go None h some few inside m = record { some = some; inside = le_refl (slice_of v).num_frames; few = few; lent = inside; short = m }
    go (Some (s, e)) h some few inside m =
        let g = ranged_parts (slice_of v).num_frames s e h in
        record { some = g.more; inside = g.inside; few = few; lent = inside; short = m }

-- ---- together

pub reached_on : (snd : List Float) (dt : Float) (b : Lanes) (v u : StaticSound) (k : Track) (r : Reached) (q : BlockAnswer) (out end : List Float) → Heard snd dt b v k r out
    → u ≡ moved v r.fractional_position (scanned_to snd k v r.steps r.at) → record { answer = q; samples = end } ≡ played_from snd dt b r.next u out
    → record { answer = record { refusal = 0; voice = q.voice; steps = r.steps + q.steps; lowest_count = q.lowest_count }; samples = end } ≡ accepted_as (plays snd dt (rows b) v)
reached_on snd dt b v u k r q out end h eu e =
    let i = r.next in
    let p = plays snd dt (drop i (rows b)) u in
    ap (λ (o : Outcome). record { answer = record { refusal = 0; voice = o.answer.voice; steps = r.steps + o.answer.steps; lowest_count = o.answer.lowest_count }; samples = o.samples }) e
    ∙ ap (λ (n : ℕ). accepted_as (record { voice = p.voice; samples = take (2 * i) out ++ p.samples; steps = r.steps + p.steps; lowest_count = n })) (sym (lower_four p.lowest_count (plays_lowest snd dt (drop i (rows b)) u)))
    ∙ ap accepted_as
    (sym
    (ap (λ (l : List Lane). plays snd dt l v) (sym (take-append-drop i (rows b)))
    ∙ plays_append snd dt (take i (rows b)) (drop i (rows b)) v
    ∙ ap (λ (q : Played). joined q (plays snd dt (drop i (rows b)) q.voice)) h.so_far
    ∙ ap (λ (u : StaticSound). joined (record { voice = u; samples = take (2 * i) out; steps = r.steps; lowest_count = 4 }) (plays snd dt (drop i (rows b)) u)) (sym eu)))

-- a scan of all frames: nothing is left
pub reached_whole : (snd : List Float) (dt : Float) (b : Lanes) (v u : StaticSound) (k : Track) (r : Reached) (out : List Float) → Playable snd u dt b (length out) → Heard snd dt b v k r out
    → u ≡ moved v r.fractional_position (scanned_to snd k v r.steps r.at) → r.next ≡ length b.rate
    → record { answer = record { refusal = 0; voice = u; steps = r.steps; lowest_count = 4 }; samples = out } ≡ accepted_as (plays snd dt (rows b) v)
reached_whole snd dt b v u k r out p h eu e =
    ap (λ (n : ℕ). record { answer = record { refusal = 0; voice = u; steps = n; lowest_count = 4 }; samples = out }) (none r.steps)
    ∙ reached_on snd dt b v u k r (record { refusal = 0; voice = u; steps = 0; lowest_count = 4 }) out out h eu (played_none_left snd u dt b out p r.next e)
  where
    none : (n : ℕ) → n ≡ n + 0
    none n = omega arith
