-- What a lowest count means: a push with a frame fills the count and one without lowers it, a transport that has ended stays ended, and the lowest count is one that was read.
-- By cases on a push, and by induction on updates and lanes. Assumes nothing.
use Rattle.std.specs.Prelude.{Option, Some, None}
use mathlib.Core.Path.{◌≡◌, refl, sym, ap, ap₂, ◌∙◌, subst}
use Prim.Native.Nat.{ℕ, zero, suc, ◌+◌, ◌-◌, ◌≤◌, ◌<◌}
use native.Mathlib.Nat.{not-suc-le-zero, le_of_suc-le-suc}
use native.Mathlib.Omega.{arith}
use mathlib.Core.Bool.{Bool, true, false, ◌&&◌, cond}
use mathlib.Core.List.{List, [], ◌∷◌}
use lib.Dec.{leb, eqb}
use lib.ListN.{length, get_or, take}
use lib.Ieee.{Float}
use borrow.Author.Tests.{leb-true, leb-false}
use Rattle.numbers.specs.Words.{positive_zero, whole}
use Rattle.frame.specs.Frames.{frame_of}
use Rattle.transport.specs.declared.Transport.{Transport}
use Rattle.transport.specs.Moves.{seek}
use Rattle.resampler.specs.declared.RecentFrame.{RecentFrame}
use Rattle.resampler.specs.declared.Resampler.{Resampler}
use Rattle.resampler.specs.Windows.{blank, push, reading}
use Rattle.playback_state_manager.specs.States.{advancing}
use Rattle.sound_lanes.specs.Lanes.{Lane, rows}
use Rattle.sound_update.specs.declared.Moving.{Moving}
use Rattle.sound_update.specs.declared.Slice.{Slice}
use Rattle.sound_update.specs.Updates.{sounding, pushed, updated, updates}
use Rattle.sound_state.specs.declared.StaticSound.{StaticSound}
use Rattle.sound_state.specs.Voices.{start_of_slice, slice_of}
use Rattle.sound_creation.specs.Creation.{setup_of, opened, transport_of, made}
use Rattle.sound_creation.proofs.Answers.{created_passed, created_done}
use Rattle.sound_commands.specs.declared.Commands.{Commands}
use Rattle.sound_commands.specs.Commands.{CommandsAnswer}
use Rattle.sound_commands.specs.Commands.{refused_set, before_seeks, jumped, refilled, sought, sought_by, sought_to, obeyed, reported, commanded}
use Rattle.sound_block.specs.declared.Signals.{Signals}
use Rattle.sound_block.specs.Blocks.{begun, live, silent, block}
use Rattle.sound_block.proofs.Blocks.{block_live, block_silent}
use Rattle.sound_slow_path.specs.Plays.{Played, total, after_frame, plays, accepted_with}
use Rattle.sound_slow_path.proofs.Lowest.{lower_first, lower_second, lowest}
use Rattle.static_sound.specs.Entries.{refused_block, refused_with, holds, room, mixed, processed, processed_into}
use Rattle.static_sound.proofs.Entries.{processed_passed, processed_done, into_passed, into_done}
use Rattle.theorems.specs.Reports.{nones, Fed, FedVoice, CreationFeeds, CommandsFeed, BlocksFeed, MixesFeed, at_read, Sounding, Tells, BlocksTell, MixesTell, SilenceTells}
use Rattle.theorems.proofs.Ends.{stepped_still}

-- ---- a push, and what moves the transport

-- the same window, and a transport that stays ended
fed_moved : (snd : List Float) (start : ℕ) (m u : Moving) → u.resampler ≡ m.resampler → (m.transport.playing ≡ false → u.transport.playing ≡ false)
    → Fed snd start m → Fed snd start u
fed_moved snd start m u e f h = record { before = h.before; number = h.number; since = h.since; pushed = e ∙ h.pushed; ended = λ k. f (h.ended k) }

module _ (snd : List Float) (c : Slice) where
  -- a playing transport pushes a frame of the sound, whatever was before
  first_fed : (m : Moving) → m.transport.playing ≡ true → Fed snd c.start (refilled snd c m)
  unfolding pushed nones
  first_fed m e =
      record {
        before = m.resampler;
        number = m.transport.position;
        since = [];
        pushed = ap (λ (b : Bool). push m.resampler (sounding snd b (c.start + m.transport.position)) m.transport.position) e;
        ended = λ k. absurd (not-suc-le-zero k);
      }

  -- one that has ended pushes none
  later_fed : (m : Moving) → m.transport.playing ≡ false → Fed snd c.start m → Fed snd c.start (refilled snd c m)
  unfolding pushed nones
  later_fed m e h =
      record {
        before = h.before;
        number = h.number;
        since = m.transport.position ∷ h.since;
        pushed = ap₂ (λ (b : Bool) (w : Resampler). push w (sounding snd b (c.start + m.transport.position)) m.transport.position) e h.pushed;
        ended = λ k. e;
      }

  pub pushed_fed : (m : Moving) → Fed snd c.start m → Fed snd c.start (refilled snd c m)
  pushed_fed m h = go m.transport.playing refl
    where
      go : (b : Bool) → m.transport.playing ≡ b → Fed snd c.start (refilled snd c m)
      go true e = first_fed m e
      go false e = later_fed m e h

  stepped_fed : (m : Moving) → Fed snd c.start (refilled snd c m) → Fed snd c.start (updated snd c m)
  unfolding updated
  stepped_fed m h =
      fed_moved snd c.start (refilled snd c m) (updated snd c m) refl (λ e. ap (λ (t : Transport). t.playing) (stepped_still c m.transport e) ∙ e) h

  updates_fed : (n : ℕ) (m : Moving) → Fed snd c.start m → Fed snd c.start (updates n snd c m)
  unfolding updates
  updates_fed zero m h = h
  updates_fed (suc n) m h = updates_fed n (updated snd c m) (stepped_fed m (pushed_fed m h))

-- ---- the calls

pub creation_feeds : CreationFeeds
unfolding made updates
creation_feeds snd s e =
    subst (FedVoice snd) (sym (created_done snd s (created_passed snd s e)))
    (let k = setup_of (length snd) s in
    let v = opened k (transport_of k s) s.playback_rate s.start_waits in
    let c = slice_of v in
    updates_fed snd c 2 (updated snd c v.moving) (stepped_fed snd c v.moving (first_fed snd c v.moving refl)))

and_still : (a b : Bool) → a ≡ false → (a && b) ≡ false
and_still a b e = ap (λ (x : Bool). x && b) e

module _ (snd : List Float) where
  sought_fed : (v : StaticSound) (q : ℕ) → FedVoice snd v → FedVoice snd (sought snd v q)
  unfolding sought seek
  sought_fed v q h = go (advancing v.moving.state)
    where
      jump : Fed snd (start_of_slice v.setup) (jumped v q)
      jump = fed_moved snd (start_of_slice v.setup) v.moving (jumped v q) refl (λ e. and_still _ _ e) h

      go : (b : Bool) → Fed snd (start_of_slice v.setup) (cond b (refilled snd (slice_of v) (jumped v q)) (jumped v q))
      go true = pushed_fed snd (slice_of v) (jumped v q) jump
      go false = jump

  by_fed : (v : StaticSound) (a : Option Float) → FedVoice snd v → FedVoice snd (sought_by snd v a)
  by_fed v None h = h
  by_fed v (Some x) h = sought_fed v _ h

  to_fed : (v : StaticSound) (a : Option Float) → FedVoice snd v → FedVoice snd (sought_to snd v a)
  to_fed v None h = h
  to_fed v (Some x) h = sought_fed v _ h

  obeyed_fed : (v : StaticSound) (c : Commands) → FedVoice snd v → FedVoice snd (obeyed snd c v)
  unfolding obeyed before_seeks
  obeyed_fed v c h =
      to_fed (sought_by snd (before_seeks c v) c.seek_by) c.seek_to
      (by_fed (before_seeks c v) c.seek_by (fed_moved snd (start_of_slice v.setup) v.moving (before_seeks c v).moving refl (λ e. e) h))

  module _ (dt : Float) where
    turned_fed : (v : StaticSound) (l : Lane) → FedVoice snd v → FedVoice snd (after_frame snd dt v l)
    unfolding after_frame
    turned_fed v l h = updates_fed snd (slice_of v) (whole (total dt v l)) v.moving h

    plays_fed : (ls : List Lane) (v : StaticSound) → FedVoice snd v → FedVoice snd (plays snd dt ls v).voice
    unfolding plays
    plays_fed [] v h = h
    plays_fed (l ∷ ls) v h = plays_fed ls (after_frame snd dt v l) (turned_fed v l h)

    begun_fed : (g : Signals) (v : StaticSound) → FedVoice snd v → FedVoice snd (begun g v)
    unfolding begun
    begun_fed g v h = fed_moved snd (start_of_slice v.setup) v.moving (begun g v).moving refl (λ e. e) h

    block_fed : (ls : List Lane) (g : Signals) (v : StaticSound) → FedVoice snd v → FedVoice snd (block snd dt ls g v).voice
    unfolding block
    block_fed ls g v h = go (live (begun g v))
      where
        go : (b : Bool) → FedVoice snd (cond b (plays snd dt ls (begun g v)) (silent ls (begun g v))).voice
        go true = plays_fed ls (begun g v) (begun_fed g v h)
        go false = begun_fed g v h

pub commands_feed : CommandsFeed
unfolding commanded
commands_feed snd v c h = go (eqb (refused_set (length snd) v c) 0)
  where
    go : (b : Bool)
        → FedVoice snd
        (cond {A = CommandsAnswer} b (record { refusal = 0; voice = obeyed snd c v; position = reported v }) (record { refusal = refused_set (length snd) v c; voice = v; position = positive_zero })).voice
    go true = obeyed_fed snd v c h
    go false = h

pub blocks_feed : BlocksFeed
unfolding processed
blocks_feed snd v dt b g out h = go (eqb (refused_block (length snd) v dt b (holds b out)) 0)
  where
    go : (t : Bool)
        → FedVoice snd
        (cond t (accepted_with (block snd dt (rows b) g v) (block snd dt (rows b) g v).samples) (refused_with (refused_block (length snd) v dt b (holds b out)) v out)).answer.voice
    go true = block_fed snd dt (rows b) g v h
    go false = h

pub mixes_feed : MixesFeed
unfolding processed_into
mixes_feed snd v dt b g mix from h = go (eqb k 0)
  where
    k : ℕ
    k = refused_block (length snd) v dt b (room from (length b.rate) mix)

    go : (t : Bool)
        → FedVoice snd
        (cond t (accepted_with (block snd dt (rows b) g v) (mixed from (length b.rate) mix (block snd dt (rows b) g v).samples)) (refused_with k v mix)).answer.voice
    go true = block_fed snd dt (rows b) g v h
    go false = h

-- ---- the count of a fed window

nones_count : (ns : List ℕ) (w : Resampler) → w.time_until_empty ≡ 4 → (nones ns w).time_until_empty ≡ 4 - length ns
unfolding nones push
nones_count [] w e = e
nones_count (n ∷ ns) w e = less (nones ns w).time_until_empty (length ns) (nones_count ns w e)
  where
    less : (a b : ℕ) → a ≡ 4 - b → a - 1 ≡ 4 - suc b
    less a b e = omega arith

abbrev count_of : StaticSound → ℕ
count_of v = v.moving.resampler.time_until_empty

module _ (snd : List Float) (v : StaticSound) (h : FedVoice snd v) where
  fed_count : count_of v ≡ 4 - length h.since
  unfolding push
  fed_count =
      ap (λ (w : Resampler). w.time_until_empty) h.pushed
      ∙ nones_count h.since (push h.before (Some (frame_of snd (start_of_slice v.setup + h.number))) h.number) refl

  fed_ended : count_of v < 4 → v.moving.transport.playing ≡ false
  fed_ended k = let e = fed_count in h.ended (omega arith)

  fed_newest : count_of v ≡ 4 → Sounding snd v
  unfolding nones push
  fed_newest e = go h.since h.pushed (sym fed_count ∙ e)
    where
      go : (ns : List ℕ) → v.moving.resampler ≡ nones ns (push h.before (Some (frame_of snd (start_of_slice v.setup + h.number))) h.number) → 4 - length ns ≡ 4 → Sounding snd v
      go [] p k =
          let q = ap (λ (w : Resampler). get_or w.frames 3 blank) p in
          ap (λ (r : RecentFrame). r.frame) q ∙ ap (λ (n : ℕ). frame_of snd (start_of_slice v.setup + n)) (sym (ap (λ (r : RecentFrame). r.frame_index) q))
      go (n ∷ ns) p k = absurd (over (length ns) k)
        where
          over : (n : ℕ) → 4 - suc n ≡ 4 → ⊥
          over n k = omega arith

-- ---- the lowest count is one that was read

module _ (snd : List Float) (dt : Float) where
  pub lowest_least : (ls : List Lane) (v : StaticSound) (k : ℕ) → k < length ls → (plays snd dt ls v).lowest_count ≤ count_of (at_read snd dt ls v k)
  unfolding plays reading
  lowest_least [] v k h = absurd (not-suc-le-zero h)
  lowest_least (l ∷ ls) v zero h = (lowest (count_of v) (plays snd dt ls (after_frame snd dt v l)).lowest_count).first
  lowest_least (l ∷ ls) v (suc k) h =
      let u = after_frame snd dt v l in
      let a = (lowest (count_of v) (plays snd dt ls u).lowest_count).second in
      let b = lowest_least ls u k (le_of_suc-le-suc h) in
      omega arith

  record Read (ls : List Lane) (v : StaticSound) : Type 0 where
    read : ℕ
    within : read < length ls
    count : (plays snd dt ls v).lowest_count ≡ count_of (at_read snd dt ls v read)

  lowest_read : (ls : List Lane) (v : StaticSound) → (plays snd dt ls v).lowest_count < 4 → Read ls v
  unfolding plays reading
  lowest_read [] v h = absurd (not_below h)
    where
      not_below : 4 < 4 → ⊥
      not_below h = omega arith
  lowest_read (l ∷ ls) v h = go (leb t r) refl (λ k. lowest_read ls (after_frame snd dt v l) k)
    where
      t : ℕ
      t = count_of v

      r : ℕ
      r = (plays snd dt ls (after_frame snd dt v l)).lowest_count

      more : (a b : ℕ) → a < b → suc a < suc b
      more a b h = omega arith

      go : (b : Bool) → leb t r ≡ b → (r < 4 → Read ls (after_frame snd dt v l)) → Read (l ∷ ls) v
      go true e f = record { read = 0; within = omega arith; count = lower_first t r (leb-true t r e) }
      go false e f =
          let k = lower_second t r (leb-false t r e) in
          let q = f (subst (λ (n : ℕ). n < 4) k h) in
          record { read = suc q.read; within = more q.read (length ls) q.within; count = k ∙ q.count }

  plays_tells : (ls : List Lane) (v : StaticSound) → FedVoice snd v → Tells snd dt ls v (plays snd dt ls v).lowest_count
  plays_tells ls v h =
      record {
        full = λ k x.
            let u = at_read snd dt ls v k in
            let f = plays_fed snd dt (take k ls) v h in
            let a = lowest_least ls v k x.1 in
            let c = fed_count snd u f in
            fed_newest snd u f (four (count_of u) _ _ c x.0 a);
        tail = λ k.
            let q = lowest_read ls v k in
            let f = plays_fed snd dt (take q.read ls) v h in
            let u = at_read snd dt ls v q.read in
            record {
              read = q.read;
              within = q.within;
              fed = f;
              pushes = q.count ∙ fed_count snd u f;
              ended = fed_ended snd u f (subst (λ (n : ℕ). n < 4) q.count k);
            };
      }
    where
      four : (a n t : ℕ) → a ≡ 4 - n → t ≡ 4 → t ≤ a → a ≡ 4
      four a n t c e h = omega arith

pub blocks_tell : BlocksTell
blocks_tell snd v dt b g out x =
    rw (processed_done snd v dt b g out (processed_passed snd v dt b g out x.accepted), block_live snd dt (rows b) g v x.live) (plays_tells snd dt (rows b) (begun g v) (begun_fed snd dt g v x.fed))

pub mixes_tell : MixesTell
mixes_tell snd v dt b g mix from x =
    rw (into_done snd v dt b g mix from (into_passed snd v dt b g mix from x.accepted), block_live snd dt (rows b) g v x.live) (plays_tells snd dt (rows b) (begun g v) (begun_fed snd dt g v x.fed))

pub silence_tells : SilenceTells
unfolding processed
silence_tells snd v dt b g out l = go (eqb (refused_block (length snd) v dt b (holds b out)) 0)
  where
    go : (t : Bool)
        → (cond t (accepted_with (block snd dt (rows b) g v) (block snd dt (rows b) g v).samples) (refused_with (refused_block (length snd) v dt b (holds b out)) v out)).answer.lowest_count ≡ 4
    go true = ap (λ (p : Played). p.lowest_count) (block_silent snd dt (rows b) g v l)
    go false = refl
