-- Playing: one list of lanes and then another, one frame more, two samples a frame, a count of at most 4, and what a block leaves as it is.
-- By induction on the lanes, since a frame is one step of the definition. Assumes nothing.
use mathlib.Core.Path.{◌≡◌, refl, sym, ap, ap₂, ◌∙◌}
use Prim.Native.Nat.{ℕ, suc, ◌+◌, ◌*◌, ◌≤◌, ◌<◌}
use native.Mathlib.Nat.{le_refl, add-zero, zero-add, add_assoc}
use native.Mathlib.Omega.{arith}
use mathlib.Core.List.{List, [], ◌∷◌, ◌++◌}
use lib.ListN.{length, get_or, take}
use lib.Seq.{take-suc}
use lib.Ieee.{Float}
use Rattle.numbers.specs.Words.{whole}
use Rattle.frame.specs.declared.Frame.{Frame}
use Rattle.sound_lanes.specs.Lanes.{Lane}
use Rattle.sound_state.specs.declared.StaticSound.{StaticSound}
use Rattle.sound_slow_path.specs.Plays.{Played, lower, then, plays, total, after_frame, read_by, frame_with_gains}
use Rattle.sound_slow_path.proofs.Lowest.{lowest, lower_assoc, lower_four, four_lower}

-- ---- one list of lanes and then another

-- what is played first, and what follows it
abbrev pub joined : Played → Played → Played
joined p q = record { voice = q.voice; samples = p.samples ++ q.samples; steps = p.steps + q.steps; lowest_count = lower p.lowest_count q.lowest_count }

pub then_joined : (f : Frame) (n t : ℕ) (p q : Played) → then f n t (joined p q) ≡ joined (then f n t p) q
then_joined f n t p q =
    ap₂ (λ (k m : ℕ). record { voice = q.voice; samples = f.left ∷ f.right ∷ (p.samples ++ q.samples); steps = k; lowest_count = m })
    (sym (add_assoc n p.steps q.steps)) (lower_assoc t p.lowest_count q.lowest_count)

one_more : (a t : ℕ) → a ≤ 4 → lower a (lower t 4) ≡ lower a t
one_more a t h =
    let l = (lowest a t).first in
    lower_assoc a t 4 ∙ four_lower (lower a t) (omega arith)

pub two_more : (a n : ℕ) → a ≡ 2 * n → suc (suc a) ≡ 2 * suc n
two_more a n e = omega arith

module _ (snd : List Float) (dt : Float) where
  -- the count is at most 4
  pub plays_lowest : (ls : List Lane) (v : StaticSound) → (plays snd dt ls v).lowest_count ≤ 4
  unfolding plays
  plays_lowest [] v = le_refl 4
  plays_lowest (l ∷ ls) v =
      let u = after_frame snd dt v l in
      let h = plays_lowest ls u in
      let k = (lowest (read_by v).count (plays snd dt ls u).lowest_count).second in
      omega arith

  pub plays_append : (xs ys : List Lane) (v : StaticSound)
      → plays snd dt (xs ++ ys) v ≡ joined (plays snd dt xs v) (plays snd dt ys (plays snd dt xs v).voice)
  unfolding plays
  plays_append [] ys v =
      let q = plays snd dt ys v in
      ap₂ (λ (k m : ℕ). record { voice = q.voice; samples = q.samples; steps = k; lowest_count = m })
      (sym (zero-add q.steps)) (sym (lower_four q.lowest_count (plays_lowest ys v)))
  plays_append (l ∷ xs) ys v =
      let u = after_frame snd dt v l in
      ap (then (frame_with_gains v l) (whole (total dt v l)) (read_by v).count) (plays_append xs ys u)
      ∙ then_joined (frame_with_gains v l) (whole (total dt v l)) (read_by v).count (plays snd dt xs u) (plays snd dt ys (plays snd dt xs u).voice)

  -- one frame more
  pub plays_next : (ls : List Lane) (v : StaticSound) (i : ℕ) (z : Lane) → i < length ls
      → let p = plays snd dt (take i ls) v in
      let l = get_or ls i z in
      plays snd dt (take (suc i) ls) v
      ≡ record {
        voice = after_frame snd dt p.voice l;
        samples = p.samples ++ ((frame_with_gains p.voice l).left ∷ (frame_with_gains p.voice l).right ∷ []);
        steps = p.steps + whole (total dt p.voice l);
        lowest_count = lower p.lowest_count (read_by p.voice).count;
      }
  unfolding plays
  plays_next ls v i z h =
      let p = plays snd dt (take i ls) v in
      let l = get_or ls i z in
      ap (λ (x : List Lane). plays snd dt x v) (take-suc ls i z h)
      ∙ plays_append (take i ls) (l ∷ []) v
      ∙ ap₂ (λ (n m : ℕ). record {
        voice = after_frame snd dt p.voice l;
        samples = p.samples ++ ((frame_with_gains p.voice l).left ∷ (frame_with_gains p.voice l).right ∷ []);
        steps = p.steps + n;
        lowest_count = m;
      }) (add-zero (whole (total dt p.voice l))) (one_more p.lowest_count (read_by p.voice).count (plays_lowest (take i ls) v))

  -- each frame has two samples
  pub plays_length : (ls : List Lane) (v : StaticSound) → length (plays snd dt ls v).samples ≡ 2 * length ls
  unfolding plays
  plays_length [] v = refl
  plays_length (l ∷ ls) v =
      let u = after_frame snd dt v l in
      two_more (length (plays snd dt ls u).samples) (length ls) (plays_length ls u)

  -- what a block leaves as it is
  pub plays_setup : (ls : List Lane) (v : StaticSound) → (plays snd dt ls v).voice.setup ≡ v.setup
  unfolding plays after_frame
  plays_setup [] v = refl
  plays_setup (l ∷ ls) v = plays_setup ls (after_frame snd dt v l)

  pub plays_started : (ls : List Lane) (v : StaticSound) → (plays snd dt ls v).voice.started ≡ v.started
  unfolding plays after_frame
  plays_started [] v = refl
  plays_started (l ∷ ls) v = plays_started ls (after_frame snd dt v l)
