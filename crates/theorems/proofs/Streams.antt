-- A well formed stream is accepted in blocks of any sizes up to 4,096 frames: the first block passes every test, and the rest is an acceptable stream again.
-- By induction on the blocks. Assumes nothing.
use mathlib.Core.Path.{◌≡◌, sym, ap, ◌∙◌, subst}
use Prim.Native.Nat.{ℕ, ◌+◌, ◌-◌, ◌*◌, ◌≤◌, min}
use native.Mathlib.Omega.{arith}
use mathlib.Core.Bool.{Bool, true}
use mathlib.Core.List.{List, [], ◌∷◌}
use lib.Dec.{leb, leb→le}
use lib.ListN.{length, take, drop, length-take, length-drop}
use lib.Seq.{length-take-le}
use lib.Ieee.{Float}
use lib.Ieee.Fits.{and_l, and_r, eq→eqb}
use Rattle.numbers.specs.Lists.{all}
use Rattle.sound_lanes.specs.Lanes.{Lanes, rows, laned, near, first_lanes, rest_lanes}
use Rattle.sound_lanes.proofs.Rows.{sized_of}
use Rattle.sound_state.specs.declared.StaticSound.{StaticSound}
use Rattle.sound_block.specs.declared.Signals.{Signals}
use Rattle.sound_block.specs.Blocks.{block, quiet}
use Rattle.sound_slow_path.specs.Plays.{accepted_with}
use Rattle.static_sound.specs.Entries.{holds, processed}
use Rattle.static_sound.proofs.Refusals.{Accepted, accepted_of}
use Rattle.static_sound.proofs.Entries.{block_well_formed_for, processed_done}
use Rattle.theorems.specs.Sums.{sum}
use Rattle.theorems.specs.Schedules.{played_by, Stream, AllAccepted}
use Rattle.theorems.proofs.Cut.{first_all, rest_all, rest_near}

-- lists of one length, cut alike
first_alike : (k : ℕ) (l m : List Float) → length l ≡ length m → length (take k l) ≡ length (take k m)
first_alike k l m e = length-take k l ∙ ap (min k) e ∙ sym (length-take k m)

rest_alike : (k : ℕ) (l m : List Float) → length l ≡ length m → length (drop k l) ≡ length (drop k m)
rest_alike k l m e = length-drop k l ∙ ap (λ (n : ℕ). n - k) e ∙ sym (length-drop k m)

module _ (snd : List Float) (dt : Float) (b : Lanes) (g : Signals) (v : StaticSound) (k : ℕ) (out : List Float) (s : Stream snd dt b v) (l : length out ≡ 2 * length b.rate) (q : k ≤ length b.rate) where
  short : length (take k b.rate) ≡ k
  short = length-take-le k b.rate q

  first_passes : k ≤ 4096 → Accepted (length snd) v dt (first_lanes k b) (holds (first_lanes k b) (take (2 * k) out))
  first_passes few =
      record {
        well_formed_for = s.well_formed_for;
        sized =
            sized_of (first_lanes k b)
            (record {
              most = subst (λ (n : ℕ). n ≤ 4096) (sym short) few;
              fade = first_alike k b.fade b.rate s.fade;
              volume = first_alike k b.volume b.rate s.volume;
              left = first_alike k b.left b.rate s.left;
              right = first_alike k b.right b.rate s.right;
            });
        placed = eq→eqb (length-take-le (2 * k) out (omega (arith, l)) ∙ ap (λ (n : ℕ). 2 * n) (sym short));
        is_time_step = s.is_time_step;
        laned = first_all laned k b s.laned;
        near = first_all (near v.setup.sample_rate dt) k b s.near;
      }

  first_done : k ≤ 4096 → let p = block snd dt (rows (first_lanes k b)) g v in processed snd v dt (first_lanes k b) g (take (2 * k) out) ≡ accepted_with p p.samples
  first_done few =
      processed_done snd v dt (first_lanes k b) g (take (2 * k) out)
      (accepted_of (length snd) v dt (first_lanes k b) (holds (first_lanes k b) (take (2 * k) out)) (first_passes few))

  rest_streams : k ≤ 4096 → Stream snd dt (rest_lanes k b) (block snd dt (rows (first_lanes k b)) g v).voice
  rest_streams few =
      record {
        well_formed_for = block_well_formed_for snd v dt (first_lanes k b) g (holds (first_lanes k b) (take (2 * k) out)) (first_passes few);
        fade = rest_alike k b.fade b.rate s.fade;
        volume = rest_alike k b.volume b.rate s.volume;
        left = rest_alike k b.left b.rate s.left;
        right = rest_alike k b.right b.rate s.right;
        is_time_step = s.is_time_step;
        laned = rest_all laned k b s.laned;
        near = rest_near snd dt k b g v s.near;
      }

  rest_out : length (drop (2 * k) out) ≡ 2 * length (drop k b.rate)
  rest_out = length-drop (2 * k) out ∙ twice (length out) (length b.rate) l ∙ ap (λ (n : ℕ). 2 * n) (sym (length-drop k b.rate))
    where
      twice : (m n : ℕ) → m ≡ 2 * n → m - 2 * k ≡ 2 * (n - k)
      twice m n e = omega arith

-- at most 4,096 frames
abbrev small : ℕ → Bool
small n = leb n 4096

pub all_accepted : AllAccepted
unfolding played_by
all_accepted snd dt b g v k [] out x =
    let e = x.all_of_it in
    rw (first_done snd dt b g v k out x.stream x.holds (omega arith) (leb→le k 4096 (and_l (small k) true x.few))) tt
all_accepted snd dt b g v k (j ∷ ks) out x =
    let s = x.stream in
    let l = x.holds in
    let e = x.all_of_it in
    let few = x.few in
    let q : k ≤ length b.rate = omega arith in
    let m = leb→le k 4096 (and_l (small k) (all small (j ∷ ks)) few) in
    rw (first_done snd dt b g v k out s l q m)
    (all_accepted snd dt (rest_lanes k b) (quiet g) (block snd dt (rows (first_lanes k b)) g v).voice j ks (drop (2 * k) out)
    (record {
      stream = rest_streams snd dt b g v k out s l q m;
      holds = rest_out snd dt b g v k out s l q;
      all_of_it = left (length b.rate) (sum ks) e ∙ sym (length-drop k b.rate);
      few = and_r (small k) (all small (j ∷ ks)) few;
    }))
  where
    left : (n m : ℕ) → k + (j + m) ≡ n → j + m ≡ n - k
    left n m e = omega arith
