-- Several updates, one at a time; and the moving part, split and assembled with the same loop.
use Rattle.std.specs.Prelude.{Option}
use mathlib.Core.Path.{◌≡◌, refl, sym, ap, ap₂, ◌∙◌}
use mathlib.Core.Bool.{Bool, true, false, not, cond}
use mathlib.Core.List.{List, [], ◌∷◌}
use Prim.Native.Nat.{ℕ, suc, ◌+◌, ◌-◌, ◌<◌}
use native.Mathlib.Omega.{arith}
use lib.ListN.{length, get_or}
use lib.Ieee.{Float}
use Rattle.transport.specs.declared.Transport.{Transport}
use Rattle.transport.specs.Moves.{under, back, first, landed, forward, backward}
use Rattle.resampler.specs.declared.RecentFrame.{RecentFrame}
use Rattle.resampler.specs.Windows.{blank, push}
use Rattle.sound_update.specs.declared.Slice.{Slice}
use Rattle.sound_update.specs.declared.Moving.{Moving}
use Rattle.sound_update.specs.declared.window.Frames.{Frames}
use Rattle.sound_update.specs.declared.window.Numbers.{Numbers}
use Rattle.sound_update.specs.Windows.{frames_of, numbers_of, window_of}
use Rattle.sound_update.specs.Updates.{pushed, stepped, updated, updates, moving_of}

-- of n updates, the one after the first k
pub updates_one : (n k : ℕ) (snd : List Float) (c : Slice) (m : Moving) → k < n → updates (n - (k + 1)) snd c (updated snd c m) ≡ updates (n - k) snd c m
unfolding updates
updates_one n k snd c m h = sym (ap (λ (j : ℕ). updates j snd c m) (more n k h))
  where
    more : (n k : ℕ) → k < n → n - k ≡ suc (n - (k + 1))
    more n k h = omega arith

pub updates_none : (n : ℕ) (snd : List Float) (c : Slice) (m : Moving) → n ≡ 0 → updates n snd c m ≡ m
unfolding updates
updates_none n snd c m e = ap (λ (k : ℕ). updates k snd c m) e

-- ---- the moving part in pieces, with the same loop

-- a step keeps the loop
stepped_loop : (c : Slice) (t : Transport) → (stepped c t).loop_region ≡ t.loop_region
unfolding stepped forward backward
stepped_loop c t = go c.backwards t.playing
  where
    go : (b p : Bool)
        → (cond b
        (cond p (record { position = back t.loop_region t.position; loop_region = t.loop_region; playing = not (first t.loop_region t.position) }) t)
        (cond p (landed c.num_frames t (under t.loop_region (t.position + 1))) t)).loop_region ≡ t.loop_region
    go true true = refl
    go true false = refl
    go false true = refl
    go false false = refl

-- entry i of the window, as the code reads it
abbrev get_d_blank : List RecentFrame → ℕ → RecentFrame
get_d_blank l i = get_or l i blank

-- the moving part, split and assembled with a loop
abbrev pub apart : Option (ℕ × ℕ) → Moving → Moving
apart loop m =
    let w = m.resampler in
    moving_of loop m.state m.transport.position m.transport.playing m.wraps (window_of (frames_of w) (numbers_of w))

four : (l : List RecentFrame) → length l ≡ 4 → ◌≡◌ {A = List RecentFrame} (get_d_blank l 0 ∷ get_d_blank l 1 ∷ get_d_blank l 2 ∷ get_d_blank l 3 ∷ []) l
four [] e = absurd (bad e)
  where
    bad : ◌≡◌ {A = ℕ} 0 4 → ⊥
    bad e = omega arith
four (a ∷ []) e = absurd (bad e)
  where
    bad : ◌≡◌ {A = ℕ} 1 4 → ⊥
    bad e = omega arith
four (a ∷ b ∷ []) e = absurd (bad e)
  where
    bad : ◌≡◌ {A = ℕ} 2 4 → ⊥
    bad e = omega arith
four (a ∷ b ∷ c ∷ []) e = absurd (bad e)
  where
    bad : ◌≡◌ {A = ℕ} 3 4 → ⊥
    bad e = omega arith
four (a ∷ b ∷ c ∷ d ∷ []) e = refl
four (a ∷ b ∷ c ∷ d ∷ x ∷ l) e = absurd (bad (length l) e)
  where
    bad : (n : ℕ) → suc (suc (suc (suc (suc n)))) ≡ 4 → ⊥
    bad n e = omega arith

-- with its own loop it is the same
pub together : (loop : Option (ℕ × ℕ)) (m : Moving) → m.transport.loop_region ≡ loop → length m.resampler.frames ≡ 4 → apart loop m ≡ m
together loop m e f =
    ap₂ (λ (r : Option (ℕ × ℕ)) (l : List RecentFrame). record {
      state = m.state;
      transport = record { position = m.transport.position; loop_region = r; playing = m.transport.playing };
      resampler = record { frames = l; time_until_empty = m.resampler.time_until_empty };
      wraps = m.wraps;
    }) (sym e) (four m.resampler.frames f)

-- the same, from the pieces that the code has
pub together_as : (loop : Option (ℕ × ℕ)) (m x : Moving) (f : Frames) (n : Numbers) → x ≡ m → m.transport.loop_region ≡ loop → length m.resampler.frames ≡ 4
    → f ≡ frames_of x.resampler → n ≡ numbers_of x.resampler
    → moving_of loop x.state x.transport.position x.transport.playing x.wraps (window_of f n) ≡ m
together_as loop m x f n e h g ef en =
    ap₂ (λ (f : Frames) (n : Numbers). moving_of loop x.state x.transport.position x.transport.playing x.wraps (window_of f n)) ef en
    ∙ ap (apart loop) e ∙ together loop m h g

-- an update has four frames, and the loop that it had
pub updated_apart : (snd : List Float) (c : Slice) (loop : Option (ℕ × ℕ)) (m w x : Moving) (f : Frames) (n : Numbers) → w ≡ m → x ≡ updated snd c w → m.transport.loop_region ≡ loop
    → f ≡ frames_of x.resampler → n ≡ numbers_of x.resampler
    → moving_of loop x.state x.transport.position x.transport.playing x.wraps (window_of f n) ≡ updated snd c m
unfolding updated pushed push
updated_apart snd c loop m w x f n e u h ef en =
    together_as loop (updated snd c m) x f n (u ∙ ap (updated snd c) e) (stepped_loop c m.transport ∙ h) refl ef en
