-- A block over any sound compared with the same block of the muted voice over any other: the same steps, the same counts, and voices that are alike.
-- By induction on the lanes. Assumes nothing.
use mathlib.Core.Path.{◌≡◌, sym, ap, ◌∙◌}
use Prim.Native.Nat.{ℕ, ◌+◌}
use mathlib.Core.Bool.{Bool, true, false, cond}
use mathlib.Core.List.{List, [], ◌∷◌}
use lib.Ieee.{Float}
use Rattle.numbers.specs.Words.{whole, part}
use Rattle.resampler.specs.Windows.{reading}
use Rattle.sound_lanes.specs.Lanes.{Lane}
use Rattle.sound_update.specs.declared.Moving.{Moving}
use Rattle.sound_state.specs.declared.StaticSound.{StaticSound}
use Rattle.sound_state.specs.Voices.{slice_of, moved}
use Rattle.sound_block.specs.declared.Signals.{Signals}
use Rattle.sound_block.specs.Blocks.{begun, live, silent, block}
use Rattle.sound_slow_path.specs.Plays.{Played, total, after_frame, read_by, lower, plays}
use Rattle.theorems_sound_length.specs.Muted.{muted}
use Rattle.theorems_sound_length.proofs.Windows.{muted_twice, updates_muted}

-- what a block returns besides samples
pub record Rest : Type 0 where
  pub voice : StaticSound
  pub steps : ℕ
  pub lowest_count : ℕ

abbrev pub rest_of : Played → Rest
rest_of p = record { voice = muted p.voice; steps = p.steps; lowest_count = p.lowest_count }

-- of a block that moves nothing
abbrev unmoved : StaticSound → Rest
unmoved u = record { voice = u; steps = 0; lowest_count = 4 }

abbrev onward : ℕ → ℕ → Rest → Rest
onward n t r = record { voice = r.voice; steps = n + r.steps; lowest_count = lower t r.lowest_count }

turned_muted : (snd other : List Float) (dt : Float) (v : StaticSound) (l : Lane) → muted (after_frame snd dt v l) ≡ muted (after_frame other dt (muted v) l)
unfolding after_frame total
turned_muted snd other dt v l =
    let x = total dt v l in
    ap (λ (m : Moving). moved v (part x) m) (updates_muted (whole x) snd other (slice_of v) v.moving)

plays_muted : (snd other : List Float) (dt : Float) (ls : List Lane) (v : StaticSound) → rest_of (plays snd dt ls v) ≡ rest_of (plays other dt ls (muted v))
unfolding plays total reading
plays_muted snd other dt [] v = ap unmoved (sym (muted_twice v))
plays_muted snd other dt (l ∷ ls) v =
    ap (onward (whole (total dt v l)) (read_by v).count)
    (plays_muted snd other dt ls (after_frame snd dt v l)
    ∙ ap (λ (u : StaticSound). rest_of (plays other dt ls u)) (turned_muted snd other dt v l)
    ∙ sym (plays_muted other other dt ls (after_frame other dt (muted v) l)))

pub block_muted : (snd other : List Float) (dt : Float) (ls : List Lane) (g : Signals) (v : StaticSound) → rest_of (block snd dt ls g v) ≡ rest_of (block other dt ls g (muted v))
unfolding block begun
block_muted snd other dt ls g v = go (live (begun g v))
  where
    go : (b : Bool) → rest_of (cond b (plays snd dt ls (begun g v)) (silent ls (begun g v))) ≡ rest_of (cond b (plays other dt ls (begun g (muted v))) (silent ls (begun g (muted v))))
    go true = plays_muted snd other dt ls (begun g v)
    go false = ap unmoved (sym (muted_twice (begun g v)))
