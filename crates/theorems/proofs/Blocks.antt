-- A block of the definition, of any length, cut in two. Playing goes on where it stopped, so the parts make the whole while the voice has not stopped;
-- once it has ended, the rest of the uncut block changes nothing and the second part is silent. Assumes nothing.
use mathlib.Core.Path.{◌≡◌, refl, sym, ap, ap₂, ◌∙◌, subst}
use mathlib.Core.Logic.{inl, inr}
use Prim.Native.Nat.{◌+◌}
use native.Mathlib.Nat.{le_refl}
use mathlib.Core.Bool.{Bool, true, false, not, ◌&&◌}
use mathlib.Core.List.{List, ◌++◌}
use lib.Dec.{T, eqb}
use lib.Ieee.{Float, lt}
use Rattle.numbers.specs.Words.{positive_zero}
use Rattle.numbers.specs.Lists.{all}
use Rattle.numbers.proofs.Lists.{all_front, all_rest}
use Rattle.playback_state_manager.specs.declared.PlaybackState.{PlaybackState}
use Rattle.playback_state_manager.specs.declared.PlaybackState.TheVariants.{Stopped}
use Rattle.playback_state_manager.specs.States.{advancing, number}
use Rattle.sound_lanes.specs.Lanes.{Lane, laned, near}
use Rattle.sound_state.specs.declared.StaticSound.{StaticSound}
use Rattle.sound_state.specs.WellFormed.{WellFormed}
use Rattle.sound_block.specs.declared.Signals.{Signals}
use Rattle.sound_slow_path.specs.Plays.{Played, lower, plays}
use Rattle.sound_slow_path.proofs.Lowest.{four_lower}
use Rattle.sound_block.specs.Blocks.{silent, begun, live, block, quiet}
use Rattle.sound_slow_path.proofs.Plays.{plays_append, plays_started, plays_setup}
use Rattle.sound_block.proofs.Blocks.{zeros_append, block_live, block_silent, Taken, begun_taken, begun_quiet}
use Rattle.sound_block.proofs.Keeps.{begun_well_formed}
use Rattle.sound_slow_path.proofs.Keeps.{plays_well_formed}
use Rattle.theorems.specs.Alike.{bare, awake}
use Rattle.theorems.specs.AllowedEnd.{EndsOnly}
use Rattle.theorems.proofs.Ends.{plays_ends, plays_idle}

pub record CutPlayed (uncut first rest : Played) : Type 0 where
  pub samples : uncut.samples ≡ first.samples ++ rest.samples
  pub same : T (awake first.voice) → (uncut.voice ≡ rest.voice) × (uncut.steps ≡ first.steps + rest.steps)
  pub lowest : T (awake first.voice) → uncut.lowest_count ≡ lower first.lowest_count rest.lowest_count
  pub alike : bare uncut.voice ≡ bare rest.voice

-- a voice that is Stopped is not awake
pub not_awake : (v : StaticSound) → v.moving.state ≡ Stopped → T (awake v) → ⊥
not_awake v e h = subst (λ (s : PlaybackState). T (not (eqb (number s) 6))) e h

and_false : (b : Bool) → (b && false) ≡ false
and_false true = refl
and_false false = refl

module _ (snd : List Float) (dt : Float) (xs ys : List Lane) where
  -- the rest of a block gets at most the same tick
  rest_live : (g : Signals) (v : StaticSound) → Taken g v.started → live v ≡ true → block snd dt ys (quiet g) v ≡ plays snd dt ys v
  rest_live g v h e = block_live snd dt ys (quiet g) v (ap live (begun_quiet g v h) ∙ e) ∙ ap (plays snd dt ys) (begun_quiet g v h)

  rest_silent : (g : Signals) (v : StaticSound) → Taken g v.started → live v ≡ false → block snd dt ys (quiet g) v ≡ silent ys v
  rest_silent g v h e = block_silent snd dt ys (quiet g) v (ap live (begun_quiet g v h) ∙ e) ∙ ap (silent ys) (begun_quiet g v h)

  cut_silent : (g : Signals) (v : StaticSound) → Taken g v.started → live v ≡ false → CutPlayed (silent (xs ++ ys) v) (silent xs v) (block snd dt ys (quiet g) v)
  cut_silent g v h e = rw (rest_silent g v h e) (record { samples = zeros_append xs ys; same = λ n. (refl, refl); lowest = λ n. sym (four_lower 4 (le_refl 4)); alike = refl })

  module _ (t : T (lt positive_zero dt)) where
    cut_live : (g : Signals) (v : StaticSound) → Taken g v.started → WellFormed v → live v ≡ true → T (all laned (xs ++ ys)) → T (all (near v.setup.sample_rate dt) (xs ++ ys))
        → CutPlayed (plays snd dt (xs ++ ys) v) (plays snd dt xs v) (block snd dt ys (quiet g) (plays snd dt xs v).voice)
    cut_live g v h w e a k = go (plays_ends snd dt xs v)
      where
        u : StaticSound
        u = (plays snd dt xs v).voice

        held : Taken g u.started
        held = subst (Taken g) (sym (plays_started snd dt xs v)) h

        go : EndsOnly v.moving.state u.moving → CutPlayed (plays snd dt (xs ++ ys) v) (plays snd dt xs v) (block snd dt ys (quiet g) u)
        go (inl f) =
            rw (plays_append snd dt xs ys v, rest_live g u held (ap₂ (λ (x : Bool) (y : PlaybackState). x && advancing y) (plays_started snd dt xs v) f ∙ e))
            (record { samples = refl; same = λ n. (refl, refl); lowest = λ n. refl; alike = refl })
        go (inr s) =
            let n = near v.setup.sample_rate dt in
            let i =
            plays_idle snd dt t ys u (all_rest laned xs ys a)
            (rw (plays_setup snd dt xs v) (all_rest n xs ys k))
            (plays_well_formed snd dt t xs v (all_front n xs ys k) w) s
            in
            rw (plays_append snd dt xs ys v, rest_silent g u held (ap (λ (y : PlaybackState). u.started && advancing y) s.stopped ∙ and_false u.started))
            (record { samples = ap (λ (z : List Float). (plays snd dt xs v).samples ++ z) i.samples; same = λ n. absurd (not_awake u s.stopped n); lowest = λ n. absurd (not_awake u s.stopped n); alike = i.alike })

    pub block_cut : (g : Signals) (v : StaticSound) → WellFormed v → T (all laned (xs ++ ys)) → T (all (near v.setup.sample_rate dt) (xs ++ ys))
        → CutPlayed (block snd dt (xs ++ ys) g v) (block snd dt xs g v) (block snd dt ys (quiet g) (block snd dt xs g v).voice)
    unfolding begun
    block_cut g v w a k = go (live (begun g v)) refl
      where
        go : (c : Bool) → live (begun g v) ≡ c → CutPlayed (block snd dt (xs ++ ys) g v) (block snd dt xs g v) (block snd dt ys (quiet g) (block snd dt xs g v).voice)
        go true e = rw (block_live snd dt (xs ++ ys) g v e, block_live snd dt xs g v e) (cut_live g (begun g v) (begun_taken g v) (begun_well_formed g v w) e a k)
        go false e = rw (block_silent snd dt (xs ++ ys) g v e, block_silent snd dt xs g v e) (cut_silent g (begun g v) (begun_taken g v) e)
