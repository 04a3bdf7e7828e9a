-- Sound or silence, as the code has them: what a voice that has taken its signals does is the block. Assumes nothing.
use Prim.Native.Nat.{ℕ, ◌*◌}
use mathlib.Core.Path.{◌≡◌, sym, ap, ◌∙◌, subst}
use mathlib.Core.Bool.{true, false}
use mathlib.Core.List.{List}
use lib.ListN.{length, replicate}
use lib.Ieee.{Float}
use Rattle.numbers.specs.Words.{positive_zero}
use Rattle.sound_lanes.specs.Lanes.{Lanes, rows}
use Rattle.sound_lanes.proofs.Rows.{beside_length}
use Rattle.sound_state.specs.declared.StaticSound.{StaticSound}
use Rattle.sound_slow_path.specs.Plays.{Outcome, plays, accepted_as}
use Rattle.sound_slow_path.specs.FrameSteps.{Playable}
use Rattle.sound_block.specs.declared.Signals.{Signals}
use Rattle.sound_block.specs.Blocks.{begun, live, silent, block}
use Rattle.sound_block.proofs.Blocks.{block_live, block_silent}
use Rattle.sound_block.proofs.Fills.{zeros_filled}
use Rattle.sound_block.proofs.Keeps.{begun_well_formed}

module _ (snd : List Float) (dt : Float) (b : Lanes) (g : Signals) (v u : StaticSound) (e : u ≡ begun g v) where
  pub sounds : live u ≡ true → (o : Outcome) → o ≡ accepted_as (plays snd dt (rows b) u) → o ≡ accepted_as (block snd dt (rows b) g v)
  sounds t o h =
      h ∙ ap accepted_as (ap (plays snd dt (rows b)) e ∙ sym (block_live snd dt (rows b) g v (subst (λ (w : StaticSound). live w ≡ true) e t)))

  pub rests : live u ≡ false → (out : List Float) (n : ℕ) → out ≡ replicate n positive_zero → n ≡ 2 * length b.rate
      → record { answer = record { refusal = 0; voice = u; steps = 0; lowest_count = 4 }; samples = out } ≡ accepted_as (block snd dt (rows b) g v)
  rests t out n h k =
      ap (λ (z : List Float). accepted_as (record { voice = u; samples = z; steps = 0; lowest_count = 4 }))
      (h ∙ ap (λ (m : ℕ). replicate m positive_zero) (k ∙ ap (λ (m : ℕ). 2 * m) (sym (beside_length b.fade b.volume b.left b.right b.rate))) ∙ sym (zeros_filled (rows b)))
      ∙ ap accepted_as (ap (silent (rows b)) e ∙ sym (block_silent snd dt (rows b) g v (subst (λ (w : StaticSound). live w ≡ false) e t)))

  -- what playing asks, after the signals
  pub playable : (m : ℕ) → Playable snd v dt b m → Playable snd u dt b m
  unfolding begun
  playable m h =
      subst (λ (w : StaticSound). Playable snd w dt b m) (sym e)
      (record { well_formed = begun_well_formed g v h.well_formed; lent = h.lent; sized = h.sized; long = h.long; is_time_step = h.is_time_step; near = h.near })
