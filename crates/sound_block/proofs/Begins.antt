-- What a voice is once it has taken its signals, case by case as the code has them.
use mathlib.Core.Path.{◌≡◌, refl, sym, ap, ap₂, ◌∙◌}
use mathlib.Core.Bool.{Bool, true, false}
use Rattle.playback_state_manager.specs.declared.PlaybackState.{PlaybackState}
use Rattle.playback_state_manager.specs.declared.PlaybackState.TheVariants.{Stopped}
use Rattle.playback_state_manager.specs.declared.StartAnswer.{StartAnswer}
use Rattle.playback_state_manager.specs.declared.StartAnswer.TheVariants.{Waiting, Now, Never}
use Rattle.playback_state_manager.specs.States.{settled}
use Rattle.start_time.specs.Ticks.{answering}
use Rattle.sound_state.specs.declared.StaticSound.{StaticSound}
use Rattle.sound_block.specs.declared.Signals.{Signals}
use Rattle.sound_block.specs.Blocks.{come, given_up, begun}

-- the voice with another start and another state
abbrev pub restated : StaticSound → Bool → PlaybackState → StaticSound
restated v b s =
    record {
      setup = v.setup;
      playback_rate = v.playback_rate;
      started = b;
      fractional_position = v.fractional_position;
      moving = record { state = s; transport = v.moving.transport; resampler = v.moving.resampler; wraps = v.moving.wraps };
    }

-- what the start answer leaves, once both are in hand
answered : (g : Signals) (v : StaticSound) (a : StartAnswer) (p b : Bool) (s t : PlaybackState) → answering g.start ≡ a → v.started ≡ p → s ≡ settled g.finished g.resume v.moving.state
    → b ≡ come a p → t ≡ given_up a p s → restated v b t ≡ begun g v
unfolding begun
answered g v a p b s t e f h i j =
    ap₂ (restated v) (i ∙ sym (ap₂ come e f))
    (j ∙ ap (given_up a p) h ∙ sym (ap₂ (λ (x : StartAnswer) (y : Bool). given_up x y (settled g.finished g.resume v.moving.state)) e f))

come_started : (a : StartAnswer) → true ≡ come a true
come_started Waiting = refl
come_started Now = refl
come_started Never = refl

kept_started : (a : StartAnswer) (s : PlaybackState) → s ≡ given_up a true s
kept_started Waiting s = refl
kept_started Now s = refl
kept_started Never s = refl

module _ (g : Signals) (v : StaticSound) (s : PlaybackState) (h : s ≡ settled g.finished g.resume v.moving.state) where
  pub begun_started : v.started ≡ true → restated v true s ≡ begun g v
  begun_started f = let a = answering g.start in answered g v a true true s s refl f h (come_started a) (kept_started a s)

  pub begun_waiting : v.started ≡ false → answering g.start ≡ Waiting → restated v false s ≡ begun g v
  begun_waiting f e = answered g v Waiting false false s s e f h refl refl

  pub begun_now : v.started ≡ false → answering g.start ≡ Now → restated v true s ≡ begun g v
  begun_now f e = answered g v Now false true s s e f h refl refl

  pub begun_never : v.started ≡ false → answering g.start ≡ Never → restated v false Stopped ≡ begun g v
  begun_never f e = answered g v Never false false s Stopped e f h refl refl
