-- `Moving::update_position` meets its contract: by whether the transport plays or the window is not empty after the push and the step.
use mathlib.Core.Path.{◌≡◌, sym, ap, ap₂, ◌∙◌}
use mathlib.Core.Bool.{Bool, not, ◌&&◌, cond}
use mathlib.Core.List.{List}
use lib.Ieee.{Float}
use Rattle.playback_state_manager.specs.declared.PlaybackState.TheVariants as state
use Rattle.transport.specs.declared.Transport.{Transport}
use Rattle.resampler.specs.declared.Resampler.{Resampler}
use Rattle.resampler.specs.Windows.{is_empty}
use Rattle.sound_update.specs.declared.Wraps.{Wraps}
use Rattle.sound_update.specs.declared.Moving.{Moving}
use Rattle.sound_update.specs.declared.Slice.{Slice}
use Rattle.sound_update.specs.Updates.{pushed, stepped, counted, updated}
use Rattle.sound_update.proofs.Moving.update_position.Goals as goal

-- after the push and the step, with the result e of whether the window is empty
updated-by : (snd : List Float) (c : Slice) (m : Moving) (t : Transport) (k : Wraps) (w : Resampler) (e b : Bool)
    → t ≡ stepped c m.transport → k ≡ counted c m.transport m.wraps → w ≡ pushed snd c m → e ≡ is_empty w → not t.playing && e ≡ b
    → ◌≡◌ {A = Moving} (record { state = cond b state.Stopped m.state; transport = t; resampler = w; wraps = k }) (updated snd c m)
unfolding updated
updated-by snd c m t k w e b step counts push empty h =
    ap (λ (b : Bool). settled b t k w) (sym h ∙ ap (λ (e : Bool). not t.playing && e) empty)
    ∙ ap₂ (λ (t : Transport) (w : Resampler). settled (not t.playing && is_empty w) t k w) step push
    ∙ ap (λ (k : Wraps). settled (not (stepped c m.transport).playing && is_empty (pushed snd c m)) (stepped c m.transport) k (pushed snd c m)) counts
  where
    settled : Bool → Transport → Wraps → Resampler → Moving
    settled b t k w = record { state = cond b state.Stopped m.state; transport = t; resampler = w; wraps = k }

pub returns-then-transport-empty : goal.returns-then-transport-empty
returns-then-transport-empty c =
    let s = c.before.before.before in
    updated-by _ _ _ _ _ _ _ _ s.step-transport.ensures s.count-wraps.ensures s.push_frame_to_resampler-resampler.ensures c.empty.ensures c.if-transport-empty.true

pub returns-else-transport-empty : goal.returns-else-transport-empty
returns-else-transport-empty c =
    let s = c.before.before.before in
    updated-by _ _ _ _ _ _ _ _ s.step-transport.ensures s.count-wraps.ensures s.push_frame_to_resampler-resampler.ensures c.empty.ensures c.if-transport-empty.false
