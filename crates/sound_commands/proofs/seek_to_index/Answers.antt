-- `sound_commands::seek_to_index` meets its contract: by whether the state advances after the transport's seek.
-- The transport after the seek is well formed, so a frame may be pushed.
use mathlib.Core.Path.{◌≡◌, sym, ap, ◌∙◌}
use Prim.Native.Nat.{ℕ, ◌≤◌}
use mathlib.Core.Bool.{true, false}
use mathlib.Core.List.{List}
use lib.Dec.{T}
use lib.ListN.{length}
use lib.Ieee.{Float}
use Rattle.numbers.specs.Frames.{most}
use Rattle.playback_position.proofs.Ranges.{within_ordered}
use Rattle.playback_state_manager.specs.States.{advancing}
use Rattle.transport.specs.declared.Transport.{Transport}
use Rattle.transport.specs.Moves.{seek}
use Rattle.resampler.specs.declared.Resampler.{Resampler}
use Rattle.sound_state.specs.declared.StaticSound.{StaticSound}
use Rattle.sound_update.specs.declared.Moving.{Moving}
use Rattle.sound_update.specs.declared.Slice.{Slice}
use Rattle.sound_state.specs.Voices.{length_of_slice, slice_of, moved}
use Rattle.sound_update.specs.Updates.{pushed, Updatable}
use Rattle.sound_state.specs.WellFormed.{well_formed_for}
use Rattle.sound_state.proofs.WellFormed.{well_formed_for_parts, updatable_of}
use Rattle.sound_commands.specs.Commands.{sought}
use Rattle.sound_commands.proofs.Orders.{jumped_kept}
use Rattle.sound_commands.proofs.seek_to_index.Goals.{After-num_frames, then-is_advancing, else-is_advancing}
use Rattle.sound_commands.proofs.seek_to_index.Goals as goal

-- the moving part with another transport, and also with another window
abbrev with : StaticSound → Transport → Resampler → Moving
with v t w = record { state = v.moving.state; transport = t; resampler = w; wraps = v.moving.wraps }

jumped-updatable : (snd : List Float) (v : StaticSound) (q : ℕ) (c : Slice) (t : Transport) → T (well_formed_for (length snd) v) → q ≤ most
    → t ≡ seek (length_of_slice v.setup) v.moving.transport q → c ≡ slice_of v → Updatable snd c (with v t v.moving.resampler)
jumped-updatable snd v q c t h k e f =
    let p = well_formed_for_parts (length snd) v h in
    let a = updatable_of snd v p.0 p.1 in
    rw (f, e) (record { transport_well_formed = (jumped_kept v q k p.0).transport_well_formed; few = a.few; inside = a.inside })

sought-going : (snd : List Float) (v : StaticSound) (q : ℕ) (c : Slice) (t : Transport) (w : Resampler) → advancing v.moving.state ≡ true
    → t ≡ seek (length_of_slice v.setup) v.moving.transport q → c ≡ slice_of v → w ≡ pushed snd c (with v t v.moving.resampler)
    → moved v v.fractional_position (with v t w) ≡ sought snd v q
unfolding sought
sought-going snd v q c t w g e f p = rw (g, p, f, e)

sought-still : (snd : List Float) (v : StaticSound) (q : ℕ) (t : Transport) → advancing v.moving.state ≡ false
    → t ≡ seek (length_of_slice v.setup) v.moving.transport q → moved v v.fractional_position (with v t v.moving.resampler) ≡ sought snd v q
unfolding sought
sought-still snd v q t g e = rw (g, e)

lands : (c : After-num_frames) → (t : Transport) → t ≡ seek c.num_frames.result c.args.voice.moving.transport c.args.index
    → t ≡ seek (length_of_slice c.args.voice.setup) c.args.voice.moving.transport c.args.index
lands c t e =
    let a = c.args in
    e ∙ ap (λ (n : ℕ). seek n a.voice.moving.transport a.index) c.num_frames.ensures

pub seek_to-requires : goal.seek_to-requires
seek_to-requires c =
    let v = c.args.voice in
    within_ordered (length_of_slice v.setup) v.moving.transport.loop_region (well_formed_for_parts _ v c.requires.well_formed).0.transport_well_formed.loop

pub push_frame_to_resampler-resampler-requires : goal.push_frame_to_resampler-resampler-requires
push_frame_to_resampler-resampler-requires c =
    jumped-updatable _ c.args.voice c.args.index _ _ c.requires.well_formed c.requires.index_le_most (lands (goal.at.push_frame_to_resampler-resampler-requires c).After-num_frames _ c.seek_to.ensures) c.slice.ensures

pub returns : goal.returns
returns c =
    let landed = lands (goal.at.returns c).After-num_frames _ c.seek_to.ensures in
    elim c.if-is_advancing.branch [
      | then-is_advancing w ↦
          sought-going _ c.args.voice c.args.index _ _ _ (sym c.is_advancing.ensures ∙ w.if-is_advancing.true) landed w.slice.ensures (w.resampler-is ∙ w.push_frame_to_resampler-resampler.ensures)
      | else-is_advancing w ↦
          ap (λ (r : Resampler). moved c.args.voice c.args.voice.fractional_position (with c.args.voice c.seek_to.result r)) w.resampler-is
          ∙ sought-still _ c.args.voice c.args.index _ (sym c.is_advancing.ensures ∙ w.if-is_advancing.false) landed
    ]
