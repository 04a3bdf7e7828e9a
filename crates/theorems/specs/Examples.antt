-- docs/assurance/RULES.md, "Marked examples": all that are marked [P], in one table and one statement. N = 10 and loop
-- (3, 6) unless stated otherwise.
use Rattle.std.specs.Prelude.{ℕ, ◌≡◌, Bool, true, false, List, [], ◌∷◌, map, pos, negsuc, replicate, Float}
use Rattle.std.specs.Prelude.{Some, None}
use Rattle.std.specs.Float.{fin}
use Rattle.numbers.specs.Words.{positive_zero, one}
use Rattle.numbers.specs.Frames.{cut_off}
use Rattle.frame.specs.declared.Frame.{Frame}
use Rattle.playback_position.specs.declared.PlaybackPosition.TheVariants.{Seconds, Samples}
use Rattle.playback_position.specs.declared.EndPosition.TheVariants.{Custom}
use Rattle.playback_position.specs.Positions.{position_in_frames}
use Rattle.transport.specs.declared.Transport.{Transport}
use Rattle.transport.specs.Moves.{forward, backward, seek}
use Rattle.resampler.specs.declared.RecentFrame.{RecentFrame}
use Rattle.resampler.specs.declared.Resampler.{Resampler}
use Rattle.resampler.specs.Windows.{reading}
use Rattle.sound_creation.specs.declared.Settings.{Settings}
use Rattle.sound_creation.specs.Creation.{Created}
use Rattle.sound_creation.specs.Creation.{created}
use Rattle.sound_commands.specs.Commands.{target_to}

-- what a row shows: the position of a transport and whether it still plays; a frame index; a creation's refusal, frame
-- indices and position; a reading
pub data Shown : Type 0 where
  moved : ℕ → Bool → Shown
  place : ℕ → Shown
  window : ℕ → List ℕ → ℕ → Shown
  frame_read : Frame → Shown

-- ---- the transport

-- playing at p: in the loop (3, 6), and with no loop
abbrev pub looped : ℕ → Transport
looped p = record { position = p; loop_region = Some (3, 6); playing = true }

abbrev plain : ℕ → Transport
plain p = record { position = p; loop_region = None; playing = true }

abbrev shown : Transport → Shown
shown t = moved t.position t.playing

-- playing at p, and ended at p
abbrev at : ℕ → Shown
at p = moved p true

abbrev ended : ℕ → Shown
ended p = moved p false

-- ---- creation: ten frames at 1 Hz, rate 1

abbrev pub ten : List Float
ten = replicate 20 positive_zero

abbrev pub from : ℕ → Bool → Settings
from start reverse =
    record {
      sample_rate = 1;
      slice = None;
      start_position = Samples start;
      loop_region = Some (record { start = Samples 3; end = Custom (Samples 6) });
      reverse = reverse;
      playback_rate = one;
      start_waits = false;
    }

abbrev numbers : Created → Shown
numbers c = window c.refusal (map (λ (r : RecentFrame). r.frame_index) c.voice.moving.resampler.frames)
    c.voice.moving.transport.position

-- ---- the window

-- the value in both channels
abbrev both : Float → Frame
both x = record { left = x; right = x }

abbrev recent : Float → RecentFrame
recent x = record { frame = both x; frame_index = 0 }

-- the entries 0, 1, 2, 3
abbrev rising : Resampler
rising = record {
  frames = recent positive_zero ∷ recent one ∷ recent (fin false 1 (pos 1))
      ∷ recent (fin false 3 (pos 0)) ∷ [];
  time_until_empty = 4;
}

-- this many halves
abbrev halves : ℕ → Float
halves n = fin false n (negsuc 0)

-- ---- what the definitions compute, and what the document says

unfoldable pub table : List (Shown × Shown)
table =
    (shown (forward 10 (looped 5)), at 3)
    ∷ (shown (forward 10 (looped 9)), at 4)
    ∷ (shown (backward (looped 3)), at 5)
    ∷ (shown (backward (looped 1)), at 3)
    ∷ (shown (seek 10 (looped 4) 8), at 5)
    ∷ (shown (seek 10 (looped 4) 1), at 4)
    ∷ (shown (seek 10 (looped 0) 2), at 2)
    ∷ (shown (forward 10 (plain 9)), ended 10)
    ∷ (shown (backward (plain 0)), ended 0)
    ∷ (place (position_in_frames 1 (Seconds (halves 5))), place 3)
    ∷ (place (cut_off (target_to (created ten (from 0 false)).voice (halves 5))), place 2)
    ∷ (numbers (created ten (from 0 false)), window 0 (0 ∷ 0 ∷ 1 ∷ 2 ∷ []) 3)
    ∷ (numbers (created ten (from 2 true)), window 0 (7 ∷ 7 ∷ 6 ∷ 5 ∷ []) 4)
    ∷ (frame_read (reading rising (halves 1)).frame, frame_read (both (halves 3)))
    ∷ []

abbrev pub ExamplesHold : Type 0
ExamplesHold = map (λ (r : Shown × Shown). r.0) table ≡ map (λ (r : Shown × Shown). r.1) table
