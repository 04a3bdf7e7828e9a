-- Settings, a sound, commands or a block from a record's numbers, in the order of docs/formats/TRACE.md.
use Rattle.std.specs.Prelude.{ℕ, zero, suc, ◌+◌, ◌-◌, ◌*◌, ◌/◌, ◌%◌, Bool, cond, not, ◌&&◌, List, [], ◌∷◌, eqb, ltb}
use Rattle.std.specs.Prelude.{Option, Some, None}
use Rattle.std.specs.Prelude.{leb, get_or, take, drop, Float}
use Rattle.std.specs.Float.{binary32, binary64}
use Rattle.byte_layout.specs.Numbers.{num}
use Rattle.float_bits.specs.Patterns.{float_of}
use Rattle.playback_position.specs.declared.PlaybackPosition.{PlaybackPosition}
use Rattle.playback_position.specs.declared.PlaybackPosition.TheVariants.{Seconds, Samples}
use Rattle.playback_position.specs.declared.EndPosition.{EndPosition}
use Rattle.playback_position.specs.declared.EndPosition.TheVariants.{EndOfAudio, Custom}
use Rattle.playback_position.specs.declared.Region.{Region}
use Rattle.playback_state_manager.specs.declared.StartAnswer.{StartAnswer}
use Rattle.playback_state_manager.specs.declared.StartAnswer.TheVariants as answer
use Rattle.sound_creation.specs.declared.Settings.{Settings}
use Rattle.sound_commands.specs.declared.LoopCommand.{LoopCommand}
use Rattle.sound_commands.specs.declared.LoopCommand.TheVariants as loop
use Rattle.sound_commands.specs.declared.ResumeCommand.{ResumeCommand}
use Rattle.sound_commands.specs.declared.ResumeCommand.TheVariants as resume
use Rattle.sound_commands.specs.declared.Commands.{Commands}
use Rattle.start_time.specs.declared.StartSignal.TheVariants as signal
use Rattle.sound_block.specs.declared.Signals.{Signals}
use Rattle.sound_held.specs.declared.Held.{Held}
use Rattle.trace_inputs.specs.declared.Block.{Block}
use Rattle.trace_inputs.specs.declared.LanedBlock.{LanedBlock}

-- ---- numbers

-- a field of four bytes, and its float; a field of eight bytes as a float
abbrev pub half : ℕ → ℕ
half n = n % 4294967296

abbrev pub single : ℕ → Float
single n = float_of binary32 (half n)

abbrev pub double : ℕ → Float
double n = float_of binary64 n

abbrev pub yes : ℕ → Bool
yes n = eqb n 1

-- at most m
abbrev pub at_most : ℕ → ℕ → ℕ
at_most m n = cond (leb n m) n m

-- ---- positions and regions

-- 0 frames, 1 seconds
abbrev pub position_of : ℕ → ℕ → PlaybackPosition
position_of unit n = cond (eqb unit 0) (Samples n) (Seconds (double n))

-- region tags 1 and 2 end at the end of audio, 3 and 4 at a frame, 5 and 6 at seconds
abbrev pub end_of : ℕ → ℕ → EndPosition
end_of tag n = cond (ltb tag 3) EndOfAudio (Custom (position_of (cond (ltb tag 5) 0 1) n))

-- odd region tags begin at a frame, even ones at seconds
abbrev pub region_of : ℕ → ℕ → ℕ → Region
region_of tag start end = record { start = position_of (1 - tag % 2) start; end = end_of tag end }

-- ---- creation

abbrev pub optional_of : ℕ → ℕ → ℕ → Option Region
optional_of tag start end = cond (eqb tag 0) None (Some (region_of tag start end))

unfoldable pub settings_of : List ℕ → Settings
settings_of vs =
    record {
      sample_rate = half (get_or vs 0 0);
      slice = optional_of (get_or vs 1 0) (get_or vs 2 0) (get_or vs 3 0);
      start_position = position_of (get_or vs 4 0) (get_or vs 5 0);
      loop_region = optional_of (get_or vs 6 0) (get_or vs 7 0) (get_or vs 8 0);
      reverse = yes (get_or vs 9 0);
      playback_rate = double (get_or vs 10 0);
      start_waits = yes (get_or vs 11 0);
    }

-- left in a frame's low four bytes, right in its high ones
unfoldable pub stereo : List ℕ → List Float
stereo [] = []
stereo (x ∷ xs) = single x ∷ single (x / 4294967296) ∷ stereo xs

-- the sound's samples
abbrev pub samples_of : List ℕ → List Float
samples_of vs = stereo (take (at_most 64 (get_or vs 12 0)) (drop 13 vs))

-- a creation over a given sound: its frame count comes after the settings; and the number of its samples, none if the
-- frame count is 0 or above the limit
abbrev pub given_frames : List ℕ → ℕ
given_frames vs = get_or vs 12 0

abbrev pub given_samples : List ℕ → ℕ
given_samples vs = cond (leb (given_frames vs) 16777216) (2 * given_frames vs) 0

-- ---- commands

abbrev pub amount_of : ℕ → ℕ → Option Float
amount_of tag n = cond (eqb tag 0) None (Some (double n))

-- 0 keep, 1 clear, else a region: its tag plus 1
abbrev pub loop_of : ℕ → ℕ → ℕ → LoopCommand
loop_of tag start end = cond (eqb tag 0) loop.Keep
    (cond (eqb tag 1) loop.Clear (loop.Set (region_of (tag - 1) start end)))

abbrev pub resume_of : ℕ → ResumeCommand
resume_of n = cond (eqb n 0) resume.Keep (cond (eqb n 1) resume.Now resume.Waiting)

unfoldable pub commands_of : List ℕ → Commands
commands_of vs =
    record {
      playback_rate = amount_of (get_or vs 0 0) (get_or vs 1 0);
      loop_region = loop_of (get_or vs 2 0) (get_or vs 3 0) (get_or vs 4 0);
      pause = yes (get_or vs 5 0);
      resume = resume_of (get_or vs 6 0);
      stop = yes (get_or vs 7 0);
      seek_by = amount_of (get_or vs 8 0) (get_or vs 9 0);
      seek_to = amount_of (get_or vs 10 0) (get_or vs 11 0);
    }

-- ---- a block

-- 0 still waiting, 1 now, 2 never
abbrev pub answer_of : ℕ → StartAnswer
answer_of n = cond (eqb n 0) answer.Waiting (cond (eqb n 1) answer.Now answer.Never)

abbrev pub signals_of : ℕ → ℕ → ℕ → Signals
signals_of finished start resume = record {
  finished = yes finished;
  start = signal.Answer (answer_of start);
  resume = answer_of resume;
}

unfoldable pub block_of : List ℕ → Block
block_of vs =
    record {
      frames = at_most 1024 (get_or vs 0 0);
      fade = single (get_or vs 1 0);
      volume = single (get_or vs 2 0);
      left = single (get_or vs 3 0);
      right = single (get_or vs 4 0);
      rate = double (get_or vs 5 0);
      time_step = double (get_or vs 6 0);
      signals = signals_of (get_or vs 7 0) (get_or vs 8 0) (get_or vs 9 0);
    }

-- the five numbers of a block, for each of its frames
abbrev pub held_of : Block → Held
held_of b =
    record {
      gains = record { fade = b.fade; volume = b.volume; left = b.left; right = b.right };
      rate = b.rate;
    }

-- ---- a laned block

-- without its lanes
unfoldable pub laned_block_of : List ℕ → LanedBlock
laned_block_of vs =
    record {
      frames = at_most 1024 (get_or vs 0 0);
      time_step = double (get_or vs 1 0);
      signals = signals_of (get_or vs 2 0) (get_or vs 3 0) (get_or vs 4 0);
    }

-- n values of a lane, each from the first w bytes of its frame's 24
unfoldable pub lane_of : {A : Type 0} → ℕ → (ℕ → A) → ℕ → List ℕ → List A
lane_of w value zero bs = []
lane_of w value (suc n) bs = value (num (take w bs)) ∷ lane_of w value n (drop 24 bs)

abbrev pub singles : ℕ → List ℕ → List Float
singles n bs = lane_of 4 (λ x. single x) n bs

abbrev pub doubles : ℕ → List ℕ → List Float
doubles n bs = lane_of 8 (λ x. double x) n bs
