-- What an update reads of a voice.
use Rattle.std.specs.Prelude.{ℕ, ◌-◌, Bool, not, cond, Float, Some, None}
use Rattle.numbers.specs.Words.{negative}
use Rattle.sound_state.specs.declared.Setup.{Setup}
use Rattle.sound_update.specs.declared.Moving.{Moving}
use Rattle.sound_state.specs.declared.StaticSound.{StaticSound}
use Rattle.sound_update.specs.declared.Slice.{Slice}

-- N: the slice's length, or all frames
abbrev pub length_of_slice : Setup → ℕ
length_of_slice k = elim k.slice [ None ↦ k.num_frames | Some (s, e) ↦ e - s ]

-- the slice's first frame
abbrev pub start_of_slice : Setup → ℕ
start_of_slice k = elim k.slice [ None ↦ 0 | Some (s, e) ↦ s ]

-- backward if the held rate's sign bit is set, minus zero included; reverse turns it round
abbrev pub backwards : Float → Bool → Bool
backwards rate reverse = cond (negative rate) (not reverse) reverse

-- what an update reads of a voice and does not change
abbrev pub slice_of : StaticSound → Slice
slice_of v = record {
  start = start_of_slice v.setup;
  num_frames = length_of_slice v.setup;
  backwards = backwards v.playback_rate v.setup.reverse;
}

-- the voice with another fraction and another moving part
abbrev pub moved : StaticSound → Float → Moving → StaticSound
moved v f m = record {
  setup = v.setup;
  playback_rate = v.playback_rate;
  started = v.started;
  fractional_position = f;
  moving = m;
}
