-- docs/assurance/RULES.md, "Seconds to frames" and refusals 4 to 6: positions as frame indices, and which regions are
-- accepted.
use Rattle.std.specs.Prelude.{ℕ, Bool, true, ◌&&◌, leb, ltb, pos, Option, Some, None}
use Rattle.std.specs.Float.{binary64}
use Rattle.std.specs.Float.Ieee.{mul, of_int}
use Rattle.numbers.specs.Words.{finite}
use Rattle.numbers.specs.Frames.{rounded}
use Rattle.playback_position.specs.declared.PlaybackPosition.{PlaybackPosition}
use Rattle.playback_position.specs.declared.PlaybackPosition.TheVariants.{Seconds, Samples}
use Rattle.playback_position.specs.declared.EndPosition.{EndPosition}
use Rattle.playback_position.specs.declared.EndPosition.TheVariants.{EndOfAudio, Custom}
use Rattle.playback_position.specs.declared.Region.{Region}

-- a range of frames is not empty: start < end
abbrev pub ordered : Option (ℕ × ℕ) → Bool
ordered None = true
ordered (Some (s, e)) = ltb s e

-- a range of frames is inside n frames: start < end <= n
abbrev pub within : ℕ → Option (ℕ × ℕ) → Bool
within n None = true
within n (Some (s, e)) = ltb s e && leb e n

-- seconds must be finite; samples can be any number
abbrev pub finite_position : PlaybackPosition → Bool
finite_position (Seconds x) = finite x
finite_position (Samples p) = true

-- an end in seconds must be finite
abbrev pub finite_end : EndPosition → Bool
finite_end EndOfAudio = true
finite_end (Custom p) = finite_position p

-- seconds times sample rate in f64, rounded half away from zero; negative results become 0, 2^32 and above 2^32
unfoldable pub position_in_frames : ℕ → PlaybackPosition → ℕ
position_in_frames hz (Seconds x) = rounded (mul binary64 x (of_int binary64 (pos hz)))
position_in_frames hz (Samples p) = p

-- the end of audio is n, the number of frames
unfoldable pub end_in_frames : ℕ → ℕ → EndPosition → ℕ
end_in_frames hz n EndOfAudio = n
end_in_frames hz n (Custom p) = position_in_frames hz p

-- a region as a range of frames
unfoldable pub region_in_frames : ℕ → ℕ → Region → ℕ × ℕ
region_in_frames hz n r = (position_in_frames hz r.start, end_in_frames hz n r.end)

-- its seconds and its frames are accepted: refusal 4 for a slice, with n all frames, and 6 for a loop, with n = N
unfoldable pub well_formed_region : ℕ → ℕ → Region → Bool
well_formed_region hz n r = finite_position r.start && finite_end r.end && within n (Some (region_in_frames hz n r))
