-- Positions, regions and ranges from plain numbers, and a range as plain numbers.
use Rattle.std.specs.Prelude.{ℕ, cond, eqb, Option, Some, None}
use Rattle.playback_position.specs.declared.PlaybackPosition.{PlaybackPosition}
use Rattle.playback_position.specs.declared.PlaybackPosition.TheVariants.{Seconds, Samples}
use Rattle.playback_position.specs.declared.EndPosition.{EndPosition}
use Rattle.playback_position.specs.declared.EndPosition.TheVariants.{EndOfAudio, Custom}
use Rattle.playback_position.specs.declared.Region.{Region}
use Rattle.test_exports.specs.declared.places.PlainPosition.{PlainPosition}
use Rattle.test_exports.specs.declared.places.PlainRegion.{PlainRegion}
use Rattle.test_exports.specs.declared.places.PlainRange.{PlainRange}

-- in seconds, or in samples if `in_seconds` is 0
abbrev pub position_of : PlainPosition → PlaybackPosition
position_of p = cond (eqb p.in_seconds 0) (Samples p.samples) (Seconds p.seconds)

-- the end of audio if none is given
abbrev pub end_of : ℕ → PlainPosition → EndPosition
end_of given p = cond (eqb given 0) EndOfAudio (Custom (position_of p))

abbrev pub region_of : PlainRegion → Region
region_of r = record { start = position_of r.start; end = end_of r.end_given r.end }

-- none if `given` is 0
abbrev pub range_of : PlainRange → Option (ℕ × ℕ)
range_of r = cond (eqb r.given 0) None (Some (r.start, r.end))

-- none is all zeros
abbrev pub plain_range : Option (ℕ × ℕ) → PlainRange
plain_range None = record { given = 0; start = 0; end = 0 }
plain_range (Some (s, e)) = record { given = 1; start = s; end = e }
