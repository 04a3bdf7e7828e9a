-- A scan along a track: its readings, its steps, and its end.
use Rattle.std.specs.Prelude.{ℕ, ◌+◌, ◌*◌, ◌≤◌, ◌≡◌, List, [], ◌∷◌, T, length, take, Float}
use Rattle.std.specs.Float.{binary64}
use Rattle.std.specs.Float.Ieee.{add, lt}
use Rattle.numbers.specs.Words.{positive_zero, proper, narrowed, whole, part, advance}
use Rattle.numbers.specs.Lists.{all}
use Rattle.frame.specs.declared.Frame.{Frame}
use Rattle.frame.specs.Frames.{frame_of, interpolated}
use Rattle.sound_lanes.specs.Lanes.{slow}
use Rattle.sound_track.specs.declared.Track.{Track}
use Rattle.sound_track.specs.Tracks.{next, nexts, On, roomy}
use Rattle.sound_track.specs.Contiguous.{InsideSound}
use Rattle.sound_fast_reading.specs.declared.Way.{Way}
use Rattle.sound_fast_reading.specs.declared.Reached.{Reached}

-- the reading at q: of the four frames from q on
unfoldable pub read_on : List Float → Track → ℕ → Float → Frame
read_on snd k q f =
    let b = next k q in
    let c = next k b in
    let d = next k c in
    interpolated (frame_of snd (k.start + q)) (frame_of snd (k.start + b)) (frame_of snd (k.start + c))
    (frame_of snd (k.start + d)) (narrowed f)

-- the position and fraction at which a scan ends, its steps, and its readings, two samples each
pub record Scan : Type 0 where
  pub at : ℕ
  pub fractional_position : Float
  pub steps : ℕ
  pub samples : List Float

-- one frame of n steps, and the scan after it
abbrev pub then_scan : Frame → ℕ → Scan → Scan
then_scan x n r = record {
  at = r.at;
  fractional_position = r.fractional_position;
  steps = n + r.steps;
  samples = x.left ∷ x.right ∷ r.samples;
}

-- a scan from q and the fraction f over a list of rates; each frame is read before its steps
unfoldable pub scans : List Float → Track → ℕ → Float → List Float → ℕ → Float → Scan
scans snd k hz dt [] q f = record { at = q; fractional_position = f; steps = 0; samples = [] }
scans snd k hz dt (r ∷ rs) q f =
    let x = add binary64 f (advance hz r dt) in
    then_scan (read_on snd k q f) (whole x) (scans snd k hz dt rs (nexts (whole x) k q) (part x))

-- the scan that starts at w
abbrev pub scan_from : List Float → Way → List Float → Scan
scan_from snd w rates = scans snd w.track w.sample_rate w.dt rates w.at w.fractional_position

-- the start of a scan
abbrev pub begun : Way → Reached
begun w = record { at = w.at; fractional_position = w.fractional_position; steps = 0; next = 0 }

-- what a scan requires
pub record Scannable (snd : List Float) (w : Way) (rates : List Float) : Type 0 where
  pub lies : InsideSound snd w.track
  pub is_time_step : T (lt positive_zero w.dt)
  pub slow : T (all (slow w.sample_rate w.dt) rates)
  pub most : length rates ≤ 4096

-- the readings so far are those of the definition, and the steps stay on the track
pub record Scanned (snd : List Float) (w : Way) (rates : List Float) (r : Reached) (out : List Float) : Type 0 where
  pub within : r.next ≤ length rates
  pub few : r.steps ≤ 257 * r.next
  pub as_long : length out ≡ 2 * length rates
  pub begins : On w.track w.at
  pub on : On w.track r.at
  pub below : T (proper r.fractional_position)
  pub room : T (roomy w.track r.steps w.at)
  pub so_far :
      scan_from snd w (take r.next rates)
      ≡ record {
        at = r.at;
        fractional_position = r.fractional_position;
        steps = r.steps;
        samples = take (2 * r.next) out;
      }
