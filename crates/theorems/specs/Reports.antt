-- What a block's lowest count means. 4: at every read of the block the newest entry was a frame of the sound. t below
-- 4: at one of its reads 4 - t pushes had been made without a frame (0: at least 4 of them), and the transport had
-- ended. This holds for every voice that comes from creation by calls with its own sound; such a voice is "fed" by
-- its sound. A count of 4 does not mean four real entries: after creation the oldest entry is a zero frame.
use Rattle.std.specs.Prelude.{ℕ, ◌+◌, ◌-◌, ◌<◌, ◌≡◌, true, false, List, [], ◌∷◌, length, get_or, take, Float}
use Rattle.std.specs.Prelude.{Some, None}
use Rattle.frame.specs.Frames.{frame_of}
use Rattle.resampler.specs.declared.RecentFrame.{RecentFrame}
use Rattle.resampler.specs.declared.Resampler.{Resampler}
use Rattle.resampler.specs.Windows.{blank, push}
use Rattle.sound_lanes.specs.Lanes.{Lane, Lanes, rows}
use Rattle.sound_update.specs.declared.Moving.{Moving}
use Rattle.sound_state.specs.declared.StaticSound.{StaticSound}
use Rattle.sound_state.specs.Voices.{start_of_slice}
use Rattle.sound_creation.specs.declared.Settings.{Settings}
use Rattle.sound_creation.specs.Creation.{created}
use Rattle.sound_commands.specs.declared.Commands.{Commands}
use Rattle.sound_commands.specs.Commands.{commanded}
use Rattle.sound_block.specs.declared.Signals.{Signals}
use Rattle.sound_block.specs.Blocks.{begun, live}
use Rattle.sound_slow_path.specs.Plays.{plays}
use Rattle.static_sound.specs.Entries.{processed, processed_into}
use Rattle.theorems.specs.Accepted.{AcceptedBlock, AcceptedMix, Silent}

-- ---- the history of a window

-- pushes without a frame, the last one first
unfoldable pub nones : List ℕ → Resampler → Resampler
nones [] w = w
nones (n ∷ ns) w = push (nones ns w) None n

-- the last frame that was pushed is a frame of the sound; `since` are the indices of the pushes after it without a
-- frame, after the transport had ended
pub record Fed (snd : List Float) (start : ℕ) (m : Moving) : Type 0 where
  pub before : Resampler
  pub number : ℕ
  pub since : List ℕ
  pub pushed : m.resampler ≡ nones since (push before (Some (frame_of snd (start + number))) number)
  pub ended : 0 < length since → m.transport.playing ≡ false

abbrev pub FedVoice : List Float → StaticSound → Type 0
FedVoice snd v = Fed snd (start_of_slice v.setup) v.moving

-- ---- every call returns a fed voice

-- an accepted creation
abbrev pub AcceptedNew : List Float → Settings → Type 0
AcceptedNew snd s = (created snd s).refusal ≡ 0

abbrev pub CreationFeeds : Type 0
CreationFeeds = (snd : List Float) (s : Settings) → AcceptedNew snd s → FedVoice snd (created snd s).voice

abbrev pub CommandsFeed : Type 0
CommandsFeed = (snd : List Float) (v : StaticSound) (c : Commands) → FedVoice snd v
    → FedVoice snd (commanded snd v c).voice

abbrev pub BlocksFeed : Type 0
BlocksFeed =
    (snd : List Float) (v : StaticSound) (dt : Float) (b : Lanes) (g : Signals) (out : List Float)
    → FedVoice snd v → FedVoice snd (processed snd v dt b g out).answer.voice

abbrev pub MixesFeed : Type 0
MixesFeed =
    (snd : List Float) (v : StaticSound) (dt : Float) (b : Lanes) (g : Signals) (mix : List Float) (from : ℕ)
    → FedVoice snd v → FedVoice snd (processed_into snd v dt b g mix from).answer.voice

-- ---- what its blocks report

-- the voice at read k of a block that begins with u
abbrev pub at_read : List Float → Float → List Lane → StaticSound → ℕ → StaticSound
at_read snd dt ls u k = (plays snd dt (take k ls) u).voice

abbrev pub newest : StaticSound → RecentFrame
newest v = get_or v.moving.resampler.frames 3 blank

-- the newest entry is the frame of the sound with its index
abbrev pub Sounding : List Float → StaticSound → Type 0
Sounding snd v = (newest v).frame ≡ frame_of snd (start_of_slice v.setup + (newest v).frame_index)

-- a read with count t: 4 minus the pushes without a frame
pub record Tail (snd : List Float) (dt : Float) (ls : List Lane) (u : StaticSound) (t : ℕ) : Type 0 where
  pub read : ℕ
  pub within : read < length ls
  pub fed : FedVoice snd (at_read snd dt ls u read)
  pub pushes : t ≡ 4 - length fed.since
  pub ended : (at_read snd dt ls u read).moving.transport.playing ≡ false

-- the two cases of a count: 4, with a read of the block; less
abbrev pub Full : ℕ → List Lane → ℕ → Type 0
Full t ls k = (t ≡ 4) × (k < length ls)

abbrev pub Short : ℕ → Type 0
Short t = t < 4

-- what the lowest count t of a block with the lanes ls that begins with u means
pub record Tells (snd : List Float) (dt : Float) (ls : List Lane) (u : StaticSound) (t : ℕ) : Type 0 where
  pub full : (k : ℕ) → Full t ls k → Sounding snd (at_read snd dt ls u k)
  pub tail : Short t → Tail snd dt ls u t

-- hypothesis: a fed voice, and an accepted block of it that sounds
pub record Reporting (snd : List Float) (v : StaticSound) (dt : Float) (b : Lanes) (g : Signals)
    (out : List Float) : Type 0 where
  pub fed : FedVoice snd v
  pub accepted : AcceptedBlock snd v dt b g out
  pub live : live (begun g v) ≡ true

pub record ReportingMix (snd : List Float) (v : StaticSound) (dt : Float) (b : Lanes) (g : Signals) (mix : List Float)
    (from : ℕ) : Type 0 where
  pub fed : FedVoice snd v
  pub accepted : AcceptedMix snd v dt b g mix from
  pub live : live (begun g v) ≡ true

abbrev pub BlocksTell : Type 0
BlocksTell =
    (snd : List Float) (v : StaticSound) (dt : Float) (b : Lanes) (g : Signals) (out : List Float)
    → Reporting snd v dt b g out
    → Tells snd dt (rows b) (begun g v) (processed snd v dt b g out).answer.lowest_count

abbrev pub MixesTell : Type 0
MixesTell =
    (snd : List Float) (v : StaticSound) (dt : Float) (b : Lanes) (g : Signals) (mix : List Float) (from : ℕ)
    → ReportingMix snd v dt b g mix from
    → Tells snd dt (rows b) (begun g v) (processed_into snd v dt b g mix from).answer.lowest_count

-- a block that does not sound reports 4, accepted or refused (for refused blocks see BlocksKeep, in Kept)
abbrev pub SilenceTells : Type 0
SilenceTells =
    (snd : List Float) (v : StaticSound) (dt : Float) (b : Lanes) (g : Signals) (out : List Float)
    → Silent g v → (processed snd v dt b g out).answer.lowest_count ≡ 4
