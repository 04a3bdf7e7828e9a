-- Block sizes do not matter. A stream of lanes between two commands is cut into blocks; the first gets the signals,
-- the others only the same tick, if the start is due at one. Any two ways to cut it whose blocks are all accepted
-- write the same samples and end in states that agree in everything but the fraction and the window's frame indices.
-- Unless the voice has stopped by a cut, state, steps and lowest count are the same. The same holds for blocks into a
-- mix. Every way to cut an acceptable stream into blocks of at most 4,096 frames is accepted.
use Rattle.std.specs.Prelude.{ℕ, ◌+◌, ◌*◌, ◌≡◌, Bool, ◌&&◌, List, [], ◌∷◌, ◌++◌, T, leb, eqb, length, take, drop, Float}
use Rattle.numbers.specs.Lists.{all}
use Rattle.sound_lanes.specs.Lanes.{Lanes, rows, is_time_step, laned, near, first_lanes, rest_lanes}
use Rattle.sound_state.specs.declared.StaticSound.{StaticSound}
use Rattle.sound_state.specs.WellFormed.{well_formed_for}
use Rattle.sound_block.specs.declared.Signals.{Signals}
use Rattle.sound_block.specs.Blocks.{quiet}
use Rattle.sound_slow_path.specs.Plays.{lower, Outcome}
use Rattle.static_sound.specs.Entries.{room, processed, processed_into}
use Rattle.theorems.specs.Sums.{sum}
use Rattle.theorems.specs.Alike.{bare, awake}

-- the outcome of a sequence of blocks: whether each was accepted, the state after, all samples, all steps, the lowest
-- count, and the state at each cut
pub record Run : Type 0 where
  pub accepted : Bool
  pub voice : StaticSound
  pub samples : List Float
  pub steps : ℕ
  pub lowest_count : ℕ
  pub cuts : List StaticSound

-- one block alone
abbrev pub alone : Outcome → Run
alone o =
    record {
      accepted = eqb o.answer.refusal 0;
      voice = o.answer.voice;
      samples = o.samples;
      steps = o.answer.steps;
      lowest_count = o.answer.lowest_count;
      cuts = [];
    }

-- one block, and the sequence after it
abbrev pub followed : Outcome → Run → Run
followed o r =
    record {
      accepted = eqb o.answer.refusal 0 && r.accepted;
      voice = r.voice;
      samples = o.samples ++ r.samples;
      steps = o.answer.steps + r.steps;
      lowest_count = lower o.answer.lowest_count r.lowest_count;
      cuts = o.answer.voice ∷ r.cuts;
    }

-- blocks of k frames and then of the following sizes, from a stream of lanes, into an output of that length
unfoldable pub played_by : List Float → Float → ℕ → List ℕ → Lanes → Signals → StaticSound → List Float → Run
played_by snd dt k [] b g v out = alone (processed snd v dt (first_lanes k b) g (take (2 * k) out))
played_by snd dt k (j ∷ ks) b g v out =
    let o = processed snd v dt (first_lanes k b) g (take (2 * k) out) in
    followed o (played_by snd dt j ks (rest_lanes k b) (quiet g) o.answer.voice (drop (2 * k) out))

-- in two sequences no voice is Stopped at a cut
abbrev pub BothAwake : Run → Run → Type 0
BothAwake r s = T (all awake r.cuts) × T (all awake s.cuts)

pub record Agree (r s : Run) : Type 0 where
  pub samples : r.samples ≡ s.samples
  pub same : BothAwake r s → (r.voice ≡ s.voice) × (r.steps ≡ s.steps)
  pub lowest : BothAwake r s → r.lowest_count ≡ s.lowest_count
  pub alike : bare r.voice ≡ bare s.voice

-- a way to cut a stream, all of whose blocks are accepted
pub record Way (snd : List Float) (dt : Float) (b : Lanes) (g : Signals) (v : StaticSound) (k : ℕ) (ks : List ℕ)
    (out : List Float) : Type 0 where
  pub all_of_it : k + sum ks ≡ length b.rate
  pub accepted : T (played_by snd dt k ks b g v out).accepted

-- hypothesis: two such ways
abbrev pub TwoWays : List Float → Float → Lanes → Signals → StaticSound → ℕ → List ℕ → List Float → ℕ → List ℕ
    → List Float → Type 0
TwoWays snd dt b g v k ks out j js mix = Way snd dt b g v k ks out × Way snd dt b g v j js mix

abbrev pub AnySizes : Type 0
AnySizes =
    (snd : List Float) (dt : Float) (b : Lanes) (g : Signals) (v : StaticSound) (k : ℕ) (ks : List ℕ)
    (out : List Float) (j : ℕ) (js : List ℕ) (mix : List Float)
    → TwoWays snd dt b g v k ks out j js mix → Agree (played_by snd dt k ks b g v out) (played_by snd dt j js b g v mix)

-- ---- into a mix: the blocks follow each other from a frame on, each into the mix after the one before

-- one block, and the sequence after it; the samples are those of the mix at the end
abbrev pub onto : Outcome → Run → Run
onto o r =
    record {
      accepted = eqb o.answer.refusal 0 && r.accepted;
      voice = r.voice;
      samples = r.samples;
      steps = o.answer.steps + r.steps;
      lowest_count = lower o.answer.lowest_count r.lowest_count;
      cuts = o.answer.voice ∷ r.cuts;
    }

unfoldable pub mixed_by : List Float → Float → ℕ → List ℕ → Lanes → Signals → StaticSound → List Float → ℕ → Run
mixed_by snd dt k [] b g v mix from = alone (processed_into snd v dt (first_lanes k b) g mix from)
mixed_by snd dt k (j ∷ ks) b g v mix from =
    let o = processed_into snd v dt (first_lanes k b) g mix from in
    onto o (mixed_by snd dt j ks (rest_lanes k b) (quiet g) o.answer.voice o.samples (from + k))

pub record WayMix (snd : List Float) (dt : Float) (b : Lanes) (g : Signals) (v : StaticSound) (k : ℕ) (ks : List ℕ)
    (mix : List Float) (from : ℕ) : Type 0 where
  pub all_of_it : k + sum ks ≡ length b.rate
  pub accepted : T (mixed_by snd dt k ks b g v mix from).accepted

abbrev pub TwoWaysMix : List Float → Float → Lanes → Signals → StaticSound → ℕ → List ℕ → ℕ → List ℕ → List Float → ℕ
    → Type 0
TwoWaysMix snd dt b g v k ks j js mix from = WayMix snd dt b g v k ks mix from × WayMix snd dt b g v j js mix from

abbrev pub AnySizesMix : Type 0
AnySizesMix =
    (snd : List Float) (dt : Float) (b : Lanes) (g : Signals) (v : StaticSound) (k : ℕ) (ks : List ℕ) (j : ℕ)
    (js : List ℕ) (mix : List Float) (from : ℕ)
    → TwoWaysMix snd dt b g v k ks j js mix from
    → Agree (mixed_by snd dt k ks b g v mix from) (mixed_by snd dt j js b g v mix from)

-- ---- a sequence of blocks is accepted

-- an acceptable stream: the state is well formed over the sound, all lanes have the same length, and 10 to 12 refuse
-- nothing
pub record Stream (snd : List Float) (dt : Float) (b : Lanes) (v : StaticSound) : Type 0 where
  pub well_formed_for : T (well_formed_for (length snd) v)
  pub fade : length b.fade ≡ length b.rate
  pub volume : length b.volume ≡ length b.rate
  pub left : length b.left ≡ length b.rate
  pub right : length b.right ≡ length b.rate
  pub is_time_step : T (is_time_step dt)
  pub laned : T (all laned (rows b))
  pub near : T (all (near v.setup.sample_rate dt) (rows b))

-- no block has more than 4,096 frames
abbrev pub short : List ℕ → Bool
short ks = all (λ (n : ℕ). leb n 4096) ks

-- hypothesis: an acceptable stream, an output of that length or a mix with enough space, and sizes that add up to it
pub record AllowedCut (snd : List Float) (dt : Float) (b : Lanes) (v : StaticSound) (k : ℕ) (ks : List ℕ)
    (out : List Float) : Type 0 where
  pub stream : Stream snd dt b v
  pub holds : length out ≡ 2 * length b.rate
  pub all_of_it : k + sum ks ≡ length b.rate
  pub few : T (short (k ∷ ks))

pub record AllowedCutMix (snd : List Float) (dt : Float) (b : Lanes) (v : StaticSound) (k : ℕ) (ks : List ℕ)
    (mix : List Float) (from : ℕ) : Type 0 where
  pub stream : Stream snd dt b v
  pub holds : T (room from (length b.rate) mix)
  pub all_of_it : k + sum ks ≡ length b.rate
  pub few : T (short (k ∷ ks))

abbrev pub AllAccepted : Type 0
AllAccepted =
    (snd : List Float) (dt : Float) (b : Lanes) (g : Signals) (v : StaticSound) (k : ℕ) (ks : List ℕ)
    (out : List Float)
    → AllowedCut snd dt b v k ks out → T (played_by snd dt k ks b g v out).accepted

abbrev pub AllAcceptedMix : Type 0
AllAcceptedMix =
    (snd : List Float) (dt : Float) (b : Lanes) (g : Signals) (v : StaticSound) (k : ℕ) (ks : List ℕ)
    (mix : List Float) (from : ℕ)
    → AllowedCutMix snd dt b v k ks mix from → T (mixed_by snd dt k ks b g v mix from).accepted
