-- The most work that a block can cost. If each advance of an accepted block of n frames is at most a whole number k
-- from 0 to 256, each of its frames makes at most k + 1 steps, and the block reports at most n * (k + 1); a silent
-- one reports 0. This holds for both entries, and for a stream of blocks, cut in any way. The bound is reached: a
-- fraction of 1 - 2 ^ -53 and an advance of 1 make two steps.
use Rattle.std.specs.Prelude.{ℕ, ◌+◌, ◌*◌, ◌≤◌, ◌≡◌, Bool, false, cond, List, T, leb, pos, negsuc, length, Float}
use Rattle.std.specs.Float.{fin, binary64}
use Rattle.std.specs.Float.Ieee.{add, le, of_int}
use Rattle.numbers.specs.Words.{one, whole, advance}
use Rattle.numbers.specs.Lists.{all}
use Rattle.sound_lanes.specs.Lanes.{Lane, Lanes, rows}
use Rattle.sound_state.specs.declared.StaticSound.{StaticSound}
use Rattle.sound_block.specs.declared.Signals.{Signals}
use Rattle.sound_slow_path.specs.Plays.{BlockAnswer}
use Rattle.sound_block.specs.Blocks.{begun, live}
use Rattle.static_sound.specs.Entries.{processed, processed_into}
use Rattle.theorems.specs.Sums.{sum}
use Rattle.theorems.specs.Accepted.{AcceptedBlock, AcceptedMix, Silent}
use Rattle.theorems.specs.Steps.{steps_of}
use Rattle.theorems.specs.Schedules.{played_by, Way}

-- the advance of a frame is at most k
abbrev pub at_most : ℕ → ℕ → Float → Lane → Bool
at_most k hz dt l = le (advance hz l.rate dt) (of_int binary64 (pos k))

-- each advance of a block is
abbrev pub Slow : ℕ → StaticSound → Float → Lanes → Type 0
Slow k v dt b = T (all (at_most k v.setup.sample_rate dt) (rows b))

-- for an accepted block's result
pub record Within (k : ℕ) (snd : List Float) (v : StaticSound) (dt : Float) (b : Lanes) (g : Signals)
    (a : BlockAnswer) : Type 0 where
  -- the reported steps are those of the frames, each at most k + 1
  pub reported : a.steps ≡ cond (live (begun g v)) (sum (steps_of snd dt (rows b) (begun g v))) 0
  pub frames : T (all (λ (n : ℕ). leb n (k + 1)) (steps_of snd dt (rows b) (begun g v)))
  pub block : a.steps ≤ length b.rate * (k + 1)
  pub silent : Silent g v → a.steps ≡ 0

-- hypothesis: an accepted block, or an accepted way to cut a stream, with advances of at most k
pub record SlowBlock (k : ℕ) (snd : List Float) (v : StaticSound) (dt : Float) (b : Lanes) (g : Signals)
    (out : List Float) : Type 0 where
  pub accepted : AcceptedBlock snd v dt b g out
  pub small : k ≤ 256
  pub slow : Slow k v dt b

pub record SlowMix (k : ℕ) (snd : List Float) (v : StaticSound) (dt : Float) (b : Lanes) (g : Signals)
    (mix : List Float) (from : ℕ) : Type 0 where
  pub accepted : AcceptedMix snd v dt b g mix from
  pub small : k ≤ 256
  pub slow : Slow k v dt b

pub record SlowStream (k : ℕ) (snd : List Float) (dt : Float) (b : Lanes) (g : Signals) (v : StaticSound) (j : ℕ)
    (js : List ℕ) (out : List Float) : Type 0 where
  pub way : Way snd dt b g v j js out
  pub small : k ≤ 256
  pub slow : Slow k v dt b

abbrev pub BlockBudget : Type 0
BlockBudget =
    (k : ℕ) (snd : List Float) (v : StaticSound) (dt : Float) (b : Lanes) (g : Signals) (out : List Float)
    → SlowBlock k snd v dt b g out → Within k snd v dt b g (processed snd v dt b g out).answer

abbrev pub MixBudget : Type 0
MixBudget =
    (k : ℕ) (snd : List Float) (v : StaticSound) (dt : Float) (b : Lanes) (g : Signals) (mix : List Float) (from : ℕ)
    → SlowMix k snd v dt b g mix from → Within k snd v dt b g (processed_into snd v dt b g mix from).answer

-- a stream of lanes, played in blocks of j frames and then of the sizes that follow
abbrev pub StreamBudget : Type 0
StreamBudget =
    (k : ℕ) (snd : List Float) (dt : Float) (b : Lanes) (g : Signals) (v : StaticSound) (j : ℕ) (js : List ℕ)
    (out : List Float)
    → SlowStream k snd dt b g v j js out → (played_by snd dt j js b g v out).steps ≤ length b.rate * (k + 1)

-- the bound is reached: 1 - 2 ^ -53 and an advance of 1
abbrev pub TwoSteps : Type 0
TwoSteps = whole (add binary64 (fin false 9007199254740991 (negsuc 52)) one) ≡ 2
