-- The hypothesis of most theorems: a block, into an output or into a mix, is accepted; for some, that it is silent. A
-- theorem has one hypothesis, which has a name, and Witnesses has an input that meets it.
use Rattle.std.specs.Prelude.{ℕ, ◌≡◌, false, List, Float}
use Rattle.sound_lanes.specs.Lanes.{Lanes}
use Rattle.sound_state.specs.declared.StaticSound.{StaticSound}
use Rattle.sound_block.specs.declared.Signals.{Signals}
use Rattle.sound_block.specs.Blocks.{begun, live}
use Rattle.static_sound.specs.Entries.{processed, processed_into}

abbrev pub AcceptedBlock : List Float → StaticSound → Float → Lanes → Signals → List Float → Type 0
AcceptedBlock snd v dt b g out = (processed snd v dt b g out).answer.refusal ≡ 0

abbrev pub AcceptedMix : List Float → StaticSound → Float → Lanes → Signals → List Float → ℕ → Type 0
AcceptedMix snd v dt b g mix from = (processed_into snd v dt b g mix from).answer.refusal ≡ 0

abbrev pub Silent : Signals → StaticSound → Type 0
Silent g v = live (begun g v) ≡ false
