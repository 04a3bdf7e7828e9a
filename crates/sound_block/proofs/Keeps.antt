-- A block keeps a voice well formed: taking its signals leaves all that is asked, and playing keeps it. Assumes nothing.
use mathlib.Core.Bool.{Bool, true, false, cond}
use mathlib.Core.List.{List}
use lib.Dec.{T}
use lib.Ieee.{Float, lt}
use Rattle.numbers.specs.Words.{positive_zero}
use Rattle.numbers.specs.Lists.{all}
use Rattle.sound_lanes.specs.Lanes.{Lane, near}
use Rattle.sound_state.specs.declared.StaticSound.{StaticSound}
use Rattle.sound_state.specs.WellFormed.{WellFormed}
use Rattle.sound_slow_path.proofs.Keeps.{plays_well_formed}
use Rattle.sound_block.specs.declared.Signals.{Signals}
use Rattle.sound_slow_path.specs.Plays.{plays}
use Rattle.sound_block.specs.Blocks.{begun, live, silent, block}

pub begun_well_formed : (g : Signals) (v : StaticSound) → WellFormed v → WellFormed (begun g v)
unfolding begun
begun_well_formed g v h = record { setup = h.setup; rate = h.rate; transport_well_formed = h.transport_well_formed; fraction = h.fraction; window = h.window }

module _ (snd : List Float) (dt : Float) (t : T (lt positive_zero dt)) where
  pub block_well_formed : (ls : List Lane) (g : Signals) (v : StaticSound) → T (all (near v.setup.sample_rate dt) ls) → WellFormed v → WellFormed (block snd dt ls g v).voice
  unfolding block begun
  block_well_formed ls g v k h = go (live (begun g v))
    where
      go : (b : Bool) → WellFormed (cond b (plays snd dt ls (begun g v)) (silent ls (begun g v))).voice
      go true = plays_well_formed snd dt t ls (begun g v) k (begun_well_formed g v h)
      go false = begun_well_formed g v h
