-- Unknown bytes: a record that is not well formed is refused with 1, since the blank state is not well formed. Assumes nothing.
use mathlib.Core.Path.{◌≡◌}
use Prim.Native.Nat.{ℕ}
use mathlib.Core.Bool.{false}
use mathlib.Core.List.{List}
use lib.ListN.{length}
use lib.Ieee.{Float}
use Rattle.sound_lanes.specs.Lanes.{Lanes}
use Rattle.sound_state.specs.WellFormed.{well_formed_for}
use Rattle.sound_creation.proofs.Makes.{blank_not}
use Rattle.sound_commands.specs.Commands.{refused_set, commanded}
use Rattle.static_sound.specs.Entries.{refused_block, processed, processed_into, stretch_of, stretch_at}
use Rattle.c_state.specs.declared.CableowlState.{CableowlState}
use Rattle.c_inputs.specs.declared.CableowlCommands.{CableowlCommands}
use Rattle.c_inputs.specs.declared.CableowlSignals.{CableowlSignals}
use Rattle.c_state.specs.Records.{well_formed_state, decoded}
use Rattle.cableowl.specs.Entries.{commanded_c, processed_c, processed_into_c, part_c}

-- no sound has such a record
pub ill_formed : (len : ℕ) (c : CableowlState) → well_formed_state c ≡ false → well_formed_for len (decoded c) ≡ false
unfolding decoded well_formed_for
ill_formed len c e = rw (e, blank_not)

pub commanded_1 : (snd : List Float) (c : CableowlState) (k : CableowlCommands) → well_formed_state c ≡ false → (commanded_c snd c k).refusal ≡ 1
unfolding commanded_c commanded refused_set
commanded_1 snd c k e = rw (ill_formed (length snd) c e)

module _ (snd : List Float) (c : CableowlState) (dt : Float) (b : Lanes) (g : CableowlSignals) (e : well_formed_state c ≡ false) where
  pub processed_1 : (out : List Float) → (processed_c snd c dt b g out).answer.refusal ≡ 1
  unfolding processed_c processed refused_block
  processed_1 out = rw (ill_formed (length snd) c e)

  pub into_1 : (mix : List Float) (from : ℕ) → (processed_into_c snd c dt b g mix from).answer.refusal ≡ 1
  unfolding processed_into_c processed_into refused_block
  into_1 mix from = rw (ill_formed (length snd) c e)

pub part_1 : (snd : List Float) (c : CableowlState) → well_formed_state c ≡ false → part_c snd c ≡ record { offset = 0; length = 0 }
unfolding part_c stretch_of stretch_at
part_1 snd c e = rw (ill_formed (length snd) c e)
