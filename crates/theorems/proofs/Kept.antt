-- What every call returns: by the laws of each entry, refused or not, and those of what is well formed. Assumes nothing.
use mathlib.Core.Path.{refl, sym, subst}
use lib.Dec.{T}
use lib.ListN.{length}
use Rattle.sound_state.specs.declared.StaticSound.{StaticSound}
use Rattle.sound_state.specs.WellFormed.{well_formed_for}
use Rattle.static_sound.specs.Entries.{holds, room}
use Rattle.static_sound.proofs.Refusals.{accepted_parts}
use Rattle.sound_creation.proofs.Refusals.{creatable_parts}
use Rattle.sound_commands.proofs.Refusals.{obeyable_parts}
use Rattle.sound_creation.proofs.Makes.{made_well_formed_for, blank_not}
use Rattle.sound_commands.proofs.Orders.{obeyed_well_formed_for}
use Rattle.sound_creation.proofs.Answers.{created_passed, created_done, created_refused}
use Rattle.sound_commands.proofs.Answers.{commanded_passed, commanded_done, commanded_refused}
use Rattle.static_sound.proofs.Entries.{block_well_formed_for, processed_passed, processed_done, processed_refused, into_passed, into_done, into_refused}
use Rattle.theorems.specs.Kept.{CreationKeeps, BlankIsNot, CommandsKeep, BlocksKeep, MixesKeep}

pub creation_keeps : CreationKeeps
creation_keeps snd s = (
  λ e.
      let k = created_passed snd s e in
      subst (λ (v : StaticSound). T (well_formed_for (length snd) v)) (sym (created_done snd s k)) (made_well_formed_for snd s (creatable_parts (length snd) s k)),
  created_refused snd s,
)

pub blank_is_not : BlankIsNot
blank_is_not = blank_not

pub commands_keep : CommandsKeep
commands_keep snd v c = (
  λ e.
      let k = commanded_passed snd v c e in
      rw (commanded_done snd v c k) (obeyed_well_formed_for snd c v (obeyable_parts (length snd) v c k)),
  λ h. rw (commanded_refused snd v c h) (refl, refl),
)

pub blocks_keep : BlocksKeep
blocks_keep snd v dt b g out = (
  λ e.
      let k = processed_passed snd v dt b g out e in
      rw (processed_done snd v dt b g out k) (block_well_formed_for snd v dt b g (holds b out) (accepted_parts (length snd) v dt b (holds b out) k)),
  λ h. rw (processed_refused snd v dt b g out h) (refl, refl, refl, refl),
)

pub mixes_keep : MixesKeep
mixes_keep snd v dt b g mix from = (
  λ e.
      let k = into_passed snd v dt b g mix from e in
      let r = room from (length b.rate) mix in
      rw (into_done snd v dt b g mix from k) (block_well_formed_for snd v dt b g r (accepted_parts (length snd) v dt b r k)),
  λ h. rw (into_refused snd v dt b g mix from h) (refl, refl, refl, refl),
)
