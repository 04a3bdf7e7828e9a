-- Blocks with held lanes. Their definition is the block over lanes that repeat the five numbers, so every theorem about
-- blocks holds for them. This file names the important ones: such a block can be cut into two such blocks, into an
-- output or into a mix; what it keeps; its steps, and their largest number. Sequences of such blocks are those of
-- Schedules over such lanes, and they are calls of InTheLoop.
use Rattle.std.specs.Prelude.{ℕ, ◌+◌, ◌-◌, ◌*◌, ◌/◌, List, length, take, drop, Float}
use Rattle.sound_held.specs.declared.Held.{Held}
use Rattle.sound_held.specs.Held.{held_lanes}
use Rattle.sound_state.specs.declared.StaticSound.{StaticSound}
use Rattle.sound_block.specs.declared.Signals.{Signals}
use Rattle.sound_block.specs.Blocks.{quiet}
use Rattle.static_sound.specs.Entries.{processed_held, processed_held_into}
use Rattle.theorems.specs.Accepted.{AcceptedBlock, AcceptedMix}
use Rattle.theorems.specs.Cut.{CutInTwo, MayCut}
use Rattle.theorems.specs.Mix.{CutInMix, MayCutMix}
use Rattle.theorems.specs.Kept.{BlockKeeps}
use Rattle.theorems.specs.Steps.{Stepped}
use Rattle.theorems.specs.Budget.{SlowBlock, SlowMix, Within}

abbrev pub HeldCut : Type 0
HeldCut =
    (snd : List Float) (v : StaticSound) (dt : Float) (x : Held) (g : Signals) (out : List Float) (k : ℕ)
    → MayCut snd v dt (held_lanes x (length out / 2)) g out k
    → let first = processed_held snd v dt x g (take (2 * k) out) in
    let rest = processed_held snd first.answer.voice dt x (quiet g) (drop (2 * k) out) in
    CutInTwo (processed_held snd v dt x g out) first rest

abbrev pub HeldMixCut : Type 0
HeldMixCut =
    (snd : List Float) (v : StaticSound) (dt : Float) (x : Held) (g : Signals) (mix : List Float) (from n k : ℕ)
    → MayCutMix snd v dt (held_lanes x n) g mix from k
    → let first = processed_held_into snd v dt x g mix from k in
    let rest = processed_held_into snd first.answer.voice dt x (quiet g) first.samples (from + k) (n - k) in
    CutInMix (processed_held_into snd v dt x g mix from n) first rest

abbrev pub HeldKeeps : Type 0
HeldKeeps =
    (snd : List Float) (v : StaticSound) (dt : Float) (x : Held) (g : Signals) (out : List Float)
    → BlockKeeps snd v out (processed_held snd v dt x g out)

abbrev pub HeldMixKeeps : Type 0
HeldMixKeeps =
    (snd : List Float) (v : StaticSound) (dt : Float) (x : Held) (g : Signals) (mix : List Float) (from n : ℕ)
    → BlockKeeps snd v mix (processed_held_into snd v dt x g mix from n)

abbrev pub HeldSteps : Type 0
HeldSteps =
    (snd : List Float) (v : StaticSound) (dt : Float) (x : Held) (g : Signals) (out : List Float)
    → AcceptedBlock snd v dt (held_lanes x (length out / 2)) g out
    → Stepped snd v dt (held_lanes x (length out / 2)) g (processed_held snd v dt x g out)

abbrev pub HeldMixSteps : Type 0
HeldMixSteps =
    (snd : List Float) (v : StaticSound) (dt : Float) (x : Held) (g : Signals) (mix : List Float) (from n : ℕ)
    → AcceptedMix snd v dt (held_lanes x n) g mix from
    → Stepped snd v dt (held_lanes x n) g (processed_held_into snd v dt x g mix from n)

abbrev pub HeldBudget : Type 0
HeldBudget =
    (k : ℕ) (snd : List Float) (v : StaticSound) (dt : Float) (x : Held) (g : Signals) (out : List Float)
    → SlowBlock k snd v dt (held_lanes x (length out / 2)) g out
    → Within k snd v dt (held_lanes x (length out / 2)) g (processed_held snd v dt x g out).answer

abbrev pub HeldMixBudget : Type 0
HeldMixBudget =
    (k : ℕ) (snd : List Float) (v : StaticSound) (dt : Float) (x : Held) (g : Signals) (mix : List Float) (from n : ℕ)
    → SlowMix k snd v dt (held_lanes x n) g mix from
    → Within k snd v dt (held_lanes x n) g (processed_held_into snd v dt x g mix from n).answer

pub record HeldBlocks : Type 0 where
  pub cut : HeldCut
  pub mix_cut : HeldMixCut
  pub keeps : HeldKeeps
  pub mix_keeps : HeldMixKeeps
  pub steps : HeldSteps
  pub mix_steps : HeldMixSteps
  pub budget : HeldBudget
  pub mix_budget : HeldMixBudget
