-- The C entries, on C records: a block cut in two, and the same into a mix, as Cut and Mix say for the entries below.
-- The second part gets the state that the first part returned, and signals of 0; if the start is due at a tick, it
-- gets the same tick.
use Rattle.std.specs.Prelude.{ℕ, ◌+◌, ◌*◌, ◌≤◌, ◌≡◌, List, ◌++◌, cond, eqb, length, take, drop, Float}
use Rattle.sound_lanes.specs.Lanes.{Lanes, first_lanes, rest_lanes}
use Rattle.sound_slow_path.specs.Plays.{lower}
use Rattle.c_state.specs.declared.CableowlState.{CableowlState}
use Rattle.c_inputs.specs.declared.CableowlSignals.{CableowlSignals}
use Rattle.cableowl.specs.declared.CableowlProcessed.{CableowlProcessed}
use Rattle.c_state.specs.Records.{decoded}
use Rattle.cableowl.specs.Entries.{OutcomeC, processed_c, processed_into_c}
use Rattle.theorems.specs.Alike.{bare, Awake}

-- the signals of a later part: 0, or the same tick if the start is due at one
abbrev pub quiet_c : CableowlSignals → CableowlSignals
quiet_c g = record { finished = 0; start = cond (eqb g.start 3) 3 0; resume = 0; due = g.due; now = g.now }

-- the results of the two parts against the result of the whole
pub record PartsC (uncut first rest : CableowlProcessed) : Type 0 where
  pub accepted : (first.refusal ≡ 0) × (rest.refusal ≡ 0)
  pub same : Awake (decoded first.state) → (uncut.state ≡ rest.state)
      × (uncut.steps ≡ first.steps + rest.steps)
  pub lowest : Awake (decoded first.state)
      → uncut.lowest_count ≡ lower first.lowest_count rest.lowest_count
  pub alike : bare (decoded uncut.state) ≡ bare (decoded rest.state)

pub record CutInTwoC (uncut first rest : OutcomeC) : Type 0 where
  pub answers : PartsC uncut.answer first.answer rest.answer
  pub samples : uncut.samples ≡ first.samples ++ rest.samples

pub record CutInMixC (uncut first rest : OutcomeC) : Type 0 where
  pub answers : PartsC uncut.answer first.answer rest.answer
  pub samples : uncut.samples ≡ rest.samples

-- hypothesis: an accepted block, and a number of its frames
pub record MayCutC (snd : List Float) (c : CableowlState) (dt : Float) (b : Lanes) (g : CableowlSignals)
    (out : List Float) (k : ℕ) : Type 0 where
  pub accepted : (processed_c snd c dt b g out).answer.refusal ≡ 0
  pub inside : k ≤ length b.rate

pub record MayCutMixC (snd : List Float) (c : CableowlState) (dt : Float) (b : Lanes) (g : CableowlSignals)
    (mix : List Float) (from k : ℕ) : Type 0 where
  pub accepted : (processed_into_c snd c dt b g mix from).answer.refusal ≡ 0
  pub inside : k ≤ length b.rate

-- cableowl_process
abbrev pub CutBlocksC : Type 0
CutBlocksC =
    (snd : List Float) (c : CableowlState) (dt : Float) (b : Lanes) (g : CableowlSignals) (out : List Float) (k : ℕ)
    → MayCutC snd c dt b g out k
    → let first = processed_c snd c dt (first_lanes k b) g (take (2 * k) out) in
    let rest = processed_c snd first.answer.state dt (rest_lanes k b) (quiet_c g) (drop (2 * k) out) in
    CutInTwoC (processed_c snd c dt b g out) first rest

-- cableowl_process_into
abbrev pub CutMixesC : Type 0
CutMixesC =
    (snd : List Float) (c : CableowlState) (dt : Float) (b : Lanes) (g : CableowlSignals) (mix : List Float)
    (from k : ℕ)
    → MayCutMixC snd c dt b g mix from k
    → let first = processed_into_c snd c dt (first_lanes k b) g mix from in
    let rest = processed_into_c snd first.answer.state dt (rest_lanes k b) (quiet_c g) first.samples (from + k) in
    CutInMixC (processed_into_c snd c dt b g mix from) first rest
