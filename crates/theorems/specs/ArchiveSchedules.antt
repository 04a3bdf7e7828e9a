-- Block sizes do not matter for the C entries either, as Schedules says for the entries below: each block gets the
-- state that the one before returned.
use Rattle.std.specs.Prelude.{ℕ, ◌+◌, ◌*◌, ◌≡◌, Bool, ◌&&◌, List, [], ◌∷◌, ◌++◌, T, eqb, length, take, drop, Float}
use Rattle.numbers.specs.Lists.{all}
use Rattle.sound_lanes.specs.Lanes.{Lanes, first_lanes, rest_lanes}
use Rattle.sound_slow_path.specs.Plays.{lower}
use Rattle.c_state.specs.declared.CableowlState.{CableowlState}
use Rattle.c_inputs.specs.declared.CableowlSignals.{CableowlSignals}
use Rattle.c_state.specs.Records.{decoded}
use Rattle.cableowl.specs.Entries.{OutcomeC, processed_c, processed_into_c}
use Rattle.theorems.specs.Sums.{sum}
use Rattle.theorems.specs.Alike.{bare, awake}
use Rattle.theorems.specs.Schedules.{AllowedCut, AllowedCutMix}
use Rattle.theorems.specs.Archive.{quiet_c}

-- the outcome of a sequence of blocks: whether each was accepted, the record after, all samples, all steps, the
-- lowest count, and the record at each cut
pub record RunC : Type 0 where
  pub accepted : Bool
  pub state : CableowlState
  pub samples : List Float
  pub steps : ℕ
  pub lowest_count : ℕ
  pub cuts : List CableowlState

abbrev pub alone_c : OutcomeC → RunC
alone_c o =
    record {
      accepted = eqb o.answer.refusal 0;
      state = o.answer.state;
      samples = o.samples;
      steps = o.answer.steps;
      lowest_count = o.answer.lowest_count;
      cuts = [];
    }

-- one block and the sequence after it, with their samples
abbrev pub then_c : OutcomeC → RunC → List Float → RunC
then_c o r samples =
    record {
      accepted = eqb o.answer.refusal 0 && r.accepted;
      state = r.state;
      samples = samples;
      steps = o.answer.steps + r.steps;
      lowest_count = lower o.answer.lowest_count r.lowest_count;
      cuts = o.answer.state ∷ r.cuts;
    }

-- blocks of cableowl_process, of k frames and then of the sizes that follow
unfoldable pub played_by_c : List Float → Float → ℕ → List ℕ → Lanes → CableowlSignals → CableowlState → List Float
    → RunC
played_by_c snd dt k [] b g c out = alone_c (processed_c snd c dt (first_lanes k b) g (take (2 * k) out))
played_by_c snd dt k (j ∷ ks) b g c out =
    let o = processed_c snd c dt (first_lanes k b) g (take (2 * k) out) in
    let r = played_by_c snd dt j ks (rest_lanes k b) (quiet_c g) o.answer.state (drop (2 * k) out) in
    then_c o r (o.samples ++ r.samples)

-- blocks of cableowl_process_into, one after the other from a frame on
unfoldable pub mixed_by_c : List Float → Float → ℕ → List ℕ → Lanes → CableowlSignals → CableowlState → List Float → ℕ
    → RunC
mixed_by_c snd dt k [] b g c mix from = alone_c (processed_into_c snd c dt (first_lanes k b) g mix from)
mixed_by_c snd dt k (j ∷ ks) b g c mix from =
    let o = processed_into_c snd c dt (first_lanes k b) g mix from in
    let r = mixed_by_c snd dt j ks (rest_lanes k b) (quiet_c g) o.answer.state o.samples (from + k) in
    then_c o r r.samples

-- not Stopped
abbrev pub awake_c : CableowlState → Bool
awake_c c = awake (decoded c)

abbrev pub BothAwakeC : RunC → RunC → Type 0
BothAwakeC r s = T (all awake_c r.cuts) × T (all awake_c s.cuts)

pub record AgreeC (r s : RunC) : Type 0 where
  pub samples : r.samples ≡ s.samples
  pub same : BothAwakeC r s → (r.state ≡ s.state) × (r.steps ≡ s.steps)
  pub lowest : BothAwakeC r s → r.lowest_count ≡ s.lowest_count
  pub alike : bare (decoded r.state) ≡ bare (decoded s.state)

-- hypotheses: a way to cut a stream whose blocks are all accepted, and two such ways
pub record WayC (snd : List Float) (dt : Float) (b : Lanes) (g : CableowlSignals) (c : CableowlState) (k : ℕ)
    (ks : List ℕ) (out : List Float) : Type 0 where
  pub all_of_it : k + sum ks ≡ length b.rate
  pub accepted : T (played_by_c snd dt k ks b g c out).accepted

abbrev pub TwoWaysC : List Float → Float → Lanes → CableowlSignals → CableowlState → ℕ → List ℕ → List Float → ℕ
    → List ℕ → List Float → Type 0
TwoWaysC snd dt b g c k ks out j js other = WayC snd dt b g c k ks out × WayC snd dt b g c j js other

pub record WayMixC (snd : List Float) (dt : Float) (b : Lanes) (g : CableowlSignals) (c : CableowlState) (k : ℕ)
    (ks : List ℕ) (mix : List Float) (from : ℕ) : Type 0 where
  pub all_of_it : k + sum ks ≡ length b.rate
  pub accepted : T (mixed_by_c snd dt k ks b g c mix from).accepted

abbrev pub TwoWaysMixC : List Float → Float → Lanes → CableowlSignals → CableowlState → ℕ → List ℕ → ℕ → List ℕ
    → List Float → ℕ → Type 0
TwoWaysMixC snd dt b g c k ks j js mix from = WayMixC snd dt b g c k ks mix from × WayMixC snd dt b g c j js mix from

abbrev pub AnySizesC : Type 0
AnySizesC =
    (snd : List Float) (dt : Float) (b : Lanes) (g : CableowlSignals) (c : CableowlState) (k : ℕ) (ks : List ℕ)
    (out : List Float) (j : ℕ) (js : List ℕ) (other : List Float)
    → TwoWaysC snd dt b g c k ks out j js other
    → AgreeC (played_by_c snd dt k ks b g c out) (played_by_c snd dt j js b g c other)

abbrev pub AnySizesMixC : Type 0
AnySizesMixC =
    (snd : List Float) (dt : Float) (b : Lanes) (g : CableowlSignals) (c : CableowlState) (k : ℕ) (ks : List ℕ)
    (j : ℕ) (js : List ℕ) (mix : List Float) (from : ℕ)
    → TwoWaysMixC snd dt b g c k ks j js mix from
    → AgreeC (mixed_by_c snd dt k ks b g c mix from) (mixed_by_c snd dt j js b g c mix from)

-- every way to cut an acceptable stream into blocks of at most 4,096 frames is accepted
abbrev pub AllAcceptedC : Type 0
AllAcceptedC =
    (snd : List Float) (dt : Float) (b : Lanes) (g : CableowlSignals) (c : CableowlState) (k : ℕ) (ks : List ℕ)
    (out : List Float)
    → AllowedCut snd dt b (decoded c) k ks out → T (played_by_c snd dt k ks b g c out).accepted

abbrev pub AllAcceptedMixC : Type 0
AllAcceptedMixC =
    (snd : List Float) (dt : Float) (b : Lanes) (g : CableowlSignals) (c : CableowlState) (k : ℕ) (ks : List ℕ)
    (mix : List Float) (from : ℕ)
    → AllowedCutMix snd dt b (decoded c) k ks mix from → T (mixed_by_c snd dt k ks b g c mix from).accepted
