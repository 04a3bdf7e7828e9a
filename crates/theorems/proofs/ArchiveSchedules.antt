-- A sequence of the archive's blocks is the sequence of the entries below, between records: each accepted record represents the state that it encodes.
-- By induction on the blocks, for outputs and for a mix. Assumes nothing.
use mathlib.Core.Path.{◌≡◌, refl, sym, ap, ◌∙◌, subst}
use Prim.Native.Nat.{ℕ, ◌+◌, ◌*◌}
use mathlib.Core.List.{List, [], ◌∷◌, ◌++◌}
use lib.Dec.{T, eqb, eqb→eq}
use lib.ListN.{take, drop}
use lib.Ieee.{Float}
use lib.Ieee.Fits.{and_i, and_l, and_r}
use Rattle.numbers.specs.Lists.{all}
use Rattle.sound_lanes.specs.Lanes.{Lanes, first_lanes, rest_lanes}
use Rattle.sound_state.specs.declared.StaticSound.{StaticSound}
use Rattle.sound_block.specs.declared.Signals.{Signals}
use Rattle.sound_block.specs.Blocks.{quiet}
use Rattle.sound_slow_path.specs.Plays.{lower, Outcome}
use Rattle.static_sound.specs.Entries.{processed, processed_into}
use Rattle.c_state.specs.declared.CableowlState.{CableowlState}
use Rattle.c_inputs.specs.declared.CableowlSignals.{CableowlSignals}
use Rattle.c_state.specs.Records.{decoded, encoded}
use Rattle.c_inputs.specs.Inputs.{signals_of}
use Rattle.cableowl.specs.Entries.{after, processed_c, processed_into_c}
use Rattle.c_state.proofs.Inverse.{decoded_encoded}
use Rattle.theorems.specs.Alike.{bare, awake}
use Rattle.theorems.specs.Schedules.{Run, alone, played_by, mixed_by, Agree}
use Rattle.theorems.specs.Archive.{quiet_c}
use Rattle.theorems.specs.ArchiveSchedules.{RunC, alone_c, played_by_c, mixed_by_c, awake_c, AgreeC, AnySizesC, AnySizesMixC, AllAcceptedC, AllAcceptedMixC}
use Rattle.theorems.proofs.Archive.{raw, after_is, after_means, quiet_means}
use Rattle.theorems.proofs.Schedules.{any_sizes}
use Rattle.theorems.proofs.Streams.{all_accepted}
use Rattle.theorems.proofs.MixSchedules.{any_sizes_mix, all_accepted_mix}

-- an accepted sequence of records m compared with the sequence r below
record AsBelow (m : RunC) (r : Run) : Type 0 where
  accepted : T r.accepted
  state : m.state ≡ encoded r.voice
  samples : m.samples ≡ r.samples
  steps : m.steps ≡ r.steps
  lowest : m.lowest_count ≡ r.lowest_count
  cuts : T (all awake_c m.cuts) → T (all awake r.cuts)

-- one block alone
alone_below : (o : Outcome) (c : CableowlState) → T (eqb o.answer.refusal 0) → AsBelow (alone_c (raw o c)) (alone o)
alone_below o c h =
    record {
      accepted = h;
      state = after_is o.answer.refusal o.answer.voice c (eqb→eq o.answer.refusal 0 h);
      samples = refl;
      steps = refl;
      lowest = refl;
      cuts = λ a. tt;
    }

-- the state at a cut is awake below too
cut_below : (o : Outcome) (c : CableowlState) (ms : List CableowlState) (rs : List StaticSound) → o.answer.refusal ≡ 0 → (T (all awake_c ms) → T (all awake rs))
    → T (all awake_c (after o.answer.refusal o.answer.voice c ∷ ms)) → T (all awake (o.answer.voice ∷ rs))
cut_below o c ms rs e f a =
    let s = after o.answer.refusal o.answer.voice c in
    and_i (awake o.answer.voice) (all awake rs)
    (subst (λ (v : StaticSound). T (awake v)) (after_means o.answer.refusal o.answer.voice c e) (and_l (awake_c s) (all awake_c ms) a))
    (f (and_r (awake_c s) (all awake_c ms) a))

module _ (snd : List Float) (dt : Float) where
  played_below : (k : ℕ) (ks : List ℕ) (b : Lanes) (g : CableowlSignals) (c : CableowlState) (out : List Float)
      → T (played_by_c snd dt k ks b g c out).accepted → AsBelow (played_by_c snd dt k ks b g c out) (played_by snd dt k ks b (signals_of g) (decoded c) out)
  unfolding played_by_c played_by processed_c
  played_below k [] b g c out h = alone_below (processed snd (decoded c) dt (first_lanes k b) (signals_of g) (take (2 * k) out)) c h
  played_below k (j ∷ ks) b g c out h =
      let o = processed snd (decoded c) dt (first_lanes k b) (signals_of g) (take (2 * k) out) in
      let s = after o.answer.refusal o.answer.voice c in
      let m = played_by_c snd dt j ks (rest_lanes k b) (quiet_c g) s (drop (2 * k) out) in
      let e = eqb→eq o.answer.refusal 0 (and_l (eqb o.answer.refusal 0) m.accepted h) in
      let w : AsBelow m (played_by snd dt j ks (rest_lanes k b) (quiet (signals_of g)) o.answer.voice (drop (2 * k) out)) =
      subst (λ (v : StaticSound). AsBelow m (played_by snd dt j ks (rest_lanes k b) (quiet (signals_of g)) v (drop (2 * k) out))) (after_means o.answer.refusal o.answer.voice c e)
      (subst (λ (x : Signals). AsBelow m (played_by snd dt j ks (rest_lanes k b) x (decoded s) (drop (2 * k) out))) (quiet_means g)
      (played_below j ks (rest_lanes k b) (quiet_c g) s (drop (2 * k) out) (and_r (eqb o.answer.refusal 0) m.accepted h)))
      in
      let r = played_by snd dt j ks (rest_lanes k b) (quiet (signals_of g)) o.answer.voice (drop (2 * k) out) in
      record {
        accepted = and_i (eqb o.answer.refusal 0) r.accepted (and_l (eqb o.answer.refusal 0) m.accepted h) w.accepted;
        state = w.state;
        samples = ap (λ (z : List Float). o.samples ++ z) w.samples;
        steps = ap (λ (n : ℕ). o.answer.steps + n) w.steps;
        lowest = ap (lower o.answer.lowest_count) w.lowest;
        cuts = cut_below o c m.cuts r.cuts e w.cuts;
      }

  mixed_below : (k : ℕ) (ks : List ℕ) (b : Lanes) (g : CableowlSignals) (c : CableowlState) (mix : List Float) (from : ℕ)
      → T (mixed_by_c snd dt k ks b g c mix from).accepted → AsBelow (mixed_by_c snd dt k ks b g c mix from) (mixed_by snd dt k ks b (signals_of g) (decoded c) mix from)
  unfolding mixed_by_c mixed_by processed_into_c
  mixed_below k [] b g c mix from h = alone_below (processed_into snd (decoded c) dt (first_lanes k b) (signals_of g) mix from) c h
  mixed_below k (j ∷ ks) b g c mix from h =
      let o = processed_into snd (decoded c) dt (first_lanes k b) (signals_of g) mix from in
      let s = after o.answer.refusal o.answer.voice c in
      let m = mixed_by_c snd dt j ks (rest_lanes k b) (quiet_c g) s o.samples (from + k) in
      let e = eqb→eq o.answer.refusal 0 (and_l (eqb o.answer.refusal 0) m.accepted h) in
      let w : AsBelow m (mixed_by snd dt j ks (rest_lanes k b) (quiet (signals_of g)) o.answer.voice o.samples (from + k)) =
      subst (λ (v : StaticSound). AsBelow m (mixed_by snd dt j ks (rest_lanes k b) (quiet (signals_of g)) v o.samples (from + k))) (after_means o.answer.refusal o.answer.voice c e)
      (subst (λ (x : Signals). AsBelow m (mixed_by snd dt j ks (rest_lanes k b) x (decoded s) o.samples (from + k))) (quiet_means g)
      (mixed_below j ks (rest_lanes k b) (quiet_c g) s o.samples (from + k) (and_r (eqb o.answer.refusal 0) m.accepted h)))
      in
      let r = mixed_by snd dt j ks (rest_lanes k b) (quiet (signals_of g)) o.answer.voice o.samples (from + k) in
      record {
        accepted = and_i (eqb o.answer.refusal 0) r.accepted (and_l (eqb o.answer.refusal 0) m.accepted h) w.accepted;
        state = w.state;
        samples = w.samples;
        steps = ap (λ (n : ℕ). o.answer.steps + n) w.steps;
        lowest = ap (lower o.answer.lowest_count) w.lowest;
        cuts = cut_below o c m.cuts r.cuts e w.cuts;
      }

  -- and what is accepted below is accepted
  played_above : (k : ℕ) (ks : List ℕ) (b : Lanes) (g : CableowlSignals) (c : CableowlState) (out : List Float)
      → T (played_by snd dt k ks b (signals_of g) (decoded c) out).accepted → T (played_by_c snd dt k ks b g c out).accepted
  unfolding played_by_c played_by processed_c
  played_above k [] b g c out h = h
  played_above k (j ∷ ks) b g c out h =
      let o = processed snd (decoded c) dt (first_lanes k b) (signals_of g) (take (2 * k) out) in
      let s = after o.answer.refusal o.answer.voice c in
      let r = played_by snd dt j ks (rest_lanes k b) (quiet (signals_of g)) o.answer.voice (drop (2 * k) out) in
      let a = and_l (eqb o.answer.refusal 0) r.accepted h in
      and_i (eqb o.answer.refusal 0) (played_by_c snd dt j ks (rest_lanes k b) (quiet_c g) s (drop (2 * k) out)).accepted a
      (played_above j ks (rest_lanes k b) (quiet_c g) s (drop (2 * k) out)
      (subst (λ (x : Signals). T (played_by snd dt j ks (rest_lanes k b) x (decoded s) (drop (2 * k) out)).accepted) (sym (quiet_means g))
      (subst (λ (v : StaticSound). T (played_by snd dt j ks (rest_lanes k b) (quiet (signals_of g)) v (drop (2 * k) out)).accepted)
      (sym (after_means o.answer.refusal o.answer.voice c (eqb→eq o.answer.refusal 0 a))) (and_r (eqb o.answer.refusal 0) r.accepted h))))

  mixed_above : (k : ℕ) (ks : List ℕ) (b : Lanes) (g : CableowlSignals) (c : CableowlState) (mix : List Float) (from : ℕ)
      → T (mixed_by snd dt k ks b (signals_of g) (decoded c) mix from).accepted → T (mixed_by_c snd dt k ks b g c mix from).accepted
  unfolding mixed_by_c mixed_by processed_into_c
  mixed_above k [] b g c mix from h = h
  mixed_above k (j ∷ ks) b g c mix from h =
      let o = processed_into snd (decoded c) dt (first_lanes k b) (signals_of g) mix from in
      let s = after o.answer.refusal o.answer.voice c in
      let r = mixed_by snd dt j ks (rest_lanes k b) (quiet (signals_of g)) o.answer.voice o.samples (from + k) in
      let a = and_l (eqb o.answer.refusal 0) r.accepted h in
      and_i (eqb o.answer.refusal 0) (mixed_by_c snd dt j ks (rest_lanes k b) (quiet_c g) s o.samples (from + k)).accepted a
      (mixed_above j ks (rest_lanes k b) (quiet_c g) s o.samples (from + k)
      (subst (λ (x : Signals). T (mixed_by snd dt j ks (rest_lanes k b) x (decoded s) o.samples (from + k)).accepted) (sym (quiet_means g))
      (subst (λ (v : StaticSound). T (mixed_by snd dt j ks (rest_lanes k b) (quiet (signals_of g)) v o.samples (from + k)).accepted)
      (sym (after_means o.answer.refusal o.answer.voice c (eqb→eq o.answer.refusal 0 a))) (and_r (eqb o.answer.refusal 0) r.accepted h))))

-- two sequences agree as those below do
agree : (m n : RunC) (r s : Run) → AsBelow m r → AsBelow n s → Agree r s → AgreeC m n
agree m n r s x y a =
    record {
      samples = x.samples ∙ a.samples ∙ sym y.samples;
      same = λ c.
          let z = a.same (x.cuts c.0, y.cuts c.1) in
          (x.state ∙ ap encoded z.0 ∙ sym y.state, x.steps ∙ z.1 ∙ sym y.steps);
      lowest = λ c. x.lowest ∙ a.lowest (x.cuts c.0, y.cuts c.1) ∙ sym y.lowest;
      alike = ap bare (means m r x) ∙ a.alike ∙ sym (ap bare (means n s y));
    }
  where
    means : (m : RunC) (r : Run) → AsBelow m r → decoded m.state ≡ r.voice
    means m r x = ap decoded x.state ∙ decoded_encoded r.voice

pub archive_any_sizes : AnySizesC
archive_any_sizes snd dt b g c k ks out j js other ways =
    let x = played_below snd dt k ks b g c out ways.0.accepted in
    let y = played_below snd dt j js b g c other ways.1.accepted in
    agree _ _ _ _ x y (any_sizes snd dt b (signals_of g) (decoded c) k ks out j js other
    (record { all_of_it = ways.0.all_of_it; accepted = x.accepted }, record { all_of_it = ways.1.all_of_it; accepted = y.accepted }))

pub archive_any_sizes_mix : AnySizesMixC
archive_any_sizes_mix snd dt b g c k ks j js mix from ways =
    let x = mixed_below snd dt k ks b g c mix from ways.0.accepted in
    let y = mixed_below snd dt j js b g c mix from ways.1.accepted in
    agree _ _ _ _ x y (any_sizes_mix snd dt b (signals_of g) (decoded c) k ks j js mix from
    (record { all_of_it = ways.0.all_of_it; accepted = x.accepted }, record { all_of_it = ways.1.all_of_it; accepted = y.accepted }))

pub archive_all_accepted : AllAcceptedC
archive_all_accepted snd dt b g c k ks out x =
    played_above snd dt k ks b g c out (all_accepted snd dt b (signals_of g) (decoded c) k ks out x)

pub archive_all_accepted_mix : AllAcceptedMixC
archive_all_accepted_mix snd dt b g c k ks mix from x =
    mixed_above snd dt k ks b g c mix from (all_accepted_mix snd dt b (signals_of g) (decoded c) k ks mix from x)
