-- The archive's entries cut in two, from the entries below: an accepted call's record represents the state that it encodes. Assumes nothing.
use mathlib.Core.Path.{◌≡◌, refl, sym, ap, ◌∙◌, subst}
use Prim.Native.Nat.{ℕ, ◌+◌, ◌*◌}
use mathlib.Core.Bool.{Bool, true, false, cond}
use lib.Dec.{T, eqb}
use lib.ListN.{take, drop}
use Rattle.playback_state_manager.specs.declared.StartAnswer.TheVariants.{Waiting}
use Rattle.start_time.specs.declared.StartSignal.{StartSignal}
use Rattle.start_time.specs.declared.StartSignal.TheVariants.{Answer, Tick}
use Rattle.start_time.specs.Ticks.{again}
use Rattle.sound_lanes.specs.Lanes.{first_lanes, rest_lanes}
use Rattle.sound_state.specs.declared.StaticSound.{StaticSound}
use Rattle.sound_slow_path.specs.Plays.{BlockAnswer}
use Rattle.sound_block.specs.declared.Signals.{Signals}
use Rattle.sound_block.specs.Blocks.{quiet}
use Rattle.sound_slow_path.specs.Plays.{Outcome}
use Rattle.static_sound.specs.Entries.{processed, processed_into}
use Rattle.c_state.specs.declared.CableowlState.{CableowlState}
use Rattle.c_state.specs.Records.{decoded, encoded}
use Rattle.c_inputs.specs.declared.CableowlSignals.{CableowlSignals}
use Rattle.c_inputs.specs.Inputs.{answer_of, start_of, signals_of}
use Rattle.cableowl.specs.Entries.{after, answered, OutcomeC, processed_c, processed_into_c}
use Rattle.c_state.proofs.Inverse.{decoded_encoded}
use Rattle.theorems.specs.Alike.{bare, awake, Parts}
use Rattle.theorems.specs.Cut.{CutInTwo}
use Rattle.theorems.specs.Mix.{CutInMix}
use Rattle.theorems.specs.Archive.{quiet_c, PartsC, CutInTwoC, CutInMixC, CutBlocksC, CutMixesC}
use Rattle.theorems.proofs.Cut.{cut_blocks}
use Rattle.theorems.proofs.Mix.{cut_mixes}

-- ---- an accepted call's record, and the state that it represents

pub after_is : (k : ℕ) (v : StaticSound) (c : CableowlState) → k ≡ 0 → after k v c ≡ encoded v
unfolding after
after_is k v c e = rw e

pub after_means : (k : ℕ) (v : StaticSound) (c : CableowlState) → k ≡ 0 → decoded (after k v c) ≡ v
after_means k v c e = ap decoded (after_is k v c e) ∙ decoded_encoded v

-- the archive's outcome for an outcome below
abbrev pub raw : Outcome → CableowlState → OutcomeC
raw o c = record { answer = answered o.answer c; samples = o.samples }

parts : (p f r : BlockAnswer) (c s : CableowlState) → p.refusal ≡ 0 → Parts p f r → PartsC (answered p c) (answered f c) (answered r s)
parts p f r c s h d =
    record {
      accepted = d.accepted;
      same = λ a.
          let e = d.same (below a) in
          (after_is p.refusal p.voice c h ∙ ap encoded e.0 ∙ sym (after_is r.refusal r.voice s d.accepted.1), e.1);
      lowest = λ a. d.lowest (below a);
      alike =
          ap bare (after_means p.refusal p.voice c h) ∙ d.alike
          ∙ sym (ap bare (after_means r.refusal r.voice s d.accepted.1));
    }
  where
    -- the state that the first part's record represents
    below : T (awake (decoded (after f.refusal f.voice c))) → T (awake f.voice)
    below a = subst (λ (v : StaticSound). T (awake v)) (after_means f.refusal f.voice c d.accepted.0) a

-- signals of a later part mean those of a later part
pub quiet_means : (g : CableowlSignals) → signals_of (quiet_c g) ≡ quiet (signals_of g)
quiet_means g = ap (λ (x : StartSignal). record { finished = false; start = x; resume = Waiting }) (go (eqb g.start 3))
  where
    go : (b : Bool) → start_of (cond b 3 0) g.due g.now ≡ again (cond b (Tick g.due g.now) (Answer (answer_of g.start)))
    go true = refl
    go false = refl

pub archive_cut_blocks : CutBlocksC
unfolding processed_c
archive_cut_blocks snd c dt b g out k x =
    let p = processed snd (decoded c) dt b (signals_of g) out in
    let f = processed snd (decoded c) dt (first_lanes k b) (signals_of g) (take (2 * k) out) in
    let r : StaticSound → Outcome = λ v. processed snd v dt (rest_lanes k b) (signals_of (quiet_c g)) (drop (2 * k) out) in
    let d : CutInTwo p f (r f.answer.voice) =
    subst (λ (w : Signals). CutInTwo p f (processed snd f.answer.voice dt (rest_lanes k b) w (drop (2 * k) out))) (sym (quiet_means g))
    (cut_blocks snd (decoded c) dt b (signals_of g) out k (record { accepted = x.accepted; inside = x.inside }))
    in
    let s = after f.answer.refusal f.answer.voice c in
    subst (λ (v : StaticSound). CutInTwoC (raw p c) (raw f c) (raw (r v) s))
    (sym (after_means f.answer.refusal f.answer.voice c d.answers.accepted.0))
    (record { answers = parts p.answer f.answer (r f.answer.voice).answer c s x.accepted d.answers; samples = d.samples })

pub archive_cut_mixes : CutMixesC
unfolding processed_into_c
archive_cut_mixes snd c dt b g mix from k x =
    let p = processed_into snd (decoded c) dt b (signals_of g) mix from in
    let f = processed_into snd (decoded c) dt (first_lanes k b) (signals_of g) mix from in
    let r : StaticSound → Outcome = λ v. processed_into snd v dt (rest_lanes k b) (signals_of (quiet_c g)) f.samples (from + k) in
    let d : CutInMix p f (r f.answer.voice) =
    subst (λ (w : Signals). CutInMix p f (processed_into snd f.answer.voice dt (rest_lanes k b) w f.samples (from + k))) (sym (quiet_means g))
    (cut_mixes snd (decoded c) dt b (signals_of g) mix from k (record { accepted = x.accepted; inside = x.inside }))
    in
    let s = after f.answer.refusal f.answer.voice c in
    subst (λ (v : StaticSound). CutInMixC (raw p c) (raw f c) (raw (r v) s))
    (sym (after_means f.answer.refusal f.answer.voice c d.answers.accepted.0))
    (record { answers = parts p.answer f.answer (r f.answer.voice).answer c s x.accepted d.answers; samples = d.samples })
