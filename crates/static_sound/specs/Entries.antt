-- The entries for accepted and refused calls: block, block into a mix, stretch (docs/assurance/RULES.md, refusals 1
-- and 9 to 12).
use Rattle.std.specs.Prelude.{ℕ, ◌+◌, ◌-◌, ◌*◌, ◌/◌, ◌%◌, Bool, ◌&&◌, cond, List, [], ◌++◌, leb, eqb, length, take}
use Rattle.std.specs.Prelude.{Option, Some, None, Result, Ok, Err}
use Rattle.refusals.specs.declared.Refusal.{Refusal}
use Rattle.refusals.specs.Numbers.{number}
use Rattle.std.specs.Prelude.{drop, Float}
use Rattle.sound_lanes.specs.Lanes.{Lanes, rows, sized, is_time_step, laned, near}
use Rattle.numbers.specs.Lists.{all}
use Rattle.sound_state.specs.declared.StaticSound.{StaticSound}
use Rattle.sound_state.specs.Voices.{start_of_slice}
use Rattle.sound_state.specs.WellFormed.{well_formed_for}
use Rattle.sound_held.specs.declared.Held.{Held}
use Rattle.sound_held.specs.Held.{held_lanes}
use Rattle.sound_block.specs.declared.Signals.{Signals}
use Rattle.sound_state.specs.Refusals.{unless}
use Rattle.sound_slow_path.specs.declared.Processed.{Processed}
use Rattle.sound_slow_path.specs.Plays.{BlockAnswer, Outcome, accepted, accepted_with}
use Rattle.sound_block.specs.Blocks.{block}

-- the refusal of a block, 0 if it is accepted; `placed` says whether it fits into the output
unfoldable pub refused_block : ℕ → StaticSound → Float → Lanes → Bool → ℕ
refused_block len v dt b placed =
    unless (well_formed_for len v) 1
    (unless (sized b && placed) 9
    (unless (is_time_step dt) 10
    (unless (all laned (rows b)) 11
    (unless (all (near v.setup.sample_rate dt) (rows b)) 12 0))))

-- what a call that keeps the voice v answers: on a refusal its number and v itself, 0 steps, and 4 for the count
abbrev pub block_answer : StaticSound → Result Processed Refusal → BlockAnswer
block_answer v (Ok r) = accepted r
block_answer v (Err k) = record {
  refusal = number k;
  voice = v;
  steps = 0;
  lowest_count = 4;
}

-- the given state and samples, 0 steps, and 4 for the count
abbrev pub refused_with : ℕ → StaticSound → List Float → Outcome
refused_with k v out = record {
  answer = record { refusal = k; voice = v; steps = 0; lowest_count = 4 };
  samples = out;
}

-- the output's length is that of the block
abbrev pub holds : Lanes → List Float → Bool
holds b out = eqb (length out) (2 * length b.rate)

-- a block
unfoldable pub processed : List Float → StaticSound → Float → Lanes → Signals → List Float → Outcome
processed snd v dt b g out =
    let k = refused_block (length snd) v dt b (holds b out) in
    let p = block snd dt (rows b) g v in
    cond (eqb k 0) (accepted_with p p.samples) (refused_with k v out)

-- the mix has whole frames, and n of them from the given frame on
abbrev pub room : ℕ → ℕ → List Float → Bool
room from n mix = eqb (length mix % 2) 0 && leb (from + n) (length mix / 2)

-- the mix with a block's samples from the given frame on, every other sample unchanged
abbrev pub mixed : ℕ → ℕ → List Float → List Float → List Float
mixed from n mix samples = take (2 * from) mix ++ (samples ++ drop (2 * (from + n)) mix)

-- a block into a mix
unfoldable pub processed_into : List Float → StaticSound → Float → Lanes → Signals → List Float → ℕ → Outcome
processed_into snd v dt b g mix from =
    let n = length b.rate in
    let k = refused_block (length snd) v dt b (room from n mix) in
    let p = block snd dt (rows b) g v in
    cond (eqb k 0) (accepted_with p (mixed from n mix p.samples)) (refused_with k v mix)

-- a block whose numbers are given once: the block over lanes that repeat them, one frame for each two samples of the
-- output
abbrev pub processed_held : List Float → StaticSound → Float → Held → Signals → List Float → Outcome
processed_held snd v dt x g out = processed snd v dt (held_lanes x (length out / 2)) g out

-- n frames of it into a mix
abbrev pub processed_held_into : List Float → StaticSound → Float → Held → Signals → List Float → ℕ → ℕ → Outcome
processed_held_into snd v dt x g mix from n = processed_into snd v dt (held_lanes x n) g mix from

-- the stretch: samples 2 * start to 2 * end of the slice, or all of them
abbrev pub sliced : Option (ℕ × ℕ) → List Float → List Float
sliced None snd = snd
sliced (Some (s, e)) snd = take (2 * e - 2 * s) (drop (2 * s) snd)

-- the stretch; if refused, the empty part
unfoldable pub stretch_of : List Float → StaticSound → List Float
stretch_of snd v = cond (well_formed_for (length snd) v) (sliced v.setup.slice snd) []

-- where the stretch begins, in samples; if refused, at their start
unfoldable pub stretch_at : ℕ → StaticSound → ℕ
stretch_at len v = cond (well_formed_for len v) (2 * start_of_slice v.setup) 0

-- the address of sample n of the samples at p: a block of memory, and the offset in bytes
abbrev pub sample_at : ℕ × ℕ → ℕ → ℕ × ℕ
sample_at p n = (p.0, n * 4 + p.1)
