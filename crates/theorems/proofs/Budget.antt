-- How much work a block may cost: a proper fraction and an advance of at most k sum up to less than k + 2 whole steps. By induction on the lanes, and on the blocks of a stream.
-- Assumes nothing.
use mathlib.Core.Path.{◌≡◌, refl, sym, ap, ◌∙◌, subst}
use Prim.Native.Nat.{ℕ, suc, ◌+◌, ◌-◌, ◌*◌, ◌≤◌}
use native.Mathlib.Omega.{arith}
use mathlib.Core.Bool.{Bool, true, false, true≢false, cond}
use mathlib.Core.List.{List, [], ◌∷◌}
use lib.Dec.{T, leb, eqb, le→leb, eqb→eq}
use lib.ListN.{length, take, drop, length-drop}
use lib.Seq.{length-take-le}
use lib.Ieee.{Float, binary64, lt, add}
use lib.Ieee.Fits.{and_i, and_l, and_r}
use Rattle.numbers.specs.Words.{positive_zero, whole, advance}
use Rattle.numbers.specs.Lists.{all}
use Rattle.numbers.proofs.Fractions.{advance_finite_clear, sum_steps}
use Rattle.sound_lanes.specs.Lanes.{Lane, Lanes, rows, near, first_lanes, rest_lanes}
use Rattle.sound_lanes.proofs.Rows.{beside_length}
use Rattle.sound_state.specs.declared.Setup.{Setup}
use Rattle.sound_state.specs.declared.StaticSound.{StaticSound}
use Rattle.sound_state.specs.WellFormed.{WellFormed}
use Rattle.sound_state.proofs.WellFormed.{well_formed_for_parts}
use Rattle.sound_block.specs.declared.Signals.{Signals}
use Rattle.sound_slow_path.specs.Plays.{total, after_frame, plays, Outcome, accepted_with}
use Rattle.sound_block.specs.Blocks.{begun, live, block, quiet}
use Rattle.static_sound.specs.Entries.{holds, room, mixed, processed}
use Rattle.sound_block.proofs.Blocks.{block_live, block_silent, block_setup}
use Rattle.sound_block.proofs.Keeps.{begun_well_formed}
use Rattle.sound_slow_path.proofs.Keeps.{turned_well_formed}
use Rattle.static_sound.proofs.Refusals.{Accepted, accepted_parts}
use Rattle.static_sound.proofs.Entries.{time_step_above, processed_passed, processed_done, into_passed, into_done}
use Rattle.theorems.specs.Sums.{sum}
use Rattle.theorems.specs.Steps.{steps_of}
use Rattle.theorems.specs.Schedules.{played_by}
use Rattle.theorems.specs.Budget.{at_most, Slow, Within, BlockBudget, MixBudget, StreamBudget, TwoSteps}
use Rattle.theorems.proofs.Cut.{first_all, rest_all}
use Rattle.theorems.proofs.Steps.{plays_sum}

abbrev few : ℕ → ℕ → Bool
few k n = leb n (k + 1)

module _ (k : ℕ) (small : k ≤ 256) (snd : List Float) (dt : Float) (t : T (lt positive_zero dt)) where
  -- one frame
  frame_few : (v : StaticSound) (l : Lane) → WellFormed v → T (near v.setup.sample_rate dt l) → T (at_most k v.setup.sample_rate dt l) → whole (total dt v l) ≤ k + 1
  unfolding total
  frame_few v l h n s =
      let a = advance v.setup.sample_rate l.rate dt in
      more (whole (add binary64 v.fractional_position a)) (sum_steps v.fractional_position a k small h.fraction (advance_finite_clear v.setup.sample_rate l.rate dt t n) s)
    where
      more : (w : ℕ) → w ≤ suc k → w ≤ k + 1
      more w h = omega arith

  -- the steps of a sequence of frames, for each and in total
  pub record Frames (ls : List Lane) (v : StaticSound) : Type 0 where
    pub each : T (all (few k) (steps_of snd dt ls v))
    pub sum : (plays snd dt ls v).steps ≤ length ls * (k + 1)

  frames_few : (ls : List Lane) (v : StaticSound) → WellFormed v → T (all (near v.setup.sample_rate dt) ls) → T (all (at_most k v.setup.sample_rate dt) ls) → Frames ls v
  unfolding steps_of plays after_frame
  frames_few [] v h n s = record { each = tt; sum = omega arith }
  frames_few (l ∷ ls) v h n s =
      let a = near v.setup.sample_rate dt l in
      let b = all (near v.setup.sample_rate dt) ls in
      let c = at_most k v.setup.sample_rate dt l in
      let d = all (at_most k v.setup.sample_rate dt) ls in
      let u = after_frame snd dt v l in
      let w = frame_few v l h (and_l a b n) (and_l c d s) in
      let r = frames_few ls u (turned_well_formed snd dt t v l (and_l a b n) h) (and_r a b n) (and_r c d s) in
      record {
        each = and_i (few k (whole (total dt v l))) (all (few k) (steps_of snd dt ls u)) (le→leb (whole (total dt v l)) (k + 1) w) r.each;
        sum = join (whole (total dt v l)) (plays snd dt ls u).steps (length ls) (k + 1) w r.sum;
      }
    where
      join : (w r n m : ℕ) → w ≤ m → r ≤ n * m → w + r ≤ suc n * m
      join w r n m h q = omega arith

-- ---- the entries

module _ (k : ℕ) (small : k ≤ 256) (snd : List Float) (v : StaticSound) (dt : Float) (b : Lanes) (g : Signals) where
  -- an accepted block, wherever its samples are written
  block_within : (placed : Bool) (out : List Float) → Accepted (length snd) v dt b placed → Slow k v dt b
      → Within k snd v dt b g (accepted_with (block snd dt (rows b) g v) out).answer
  unfolding begun
  block_within placed out p s = go (live (begun g v)) refl
    where
      f : Frames k small snd dt (time_step_above dt p.is_time_step) (rows b) (begun g v)
      f = frames_few k small snd dt (time_step_above dt p.is_time_step) (rows b) (begun g v) (begun_well_formed g v (well_formed_for_parts (length snd) v p.well_formed_for).0) p.near s

      sized : length (rows b) ≡ length b.rate
      sized = beside_length b.fade b.volume b.left b.right b.rate

      go : (c : Bool) → live (begun g v) ≡ c → Within k snd v dt b g (accepted_with (block snd dt (rows b) g v) out).answer
      go true e =
          rw (block_live snd dt (rows b) g v e)
          (record {
            reported = plays_sum snd dt (rows b) (begun g v) ∙ sym (ap (λ (c : Bool). cond c (sum (steps_of snd dt (rows b) (begun g v))) 0) e);
            block = subst (λ (n : ℕ). (plays snd dt (rows b) (begun g v)).steps ≤ n * (k + 1)) sized f.sum;
            frames = f.each;
            silent = λ q. absurd (true≢false (sym e ∙ q));
          })
      go false e = rw (block_silent snd dt (rows b) g v e) (record { reported = sym (ap (λ (c : Bool). cond c (sum (steps_of snd dt (rows b) (begun g v))) 0) e); block = omega arith; frames = f.each; silent = λ q. refl })

pub block_budget : BlockBudget
block_budget k snd v dt b g out x =
    let r = processed_passed snd v dt b g out x.accepted in
    rw (processed_done snd v dt b g out r)
    (block_within k x.small snd v dt b g (holds b out) (block snd dt (rows b) g v).samples (accepted_parts (length snd) v dt b (holds b out) r) x.slow)

pub mix_budget : MixBudget
mix_budget k snd v dt b g mix from x =
    let n = length b.rate in
    let r = into_passed snd v dt b g mix from x.accepted in
    rw (into_done snd v dt b g mix from r)
    (block_within k x.small snd v dt b g (room from n mix) (mixed from n mix (block snd dt (rows b) g v).samples) (accepted_parts (length snd) v dt b (room from n mix) r) x.slow)

-- ---- a stream

module _ (k : ℕ) (small : k ≤ 256) (snd : List Float) (dt : Float) where
  -- the first block of a stream
  first_few : (b : Lanes) (g : Signals) (v : StaticSound) (j : ℕ) (out : List Float) → j ≤ length b.rate → Slow k v dt b
      → T (eqb (processed snd v dt (first_lanes j b) g (take (2 * j) out)).answer.refusal 0)
      → (processed snd v dt (first_lanes j b) g (take (2 * j) out)).answer.steps ≤ j * (k + 1)
  first_few b g v j out q s h =
      let o = processed snd v dt (first_lanes j b) g (take (2 * j) out) in
      let w = block_budget k snd v dt (first_lanes j b) g (take (2 * j) out)
      (record { accepted = eqb→eq o.answer.refusal 0 h; small = small; slow = first_all (at_most k v.setup.sample_rate dt) j b s })
      in
      subst (λ (n : ℕ). o.answer.steps ≤ n * (k + 1)) (length-take-le j b.rate q) w.block

  -- a block does not change the setup
  setup_kept : (b : Lanes) (g : Signals) (v : StaticSound) (out : List Float) → T (eqb (processed snd v dt b g out).answer.refusal 0)
      → (processed snd v dt b g out).answer.voice.setup ≡ v.setup
  setup_kept b g v out h =
      ap (λ (o : Outcome). o.answer.voice.setup) (processed_done snd v dt b g out (processed_passed snd v dt b g out (eqb→eq (processed snd v dt b g out).answer.refusal 0 h)))
      ∙ block_setup snd dt (rows b) g v

  stream_few : (b : Lanes) (g : Signals) (v : StaticSound) (j : ℕ) (js : List ℕ) (out : List Float) → j + sum js ≡ length b.rate
      → T (played_by snd dt j js b g v out).accepted → Slow k v dt b → (played_by snd dt j js b g v out).steps ≤ length b.rate * (k + 1)
  unfolding played_by
  stream_few b g v j [] out e h s =
      subst (λ (n : ℕ). (processed snd v dt (first_lanes j b) g (take (2 * j) out)).answer.steps ≤ n * (k + 1)) (whole_of j (length b.rate) e)
      (first_few b g v j out (omega arith) s h)
    where
      whole_of : (j n : ℕ) → j + 0 ≡ n → j ≡ n
      whole_of j n e = omega arith
  stream_few b g v j (i ∷ is) out e h s =
      let o = processed snd v dt (first_lanes j b) g (take (2 * j) out) in
      let r = played_by snd dt i is (rest_lanes j b) (quiet g) o.answer.voice (drop (2 * j) out) in
      let first = and_l (eqb o.answer.refusal 0) r.accepted h in
      let slow : Slow k o.answer.voice dt (rest_lanes j b) =
      subst (λ (x : Setup). T (all (at_most k x.sample_rate dt) (rows (rest_lanes j b)))) (sym (setup_kept (first_lanes j b) g v (take (2 * j) out) first))
      (rest_all (at_most k v.setup.sample_rate dt) j b s)
      in
      join o.answer.steps r.steps j (sum is) (length b.rate) (length (drop j b.rate)) e (length-drop j b.rate)
      (first_few b g v j out (omega arith) s first)
      (stream_few (rest_lanes j b) (quiet g) o.answer.voice i is (drop (2 * j) out) (left (length b.rate) (sum is) e ∙ sym (length-drop j b.rate)) (and_r (eqb o.answer.refusal 0) r.accepted h) slow)
    where
      left : (n m : ℕ) → j + (i + m) ≡ n → i + m ≡ n - j
      left n m e = omega arith

      join : (a c j m n d : ℕ) → j + (i + m) ≡ n → d ≡ n - j → a ≤ j * (k + 1) → c ≤ d * (k + 1) → a + c ≤ n * (k + 1)
      join a c j m n d e f p q = both a c j d n (k + 1) (omega arith) p q
        where
          both : (a c j d n w : ℕ) → n ≡ j + d → a ≤ j * w → c ≤ d * w → a + c ≤ n * w
          both a c j d n w e p q = rw e (omega arith)

pub stream_budget : StreamBudget
stream_budget k snd dt b g v j js out x = stream_few k x.small snd dt b g v j js out x.way.all_of_it x.way.accepted x.slow

-- ---- the bound is reached: 1 - 2 ^ -53 and an advance of 1 make two steps

pub two_steps : TwoSteps
unfolding whole add
two_steps = refl
