-- Any two outcomes that a contract allows coincide: each contract names its outcome, and a length that is not named follows from the part it measures. Assumes nothing.
use mathlib.Core.Path.{◌≡◌, refl, sym, ap, ◌∙◌}
use Rattle.std.specs.Prelude.{Option, Some, None, unwrap_or, is_none}
use Prim.Native.Nat.{ℕ, ◌-◌, ◌≤◌}
use native.Mathlib.Omega.{arith}
use mathlib.Core.List.{List, []}
use lib.ListN.{length, take}
use lib.Seq.{length-take-le}
use lib.Ieee.{Float}
use Rattle.sound_state.specs.declared.StaticSound.{StaticSound}
use Rattle.trace_replay.specs.declared.Run.{Run}
use Rattle.trace_replay.specs.declared.PlayedRecord.{PlayedRecord}
use Rattle.trace_replay.specs.declared.Advanced.{Advanced}
use Rattle.trace_replay.specs.Runs.{Replay, Step, blank, replay_of, advanced_of}
use Rattle.theorems_replay.specs.Coincide.{InUse, Coincide}

same : {A : Type 0} {x y z : A} → x ≡ z → y ≡ z → x ≡ y
same p q = p ∙ sym q

-- the length of a part is the number of its elements
as_long : {A : Type 0} (m n : ℕ) (x y : List A) → take m x ≡ take n y → m ≤ length x → n ≤ length y → m ≡ n
as_long m n x y e h k = sym (length-take-le m x h) ∙ ap length e ∙ length-take-le n y k

-- runs with the same replay, each with its samples within the sound
runs_same : (r u : Run) (x y : List Float) → replay_of r x ≡ replay_of u y → r.samples ≤ length x → u.samples ≤ length y → r ≡ u
runs_same r u x y e h k =
    let s = as_long r.samples u.samples x y (ap (λ (c : Replay). c.sound) e) h k in
    ap (λ (v : StaticSound). record { voice = v; samples = r.samples; blocks = r.blocks }) (ap (λ (c : Replay). c.voice) e)
    ∙ ap (λ (n : ℕ). record { voice = u.voice; samples = n; blocks = r.blocks }) s
    ∙ ap (λ (n : ℕ). record { voice = u.voice; samples = u.samples; blocks = n }) (ap (λ (c : Replay). c.blocks) e)

begun_same : (r u : Run) → (replay_of r [] ≡ blank) × (r.samples ≡ 0) → (replay_of u [] ≡ blank) × (u.samples ≡ 0) → r ≡ u
begun_same r u p q = runs_same r u [] [] (same p.0 q.0) (omega (arith, p.1)) (omega (arith, q.1))

turned_same : (r u : PlayedRecord) (x y : List Float) (l m : List ℕ)
    → replay_of r.run x ≡ replay_of u.run y → take r.written l ≡ take u.written m
    → r.run.samples ≤ length x → u.run.samples ≤ length y → r.written ≤ length l → u.written ≤ length m
    → (r ≡ u) × (◌≡◌ {A = InUse} (take r.run.samples x, take r.written l) (take u.run.samples y, take u.written m))
turned_same r u x y l m e f h k i j = (
  ap (λ (z : Run). record { run = z; written = r.written }) (runs_same r.run u.run x y e h k)
      ∙ ap (λ (n : ℕ). record { run = u.run; written = n }) (as_long r.written u.written l m f i j),
  ap (λ (z : List Float). (z, take r.written l)) (ap (λ (c : Replay). c.sound) e) ∙ ap (λ (z : List ℕ). (take u.run.samples y, z)) f,
)

-- the same offset, or none
next_same : (at : ℕ) (m n : Option ℕ) → is_none m ≡ is_none n → unwrap_or m at ≡ unwrap_or n at → m ≡ n
next_same at None None e f = refl
next_same at None (Some n) e f = cc
next_same at (Some m) None e f = cc
next_same at (Some m) (Some n) e f = ap Some f

advanced_same : (r u : Advanced) (at : ℕ) (x y : List Float) (l m : List ℕ)
    → advanced_of r at x l ≡ advanced_of u at y m
    → r.run.samples ≤ length x → u.run.samples ≤ length y → r.written ≤ length l → u.written ≤ length m → at ≤ unwrap_or r.next at → at ≤ unwrap_or u.next at
    → (r ≡ u) × (◌≡◌ {A = InUse} (take r.run.samples x, take r.written l) (take u.run.samples y, take u.written m))
advanced_same r u at x y l m e h k i j a b =
    let c : replay_of r.run x ≡ replay_of u.run y = ap (λ (z : Step). z.replay) e in
    let f : take r.written l ≡ take u.written m = ap (λ (z : Step). z.line) e in
    let d : unwrap_or r.next at - at ≡ unwrap_or u.next at - at = ap (λ (z : Step). z.size) e in
    let n : r.next ≡ u.next = next_same at r.next u.next (ap (λ (z : Step). z.over) e) (omega (arith, d, a, b)) in (
      ap (λ (z : Run). record { run = z; next = r.next; written = r.written }) (runs_same r.run u.run x y c h k)
          ∙ ap (λ (z : Option ℕ). record { run = u.run; next = z; written = r.written }) n
          ∙ ap (λ (z : ℕ). record { run = u.run; next = u.next; written = z }) (as_long r.written u.written l m f i j),
      ap (λ (z : List Float). (z, take r.written l)) (ap (λ (z : Replay). z.sound) c) ∙ ap (λ (z : List ℕ). (take u.run.samples y, z)) f,
    )

pub coincide : Coincide
coincide =
    record {
      float_bits_digit_value = λ k a x y s t p q. same p q;
      float_bits_f64_of = λ k a x y s t p q. same p q;
      float_bits_f32_of = λ k a x y s t p q. same p q;
      float_bits_bits_of_f64 = λ k a x y s t p q. same p q;
      float_bits_bits_of_f32 = λ k a x y s t p q. same p q;
      trace_inputs_settings_of = λ k a x y s t p q. same p q;
      trace_inputs_put_samples = λ k a x y s t p q. (same p.1 q.1, same p.0 q.0);
      trace_inputs_commands_of = λ k a x y s t p q. same p q;
      trace_inputs_block_of = λ k a x y s t p q. same p q;
      trace_inputs_held_from = λ k a x y s t p q. same p q;
      trace_inputs_given_samples_of = λ k a x y s t p q. same p q;
      trace_inputs_laned_block_of = λ k a x y s t p q. same p q;
      trace_inputs_singles_of = λ k a x y s t p q. same p q;
      trace_inputs_doubles_of = λ k a x y s t p q. same p q;
      trace_lines_put_block = λ k a x y s t p q. (same p.1 q.1, same p.0 q.0);
      trace_lines_put_refused_block = λ k a x y s t p q. (same p.1 q.1, same p.0 q.0);
      trace_lines_put_refused = λ k a x y s t p q. (same p.1 q.1, same p.0 q.0);
      trace_replay_begin = λ k a x y s t p q. begun_same x y p q;
      trace_replay_play_record = λ k a x y s t p q. turned_same x y _ _ _ _ (same p.0 q.0) (same p.1 q.1) p.2 q.2 p.3 q.3;
      trace_replay_advance = λ k a x y s t p q. advanced_same x y _ _ _ _ _ (same p.0 q.0) p.2 q.2 p.3 q.3 p.4 q.4;
    }
