-- The results of the code's parts: a block's result, a block's line.
use mathlib.Core.Path.{◌≡◌, sym, ap, ◌∙◌}
use Prim.Native.Nat.{ℕ, ◌*◌, ◌/◌}
use native.Mathlib.Omega.{arith}
use mathlib.Core.Bool.{Bool, cond}
use mathlib.Core.List.{List}
use lib.Dec.{eqb}
use lib.ListN.{replicate, length-replicate}
use lib.Ieee.{Float}
use borrow.Author.Tests.{ne_eqb}
use Rattle.numbers.specs.Words.{positive_zero}
use Rattle.playback_state_manager.specs.States.{number}
use Rattle.sound_held.specs.declared.Held.{Held}
use Rattle.sound_held.specs.Held.{held_lanes}
use Rattle.sound_state.specs.declared.StaticSound.{StaticSound}
use Rattle.sound_slow_path.specs.Plays.{BlockAnswer, Outcome}
use Rattle.static_sound.specs.Entries.{processed, processed_held}
use Rattle.trace_inputs.specs.declared.Block.{Block}
use Rattle.trace_inputs.specs.Inputs.{held_of}
use Rattle.trace_lines.specs.Lines.{block_line, refused_block_line}
use Rattle.trace_replay.specs.Runs.{answered, line_of}

half : (n : ℕ) → 2 * n / 2 ≡ n
half n = omega arith

pub answer_is : (snd : List Float) (v : StaticSound) (b : Block) (h : Held) (out : List Float) (o : Outcome)
    → h ≡ held_of b → out ≡ replicate (2 * b.frames) positive_zero → o ≡ processed_held snd v b.time_step h b.signals out → o.answer ≡ answered snd v b
unfolding answered
answer_is snd v b h out o f e q =
    let zeros = replicate (2 * b.frames) positive_zero in
    ap (λ (x : Outcome). x.answer) q
    ∙ ap (λ (k : Held). (processed_held snd v b.time_step k b.signals out).answer) f
    ∙ ap (λ (z : List Float). (processed_held snd v b.time_step (held_of b) b.signals z).answer) e
    ∙ ap (λ (n : ℕ). (processed snd v b.time_step (held_lanes (held_of b) n) b.signals zeros).answer) (ap (λ (n : ℕ). n / 2) (length-replicate (2 * b.frames) positive_zero) ∙ half b.frames)

module _ (k n : ℕ) (p : BlockAnswer) where
  pub line_played : (s : ℕ) (t : List ℕ) → p.refusal ≡ 0 → s ≡ number p.voice.moving.state → t ≡ block_line k n p.steps s p.voice.moving.transport.position → t ≡ line_of k n p
  unfolding line_of
  line_played s t e q h =
      h ∙ ap (λ (z : ℕ). block_line k n p.steps z p.voice.moving.transport.position) q
      ∙ sym (ap (λ (z : ℕ). cond (eqb z 0) (block_line k n p.steps (number p.voice.moving.state) p.voice.moving.transport.position) (refused_block_line k p.refusal)) e)

  pub line_refused : (t : List ℕ) → (p.refusal ≡ 0 → ⊥) → t ≡ refused_block_line k p.refusal → t ≡ line_of k n p
  unfolding line_of
  line_refused t e h =
      h ∙ sym (ap (λ (b : Bool). cond b (block_line k n p.steps (number p.voice.moving.state) p.voice.moving.transport.position) (refused_block_line k p.refusal)) (ne_eqb p.refusal 0 e))
