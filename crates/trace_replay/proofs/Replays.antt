-- The run after each kind of record, from the results of the calls.
use mathlib.Core.Path.{◌≡◌, refl, ap, ◌∙◌}
use Prim.Native.Nat.{ℕ, ◌≤◌}
use native.Mathlib.Omega.{arith}
use mathlib.Core.List.{List, []}
use lib.ListN.{length, get_or}
use lib.Ieee.{Float}
use borrow.Author.Tests.{eq-eqb, ne_eqb}
use Rattle.sound_state.specs.declared.StaticSound.{StaticSound}
use Rattle.sound_creation.specs.declared.Settings.{Settings}
use Rattle.sound_creation.specs.Creation.{Created, created}
use Rattle.sound_commands.specs.declared.Commands.{Commands}
use Rattle.sound_commands.specs.Commands.{CommandsAnswer, commanded}
use Rattle.sound_slow_path.specs.Plays.{BlockAnswer}
use Rattle.trace_inputs.specs.declared.Block.{Block}
use Rattle.trace_inputs.specs.Inputs.{samples_of, block_of}
use Rattle.trace_inputs.proofs.Samples.{at_most_le, all_samples}
use Rattle.trace_replay.specs.Runs.{Replay, more, answered, line_of, after_creation, after_commands, after_block, after}

abbrev pub replay : StaticSound → List Float → ℕ → Replay
replay v snd n = record { voice = v; sound = snd; blocks = n }

pub few_samples : (vs : List ℕ) → 77 ≤ length vs → length (samples_of vs) ≤ 128
few_samples vs h = omega (arith, all_samples vs h, at_most_le 64 (get_or vs 12 0))

pub few_frames : (vs : List ℕ) (b : Block) → b ≡ block_of vs → b.frames ≤ 1024
unfolding block_of
few_frames vs b e = omega (arith, ap (λ (x : Block). x.frames) e, at_most_le 1024 (get_or vs 0 0))

pub creation_replay : (v : Created) (x y : List Float) (s t : Settings) (n : ℕ) → v ≡ created x s → x ≡ y → s ≡ t → replay v.voice x n ≡ replay (created y t).voice y n
creation_replay v x y s t n p q r =
    ap (λ (z : Created). replay z.voice x n) p ∙ ap (λ (z : List Float). replay (created z s).voice z n) q ∙ ap (λ (z : Settings). replay (created y z).voice y n) r

pub command_replay : (w : CommandsAnswer) (x : List Float) (v : StaticSound) (s t : Commands) (n : ℕ) → w ≡ commanded x v s → s ≡ t → replay w.voice x n ≡ replay (commanded x v t).voice x n
command_replay w x v s t n p q = ap (λ (z : CommandsAnswer). replay z.voice x n) p ∙ ap (λ (z : Commands). replay (commanded x v z).voice x n) q

module _ (x : List Float) (v : StaticSound) (vs : List ℕ) (b : Block) (p : BlockAnswer) (k n : ℕ) (e : b ≡ block_of vs) (f : p ≡ answered x v b) (g : k ≡ more n) where
  is_answer : p ≡ answered x v (block_of vs)
  is_answer = f ∙ ap (answered x v) e

  pub block_replay : replay p.voice x k ≡ replay (answered x v (block_of vs)).voice x (more n)
  block_replay = ap (λ (z : BlockAnswer). replay z.voice x k) is_answer ∙ ap (replay (answered x v (block_of vs)).voice x) g

  pub block_line_lem : (t : List ℕ) → t ≡ line_of k b.frames p → t ≡ line_of (more n) (block_of vs).frames (answered x v (block_of vs))
  block_line_lem t h =
      h ∙ ap (λ (z : ℕ). line_of z b.frames p) g ∙ ap (λ (z : Block). line_of (more n) z.frames p) e ∙ ap (line_of (more n) (block_of vs).frames) is_answer

module _ (c : Replay) (k : ℕ) (vs : List ℕ) where
  pub of_creation : k ≡ 1 → after_creation c vs ≡ after c k vs
  unfolding after
  of_creation h = rw (eq-eqb k 1 h) refl

  pub of_commands : (k ≡ 1 → ⊥) → k ≡ 2 → after_commands c vs ≡ after c k vs
  unfolding after
  of_commands g h = rw (ne_eqb k 1 g, eq-eqb k 2 h) refl

  pub of_block : (k ≡ 1 → ⊥) → (k ≡ 2 → ⊥) → after_block c vs ≡ after c k vs
  unfolding after
  of_block g h = rw (ne_eqb k 1 g, ne_eqb k 2 h) refl
