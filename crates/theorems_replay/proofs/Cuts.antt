-- A traced block cut into two records: Cut (crates/theorems) over lanes that are constant.
use mathlib.Core.Path.{◌≡◌, refl, sym, ap, ◌∙◌}
use Prim.Native.Nat.{ℕ, zero, suc, ◌+◌, ◌-◌, ◌*◌, ◌≤◌}
use native.Mathlib.Omega.{arith}
use mathlib.Core.List.{List}
use lib.ListN.{take, drop, replicate, length-replicate}
use lib.Ieee.{Float}
use borrow.Author.Tests.{le-leb}
use Rattle.numbers.specs.Words.{positive_zero}
use Rattle.playback_state_manager.specs.States.{number}
use Rattle.sound_lanes.specs.Lanes.{Lanes, five, first_lanes, rest_lanes}
use Rattle.sound_state.specs.declared.StaticSound.{StaticSound}
use Rattle.sound_block.specs.declared.Signals.{Signals}
use Rattle.sound_block.specs.Blocks.{quiet}
use Rattle.sound_slow_path.specs.Plays.{BlockAnswer}
use Rattle.static_sound.specs.Entries.{processed}
use Rattle.trace_inputs.specs.declared.Block.{Block}
use Rattle.trace_inputs.specs.Inputs.{single, double, signals_of, block_of}
use Rattle.trace_lines.specs.Lines.{block_line}
use Rattle.trace_replay.specs.Runs.{Replay, more, answered, line_of, after}
use Rattle.trace_replay.proofs.Parts.{lane}
use Rattle.trace_replay.proofs.Answers.{line_played}
use Rattle.theorems.specs.Alike.{Parts}
use Rattle.theorems.proofs.Cut.{cut_blocks}
use Rattle.theorems_replay.specs.Cuts.{block_numbers, CutRecords}

none : {A : Type 0} → ⊥ → A
none e = elim e [ ]

first_of : (k m : ℕ) (x : Float) → take k (replicate (k + m) x) ≡ replicate k x
first_of k m x = lane k (k + m) x (replicate (k + m) x) refl (omega arith)

drops : (k n : ℕ) (x : Float) → k ≤ n → drop k (replicate n x) ≡ replicate (n - k) x
drops zero n x h = let e : n ≡ n - 0 = omega arith in ap (λ (z : ℕ). replicate z x) e
drops (suc k) zero x h = none (omega arith)
drops (suc k) (suc n) x h = let e : n - k ≡ suc n - suc k = omega arith in drops k n x (omega arith) ∙ ap (λ (z : ℕ). replicate z x) e

rest_of : (k m : ℕ) (x : Float) → drop k (replicate (k + m) x) ≡ replicate m x
rest_of k m x = let e : k + m - k ≡ m = omega arith in drops k (k + m) x (omega arith) ∙ ap (λ (z : ℕ). replicate z x) e

abbrev lanes : ℕ → Float → Float → Float → Float → Float → Lanes
lanes n a v l r p = five (replicate n a) (replicate n v) (replicate n l) (replicate n r) (replicate n p)

first_lanes_lem : (k m : ℕ) (a v l r p : Float) → first_lanes k (lanes (k + m) a v l r p) ≡ lanes k a v l r p
first_lanes_lem k m a v l r p = rw (first_of k m a, first_of k m v, first_of k m l, first_of k m r, first_of k m p) refl

rest_lanes_lem : (k m : ℕ) (a v l r p : Float) → rest_lanes k (lanes (k + m) a v l r p) ≡ lanes m a v l r p
rest_lanes_lem k m a v l r p = rw (rest_of k m a, rest_of k m v, rest_of k m l, rest_of k m r, rest_of k m p) refl

first_out : (k m : ℕ) → take (2 * k) (replicate (2 * (k + m)) positive_zero) ≡ replicate (2 * k) positive_zero
first_out k m = lane (2 * k) (2 * (k + m)) positive_zero (replicate (2 * (k + m)) positive_zero) refl (omega arith)

rest_out : (k m : ℕ) → drop (2 * k) (replicate (2 * (k + m)) positive_zero) ≡ replicate (2 * m) positive_zero
rest_out k m = let e : 2 * (k + m) - 2 * k ≡ 2 * m = omega arith in drops (2 * k) (2 * (k + m)) positive_zero (omega arith) ∙ ap (λ (z : ℕ). replicate z positive_zero) e

-- the parts of the answers, whatever the parts' lanes and outputs are called
parts_of : (snd : List Float) (v : StaticSound) (dt : Float) (g : Signals) (x : BlockAnswer) (b1 b2 c1 c2 : Lanes) (o1 o2 p1 p2 : List Float) → b1 ≡ c1 → o1 ≡ p1 → b2 ≡ c2 → o2 ≡ p2
    → Parts x (processed snd v dt b1 g o1).answer (processed snd (processed snd v dt b1 g o1).answer.voice dt b2 (quiet g) o2).answer
    → Parts x (processed snd v dt c1 g p1).answer (processed snd (processed snd v dt c1 g p1).answer.voice dt c2 (quiet g) p2).answer
parts_of snd v dt g x b1 b2 c1 c2 o1 o2 p1 p2 e1 e2 e3 e4 h = rw (← e1, ← e2, ← e3, ← e4) h

-- a block of constant lanes
abbrev traced : ℕ → ℕ → ℕ → ℕ → ℕ → ℕ → ℕ → Signals → Block
traced n a v l r p t g = record { frames = n; fade = single a; volume = single v; left = single l; right = single r; rate = double p; time_step = double t; signals = g }

cut_answered : (snd : List Float) (w : StaticSound) (k m a v l r p t : ℕ) (g : Signals) → (answered snd w (traced (k + m) a v l r p t g)).refusal ≡ 0
    → Parts (answered snd w (traced (k + m) a v l r p t g)) (answered snd w (traced k a v l r p t g)) (answered snd (answered snd w (traced k a v l r p t g)).voice (traced m a v l r p t (quiet g)))
unfolding answered
cut_answered snd w k m a v l r p t g h =
    let n = k + m in
    let b = lanes n (single a) (single v) (single l) (single r) (double p) in
    let out = replicate (2 * n) positive_zero in
    let c = cut_blocks snd w (double t) b g out k (record { accepted = h; inside = omega (arith, length-replicate n (double p)) }) in
    parts_of snd w (double t) g (processed snd w (double t) b g out).answer (first_lanes k b) (rest_lanes k b) (lanes k (single a) (single v) (single l) (single r) (double p)) (lanes m (single a) (single v) (single l) (single r) (double p)) (take (2 * k) out) (drop (2 * k) out) (replicate (2 * k) positive_zero) (replicate (2 * m) positive_zero)
    (first_lanes_lem k m (single a) (single v) (single l) (single r) (double p)) (first_out k m) (rest_lanes_lem k m (single a) (single v) (single l) (single r) (double p)) (rest_out k m) c.answers

block_is : (n a v l r p t f s u : ℕ) → n ≤ 1024 → block_of (block_numbers n a v l r p t f s u) ≡ traced n a v l r p t (signals_of f s u)
unfolding block_of
block_is n a v l r p t f s u h = rw (le-leb n 1024 h) refl

accepted_line : (i n : ℕ) (x : BlockAnswer) → x.refusal ≡ 0 → line_of i n x ≡ block_line i n x.steps (number x.voice.moving.state) x.voice.moving.transport.position
accepted_line i n x e = sym (line_played i n x (number x.voice.moving.state) (block_line i n x.steps (number x.voice.moving.state) x.voice.moving.transport.position) e refl refl)

-- the line of a block record whose block is known
line_of_lem : (c : Replay) (vs : List ℕ) (b : Block) → block_of vs ≡ b → (answered c.sound c.voice b).refusal ≡ 0
    → (after c 3 vs).line ≡ block_line (more c.blocks) b.frames (answered c.sound c.voice b).steps (number (answered c.sound c.voice b).voice.moving.state) (answered c.sound c.voice b).voice.moving.transport.position
unfolding after
line_of_lem c vs b q e =
    ap (λ (z : Block). line_of (more c.blocks) z.frames (answered c.sound c.voice z)) q
    ∙ accepted_line (more c.blocks) b.frames (answered c.sound c.voice b) e

abbrev replay : StaticSound → List Float → ℕ → Replay
replay v snd n = record { voice = v; sound = snd; blocks = n }

replay_of_lem : (c : Replay) (vs : List ℕ) (b : Block) → block_of vs ≡ b → (after c 3 vs).replay ≡ replay (answered c.sound c.voice b).voice c.sound (more c.blocks)
unfolding after
replay_of_lem c vs b q = ap (λ (z : Block). replay (answered c.sound c.voice z).voice c.sound (more c.blocks)) q

pub cut_records : CutRecords
cut_records c k m a v l r p t f s u i =
    let h = i.few in
    let g = signals_of f s u in
    let snd = c.sound in
    let w = c.voice in
    let b = traced (k + m) a v l r p t g in
    let b1 = traced k a v l r p t g in
    let b2 = traced m a v l r p t (quiet g) in
    let qa = block_is (k + m) a v l r p t f s u h in
    let q1 = block_is k a v l r p t f s u (omega arith) in
    let q2 : block_of (block_numbers m a v l r p t 0 0 0) ≡ b2 = block_is m a v l r p t 0 0 0 (omega arith) in
    let x = answered snd w b in
    let x1 = answered snd w b1 in
    let x2 = answered snd x1.voice b2 in
    let z : x.refusal ≡ 0 = sym (ap (λ (y : Block). (answered snd w y).refusal) qa) ∙ i.accepted in
    let y = cut_answered snd w k m a v l r p t g z in
    let d = replay x1.voice snd (more c.blocks) in
    let n2 = block_numbers m a v l r p t 0 0 0 in
    record {
      all = x.steps;
      early = x1.steps;
      late = x2.steps;
      state = number x2.voice.moving.state;
      position = x2.voice.moving.transport.position;
      state_between = number x1.voice.moving.state;
      position_between = x1.voice.moving.transport.position;
      of_all = line_of_lem c (block_numbers (k + m) a v l r p t f s u) b qa z
          ∙ ap (λ (o : StaticSound). block_line (more c.blocks) (k + m) x.steps (number o.moving.state) o.moving.transport.position) y.alike;
      of_first = line_of_lem c (block_numbers k a v l r p t f s u) b1 q1 y.accepted.0;
      of_rest = ap (λ (o : Replay). (after o 3 n2).line) (replay_of_lem c (block_numbers k a v l r p t f s u) b1 q1) ∙ line_of_lem d n2 b2 q2 y.accepted.1;
      sum = λ o. (y.same o).1;
    }
