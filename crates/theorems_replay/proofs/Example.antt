-- The rules' three-frame example: its two records read, then played. Assumes nothing.
use mathlib.Core.Path.{◌≡◌, refl, ap, ◌∙◌}
use Prim.Native.Nat.{ℕ, suc, ◌-◌}
use mathlib.Core.Bool.{false, cond}
use mathlib.Core.List.{List, [], ◌∷◌, ◌++◌, append-nil}
use lib.ListN.{length, drop}
use native.Mathlib.Omega.{arith}
use Rattle.byte_layout.specs.Numbers.{num}
use Rattle.byte_layout.specs.Rows.{stands, within}
use Rattle.byte_layout.specs.Reads.{taken, step, steps}
use Rattle.trace_records.specs.Tables.{head_rows, creation_rows, frame_rows, block_rows}
use Rattle.trace_records.specs.Records.{Record, possible, ended, bodied, read_record, valued, record_at}
use Rattle.trace_inputs.specs.Inputs.{settings_of, samples_of, block_of}
use Rattle.sound_creation.specs.Creation.{created}
use Rattle.sound_slow_path.specs.Plays.{BlockAnswer}
use Rattle.trace_replay.specs.Runs.{Replay, Step, blank, more, answered, line_of, after, judged, step_of, printed}
use Rattle.theorems_replay.specs.Example.{bytes_of_three_frames, ThreeFrames}
use Rattle.theorems_replay.proofs.Streams.{run_on}
use Rattle.theorems_replay.proofs.Played.{creation_numbers, six_numbers, played}

-- a record that is read
abbrev pub read : ℕ → ℕ → List ℕ → Record
read k n vs = record { refusal = 0; kind = k; next = n; values = vs }

pub creation_read : record_at bytes_of_three_frames 0 ≡ read 1 55 creation_numbers
unfolding record_at valued read_record bodied ended possible steps step taken stands within num head_rows creation_rows frame_rows
creation_read = refl

pub six_read : record_at (165 ∷ drop 56 bytes_of_three_frames) 0 ≡ read 3 42 six_numbers
unfolding record_at valued read_record bodied ended possible steps step taken stands within num head_rows block_rows
six_read = refl

-- a step's line, and what is printed after it
abbrev onward : ℕ → List ℕ → Step → List ℕ
onward at rest s = s.line ++ cond s.over [] (printed s.replay at (s.size - 1) rest)

from_record : (c : Replay) (at b : ℕ) (bs : List ℕ) (r : Record) → record_at (b ∷ bs) 0 ≡ r → printed c at 0 (b ∷ bs) ≡ onward (suc at) bs (judged c at r)
unfolding printed step_of
from_record c at b bs r e = ap (λ (x : Record). onward (suc at) bs (judged c at x)) e

abbrev passing : Replay → List ℕ → ℕ → Step
passing c l n = record { replay = c; line = l; size = n; over = false }

abbrev made : List ℕ → Replay
made vs = record { voice = (created (samples_of vs) (settings_of vs)).voice; sound = samples_of vs; blocks = 0 }

creation_made : (vs : List ℕ) (n : ℕ) → judged blank 0 (read 1 n vs) ≡ passing (made vs) [] n
unfolding judged after
creation_made vs n = refl

abbrev answer : Replay → List ℕ → BlockAnswer
answer c vs = answered c.sound c.voice (block_of vs)

abbrev heard : Replay → List ℕ → Replay
heard c vs = record { voice = (answer c vs).voice; sound = c.sound; blocks = more c.blocks }

block_heard : (c : Replay) (at : ℕ) (vs : List ℕ) (n : ℕ) → judged c at (read 3 n vs) ≡ passing (heard c vs) (line_of (more c.blocks) (block_of vs).frames (answer c vs)) n
unfolding judged after
block_heard c at vs n = refl

-- the bytes of a record are skipped
to_the_block : (c : Replay) → printed c 1 54 (drop 1 bytes_of_three_frames) ≡ printed c 55 0 (165 ∷ drop 56 bytes_of_three_frames)
to_the_block c = let l : length (drop 1 bytes_of_three_frames) ≡ 96 = refl in run_on c 1 (drop 1 bytes_of_three_frames) 54 (omega (arith, l))

to_the_end : (c : Replay) → printed c 56 41 (drop 56 bytes_of_three_frames) ≡ []
unfolding printed
to_the_end c = refl

six_frames : (block_of six_numbers).frames ≡ 6
unfolding block_of
six_frames = refl

-- for any replay whose first block it is
of_block : (c : Replay) → c.blocks ≡ 0 → printed c 55 0 (165 ∷ drop 56 bytes_of_three_frames) ≡ line_of 1 6 (answer c six_numbers)
of_block c e =
    from_record c 55 165 (drop 56 bytes_of_three_frames) (read 3 42 six_numbers) six_read
    ∙ ap (onward 56 (drop 56 bytes_of_three_frames)) (block_heard c 55 six_numbers 42)
    ∙ ap (λ (l : List ℕ). line_of (more c.blocks) (block_of six_numbers).frames (answer c six_numbers) ++ l) (to_the_end (heard c six_numbers))
    ∙ append-nil (line_of (more c.blocks) (block_of six_numbers).frames (answer c six_numbers))
    ∙ ap (λ (n : ℕ). line_of (more n) (block_of six_numbers).frames (answer c six_numbers)) e
    ∙ ap (λ (n : ℕ). line_of 1 n (answer c six_numbers)) six_frames

of_creation : (vs : List ℕ) → record_at bytes_of_three_frames 0 ≡ read 1 55 vs → printed blank 0 0 bytes_of_three_frames ≡ line_of 1 6 (answer (made vs) six_numbers)
of_creation vs e =
    from_record blank 0 165 (drop 1 bytes_of_three_frames) (read 1 55 vs) e
    ∙ ap (onward 1 (drop 1 bytes_of_three_frames)) (creation_made vs 55)
    ∙ to_the_block (made vs)
    ∙ of_block (made vs) refl

pub three_frames : ThreeFrames
three_frames = of_creation creation_numbers creation_read ∙ played
