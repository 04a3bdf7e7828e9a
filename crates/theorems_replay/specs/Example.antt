-- The rules' three-frame example as a trace (docs/formats/TRACE.md): a creation of the frames 1, 2, 3 at 1 Hz, then a
-- block of six frames. All that is printed is `block=1 frames=6 steps=6 state=6 position=3`.
use Rattle.std.specs.Prelude.{ℕ, ◌≡◌, List, [], ◌∷◌}
use Rattle.trace_replay.specs.Runs.{replayed}

abbrev pub bytes_of_three_frames : List ℕ
bytes_of_three_frames =
    165 ∷ 29 ∷ 1 ∷ 50 ∷ 0 ∷ 1 ∷ 0 ∷ 0 ∷ 0 ∷ 0 ∷ 0 ∷ 0 ∷ 0 ∷ 0 ∷ 0 ∷ 0 ∷ 0 ∷ 0 ∷ 0 ∷ 0 ∷
    0 ∷ 0 ∷ 0 ∷ 0 ∷ 0 ∷ 0 ∷ 0 ∷ 240 ∷ 63 ∷ 0 ∷ 3 ∷ 0 ∷ 0 ∷ 128 ∷ 63 ∷ 0 ∷ 0 ∷ 128 ∷ 63 ∷ 0 ∷
    0 ∷ 0 ∷ 64 ∷ 0 ∷ 0 ∷ 0 ∷ 64 ∷ 0 ∷ 0 ∷ 64 ∷ 64 ∷ 0 ∷ 0 ∷ 64 ∷ 64 ∷
    165 ∷ 29 ∷ 3 ∷ 37 ∷ 0 ∷ 6 ∷ 0 ∷ 0 ∷ 0 ∷ 128 ∷ 63 ∷ 0 ∷ 0 ∷ 128 ∷ 63 ∷ 0 ∷ 0 ∷ 128 ∷ 63 ∷ 0 ∷
    0 ∷ 128 ∷ 63 ∷ 0 ∷ 0 ∷ 0 ∷ 0 ∷ 0 ∷ 0 ∷ 240 ∷ 63 ∷ 0 ∷ 0 ∷ 0 ∷ 0 ∷ 0 ∷ 0 ∷ 240 ∷ 63 ∷ 0 ∷
    0 ∷ 0 ∷ []

abbrev pub printed_line : List ℕ
printed_line =
    98 ∷ 108 ∷ 111 ∷ 99 ∷ 107 ∷ 61 ∷ 49 ∷ 32 ∷ 102 ∷ 114 ∷ 97 ∷ 109 ∷ 101 ∷ 115 ∷ 61 ∷ 54 ∷ 32 ∷ 115 ∷ 116 ∷ 101 ∷
    112 ∷ 115 ∷ 61 ∷ 54 ∷ 32 ∷ 115 ∷ 116 ∷ 97 ∷ 116 ∷ 101 ∷ 61 ∷ 54 ∷ 32 ∷ 112 ∷ 111 ∷ 115 ∷ 105 ∷ 116 ∷ 105 ∷ 111 ∷
    110 ∷ 61 ∷ 51 ∷ 10 ∷ []

abbrev pub ThreeFrames : Type 0
ThreeFrames = replayed bytes_of_three_frames ≡ printed_line
