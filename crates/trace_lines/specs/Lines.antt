-- The lines that a replay prints, as ASCII: docs/formats/TRACE.md, "What is printed".
use Rattle.std.specs.Prelude.{ℕ, zero, suc, ◌+◌, ◌/◌, ◌%◌, cond, List, [], ◌∷◌, ◌++◌, ltb}

-- the decimal digits of n before the given digits, at most k of them
unfoldable pub spelt : ℕ → ℕ → List ℕ → List ℕ
spelt zero n ds = ds
spelt (suc k) n ds = cond (ltb n 10) ((48 + n) ∷ ds) (spelt k (n / 10) ((48 + n % 10) ∷ ds))

-- a number of 64 bits has at most 20 digits
abbrev pub decimal : ℕ → List ℕ
decimal n = spelt 20 n []

-- `block=`, ` frames=`, ` steps=`, ` state=`, ` position=`, ` refused=`, `refused=`, ` at=`
abbrev pub block·is : List ℕ
block·is = 98 ∷ 108 ∷ 111 ∷ 99 ∷ 107 ∷ 61 ∷ []

abbrev pub frames·are : List ℕ
frames·are = 32 ∷ 102 ∷ 114 ∷ 97 ∷ 109 ∷ 101 ∷ 115 ∷ 61 ∷ []

abbrev pub steps·are : List ℕ
steps·are = 32 ∷ 115 ∷ 116 ∷ 101 ∷ 112 ∷ 115 ∷ 61 ∷ []

abbrev pub state·is : List ℕ
state·is = 32 ∷ 115 ∷ 116 ∷ 97 ∷ 116 ∷ 101 ∷ 61 ∷ []

abbrev pub position·is : List ℕ
position·is = 32 ∷ 112 ∷ 111 ∷ 115 ∷ 105 ∷ 116 ∷ 105 ∷ 111 ∷ 110 ∷ 61 ∷ []

abbrev pub refused·by : List ℕ
refused·by = 114 ∷ 101 ∷ 102 ∷ 117 ∷ 115 ∷ 101 ∷ 100 ∷ 61 ∷ []

abbrev pub at·is : List ℕ
at·is = 32 ∷ 97 ∷ 116 ∷ 61 ∷ []

-- a word and a number
abbrev pub labelled : List ℕ → ℕ → List ℕ
labelled word n = word ++ decimal n

-- `block=1 frames=6 steps=6 state=6 position=3`
unfoldable pub block_line : ℕ → ℕ → ℕ → ℕ → ℕ → List ℕ
block_line number frames steps state position =
    labelled block·is number
    ++ (labelled frames·are frames
    ++ (labelled steps·are steps ++ (labelled state·is state ++ (labelled position·is position ++ (10 ∷ [])))))

-- `block=1 refused=12`
unfoldable pub refused_block_line : ℕ → ℕ → List ℕ
refused_block_line number refusal = labelled block·is number ++ (labelled (32 ∷ refused·by) refusal ++ (10 ∷ []))

-- `refused=15 at=0`
unfoldable pub refused_line : ℕ → ℕ → List ℕ
refused_line refusal at = labelled refused·by refusal ++ (labelled at·is at ++ (10 ∷ []))
