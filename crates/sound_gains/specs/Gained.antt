-- Readings times their gains (docs/assurance/RULES.md, "Creation, commands, block"): fade, then volume, then the
-- channel's gain.
use Rattle.std.specs.Prelude.{ℕ, zero, suc, ◌+◌, ◌*◌, List, [], ◌∷◌, get_or, drop, set, Float}
use Rattle.std.specs.Float.{nan}
use Rattle.sound_lanes.specs.declared.Gains.{Gains}
use Rattle.sound_lanes.specs.Lanes.{gains_at, scaled}

-- the first n frames of an output times their gains, with the rest of it unchanged
unfoldable pub gained : List Float → List Float → List Float → List Float → ℕ → List Float → List Float
gained fs vs ls rs zero out = out
gained fs vs ls rs (suc n) [] = []
gained fs vs ls rs (suc n) (x ∷ []) = x ∷ []
gained fs vs ls rs (suc n) (x ∷ y ∷ out) =
    let f = scaled x y (gains_at fs vs ls rs 0) in
    f.left ∷ f.right ∷ gained (drop 1 fs) (drop 1 vs) (drop 1 ls) (drop 1 rs) n out

-- frame i of the readings o times some gains, written into an output
abbrev pub scaled_at : Gains → ℕ → List Float → List Float → List Float
scaled_at g i o out =
    let x = scaled (get_or o (2 * i) nan) (get_or o (2 * i + 1) nan) g in
    set (set out (2 * i) x.left) (2 * i + 1) x.right

-- the same with its gains in the lanes
abbrev pub gained_at : List Float → List Float → List Float → List Float → ℕ → List Float → List Float → List Float
gained_at fs vs ls rs i o out = scaled_at (gains_at fs vs ls rs i) i o out
