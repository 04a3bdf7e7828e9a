-- Lanes given once: side by side they are one frame's numbers, repeated. Assumes nothing.
use mathlib.Core.Path.{◌≡◌, refl, sym, ap, ap₂, ◌∙◌, subst}
use Prim.Native.Nat.{ℕ, zero, suc, ◌+◌, ◌≤◌}
use mathlib.Core.List.{List, ◌∷◌, ◌++◌}
use lib.Dec.{T}
use lib.ListN.{length, replicate-append-replicate, length-replicate, replicate}
use Rattle.sound_lanes.specs.Lanes.{Lane, rows, sized}
use Rattle.sound_lanes.proofs.Rows.{sized_of}
use Rattle.sound_held.specs.declared.Held.{Held}
use Rattle.sound_held.specs.Held.{held_lanes}

-- ---- the lanes

-- one frame's numbers
abbrev pub lane : Held → Lane
lane x = record { fade = x.gains.fade; volume = x.gains.volume; left = x.gains.left; right = x.gains.right; rate = x.rate }

pub rows_once : (x : Held) (n : ℕ) → rows (held_lanes x n) ≡ replicate n (lane x)
rows_once x zero = refl
rows_once x (suc n) = ap (λ (l : List Lane). lane x ∷ l) (rows_once x n)

-- so many frames, and then so many more
pub rows_more : (x : Held) (i m : ℕ) → rows (held_lanes x (i + m)) ≡ rows (held_lanes x i) ++ rows (held_lanes x m)
rows_more x i m =
    rows_once x (i + m) ∙ sym (replicate-append-replicate i m (lane x)) ∙ sym (ap₂ (λ (k l : List Lane). k ++ l) (rows_once x i) (rows_once x m))

pub rows_many : (x : Held) (n : ℕ) → length (rows (held_lanes x n)) ≡ n
rows_many x n = ap length (rows_once x n) ∙ length-replicate n (lane x)

pub once_sized : (x : Held) (n : ℕ) → n ≤ 4096 → T (sized (held_lanes x n))
once_sized x n h =
    let q = length-replicate n x.rate in
    sized_of (held_lanes x n)
    (record {
      most = subst (λ (k : ℕ). k ≤ 4096) (sym q) h;
      fade = length-replicate n x.gains.fade ∙ sym q;
      volume = length-replicate n x.gains.volume ∙ sym q;
      left = length-replicate n x.gains.left ∙ sym q;
      right = length-replicate n x.gains.right ∙ sym q;
    })
