-- Lanes of one frame that apply to every frame: which number a frame reads, and that lanes of the right length are as they are.
use mathlib.Core.Path.{◌≡◌, refl, sym, ap, ◌∙◌, subst}
use mathlib.Core.Bool.{Bool, true, false, cond}
use mathlib.Core.List.{List, [], ◌∷◌}
use Prim.Native.Nat.{ℕ, suc, ◌*◌, ◌/◌, ◌<◌}
use native.Mathlib.Omega.{arith}
use lib.Dec.{T, eqb}
use lib.ListN.{length, get_or, get_or-replicate}
use lib.Ieee.{Float, nan}
use borrow.Author.Tests.{eqb-true}
use Rattle.sound_lanes.specs.Lanes.{Lanes, five, sized}
use Rattle.sound_lanes.proofs.Rows.{sized_parts}
use Rattle.sound_slow_path.specs.FrameSteps.{Alike, again, spread}
use Rattle.sound_slow_path.proofs.Loops.{lane_at}

-- the choice by its test
abbrev chosen : Bool → ℕ → Lanes → Lanes
chosen t n b = cond t (five (again n b.fade) (again n b.volume) (again n b.left) (again n b.right) (again n b.rate)) b

-- frame i reads frame j of the lanes
pub spread_at : (b : Lanes) (n i j : ℕ) → i < n → j ≡ cond (eqb (length b.rate) 1) 0 i → lane_at (spread n b) i ≡ lane_at b j
unfolding spread
spread_at b n i j h e = go (eqb (length b.rate) 1) e
  where
    go : (t : Bool) → j ≡ cond t 0 i → lane_at (chosen t n b) i ≡ lane_at b j
    go true e = rw (e, get_or-replicate n i (get_or b.fade 0 nan) nan h, get_or-replicate n i (get_or b.volume 0 nan) nan h, get_or-replicate n i (get_or b.left 0 nan) nan h, get_or-replicate n i (get_or b.right 0 nan) nan h, get_or-replicate n i (get_or b.rate 0 nan) nan h) refl
    go false e = ap (lane_at b) (sym e)

-- it is there
pub spread_below : (b : Lanes) (n i j : ℕ) → i < length (spread n b).rate → j ≡ cond (eqb (length b.rate) 1) 0 i → j < length b.rate
unfolding spread
spread_below b n i j h e = go (eqb (length b.rate) 1) refl h e
  where
    go : (t : Bool) → eqb (length b.rate) 1 ≡ t → i < length (chosen t n b).rate → j ≡ cond t 0 i → j < length b.rate
    go true q h e = let one = eqb-true (length b.rate) 1 q in omega (arith, one, e)
    go false q h e = subst (λ (k : ℕ). k < length b.rate) (sym e) h

-- one number, repeated once
one_long : (l : List Float) → length l ≡ 1 → again 1 l ≡ l
one_long [] e = let q : ◌≡◌ {A = ℕ} 0 1 = e in absurd (omega arith)
one_long (x ∷ []) e = refl
one_long (x ∷ y ∷ l) e = let q : suc (suc (length l)) ≡ 1 = e in absurd (omega arith)

-- lanes of n frames are as they are
pub spread_same : (b : Lanes) (n : ℕ) → T (sized b) → n ≡ length b.rate → spread n b ≡ b
unfolding spread
spread_same b n s e = go (eqb (length b.rate) 1) refl
  where
    go : (t : Bool) → eqb (length b.rate) 1 ≡ t → chosen t n b ≡ b
    go true q =
        let one = eqb-true (length b.rate) 1 q in
        let p = sized_parts b s in
        rw (e ∙ one, one_long b.fade (p.fade ∙ one), one_long b.volume (p.volume ∙ one), one_long b.left (p.left ∙ one), one_long b.right (p.right ∙ one), one_long b.rate one) refl
    go false q = refl

pub alike : (b : Lanes) → T (sized b) → Alike b
alike b s = let p = sized_parts b s in record { fade = p.fade; volume = p.volume; left = p.left; right = p.right }

pub half_of : (m n : ℕ) → m ≡ 2 * n → m / 2 ≡ n
half_of m n e = omega arith
