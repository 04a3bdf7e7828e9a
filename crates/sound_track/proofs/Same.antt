-- The test for a contiguous window: what is equal bit for bit is the same. Assumes nothing.
use mathlib.Core.Path.{◌≡◌, refl, sym, ap, ap₂, ◌∙◌}
use Prim.Native.Nat.{ℕ, suc}
use native.Mathlib.Omega.{arith}
use mathlib.Core.Bool.{Bool, true, false, false≢true, not, ◌&&◌}
use mathlib.Core.List.{List, [], ◌∷◌}
use lib.Dec.{T, eqb}
use lib.ListN.{length, get_or}
use lib.Ieee.{Float, nan, inf, fin, binary32, eq, fits, is_nan, to_bits, of_bits}
use lib.Ieee.Bits.{of_bits-to_bits}
use borrow.Author.Tests.{eqb-true}
use Rattle.numbers.proofs.Equal.{first_of, second_of}
use Rattle.resampler.specs.declared.RecentFrame.{RecentFrame}
use Rattle.resampler.specs.declared.Resampler.{Resampler}
use Rattle.resampler.specs.Windows.{blank}

pub eq_number : (a b : Float) → eq a b ≡ true → T (not (is_nan a)) × T (not (is_nan b))
unfolding eq is_nan
eq_number nan b h = absurd (false≢true h)
eq_number (inf s) nan h = absurd (false≢true h)
eq_number (inf s) (inf t) h = (tt, tt)
eq_number (inf s) (fin t n d) h = (tt, tt)
eq_number (fin s m e) nan h = absurd (false≢true h)
eq_number (fin s m e) (inf t) h = (tt, tt)
eq_number (fin s m e) (fin t n d) h = (tt, tt)

pub holds : (b : Bool) → b ≡ true → T b
holds true e = tt
holds false e = absurd (false≢true e)

-- ---- equal by their bits

pub same_bits : (a b : Float) → T (fits binary32 a) → T (fits binary32 b) → eqb (to_bits binary32 a) (to_bits binary32 b) ≡ true → a ≡ b
same_bits a b f g e = sym (of_bits-to_bits binary32 a f) ∙ ap (of_bits binary32) (eqb-true (to_bits binary32 a) (to_bits binary32 b) e) ∙ of_bits-to_bits binary32 b g

frames_are : (l : List RecentFrame) → length l ≡ 4 → get_or l 0 blank ∷ get_or l 1 blank ∷ get_or l 2 blank ∷ get_or l 3 blank ∷ [] ≡ l
frames_are [] n = let q : ◌≡◌ {A = ℕ} 0 4 = n in absurd (omega arith)
frames_are (x1 ∷ []) n = let q : ◌≡◌ {A = ℕ} 1 4 = n in absurd (omega arith)
frames_are (x1 ∷ x2 ∷ []) n = let q : ◌≡◌ {A = ℕ} 2 4 = n in absurd (omega arith)
frames_are (x1 ∷ x2 ∷ x3 ∷ []) n = let q : ◌≡◌ {A = ℕ} 3 4 = n in absurd (omega arith)
frames_are (x1 ∷ x2 ∷ x3 ∷ x4 ∷ []) n = refl
frames_are (x1 ∷ x2 ∷ x3 ∷ x4 ∷ x5 ∷ l) n = absurd (over (length l) n)
  where
    over : (m : ℕ) → suc (suc (suc (suc (suc m)))) ≡ 4 → ⊥
    over m q = omega arith

pub same_window_lem : (a b : Resampler) → length a.frames ≡ 4 → length b.frames ≡ 4 → a.time_until_empty ≡ b.time_until_empty
    → get_or a.frames 0 blank ≡ get_or b.frames 0 blank → get_or a.frames 1 blank ≡ get_or b.frames 1 blank
    → get_or a.frames 2 blank ≡ get_or b.frames 2 blank → get_or a.frames 3 blank ≡ get_or b.frames 3 blank → a ≡ b
same_window_lem a b m n t e0 e1 e2 e3 =
    ap₂ (λ (l : List RecentFrame) (k : ℕ). record { frames = l; time_until_empty = k })
    (sym (frames_are a.frames m)
    ∙ ap₂ (λ (x y : RecentFrame). x ∷ y ∷ get_or a.frames 2 blank ∷ get_or a.frames 3 blank ∷ []) e0 e1
    ∙ ap₂ (λ (x y : RecentFrame). get_or b.frames 0 blank ∷ get_or b.frames 1 blank ∷ x ∷ y ∷ []) e2 e3
    ∙ frames_are b.frames n) t

pub window_is : (a b : Resampler) (x y z w : Bool) → length a.frames ≡ 4 → length b.frames ≡ 4
    → (x ≡ true → get_or a.frames 0 blank ≡ get_or b.frames 0 blank) → (y ≡ true → get_or a.frames 1 blank ≡ get_or b.frames 1 blank)
    → (z ≡ true → get_or a.frames 2 blank ≡ get_or b.frames 2 blank) → (w ≡ true → get_or a.frames 3 blank ≡ get_or b.frames 3 blank)
    → (eqb a.time_until_empty b.time_until_empty && x && y && z && w) ≡ true → a ≡ b
window_is a b x y z w m n fx fy fz fw h =
    let t = eqb a.time_until_empty b.time_until_empty in
    let h₄ = first_of (t && x && y && z) w h in
    let h₃ = first_of (t && x && y) z h₄ in
    let h₂ = first_of (t && x) y h₃ in
    same_window_lem a b m n (eqb-true a.time_until_empty b.time_until_empty (first_of t x h₂))
    (fx (second_of t x h₂)) (fy (second_of (t && x) y h₃)) (fz (second_of (t && x && y) z h₄)) (fw (second_of (t && x && y && z) w h))
