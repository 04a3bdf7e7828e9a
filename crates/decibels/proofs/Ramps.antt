-- The levels of a ramp: where they begin and end, between which numbers they stay, and that they go one way; and the lane filled so far. Assumes nothing.
use mathlib.Core.Path.{◌≡◌, refl, sym, ap, ◌∙◌, subst}
use mathlib.Core.Bool.{Bool, true, false, cond}
use mathlib.Core.List.{[], ◌∷◌, ◌++◌}
use Prim.Native.Nat.{ℕ, zero, suc, ◌+◌, ◌-◌, ◌*◌, ◌/◌, ◌≤◌, ◌<◌}
use native.Mathlib.Nat.{le_refl, le_trans, le_of_eq, mul-add, add-le-add, mul-le-mul_right, mul-le-mul_left, mul_comm, mul-zero, zero-add, add-zero, sub_self, sub-zero, mul-div_cancel, le-div_iff_mul-le, div-le_of_le-mul, not-suc-le-zero}
use native.Mathlib.Numerals.{add-one}
use native.Mathlib.Omega.{arith}
use lib.Dec.{eqb}
use lib.ListN.{length, get_or, length-append, get_or-append}
use lib.Seq.{get_or_at}
use lib.Ieee.{Float, nan}
use lib.Ieee.Nearest.{div_mono}
use borrow.Author.Tests.{ne_eqb, eq-eqb, eqb-true, eqb-false}
use Rattle.decibels.specs.Levels.{amplitude}
use Rattle.decibels.specs.Ramps.{level_at, frames}

-- ---- the formula

pub one_frame : (s e n i : ℕ) → n ≡ 1 → level_at s e n i ≡ e
one_frame s e n i h = ap (λ (b : Bool). cond b e ((s * (n - 1 - i) + e * i) / (n - 1))) (eq-eqb n 1 h)

pub more_frames : (s e n i : ℕ) → (n ≡ 1 → ⊥) → level_at s e n i ≡ (s * (n - 1 - i) + e * i) / (n - 1)
more_frames s e n i h = ap (λ (b : Bool). cond b e ((s * (n - 1 - i) + e * i) / (n - 1))) (ne_eqb n 1 h)

-- case on the count: for one frame, and for more with the last frame's number d
counted : (P : ℕ → Type 0) (s e n i : ℕ) → i < n → (n ≡ 1 → P e) → ((d : ℕ) → 0 < d → i ≤ d → n - 1 ≡ d → P ((s * (d - i) + e * i) / d)) → P (level_at s e n i)
counted P s e n i h one more = go (eqb n 1) refl
  where
    go : (b : Bool) → eqb n 1 ≡ b → P (cond b e ((s * (n - 1 - i) + e * i) / (n - 1)))
    go true q = one (eqb-true n 1 q)
    go false q =
        let d = eqb-false n 1 q in
        more (n - 1) (omega (arith, h, d)) (omega (arith, h)) refl

-- low * d is below the weighted sum, and high * d above it
weigh_low : (s e d i low : ℕ) → i ≤ d → low ≤ s → low ≤ e → low * d ≤ s * (d - i) + e * i
weigh_low s e d i low h hs he =
    le_trans (le_of_eq (ap (λ (z : ℕ). low * z) (split d i h) ∙ mul-add low (d - i) i)) (add-le-add (mul-le-mul_right (d - i) hs) (mul-le-mul_right i he))
  where
    split : (d i : ℕ) → i ≤ d → d ≡ d - i + i
    split d i h = omega arith

weigh_high : (s e d i high : ℕ) → i ≤ d → s ≤ high → e ≤ high → s * (d - i) + e * i ≤ high * d
weigh_high s e d i high h hs he =
    le_trans (add-le-add (mul-le-mul_right (d - i) hs) (mul-le-mul_right i he)) (le_of_eq (sym (mul-add high (d - i) i) ∙ ap (λ (z : ℕ). high * z) (split d i h)))
  where
    split : (d i : ℕ) → i ≤ d → d - i + i ≡ d
    split d i h = omega arith

pub between : (s e n i low high : ℕ) → i < n → low ≤ s → low ≤ e → s ≤ high → e ≤ high → (low ≤ level_at s e n i) × (level_at s e n i ≤ high)
between s e n i low high h ls le sh eh =
    counted (λ (r : ℕ). (low ≤ r) × (r ≤ high)) s e n i h (λ q. (le, eh))
    (λ d p k q. ((le-div_iff_mul-le p).1 (weigh_low s e d i low k ls le), div-le_of_le-mul d (le_trans (weigh_high s e d i high k sh eh) (le_of_eq (mul_comm high d)))))

pub first : (s e n : ℕ) → 1 < n → level_at s e n 0 ≡ s
first s e n h =
    counted (λ (r : ℕ). r ≡ s) s e n 0 (omega (arith, h)) (λ (q : n ≡ 1). absurd (omega (arith, h, q)))
    (λ d p k q.
    ap (λ (z : ℕ). (s * z + e * 0) / d) (sub-zero d) ∙ ap (λ (z : ℕ). (s * d + z) / d) (mul-zero e) ∙ ap (λ (z : ℕ). z / d) (add-zero (s * d)) ∙ mul-div_cancel s p)

pub last : (s e n : ℕ) → 0 < n → level_at s e n (n - 1) ≡ e
last s e n h =
    counted (λ (r : ℕ). r ≡ e) s e n (n - 1) (omega (arith, h)) (λ q. refl)
    (λ d p k q.
    ap (λ (z : ℕ). (s * (d - z) + e * z) / d) q ∙ ap (λ (z : ℕ). (s * z + e * d) / d) (sub_self d) ∙ ap (λ (z : ℕ). (z + e * d) / d) (mul-zero s)
    ∙ ap (λ (z : ℕ). z / d) (zero-add (e * d)) ∙ mul-div_cancel e p)

-- k frames further on
onward : (s e r k i : ℕ) → s ≤ e → s * (r + k) + e * i ≤ s * r + e * (i + k)
onward s e r k i h =
    le_trans (le_of_eq (ap (λ (z : ℕ). z + e * i) (mul-add s r k)))
    (le_trans (shuffle (s * r) (s * k) (e * i) (e * k) (mul-le-mul_right k h)) (le_of_eq (ap (λ (z : ℕ). s * r + z) (sym (mul-add e i k)))))
  where
    shuffle : (x a y b : ℕ) → a ≤ b → x + a + y ≤ x + (y + b)
    shuffle x a y b h = omega arith

backward : (s e r k i : ℕ) → e ≤ s → s * r + e * (i + k) ≤ s * (r + k) + e * i
backward s e r k i h =
    le_trans (le_of_eq (ap (λ (z : ℕ). s * r + z) (mul-add e i k)))
    (le_trans (shuffle (s * r) (s * k) (e * i) (e * k) (mul-le-mul_right k h)) (le_of_eq (ap (λ (z : ℕ). z + e * i) (sym (mul-add s r k)))))
  where
    shuffle : (x a y b : ℕ) → b ≤ a → x + (y + b) ≤ x + a + y
    shuffle x a y b h = omega arith

-- two frames i and j of one ramp, j = i + k, r frames before the last
module _ (R : ℕ → ℕ → Type 0) (s e n i j : ℕ) (ij : i ≤ j) (jn : j < n) (same : (a : ℕ) → R a a)
    (moved : (d : ℕ) → 0 < d → (r k : ℕ) → R ((s * (r + k) + e * i) / d) ((s * r + e * (i + k)) / d)) where
  pub along : R (level_at s e n i) (level_at s e n j)
  along = go (eqb n 1) refl
    where
      left : n - 1 - i ≡ n - 1 - j + (j - i)
      left = omega (arith, ij, jn)

      right : i + (j - i) ≡ j
      right = omega (arith, ij)

      go : (b : Bool) → eqb n 1 ≡ b → R (cond b e ((s * (n - 1 - i) + e * i) / (n - 1))) (cond b e ((s * (n - 1 - j) + e * j) / (n - 1)))
      go true q = same e
      go false q =
          let d = eqb-false n 1 q in
          let m = moved (n - 1) (omega (arith, jn, d)) (n - 1 - j) (j - i) in
          subst (λ (a : ℕ). R ((s * a + e * i) / (n - 1)) ((s * (n - 1 - j) + e * j) / (n - 1))) (sym left)
          (subst (λ (a : ℕ). R ((s * (n - 1 - j + (j - i)) + e * i) / (n - 1)) ((s * (n - 1 - j) + e * a) / (n - 1))) right m)

pub upward : (s e n i j : ℕ) → s ≤ e → i ≤ j → j < n → level_at s e n i ≤ level_at s e n j
upward s e n i j h ij jn =
    along (λ (a b : ℕ). a ≤ b) s e n i j ij jn le_refl
    (λ d p r k. div_mono (s * (r + k) + e * i) d (s * r + e * (i + k)) d p p (mul-le-mul_right d (onward s e r k i h)))

pub downward : (s e n i j : ℕ) → e ≤ s → i ≤ j → j < n → level_at s e n j ≤ level_at s e n i
downward s e n i j h ij jn =
    along (λ (a b : ℕ). b ≤ a) s e n i j ij jn le_refl
    (λ d p r k. div_mono (s * r + e * (i + k)) d (s * (r + k) + e * i) d p p (mul-le-mul_right d (backward s e r k i h)))

-- ---- in 32 bits

pub weighed : (s e n i : ℕ) → s ≤ 601 → e ≤ 601 → n ≤ 65536 → i < n → s * (n - 1 - i) + e * i ≤ 39386535
weighed s e n i hs he hn h =
    le_trans (weigh_high s e (n - 1) i 601 (omega (arith, h)) hs he) (mul-le-mul_left {m = n - 1} {n = 65535} 601 (omega (arith, hn)))

-- ---- the lane

frames_length : (s e n k : ℕ) → length (frames s e n k) ≡ k
frames_length s e n zero = refl
frames_length s e n (suc k) = length-append (frames s e n k) (amplitude (level_at s e n k) ∷ []) ∙ ap (λ (m : ℕ). m + 1) (frames_length s e n k) ∙ add-one k

pub each : (s e n k i : ℕ) → i < k → get_or (frames s e n k) i nan ≡ amplitude (level_at s e n i)
each s e n zero i h = absurd (not-suc-le-zero h)
each s e n (suc k) i h = go (λ (l : i < k). each s e n k i l) (eqb i k) refl
  where
    a : Float
    a = amplitude (level_at s e n k)

    go : (i < k → get_or (frames s e n k) i nan ≡ amplitude (level_at s e n i)) → (b : Bool) → eqb i k ≡ b → get_or (frames s e n k ++ (a ∷ [])) i nan ≡ amplitude (level_at s e n i)
    go rest true q =
        ap (λ (m : ℕ). get_or (frames s e n k ++ (a ∷ [])) m nan) (eqb-true i k q) ∙ get_or_at (frames s e n k) a [] nan k (frames_length s e n k)
        ∙ ap (λ (m : ℕ). amplitude (level_at s e n m)) (sym (eqb-true i k q))
    go rest false q =
        let d = eqb-false i k q in
        let l : i < k = omega (arith, h, d) in
        get_or-append (frames s e n k) (a ∷ []) nan i (subst (λ (m : ℕ). i < m) (sym (frames_length s e n k)) l) ∙ rest l
