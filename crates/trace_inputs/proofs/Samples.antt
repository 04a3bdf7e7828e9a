-- The loop of `put_samples`: one more frame, and the last.
use mathlib.Core.Path.{◌≡◌, refl, sym, ap, ◌∙◌}
use Prim.Native.Nat.{ℕ, zero, suc, ◌+◌, ◌-◌, ◌*◌, ◌/◌, ◌≤◌, ◌<◌}
use native.Mathlib.Omega.{arith}
use native.Mathlib.Numerals.{add-one}
use mathlib.Core.Bool.{Bool, true, false, cond}
use mathlib.Core.List.{List, [], ◌∷◌}
use lib.Dec.{leb}
use lib.ListN.{length, get_or, take, drop, set, length-drop}
use lib.Seq.{drop-cons, sets, length-take-le}
use lib.Ieee.{Float}
use borrow.Author.Tests.{leb-true, leb-false}
use Rattle.trace_inputs.specs.Inputs.{single, stereo, at_most, samples_of}

pub at_most_le : (m n : ℕ) → at_most m n ≤ m
at_most_le m n = go (leb n m) refl
  where
    go : (b : Bool) → leb n m ≡ b → cond b n m ≤ m
    go true e = leb-true n m e
    go false e = omega arith

length_stereo : (xs : List ℕ) → length (stereo xs) ≡ 2 * length xs
unfolding stereo
length_stereo [] = refl
length_stereo (x ∷ xs) = omega (arith, length_stereo xs)

-- what is left to store after k frames
unfoldable pub left : List ℕ → ℕ → ℕ → List Float
left vs n k = stereo (take (n - k) (drop (13 + k) vs))

pub left_start : (vs : List ℕ) (n : ℕ) → left vs n 0 ≡ stereo (take n (drop 13 vs))
unfolding left
left_start vs n = let e : n - 0 ≡ n = omega arith in rw e refl

pub left_next : (vs : List ℕ) (n k : ℕ) (out : List Float) (l r : Float) → k < n → 13 + k < length vs → l ≡ single (get_or vs (13 + k) 0) → r ≡ single (get_or vs (13 + k) 0 / 4294967296)
    → sets (set (set out (2 * k) l) (2 * k + 1) r) (2 * (k + 1)) (left vs n (k + 1)) ≡ sets out (2 * k) (left vs n k)
unfolding left stereo
left_next vs n k out l r h j p q =
    let e : n - k ≡ suc (n - (k + 1)) = omega arith in
    let f : 13 + (k + 1) ≡ suc (13 + k) = omega arith in
    let g : 2 * (k + 1) ≡ suc (suc (2 * k)) = omega arith in
    let i : 2 * k + 1 ≡ suc (2 * k) = omega arith in
    rw (p, q, e, f, g, i, drop-cons vs (13 + k) 0 j) refl

pub left_end : (vs : List ℕ) (n k : ℕ) (out : List Float) → n ≤ k → sets out (2 * k) (left vs n k) ≡ out
unfolding left stereo
left_end vs n k out h = let e : n - k ≡ 0 = omega arith in rw e refl

pub all_samples : (vs : List ℕ) → 77 ≤ length vs → length (samples_of vs) ≡ 2 * at_most 64 (get_or vs 12 0)
all_samples vs h =
    let n = at_most 64 (get_or vs 12 0) in
    length_stereo (take n (drop 13 vs)) ∙ ap (λ (m : ℕ). 2 * m) (length-take-le n (drop 13 vs) (omega (arith, length-drop 13 vs, at_most_le 64 (get_or vs 12 0))))
