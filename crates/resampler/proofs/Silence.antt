-- An empty window is silent: with the count at 0 all four frames are positive zero, and so is the cubic through them.
use mathlib.Core.Path.{◌≡◌, refl, sym, ap₂, subst}
use Prim.Native.Nat.{ℕ, zero, suc, ◌<◌}
use native.Mathlib.Nat.{not-suc-le-zero, le_of_suc-le-suc}
use mathlib.Core.Bool.{true, false}
use mathlib.Core.List.{List, [], ◌∷◌}
use lib.Dec.{T, lit<}
use lib.IntN.{pos, negsuc}
use lib.ListN.{length, get_or, drop}
use lib.Ieee.{Float, nan, inf, fin}
use lib.Ieee.Fits.{and_l, and_r}
use Rattle.numbers.specs.Words.{positive_zero, finite_clear, is_positive_zero}
use Rattle.numbers.specs.Lists.{all}
use Rattle.frame.specs.declared.Frame.{Frame}
use Rattle.frame.specs.Frames.{last_zero}
use Rattle.frame.proofs.Silence.{interpolated_last_zero}
use Rattle.resampler.specs.declared.RecentFrame.{RecentFrame}
use Rattle.resampler.specs.declared.Resampler.{Resampler}
use Rattle.resampler.specs.Windows.{blank, nth, reading, zero_frame, Windowed}

positive_zero_of : (x : Float) → T (is_positive_zero x) → x ≡ positive_zero
positive_zero_of nan h = absurd h
positive_zero_of (inf s) h = absurd h
positive_zero_of (fin true m e) h = absurd h
positive_zero_of (fin false (suc m) e) h = absurd h
positive_zero_of (fin false zero (negsuc k)) h = absurd h
positive_zero_of (fin false zero (pos (suc k))) h = absurd h
positive_zero_of (fin false zero (pos zero)) h = refl

-- an entry that is zero has the zero frame
pub zero_frame_frame : (r : RecentFrame) → T (zero_frame r) → r.frame ≡ last_zero
zero_frame_frame r h =
    let a = is_positive_zero r.frame.left in
    let b = is_positive_zero r.frame.right in
    ap₂ framed (positive_zero_of r.frame.left (and_l a b h)) (positive_zero_of r.frame.right (and_r a b h))
  where
    framed : Float → Float → Frame
    framed x y = record { left = x; right = y }

-- with the count at 0 every entry is a zero frame
pub empty_zero_frame : (w : Resampler) → w.time_until_empty ≡ 0 → Windowed w → T (all zero_frame w.frames)
empty_zero_frame w e h = subst (λ (t : ℕ). T (all zero_frame (drop t w.frames))) e h.last_zero

at_last_zero : (l : List RecentFrame) (i : ℕ) → i < length l → T (all zero_frame l) → (get_or l i blank).frame ≡ last_zero
at_last_zero [] i k h = absurd (not-suc-le-zero k)
at_last_zero (r ∷ l) zero k h = zero_frame_frame r (and_l (zero_frame r) (all zero_frame l) h)
at_last_zero (r ∷ l) (suc i) k h = at_last_zero l i (le_of_suc-le-suc k) (and_r (zero_frame r) (all zero_frame l) h)

-- a reading of an empty window is silence
pub reading_positive_zero : (w : Resampler) (f : Float) → w.time_until_empty ≡ 0 → Windowed w → T (finite_clear f) → (reading w f).frame ≡ last_zero
unfolding reading
reading_positive_zero w f e h l =
    let n : (i : ℕ) → i < 4 → nth w i ≡ last_zero = λ i k. at_last_zero w.frames i (subst (λ (m : ℕ). i < m) (sym h.four) k) (empty_zero_frame w e h) in
    simp (n 0 (lit< tt), n 1 (lit< tt), n 2 (lit< tt), n 3 (lit< tt)) (interpolated_last_zero f l)
