-- A window stays well formed: the test and the named facts are the same, a push into four entries is a shift, and a shift keeps them.
-- The law of the shift is proved for lists of any length.
use Rattle.std.specs.Prelude.{Option, Some, None}
use mathlib.Core.Path.{◌≡◌, refl, sym, ◌∙◌, subst}
use Prim.Native.Nat.{ℕ, ◌≤◌, ◌<◌}
use native.Mathlib.Nat.{le_refl, le_of_eq}
use native.Mathlib.Omega.{arith}
use mathlib.Core.Bool.{true, ◌&&◌}
use mathlib.Core.List.{List, [], ◌∷◌, ◌++◌}
use lib.Dec.{T, leb, eqb, leb→le, le→leb, eqb→eq, lit≤}
use lib.ListN.{length, get_or, drop, drop_of_length-le}
use lib.Seq.{drop-cons}
use borrow.Author.Tests.{le-leb}
use lib.Ieee.Fits.{and_i, and_l, and_r, eq→eqb}
use Rattle.numbers.specs.Frames.{most}
use Rattle.numbers.specs.Lists.{all}
use Rattle.numbers.proofs.Lists.{shifted, shifted_length, all_append, all_drop}
use Rattle.resampler.specs.declared.RecentFrame.{RecentFrame}
use Rattle.resampler.specs.declared.Resampler.{Resampler}
use Rattle.resampler.specs.Windows.{blank, given_count, given_entry, push, fresh, zero_frame, numbered, windowed, Windowed, current_frame_index}
use Rattle.frame.specs.declared.Frame.{Frame}

pub windowed_parts : (w : Resampler) → T (windowed w) → Windowed w
windowed_parts w h =
    let a = eqb (length w.frames) 4 in
    let b = leb w.time_until_empty 4 in
    let c = all zero_frame (drop w.time_until_empty w.frames) in
    let d = all numbered w.frames in
    record {
      four = eqb→eq (length w.frames) 4 (and_l a b (and_l (a && b) c (and_l (a && b && c) d h)));
      few = leb→le w.time_until_empty 4 (and_r a b (and_l (a && b) c (and_l (a && b && c) d h)));
      last_zero = and_r (a && b) c (and_l (a && b && c) d h);
      numbers = and_r (a && b && c) d h;
    }

pub windowed_of : (w : Resampler) → Windowed w → T (windowed w)
windowed_of w h =
    let a = eqb (length w.frames) 4 in
    let b = leb w.time_until_empty 4 in
    let c = all zero_frame (drop w.time_until_empty w.frames) in
    let d = all numbered w.frames in
    and_i (a && b && c) d (and_i (a && b) c (and_i a b (eq→eqb h.four) (le→leb w.time_until_empty 4 h.few)) h.last_zero) h.numbers

-- the first entry is removed, and the given one is appended
abbrev pub shift : Resampler → Option Frame → ℕ → Resampler
shift w g n = record { frames = drop 1 w.frames ++ given_entry g n ∷ []; time_until_empty = given_count g w.time_until_empty }

four_shift : (l : List RecentFrame) (x : RecentFrame) → length l ≡ 4 → get_or l 1 blank ∷ get_or l 2 blank ∷ get_or l 3 blank ∷ x ∷ [] ≡ drop 1 l ++ x ∷ []
four_shift l x e =
    let one : 1 < length l = omega arith in
    let two : 2 < length l = omega arith in
    let three : 3 < length l = omega arith in
    let end : length l ≤ 4 = omega arith in
    rw (drop-cons l 1 blank one, drop-cons l 2 blank two, drop-cons l 3 blank three, drop_of_length-le l end)

-- a push into four entries is a shift
pub push_shift : (w : Resampler) (g : Option Frame) (n : ℕ) → length w.frames ≡ 4 → push w g n ≡ shift w g n
unfolding push
push_shift w g n e = simp (four_shift w.frames (given_entry g n) e)

-- a count of 4 requires nothing of four entries
none_left : (l : List RecentFrame) → length l ≡ 4 → T (all zero_frame (drop 4 l))
none_left l e = subst (λ (r : List RecentFrame). T (all zero_frame r)) (sym (drop_of_length-le l {i = 4} (le_of_eq e))) tt

shift_parts : (w : Resampler) (g : Option Frame) (n : ℕ) → n ≤ most → Windowed w → Windowed (shift w g n)
shift_parts w g n k h =
    record {
      four = four g;
      few = few g;
      last_zero = last_zero g;
      numbers = all_append numbered (drop 1 w.frames) (given_entry g n ∷ []) (all_drop numbered 1 w.frames h.numbers) (and_i (leb n most) true (le→leb n most k) tt);
    }
  where
    four : (g : Option Frame) → length (drop 1 w.frames ++ given_entry g n ∷ []) ≡ 4
    four g = shifted_length zero_frame w.frames (given_entry g n) (let e = h.four in omega arith) ∙ h.four

    few : (g : Option Frame) → given_count g w.time_until_empty ≤ 4
    few None = let e = h.few in omega arith
    few (Some f) = le_refl 4

    last_zero : (g : Option Frame) → T (all zero_frame (drop (given_count g w.time_until_empty) (drop 1 w.frames ++ given_entry g n ∷ [])))
    last_zero None = shifted zero_frame w.time_until_empty w.frames (given_entry None n) h.last_zero tt
    last_zero (Some f) = none_left (drop 1 w.frames ++ given_entry (Some f) n ∷ []) (four (Some f))

-- a push keeps the window well formed
pub push_parts : (w : Resampler) (g : Option Frame) (n : ℕ) → n ≤ most → Windowed w → Windowed (push w g n)
push_parts w g n k h = subst Windowed (sym (push_shift w g n h.four)) (shift_parts w g n k h)

-- the new window is well formed
pub fresh_parts : (n : ℕ) → n ≤ most → Windowed (fresh n)
fresh_parts n k = record { four = refl; few = lit≤ tt; last_zero = tt; numbers = simp (le-leb n most k) tt }

-- the reported frame index is in range
pub heard_low : (w : Resampler) → Windowed w → current_frame_index w ≤ most
heard_low w h = go w.frames h.numbers
  where
    go : (l : List RecentFrame) → T (all numbered l) → (get_or l 1 blank).frame_index ≤ most
    go [] h = lit≤ tt
    go (a ∷ []) h = lit≤ tt
    go (a ∷ b ∷ l) h = leb→le b.frame_index most (and_l (numbered b) (all numbered l) (and_r (numbered a) (all numbered (b ∷ l)) h))
