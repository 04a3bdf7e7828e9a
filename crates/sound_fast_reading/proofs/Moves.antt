-- One frame's steps along a track: they are few, leave a fraction, and stay on the track if it has space for them. Assumes nothing.
use mathlib.Core.Path.{◌≡◌, refl, sym, ap, ap₂, subst}
use Prim.Native.Nat.{ℕ, suc, ◌+◌, ◌-◌, ◌≤◌, ◌<◌}
use native.Mathlib.Nat.{le_refl}
use native.Mathlib.Omega.{arith}
use mathlib.Core.Bool.{Bool, true, false, not, ◌||◌, cond}
use mathlib.Core.List.{List, [], ◌∷◌}
use lib.Dec.{T, leb, ltb}
use lib.IntN.{pos}
use lib.ListN.{length, get_or, replicate}
use lib.Ieee.{Float, nan, inf, fin, binary64, add, mul, of_int, lt, le, is_nan}
use lib.Ieee.Fits.{and_i, and_l, and_r}
use borrow.Author.Tests.{le-leb, lt-ltb}
use Rattle.numbers.specs.declared.Stepped.{Stepped}
use Rattle.numbers.specs.Words.{positive_zero, proper, finite_clear, magnitude, stepped, advance}
use Rattle.numbers.proofs.Fractions.{advance_finite_clear, sum_steps}
use Rattle.numbers.proofs.Stepping.{sum_proper}
use Rattle.numbers.specs.Lists.{all}
use Rattle.sound_lanes.specs.Lanes.{slow}
use Rattle.sound_track.specs.declared.Track.{Track}
use Rattle.sound_track.specs.Tracks.{nexts, On, roomy}
use Rattle.sound_track.proofs.Tracks.{on_nexts, nexts_within}
use Rattle.sound_track.proofs.Contiguous.{Inside, inside_of, inside_first, inside_rest}
use Rattle.sound_fast_reading.specs.Moves.{Slow, Move, number}

-- ---- the sum

-- the code's product, m being the rate without its sign
abbrev product : ℕ → Float → Float → Float
product hz m dt = mul binary64 (mul binary64 (of_int binary64 (pos hz)) m) dt

pub advance_is : (hz : ℕ) (r dt m : Float) → m ≡ magnitude r → product hz m dt ≡ advance hz r dt
unfolding advance
advance_is hz r dt m e = ap (λ (x : Float). product hz x dt) e

-- what the sum requires of the advance
pub asks : (hz : ℕ) (r dt m : Float) → m ≡ magnitude r → T (lt positive_zero dt) → T (slow hz dt r) → T (finite_clear (product hz m dt)) × T (le (product hz m dt) (fin false 1 (pos 8)))
asks hz r dt m e t s = rw (advance_is hz r dt m e) (advance_finite_clear hz r dt t s, s)

-- a slow rate is no NaN: its advance would be one
mul_nan : (x : Float) → mul binary64 x nan ≡ nan
unfolding mul
mul_nan nan = refl
mul_nan (inf s) = refl
mul_nan (fin s m e) = refl

nan_fast : (x dt : Float) → x ≡ nan → T (le (mul binary64 x dt) (fin false 1 (pos 8))) → ⊥
unfolding mul le
nan_fast x dt e h = subst (λ (x : Float). T (le (mul binary64 x dt) (fin false 1 (pos 8)))) e h

pub slow_number : (hz : ℕ) (dt q : Float) → T (slow hz dt q) → T (not (is_nan q))
unfolding advance magnitude is_nan
slow_number hz dt nan h = absurd (nan_fast _ dt (mul_nan (of_int binary64 (pos hz))) h)
slow_number hz dt (inf s) h = tt
slow_number hz dt (fin s m e) h = tt

module _ (hz : ℕ) (dt f r : Float) (below : T (proper f)) (time : T (lt positive_zero dt)) (slows : T (slow hz dt r)) (a : Stepped) (e : a ≡ stepped (add binary64 f (advance hz r dt))) where
  pub moved_few : a.steps ≤ 257
  unfolding of_int
  moved_few =
      subst (λ (a : Stepped). a.steps ≤ 257) (sym e)
      (sum_steps f (advance hz r dt) 256 (le_refl 256) below (advance_finite_clear hz r dt time slows) slows)

  pub moved_below : T (proper a.fraction)
  moved_below =
      subst (λ (a : Stepped). T (proper a.fraction)) (sym e)
      (sum_proper f (advance hz r dt) below (advance_finite_clear hz r dt time slows) slows)

-- the same for an advance
module _ (f a : Float) (below : T (proper f)) (slow : Slow a) (s : Stepped) (e : s ≡ stepped (add binary64 f a)) where
  stepped_few : s.steps ≤ 257
  unfolding of_int
  stepped_few = subst (λ (s : Stepped). s.steps ≤ 257) (sym e) (sum_steps f a 256 (le_refl 256) below slow.finite_clear slow.most)

  pub stepped_move : Move f a s
  stepped_move =
      record {
        is = e;
        few = less s.steps stepped_few;
        below = subst (λ (s : Stepped). T (proper s.fraction)) (sym e) (sum_proper f a below slow.finite_clear slow.most);
      }
    where
      less : (n : ℕ) → n ≤ 257 → n < 258
      less n h = omega arith

pub slow_advance : (hz : ℕ) (dt r a : Float) → a ≡ advance hz r dt → T (lt positive_zero dt) → T (slow hz dt r) → Slow a
slow_advance hz dt r a e t s = subst Slow (sym e) (record { finite_clear = advance_finite_clear hz r dt t s; most = s })

-- ---- rates that are the same

pub all_numbers : (hz : ℕ) (dt : Float) (qs : List Float) → T (all (slow hz dt) qs) → T (all number qs)
all_numbers hz dt [] h = tt
all_numbers hz dt (q ∷ qs) h =
    and_i (number q) (all number qs) (slow_number hz dt q (and_l (slow hz dt q) (all (slow hz dt) qs) h)) (all_numbers hz dt qs (and_r (slow hz dt q) (all (slow hz dt) qs) h))

-- a list of one number
pub same_list : (l : List Float) (a : Float) → ((i : ℕ) → i < length l → get_or l i nan ≡ a) → l ≡ replicate (length l) a
same_list [] a h = refl
same_list (x ∷ l) a h =
    ap₂ (λ (y : Float) (k : List Float). y ∷ k) (h 0 (first (length l))) (same_list l a (λ i k. h (suc i) (more i (length l) k)))
  where
    more : (i n : ℕ) → i < n → suc i < suc n
    more i n k = omega arith

    first : (n : ℕ) → 0 < suc n
    first n = omega arith

-- ---- space on the track

room_far : (l b : Bool) (s e n q : ℕ) → (l ≡ false → 4 + n ≤ cond b (q - s) (e - 1 - q)) → T (l || cond b (leb (s + 4 + n) q) (ltb (q + 4 + n) e))
room_far true b s e n q h = tt
room_far false true s e n q h = let x = h refl in subst T (sym (le-leb (s + 4 + n) q (up s n q x))) tt
  where
    up : (s n q : ℕ) → 4 + n ≤ q - s → s + 4 + n ≤ q
    up s n q x = omega arith
room_far false false s e n q h = let x = h refl in subst T (sym (lt-ltb (q + 4 + n) e (up e n q x))) tt
  where
    up : (e n q : ℕ) → 4 + n ≤ e - 1 - q → q + 4 + n < e
    up e n q x = omega arith

pub roomy_of : (k : Track) (n q : ℕ) → Inside k n q → T (roomy k n q)
roomy_of k n q i = room_far k.looped k.backwards k.low k.high n q i.ends

module _ (k : Track) (q m n : ℕ) (o : On k q) where
  -- space for m + n steps: for m, and then for n
  pub roomy_first : T (roomy k (m + n) q) → T (roomy k m q)
  roomy_first h = roomy_of k m q (inside_first m n k q (inside_of k (m + n) q o h))

  pub roomy_rest : T (roomy k (m + n) q) → T (roomy k n (nexts m k q))
  roomy_rest h = roomy_of k n (nexts m k q) (inside_rest m n k q (inside_of k (m + n) q o h))

  pub roomy_both : T (roomy k m q) → T (roomy k n (nexts m k q)) → T (roomy k (m + n) q)
  roomy_both h j =
      let a = inside_of k m q o h in
      let b = inside_of k n (nexts m k q) (on_nexts m k q o) j in
      roomy_of k (m + n) q (record { on = o; ends = λ e. (let x = a.ends e in let y = b.ends e in let w = (nexts_within m k q o (omega arith)).left in omega arith) })
