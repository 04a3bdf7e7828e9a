-- The results that loading can have, from the tests of the code. Assumes nothing.
use mathlib.Core.Path.{◌≡◌, refl, sym, ap, ◌∙◌}
use Prim.Native.Nat.{ℕ, ◌≤◌, ◌<◌}
use native.Mathlib.Omega.{arith}
use mathlib.Core.Bool.{Bool, true, ◌&&◌, cond}
use mathlib.Core.List.{List, [], ◌∷◌}
use lib.Dec.{leb}
use lib.ListN.{length, take, drop}
use borrow.Author.Tests.{le-leb, lt-leb}
use Rattle.std.specs.Prelude.{Ok, Err}
use Rattle.refusals.specs.declared.Refusal.{Refusal}
use Rattle.refusals.specs.Numbers.{number}
use Rattle.byte_layout.specs.declared.Parsed.{Parsed}
use Rattle.byte_layout.specs.Rows.{sound}
use Rattle.byte_layout.specs.Reads.{bad, good, steps, view}
use Rattle.saved_loops.specs.Tables.{half_rows}
use Rattle.saved_loops.specs.Records.{well_formed, crc_right, refused_by, shown, judged, loaded, half_of}

pub half_sound : sound half_rows ≡ true
unfolding sound half_rows
half_sound = refl

pub few : length half_rows ≤ 80
unfolding half_rows
few = omega arith

module _ (s : List ℕ) where
  pub refused_load : (r : Refusal) → bad (number r) ≡ steps half_rows (good 666 [] s) → half_of (Err r) ≡ loaded s
  unfolding loaded judged
  refused_load r e = ap (judged s) e

  module _ (p : Parsed) (e : view s 23 (Ok p) ≡ steps half_rows (good 666 [] s)) where
    -- all numbers are there
    opens : loaded s ≡ cond (leb 666 (length s)) (shown (well_formed (drop 4 (take 23 p.values)) && crc_right s) (drop 4 (take 23 p.values))) (refused_by 18)
    unfolding loaded judged
    opens = ap (judged s) (sym e)

    pub short : length s < 666 → refused_by 18 ≡ loaded s
    short l = sym (opens ∙ ap (λ (b : Bool). cond b (shown (well_formed (drop 4 (take 23 p.values)) && crc_right s) (drop 4 (take 23 p.values))) (refused_by 18)) (lt-leb 666 (length s) l))

    pub long : (ws : List ℕ) (b : Bool) → 666 ≤ length s → ws ≡ take 19 (drop 4 p.values) → b ≡ (well_formed ws && crc_right s) → shown b ws ≡ loaded s
    long ws b l w f =
        ap (λ (x : Bool). shown x ws) f ∙ ap (λ (xs : List ℕ). shown (well_formed xs && crc_right s) xs) (w ∙ inner p.values)
        ∙ sym (opens ∙ ap (λ (b : Bool). cond b (shown (well_formed (drop 4 (take 23 p.values)) && crc_right s) (drop 4 (take 23 p.values))) (refused_by 18)) (le-leb 666 (length s) l))
      where
        -- the words are numbers 4 to 22
        inner : (xs : List ℕ) → take 19 (drop 4 xs) ≡ drop 4 (take 23 xs)
        inner [] = refl
        inner (a ∷ []) = refl
        inner (a ∷ b ∷ []) = refl
        inner (a ∷ b ∷ c ∷ []) = refl
        inner (a ∷ b ∷ c ∷ d ∷ xs) = refl
