-- The three moves case by case, as the code meets them: playing or not, a step back at the loop's start or not; and whether a step wraps.
-- By deciding each test of the definitions. Assumes nothing.
use Rattle.std.specs.Prelude.{Option, Some, None}
use Prim.Native.Nat.{ℕ, ◌+◌, ◌-◌, ◌≤◌, ◌<◌}
use mathlib.Core.Path.{◌≡◌, refl, sym, ap, ap₂, ◌∙◌}
use mathlib.Core.Bool.{Bool, true, false, not, cond, ◌&&◌, and-true, and-false}
use lib.Dec.{leb}
use borrow.Author.Tests.{lt-ltb, le-ltb, eq-eqb, ne_eqb}
use Rattle.transport.specs.declared.Transport.{Transport}
use Rattle.transport.specs.Moves.{under, back, first, landed, forward, backward, at_end, at_start, wraps}

-- the transport with its two numbers changed
abbrev pub moved : Transport → ℕ → Bool → Transport
moved t q b = record { position = q; loop_region = t.loop_region; playing = b }

-- ---- the end of playing

pub landed_past : (n : ℕ) (t : Transport) (q : ℕ) → n ≤ q → landed n t q ≡ moved t q false
landed_past n t q h = ap (moved t q) (ap (λ (b : Bool). t.playing && b) (le-ltb q n h) ∙ and-false t.playing)

pub landed_inside : (n : ℕ) (t : Transport) (q : ℕ) → q < n → landed n t q ≡ moved t q t.playing
landed_inside n t q h = ap (moved t q) (ap (λ (b : Bool). t.playing && b) (lt-ltb q n h) ∙ and-true t.playing)

-- ---- a forward step

pub forward_still : (n : ℕ) (t : Transport) → t.playing ≡ false → forward n t ≡ t
unfolding forward
forward_still n t e = ap (λ (b : Bool). cond b (landed n t (under t.loop_region (t.position + 1))) t) e

pub forward_going : (n : ℕ) (t : Transport) → t.playing ≡ true → forward n t ≡ landed n t (under t.loop_region (t.position + 1))
unfolding forward
forward_going n t e = ap (λ (b : Bool). cond b (landed n t (under t.loop_region (t.position + 1))) t) e

-- ---- a backward step

pub backward_still : (t : Transport) → t.playing ≡ false → backward t ≡ t
unfolding backward
backward_still t e = ap (λ (b : Bool). cond b (moved t (back t.loop_region t.position) (not (first t.loop_region t.position))) t) e

pub backward_going : (t : Transport) → t.playing ≡ true
    → backward t ≡ moved t (back t.loop_region t.position) (not (first t.loop_region t.position))
unfolding backward
backward_going t e = ap (λ (b : Bool). cond b (moved t (back t.loop_region t.position) (not (first t.loop_region t.position))) t) e

-- with its loop known
pub backward_looped : (t : Transport) (s e q : ℕ) → t.playing ≡ true → t.loop_region ≡ Some (s, e) → back (Some (s, e)) t.position ≡ q
    → backward t ≡ moved t q t.playing
backward_looped t s e q p l h =
    backward_going t p
    ∙ ap (λ (r : Option (ℕ × ℕ)). moved t (back r t.position) (not (first r t.position))) l
    ∙ ap₂ (moved t) h (sym p)

pub backward_ended : (t : Transport) → t.playing ≡ true → t.loop_region ≡ None → t.position ≡ 0 → backward t ≡ moved t t.position false
backward_ended t p l z =
    backward_going t p
    ∙ ap (λ (r : Option (ℕ × ℕ)). moved t (back r t.position) (not (first r t.position))) l
    ∙ ap₂ (moved t) (ap (λ (x : ℕ). x - 1) z ∙ sym z) (ap not (eq-eqb t.position 0 z))

pub backward_plain : (t : Transport) → t.playing ≡ true → t.loop_region ≡ None → (t.position ≡ 0 → ⊥) → backward t ≡ moved t (t.position - 1) t.playing
backward_plain t p l z =
    backward_going t p
    ∙ ap (λ (r : Option (ℕ × ℕ)). moved t (back r t.position) (not (first r t.position))) l
    ∙ ap (moved t (t.position - 1)) (ap not (ne_eqb t.position 0 z) ∙ sym p)

-- ---- whether a step wraps

pub wraps_still : (b : Bool) (t : Transport) → t.playing ≡ false → false ≡ wraps b t
unfolding wraps
wraps_still b t p = sym (ap (λ (p : Bool). p && cond b (at_start t.loop_region t.position) (at_end t.loop_region (t.position + 1))) p)

-- playing, with its direction known
pub wraps_going : (b d : Bool) (t : Transport) → b ≡ d → t.playing ≡ true
    → cond d (at_start t.loop_region t.position) (at_end t.loop_region (t.position + 1)) ≡ wraps b t
unfolding wraps
wraps_going b d t e p = sym (ap₂ (λ (p b : Bool). p && cond b (at_start t.loop_region t.position) (at_end t.loop_region (t.position + 1))) p e)

-- and with its loop known
pub wraps_on : (t : Transport) (s e : ℕ) → t.playing ≡ true → t.loop_region ≡ Some (s, e) → wraps false t ≡ leb e (t.position + 1)
wraps_on t s e p l = sym (wraps_going false false t refl p) ∙ ap (λ (r : Option (ℕ × ℕ)). at_end r (t.position + 1)) l

pub wraps_back : (t : Transport) (s e : ℕ) → t.playing ≡ true → t.loop_region ≡ Some (s, e) → wraps true t ≡ leb t.position s
wraps_back t s e p l = sym (wraps_going true true t refl p) ∙ ap (λ (r : Option (ℕ × ℕ)). at_start r t.position) l
