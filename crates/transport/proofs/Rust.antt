-- If a loop is not empty, kira's `while` wraps and the remainders agree, in every move and for every position.
-- By induction on the iterations: each subtracts one length from the position. Assumes nothing.
use Rattle.std.specs.Prelude.{Option, Some, None}
use Prim.Native.Nat.{ℕ, zero, suc, ◌+◌, ◌-◌, ◌%◌, ◌≤◌, ◌<◌}
use mathlib.Core.Path.{◌≡◌, refl, sym, ap, ap₂, ◌∙◌}
use mathlib.Core.Bool.{Bool, true, false, not, cond}
use native.Mathlib.Nat.{mod-eq_of_lt, mod-eq-sub-mod}
use native.Mathlib.Omega.{arith}
use lib.Dec.{T, leb, ltb, eqb, ltb→lt}
use borrow.Author.Tests.{leb-true, leb-false, ltb-true, ltb-false, lt-ltb, le-ltb, ne_eqb, eqb-true}
use Rattle.playback_position.specs.Positions.{ordered}
use Rattle.transport.specs.declared.Transport.{Transport}
use Rattle.transport.specs.Moves.{cycled, under, over, back, first, landed, forward, backward, seek}
use Rattle.transport.specs.Rust.{lowered, raised, while_at_end, while_below_start, while_at_start, less_one, increment_position, decrement_position, seek_to}
use Rattle.transport.proofs.Wraps.{picked, cycled_below, under_inside, under_wrap}
use Rattle.transport.proofs.Steps.{moved}

-- ---- down

-- one iteration does not change the final position
lower_turn : (s e p : ℕ) → s < e → e ≤ p → under (Some (s, e)) (p - (e - s)) ≡ under (Some (s, e)) p
lower_turn s e p l h = go (leb e (p - (e - s))) refl
  where
    shift : (p - s) % (e - s) ≡ (p - (e - s) - s) % (e - s)
    shift = mod-eq-sub-mod {n = p - s} {m = e - s} (omega arith) ∙ ap (λ (x : ℕ). x % (e - s)) (swap s (e - s))
      where
        swap : (a b : ℕ) → p - a - b ≡ p - b - a
        swap a b = omega arith

    go : (b : Bool) → leb e (p - (e - s)) ≡ b → under (Some (s, e)) (p - (e - s)) ≡ under (Some (s, e)) p
    go true t =
        let k = leb-true e (p - (e - s)) t in
        under_wrap s e (p - (e - s)) l k ∙ sym (under_wrap s e p l h ∙ ap (λ (x : ℕ). s + x) shift)
    go false t =
        let k = leb-false e (p - (e - s)) t in
        under_inside s e (p - (e - s)) k
        ∙ sym (under_wrap s e p l h ∙ ap (λ (x : ℕ). s + x) (shift ∙ mod-eq_of_lt (omega arith)) ∙ (omega arith))

-- as many iterations as the position, or more, end at the remainder
pub lowered_under : (k s e p : ℕ) → s < e → p ≤ k → lowered k e (e - s) p ≡ under (Some (s, e)) p
unfolding lowered
lowered_under zero s e p l h = sym (under_inside s e p (omega arith))
lowered_under (suc k) s e p l h =
    picked (λ x. x ≡ under (Some (s, e)) p) (leb e p) _ p
    (λ t. let m = leb-true e p t in lowered_under k s e (p - (e - s)) l (omega arith) ∙ lower_turn s e p l m)
    (λ t. sym (under_inside s e p (leb-false e p t)))

-- ---- up

-- the first position from b on that p reaches by steps of l
abbrev pub lifted : ℕ → ℕ → ℕ → ℕ
lifted b l p = cond (ltb p b) (b + (l - 1 - (b - p - 1) % l)) p

lifted_below : (b l p : ℕ) → p < b → lifted b l p ≡ b + (l - 1 - (b - p - 1) % l)
lifted_below b l p h = rw (lt-ltb p b h)

lifted_past : (b l p : ℕ) → b ≤ p → lifted b l p ≡ p
lifted_past b l p h = rw (le-ltb p b h)

raise_turn : (b l p : ℕ) → 0 < l → p < b → lifted b l (p + l) ≡ lifted b l p
raise_turn b l p z h = go (ltb (p + l) b) refl
  where
    go : (t : Bool) → ltb (p + l) b ≡ t → lifted b l (p + l) ≡ lifted b l p
    go true t =
        let k = ltb-true (p + l) b t in
        lifted_below b l (p + l) k
        ∙ ap (λ (x : ℕ). b + (l - 1 - x)) (sym (mod-eq-sub-mod {n = b - p - 1} {m = l} (omega arith) ∙ ap (λ (x : ℕ). x % l) (swap b p l)))
        ∙ sym (lifted_below b l p h)
      where
        swap : (b p l : ℕ) → b - p - 1 - l ≡ b - (p + l) - 1
        swap b p l = omega arith
    go false t =
        let k = ltb-false (p + l) b t in
        lifted_past b l (p + l) k ∙ sym (lifted_below b l p h ∙ ap (λ (x : ℕ). b + (l - 1 - x)) (mod-eq_of_lt (omega arith)) ∙ (omega arith))

-- as many iterations as the bound, or more, end at the remainder
pub raised_lifted : (k b l p : ℕ) → 0 < l → b ≤ p + k → raised k b l p ≡ lifted b l p
unfolding raised
raised_lifted zero b l p z h = sym (lifted_past b l p (omega arith))
raised_lifted (suc k) b l p z h =
    picked (λ x. x ≡ lifted b l p) (ltb p b) _ p
    (λ t. let m = ltb-true p b t in raised_lifted k b l (p + l) z (omega arith) ∙ raise_turn b l p z m)
    (λ t. sym (lifted_past b l p (ltb-false p b t)))

-- ---- the three wraps

pub while_at_end_lem : (r : Option (ℕ × ℕ)) (p : ℕ) → T (ordered r) → while_at_end r p ≡ under r p
while_at_end_lem None p h = refl
while_at_end_lem (Some (s, e)) p h = let l = ltb→lt s e h in lowered_under p s e p l (omega arith)

pub while_below_start_lem : (r : Option (ℕ × ℕ)) (p : ℕ) → T (ordered r) → while_below_start r p ≡ over r p
while_below_start_lem None p h = refl
while_below_start_lem (Some (s, e)) p h = let l = ltb→lt s e h in raised_lifted s s (e - s) p (omega arith) (omega arith) ∙ go (ltb p s) refl
  where
    go : (t : Bool) → ltb p s ≡ t → cond t (s + (e - s - 1 - (s - p - 1) % (e - s))) p ≡ cond t (s + cycled p s (e - s)) p
    go true t = ap (λ (x : ℕ). s + x) (sym (cycled_below p s (e - s) (ltb-true p s t)))
    go false t = refl

-- past the start, one less is the step back
pub while_at_start_lem : (s e p : ℕ) → s < e → while_at_start (Some (s, e)) p ≡ suc (back (Some (s, e)) p)
while_at_start_lem s e p l = raised_lifted (suc s) (suc s) (e - s) p (omega arith) (omega arith) ∙ go (leb p s) refl
  where
    go : (t : Bool) → leb p s ≡ t → lifted (suc s) (e - s) p ≡ suc (cond t (s + cycled p (suc s) (e - s)) (p - 1))
    go true t =
        let h : p < suc s = omega (arith, leb-true p s t) in
        lifted_below (suc s) (e - s) p h ∙ ap (λ (x : ℕ). suc s + x) (sym (cycled_below p (suc s) (e - s) h)) ∙ (omega arith)
    go false t =
        let h = leb-false p s t in
        lifted_past (suc s) (e - s) p (omega arith) ∙ (omega arith)

-- so it is never 0, and playing goes on
less_one_lem : (t : Transport) (r : Option (ℕ × ℕ)) (p : ℕ) → t.playing ≡ true → T (ordered r)
    → less_one t (while_at_start r p) ≡ moved t (back r p) (not (first r p))
less_one_lem t None p g h = go (eqb p 0) refl
  where
    go : (b : Bool) → eqb p 0 ≡ b → moved t (cond b p (p - 1)) (cond b false t.playing) ≡ moved t (p - 1) (not b)
    go true e = let z = eqb-true p 0 e in ap (λ (x : ℕ). moved t x false) (omega arith)
    go false e = ap (moved t (p - 1)) g
less_one_lem t (Some (s, e)) p g h = ap (less_one t) (while_at_start_lem s e p (ltb→lt s e h)) ∙ next (back (Some (s, e)) p)
  where
    next : (x : ℕ) → less_one t (suc x) ≡ moved t x true
    next x =
        ap (λ (b : Bool). moved t (cond b (suc x) (suc x - 1)) (cond b false t.playing)) (ne_eqb (suc x) 0 (λ z. omega arith))
        ∙ ap₂ (moved t) (omega arith) g

-- ---- the three moves

pub forward_is_rust : (n : ℕ) (t : Transport) → T (ordered t.loop_region) → forward n t ≡ increment_position n t
unfolding forward increment_position
forward_is_rust n t h =
    ap (λ (q : ℕ). cond t.playing (landed n t q) t) (sym (while_at_end_lem t.loop_region (t.position + 1) h))

pub backward_is_rust : (t : Transport) → T (ordered t.loop_region) → backward t ≡ decrement_position t
unfolding backward decrement_position
backward_is_rust t h = go t.playing refl
  where
    go : (b : Bool) → t.playing ≡ b
        → cond b (moved t (back t.loop_region t.position) (not (first t.loop_region t.position))) t
        ≡ cond b (less_one t (while_at_start t.loop_region t.position)) t
    go true e = sym (less_one_lem t t.loop_region t.position e h)
    go false e = refl

pub seek_is_rust : (n : ℕ) (t : Transport) (q : ℕ) → T (ordered t.loop_region) → seek n t q ≡ seek_to n t q
unfolding seek seek_to
seek_is_rust n t q h =
    ap₂ (λ (x y : ℕ). landed n t (cond (ltb t.position q) x y))
    (sym (while_at_end_lem t.loop_region q h))
    (sym (while_below_start_lem t.loop_region q h))
