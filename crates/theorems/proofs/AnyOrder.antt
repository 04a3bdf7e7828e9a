-- The order of steps in a loop does not matter: a step is a remainder, and a remainder behaves like its number. By induction on the steps. Assumes nothing.
use Rattle.std.specs.Prelude.{Option, Some}
use mathlib.Core.Path.{◌≡◌, refl, sym, ap, ap₂, ◌∙◌, subst}
use Prim.Native.Nat.{ℕ, suc, ◌+◌, ◌-◌, ◌*◌, ◌/◌, ◌%◌, ◌≤◌, ◌<◌}
use native.Mathlib.Nat.{mod-lt, mod-add-mod, add-mul-mod_self_left, mod-eq_of_lt, mod-add-div, add_assoc, sub-zero}
use native.Mathlib.Omega.{arith}
use mathlib.Core.Bool.{Bool, true, false, cond}
use mathlib.Core.List.{List, [], ◌∷◌}
use lib.Dec.{leb}
use lib.ListN.{take}
use borrow.Author.Tests.{leb-true, leb-false, lt-ltb}
use Rattle.transport.specs.declared.Transport.{Transport}
use Rattle.transport.specs.Moves.{cycled, landed, forward, backward}
use Rattle.transport.specs.WellFormed.{Inside}
use Rattle.transport.proofs.Wraps.{cycled_above, cycled_below, cycled_lt}
use Rattle.theorems.specs.AnyOrder.{Step, Forward, Backward, forwards, backwards, walked, AnyOrder, ThereAndBack, Permuted, none, kept, swapped, then, Permutations}

-- ---- remainders

-- taking b away is adding l - 1 times b
above : (a b l : ℕ) → b ≤ a → 0 < l → a + (l - 1) * b ≡ a - b + l * b
above a b l h p = go (a - b) (l - 1) (whole h) (more p)
  where
    whole : b ≤ a → a ≡ a - b + b
    whole h = omega arith

    more : 0 < l → l ≡ suc (l - 1)
    more p = omega arith

    go : (c m : ℕ) → a ≡ c + b → l ≡ suc m → a + m * b ≡ c + l * b
    go c m e f = rw (e, f) (omega arith)

poly : (a q r j : ℕ) → a + (r + j) * (a + (r + (r + j + 1) * q) + 1) ≡ j + (r + j + 1) * (a + (r + j) * q + r)
poly a q r j = omega arith

core : (a b l r q j : ℕ) → l ≡ r + j + 1 → b ≡ a + (r + l * q) + 1 → a + (l - 1) * b ≡ l - 1 - r + l * (a + (l - 1) * q + r)
core a b l r q j e f =
    let e1 : l - 1 ≡ r + j = omega arith in
    let e2 : l - 1 - r ≡ j = omega arith in
    rw (e2, e1, f, e) (poly a q r j)

below : (a b l : ℕ) → a < b → 0 < l → a + (l - 1) * b ≡ l - 1 - (b - a - 1) % l + l * (a + (l - 1) * ((b - a - 1) / l) + (b - a - 1) % l)
below a b l h p = go ((b - a - 1) % l) ((b - a - 1) / l) (mod-lt (b - a - 1) p) (mod-add-div (b - a - 1) l)
  where
    go : (r q : ℕ) → r < l → r + l * q ≡ b - a - 1 → a + (l - 1) * b ≡ l - 1 - r + l * (a + (l - 1) * q + r)
    go r q k e = core a b l r q (l - 1 - r) (omega arith) (omega arith)

cycled_is : (a b l : ℕ) → 0 < l → cycled a b l ≡ (a + (l - 1) * b) % l
cycled_is a b l p = go (leb b a) refl
  where
    less : (r : ℕ) → 0 < l → l - 1 - r < l
    less r p = omega arith

    go : (t : Bool) → leb b a ≡ t → cond t ((a - b) % l) (l - 1 - (b - a - 1) % l) ≡ (a + (l - 1) * b) % l
    go true e = sym (ap (λ (n : ℕ). n % l) (above a b l (leb-true b a e) p) ∙ add-mul-mod_self_left (a - b) l b)
    go false e =
        sym
        (ap (λ (n : ℕ). n % l) (below a b l (leb-false b a e) p)
        ∙ add-mul-mod_self_left (l - 1 - (b - a - 1) % l) l (a + (l - 1) * ((b - a - 1) / l) + (b - a - 1) % l)
        ∙ mod-eq_of_lt (less ((b - a - 1) % l) p))

-- a remainder behaves like its number
cycled_cycled : (a b c d l : ℕ) → 0 < l → cycled (cycled a b l + c) d l ≡ cycled (a + c) (b + d) l
cycled_cycled a b c d l p =
    cycled_is (cycled a b l + c) d l p
    ∙ ap (λ (n : ℕ). (n + c + (l - 1) * d) % l) (cycled_is a b l p)
    ∙ ap (λ (n : ℕ). n % l) (add_assoc ((a + (l - 1) * b) % l) c ((l - 1) * d))
    ∙ mod-add-mod (a + (l - 1) * b) l (c + (l - 1) * d)
    ∙ ap (λ (n : ℕ). n % l) (sorted a b c d (l - 1))
    ∙ sym (cycled_is (a + c) (b + d) l p)
  where
    sorted : (a b c d m : ℕ) → a + m * b + (c + m * d) ≡ a + c + m * (b + d)
    sorted a b c d m = omega arith

-- ---- the two steps

-- a transport at offset x in its loop
abbrev at : ℕ → ℕ → ℕ → Transport
at s e x = record { position = s + x; loop_region = Some (s, e); playing = true }

forward_at : (n s e x : ℕ) → x < e - s → e ≤ n → forward n (at s e x) ≡ at s e (cycled (x + 1) 0 (e - s))
unfolding forward
forward_at n s e x h k =
    ap (landed n (at s e x)) (go (leb e (s + x + 1)) refl)
    ∙ ap (λ (b : Bool). record { position = s + cycled (x + 1) 0 (e - s); loop_region = Some (s, e); playing = b })
    (lt-ltb (s + cycled (x + 1) 0 (e - s)) n (inside (cycled (x + 1) 0 (e - s)) (cycled_lt (x + 1) 0 (e - s) pos)))
  where
    pos : 0 < e - s
    pos = omega arith

    inside : (c : ℕ) → c < e - s → s + c < n
    inside c l = omega arith

    next : cycled (x + 1) 0 (e - s) ≡ (x + 1) % (e - s)
    next = cycled_above (x + 1) 0 (e - s) (omega arith) ∙ ap (λ (m : ℕ). m % (e - s)) (sub-zero (x + 1))

    same : (s x : ℕ) → s + x + 1 - s ≡ x + 1
    same s x = omega arith

    room : s + x + 1 < e → x + 1 < e - s
    room l = omega arith

    go : (t : Bool) → leb e (s + x + 1) ≡ t → cond t (s + cycled (s + x + 1) s (e - s)) (s + x + 1) ≡ s + cycled (x + 1) 0 (e - s)
    go true q = ap (λ (c : ℕ). s + c) (cycled_above (s + x + 1) s (e - s) (omega arith) ∙ ap (λ (m : ℕ). m % (e - s)) (same s x) ∙ sym next)
    go false q = add_assoc s x 1 ∙ ap (λ (c : ℕ). s + c) (sym (next ∙ mod-eq_of_lt (room (leb-false e (s + x + 1) q))))

backward_at : (s e x : ℕ) → x < e - s → backward (at s e x) ≡ at s e (cycled x 1 (e - s))
unfolding backward
backward_at s e x h = ap (λ (q : ℕ). record { position = q; loop_region = Some (s, e); playing = true }) (go (leb (s + x) s) refl)
  where
    low : s + x ≤ s → s + x < suc s
    low l = omega arith

    nil : s + x ≤ s → suc s - (s + x) - 1 ≡ 1 - x - 1
    nil l = omega arith

    zero_x : s + x ≤ s → x < 1
    zero_x l = omega arith

    less : s < s + x → s + x - 1 ≡ s + (x - 1)
    less l = omega arith

    more : s < s + x → 1 ≤ x
    more l = omega arith

    small : x - 1 < e - s
    small = omega arith

    go : (t : Bool) → leb (s + x) s ≡ t → cond t (s + cycled (s + x) (suc s) (e - s)) (s + x - 1) ≡ s + cycled x 1 (e - s)
    go true q =
        ap (λ (c : ℕ). s + c)
        (cycled_below (s + x) (suc s) (e - s) (low (leb-true (s + x) s q))
        ∙ ap (λ (m : ℕ). e - s - 1 - m % (e - s)) (nil (leb-true (s + x) s q))
        ∙ sym (cycled_below x 1 (e - s) (zero_x (leb-true (s + x) s q))))
    go false q = less (leb-false (s + x) s q) ∙ ap (λ (c : ℕ). s + c) (sym (cycled_above x 1 (e - s) (more (leb-false (s + x) s q)) ∙ mod-eq_of_lt small))

-- ---- a sequence of steps

-- where a sequence leads from offset x
abbrev led : ℕ → ℕ → ℕ → List Step → ℕ
led s e x l = cycled (x + forwards l) (backwards l) (e - s)

walked_at : (n s e : ℕ) (l : List Step) (x : ℕ) → x < e - s → e ≤ n → walked n l (at s e x) ≡ at s e (led s e x l)
unfolding walked
walked_at n s e [] x h k = ap (at s e) (sym (cycled_above (x + 0) 0 (e - s) (omega arith) ∙ ap (λ (m : ℕ). m % (e - s)) (clean x) ∙ mod-eq_of_lt h))
  where
    clean : (x : ℕ) → x + 0 - 0 ≡ x
    clean x = omega arith
walked_at n s e (Forward ∷ l) x h k =
    ap (walked n l) (forward_at n s e x h k)
    ∙ walked_at n s e l (cycled (x + 1) 0 (e - s)) (cycled_lt (x + 1) 0 (e - s) pos) k
    ∙ ap (at s e) (cycled_cycled (x + 1) 0 (forwards l) (backwards l) (e - s) pos ∙ ap₂ (λ (a b : ℕ). cycled a b (e - s)) (one_more x (forwards l)) (nil (backwards l)))
  where
    pos : 0 < e - s
    pos = omega arith

    one_more : (x f : ℕ) → x + 1 + f ≡ x + suc f
    one_more x f = omega arith

    nil : (b : ℕ) → 0 + b ≡ b
    nil b = omega arith
walked_at n s e (Backward ∷ l) x h k =
    ap (walked n l) (backward_at s e x h)
    ∙ walked_at n s e l (cycled x 1 (e - s)) (cycled_lt x 1 (e - s) pos) k
    ∙ ap (at s e) (cycled_cycled x 1 (forwards l) (backwards l) (e - s) pos ∙ ap (λ (b : ℕ). cycled (x + forwards l) b (e - s)) (one_more (backwards l)))
  where
    pos : 0 < e - s
    pos = omega arith

    one_more : (b : ℕ) → 1 + b ≡ suc b
    one_more b = omega arith

-- a transport inside its loop has an offset in it
located : (s e : ℕ) (t : Transport) → Inside s e t → t ≡ at s e (t.position - s)
located s e t h =
    let f : s ≤ t.position = h.from in
    let q : t.position ≡ s + (t.position - s) = omega arith in
    ap₂ (λ (p : ℕ) (r : Option (ℕ × ℕ)). record { position = p; loop_region = r; playing = t.playing }) q h.loop
    ∙ ap (λ (b : Bool). record { position = s + (t.position - s); loop_region = Some (s, e); playing = b }) h.going

place_lt : (s e : ℕ) (t : Transport) → Inside s e t → t.position - s < e - s
place_lt s e t h = go h.from h.to
  where
    go : s ≤ t.position → t.position < e → t.position - s < e - s
    go a b = omega arith

module _ (n s e : ℕ) (t : Transport) (k : e ≤ n) (h : Inside s e t) where
  walked_is : (l : List Step) → walked n l t ≡ at s e (led s e (t.position - s) l)
  walked_is l = ap (walked n l) (located s e t h) ∙ walked_at n s e l (t.position - s) (place_lt s e t h) k

  walked_inside : (l : List Step) → Inside s e (walked n l t)
  walked_inside l = subst (Inside s e) (sym (walked_is l)) (at_inside (led s e (t.position - s) l) (cycled_lt (t.position - s + forwards l) (backwards l) (e - s) pos))
    where
      pos : 0 < e - s
      pos = let x = place_lt s e t h in omega arith

      at_inside : (x : ℕ) → x < e - s → Inside s e (at s e x)
      at_inside x q = record { loop = refl; going = refl; from = omega arith; to = omega arith }

pub any_order : AnyOrder
any_order n s e l t x =
    record { place = ap (λ (u : Transport). u.position) (walked_is n s e t x.fits x.inside l); inside = λ j. walked_inside n s e t x.fits x.inside (take j l) }

-- ---- the consequences for a tutor

counted : {l m : List Step} → Permuted l m → (forwards l ≡ forwards m) × (backwards l ≡ backwards m)
counted none = (refl, refl)
counted (kept Forward l m p) = let c = counted p in (ap (λ (x : ℕ). suc x) c.0, c.1)
counted (kept Backward l m p) = let c = counted p in (c.0, ap (λ (x : ℕ). suc x) c.1)
counted (swapped Forward Forward l) = (refl, refl)
counted (swapped Backward Forward l) = (refl, refl)
counted (swapped Forward Backward l) = (refl, refl)
counted (swapped Backward Backward l) = (refl, refl)
counted (then l m r p q) = let c = counted p in let d = counted q in (c.0 ∙ d.0, c.1 ∙ d.1)

pub permutations : Permutations
permutations n s e l m t x =
    let k = x.loop.fits in
    let h = x.loop.inside in
    let c = counted x.permuted in
    walked_is n s e t k h l
    ∙ ap₂ (λ (f b : ℕ). at s e (cycled (t.position - s + f) b (e - s))) c.0 c.1
    ∙ sym (walked_is n s e t k h m)

pub there_and_back : ThereAndBack
unfolding walked
there_and_back n s e t x = (back_home (Forward ∷ Backward ∷ []) refl refl, back_home (Backward ∷ Forward ∷ []) refl refl)
  where
    home : (x : ℕ) → x < e - s → cycled (x + 1) 1 (e - s) ≡ x
    home x q = cycled_above (x + 1) 1 (e - s) (omega arith) ∙ ap (λ (m : ℕ). m % (e - s)) (less x) ∙ mod-eq_of_lt q
      where
        less : (x : ℕ) → x + 1 - 1 ≡ x
        less x = omega arith

    back_home : (l : List Step) → forwards l ≡ 1 → backwards l ≡ 1 → walked n l t ≡ t
    back_home l f b =
        walked_is n s e t x.fits x.inside l
        ∙ ap₂ (λ (x y : ℕ). at s e (cycled (t.position - s + x) y (e - s))) f b
        ∙ ap (at s e) (home (t.position - s) (place_lt s e t x.inside))
        ∙ sym (located s e t x.inside)

-- ---- the loop (3, 6) of ten frames

abbrev three_to_six : ℕ → Transport
three_to_six p = record { position = p; loop_region = Some (3, 6); playing = true }

pub five_forward : walked 10 (Forward ∷ Forward ∷ Forward ∷ Forward ∷ Forward ∷ []) (three_to_six 4) ≡ three_to_six 3
unfolding walked forward
five_forward = refl

pub two_forward_four_back : walked 10 (Backward ∷ Forward ∷ Backward ∷ Backward ∷ Forward ∷ Backward ∷ []) (three_to_six 3) ≡ three_to_six 4
unfolding walked forward backward
two_forward_four_back = refl
