-- The writer's loops: what is left to write after i rows, and one more row.
use mathlib.Core.Path.{◌≡◌, refl, sym, ap, ◌∙◌}
use Prim.Native.Nat.{ℕ, suc, ◌+◌, ◌-◌, ◌/◌, ◌%◌, ◌≤◌, ◌<◌}
use native.Mathlib.Omega.{arith}
use native.Mathlib.Numerals.{add-one, unary_clauses}
use mathlib.Core.Bool.{Bool, true, false, cond}
use mathlib.Core.List.{List, [], ◌∷◌, ◌++◌, append_assoc}
use lib.ListN.{length, get_or, take, drop, set, length-append, drop_of_length-le}
use lib.Seq.{drop-cons, take-suc, drop-drop, sets, sets-eq}
use borrow.Rule.Slice.PartMut.{put_mid}
use Rattle.byte_layout.specs.declared.Row.{Row}
use Rattle.byte_layout.specs.Numbers.{bytes}
use Rattle.byte_layout.specs.Rows.{stands}
use Rattle.byte_layout.specs.Writes.{field, payload, fits, fine}

pub sets_append : (l : List ℕ) (a : ℕ) (xs ys : List ℕ) → sets l a (xs ++ ys) ≡ sets (sets l a xs) (a + length xs) ys
sets_append l a [] ys = ap (λ (n : ℕ). sets l n ys) (omega arith)
sets_append l a (x ∷ xs) ys = sets_append (set l a x) (suc a) xs ys ∙ ap (λ (n : ℕ). sets (sets (set l a x) (suc a) xs) n ys) (omega arith)

-- one byte of a number whose last goes before e
pub byte_next : (l : List ℕ) (i e y : ℕ) → i < e → sets (set l i (y % 256)) (i + 1) (bytes (e - (i + 1)) (y / 256)) ≡ sets l i (bytes (e - i) y)
unfolding bytes
byte_next l i e y h =
    let f : e - i ≡ suc (e - (i + 1)) = omega arith in
    rw (f, add-one i) refl

pub byte_last : (l : List ℕ) (i e y : ℕ) → e ≤ i → sets l i (bytes (e - i) y) ≡ l
unfolding bytes
byte_last l i e y h = let f : e - i ≡ 0 = omega arith in rw f refl

-- the bytes of row r, the row of number i, and of the rows of a table from i on
abbrev pub row_of : Row → List ℕ → ℕ → List ℕ
row_of r v i = field (stands r (take i v)) r (get_or v i 0)

unfoldable pub tail_of : List Row → List ℕ → ℕ → List ℕ
tail_of t v i = payload (drop i t) (take i v) (take (length t - i) (drop i v))

unfoldable pub fine_of : List Row → List ℕ → ℕ → Bool
fine_of t v i = fine (drop i t) (take i v) (take (length t - i) (drop i v))

pub tail_start : (t : List Row) (v : List ℕ) → tail_of t v 0 ≡ payload t [] (take (length t) v)
unfolding tail_of
tail_start t v = simp unary_clauses

pub tail_next : (t : List Row) (z : Row) (v : List ℕ) (i : ℕ) → i < length t → i < length v → tail_of t v i ≡ row_of (get_or t i z) v i ++ tail_of t v (i + 1)
unfolding tail_of payload
tail_next t z v i h l =
    let e : length t - i ≡ suc (length t - (i + 1)) = omega arith in
    rw (e, add-one i, drop-cons t i z h, drop-cons v i 0 l, take-suc v i 0 l) refl

pub tail_end : (t : List Row) (v : List ℕ) (i : ℕ) → length t ≤ i → tail_of t v i ≡ []
unfolding tail_of payload
tail_end t v i h = rw (drop_of_length-le t h) refl

pub fine_start : (t : List Row) (v : List ℕ) → fine_of t v 0 ≡ fine t [] (take (length t) v)
unfolding fine_of
fine_start t v = simp unary_clauses

pub fine_next : (t : List Row) (z : Row) (v : List ℕ) (i : ℕ) → i < length t → i < length v
    → fine_of t v i ≡ cond (fits (stands (get_or t i z) (take i v)) (get_or t i z) (get_or v i 0)) (fine_of t v (i + 1)) false
unfolding fine_of fine
fine_next t z v i h l =
    let e : length t - i ≡ suc (length t - (i + 1)) = omega arith in
    rw (e, add-one i, drop-cons t i z h, drop-cons v i 0 l, take-suc v i 0 l) refl

pub fine_end : (t : List Row) (v : List ℕ) (i : ℕ) → length t ≤ i → fine_of t v i ≡ true
unfolding fine_of fine
fine_end t v i h = let e : length t - i ≡ 0 = omega arith in rw (drop_of_length-le t h, e) refl

pub fielded : (b : Bool) (r : Row) (x : ℕ) → true ≡ b → field b r x ≡ bytes r.width x
unfolding field
fielded b r x e = rw (← e) refl

pub unfielded : (b : Bool) (r : Row) (x : ℕ) → false ≡ b → field b r x ≡ []
unfolding field
unfielded b r x e = rw (← e) refl

module _ (t : List Row) (z : Row) (v : List ℕ) (i : ℕ) (h : i < length t) (l : i < length v) where
  abbrev row_bytes : List ℕ
  row_bytes = row_of (get_or t i z) v i

  pub row_room : length (tail_of t v i) ≡ length row_bytes + length (tail_of t v (i + 1))
  row_room = ap length (tail_next t z v i h l) ∙ length-append row_bytes (tail_of t v (i + 1))

  pub row_put : (buf new : List ℕ) (a b : ℕ) → new ≡ sets buf a row_bytes → b ≡ a + length row_bytes
      → sets new b (tail_of t v (i + 1)) ≡ sets buf a (tail_of t v i)
  row_put buf new a b p q = rw (p, q, tail_next t z v i h l) (sym (sets_append buf a row_bytes (tail_of t v (i + 1))))

-- a part of a slice, written over
pub put_over : (l ys : List ℕ) (a k : ℕ) → length ys ≡ k → a + k ≤ length l → put_mid a k l ys ≡ sets l a ys
put_over l ys a k e h =
    let p : sets l a ys ≡ take a l ++ ys ++ drop (a + length ys) l = sets-eq ys l a (omega arith) in
    rw (p, append_assoc (take a l) ys (drop (a + length ys) l), e, ← drop-drop k a l) refl
