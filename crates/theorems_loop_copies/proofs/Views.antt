-- A copy as two views, one for each hall: its number and its half. A merge picks each hall's newer view. Assumes nothing.
use mathlib.Core.Path.{◌≡◌, refl, sym, ap, ap₂, ◌∙◌, subst}
use Prim.Native.Nat.{ℕ, zero, suc, ◌+◌, ◌-◌, ◌≤◌, ◌<◌}
use native.Mathlib.Omega.{arith}
use mathlib.Core.Bool.{Bool, true, false, not, ◌&&◌, ◌||◌, cond}
use mathlib.Core.List.{List, [], ◌∷◌, ◌++◌}
use lib.Dec.{T, eqb, ltb}
use lib.ListN.{length, get_or, take, drop, take-append-drop, length-append, length-drop}
use lib.Seq.{length-take-le, take-append-le, take-take, drop_at, get_or-take, get_or-drop, ext_get_or}
use lib.Ieee.Fits.{and_i, and_l, and_r}
use borrow.Author.Tests.{eqb-true, eqb-false, eq-eqb, ltb-true, ltb-false, lt-ltb, le-ltb, le-leb}
use Rattle.numbers.specs.Lists.{all}
use Rattle.loop_table.specs.declared.Hall.{Hall}
use Rattle.loop_table.specs.declared.Hall.TheVariants as hall
use Rattle.loop_table.specs.declared.LoopSlot.{LoopSlot}
use Rattle.loop_table.specs.declared.LoopTable.{LoopTable}
use Rattle.loop_table.specs.Tables.{slot_of, empty, well_formed_slot, well_formed_table, half, owns, held_in}
use Rattle.loop_table.proofs.Accepted.{passed}
use Rattle.theorems_loop_table.proofs.Stores.{so, held_half}
use Rattle.loop_copies.specs.declared.LoopCopy.{LoopCopy}
use Rattle.loop_copies.specs.Copies.{changes_of, same_slot, same_slots, first, agrees, refused_merge, newer, merged, merged_copy}
use Rattle.theorems_loop_copies.specs.Merging.{Sixteen}

-- ---- views

pub record View : Type 0 where
  pub number : ℕ
  pub slots : List LoopSlot

abbrev pub view : Hall → LoopCopy → View
view h c = record { number = changes_of h c; slots = half h c.table }

-- the newer of two; the first if they have the same number
abbrev pub pick : View → View → View
pick v w = cond (ltb v.number w.number) w v

pub picked : (P : View → Type 0) (v w : View) → (v.number < w.number → P w) → (w.number ≤ v.number → P v) → P (pick v w)
picked P v w y z = go (ltb v.number w.number) refl
  where
    go : (b : Bool) → ltb v.number w.number ≡ b → P (cond b w v)
    go true e = y (ltb-true _ _ e)
    go false e = z (ltb-false _ _ e)

pub pick_newer : (v w : View) → v.number < w.number → pick v w ≡ w
pick_newer v w l = ap (λ (b : Bool). cond b w v) (lt-ltb _ _ l)

pub pick_older : (v w : View) → w.number ≤ v.number → pick v w ≡ v
pick_older v w l = ap (λ (b : Bool). cond b w v) (le-ltb _ _ l)

-- the leftmost newest: the grouping does not matter
pub pick_grouping : (u v w : View) → pick (pick u v) w ≡ pick u (pick v w)
pick_grouping u v w =
    picked (λ (x : View). pick x w ≡ pick u (pick v w)) u v (λ l. later l) (λ l. earlier l)
  where
    later : u.number < v.number → pick v w ≡ pick u (pick v w)
    later l = sym (pick_newer u (pick v w) (picked (λ (x : View). u.number < x.number) v w (λ m. omega (arith, l, m)) (λ m. l)))

    earlier : v.number ≤ u.number → pick u w ≡ pick u (pick v w)
    earlier l =
        picked (λ (x : View). pick u w ≡ pick u x) v w (λ m. refl) (λ m. pick_older u w (omega (arith, l, m)) ∙ sym (pick_older u v l))

-- two views with the same number are equal
abbrev pub OneView : View → View → Type 0
OneView v w = v.number ≡ w.number → v.slots ≡ w.slots

pub view_ext : (v w : View) → v.number ≡ w.number → v.slots ≡ w.slots → v ≡ w
view_ext v w e f = ap₂ (λ (n : ℕ) (s : List LoopSlot). record { number = n; slots = s }) e f

pub pick_order : (v w : View) → OneView v w → pick w v ≡ pick v w
pick_order v w o =
    picked (λ (x : View). x ≡ pick v w) w v (λ l. sym (pick_older v w (omega (arith, l)))) (λ l. other l)
  where
    other : v.number ≤ w.number → w ≡ pick v w
    other l = picked (λ (x : View). w ≡ x) v w (λ m. refl) (λ m. let e : v.number ≡ w.number = omega (arith, l, m) in sym (view_ext v w e (o e)))

-- ---- a copy and its two views

pub slots_of : (c : LoopCopy) → c.table.slots ≡ half hall.A c.table ++ half hall.B c.table
slots_of c = sym (take-append-drop 8 c.table.slots)

abbrev built : ℕ → View → View → LoopCopy
built n v w = record { table = record { num_frames = n; slots = v.slots ++ w.slots }; changes_a = v.number; changes_b = w.number }

copy_built : (c : LoopCopy) → c ≡ built c.table.num_frames (view hall.A c) (view hall.B c)
copy_built c =
    ap
    (λ (s : List LoopSlot). record { table = record { num_frames = c.table.num_frames; slots = s }; changes_a = c.changes_a; changes_b = c.changes_b })
    (slots_of c)

pub copy_ext : (c d : LoopCopy) → c.table.num_frames ≡ d.table.num_frames → ((h : Hall) → view h c ≡ view h d) → c ≡ d
copy_ext c d e f = copy_built c ∙ all_three ∙ sym (copy_built d)
  where
    all_three : built c.table.num_frames (view hall.A c) (view hall.B c) ≡ built d.table.num_frames (view hall.A d) (view hall.B d)
    all_three =
        ap (λ (n : ℕ). built n (view hall.A c) (view hall.B c)) e
        ∙ ap₂ (built d.table.num_frames) (f hall.A) (f hall.B)

newer_view : (h : Hall) (c d : LoopCopy) → view h (newer h c d) ≡ pick (view h c) (view h d)
newer_view h c d = go (ltb (changes_of h c) (changes_of h d))
  where
    go : (b : Bool) → view h (cond b d c) ≡ cond b (view h d) (view h c)
    go true = refl
    go false = refl

newer_sixteen : (h : Hall) (c d : LoopCopy) → Sixteen c → Sixteen d → Sixteen (newer h c d)
newer_sixteen h c d s t = go (ltb (changes_of h c) (changes_of h d))
  where
    go : (b : Bool) → Sixteen (cond b d c)
    go true = t
    go false = s

pub view_merged : (h : Hall) (c d : LoopCopy) → Sixteen c → Sixteen d → view h (merged c d) ≡ pick (view h c) (view h d)
view_merged hall.A c d s t =
    ap (λ (l : List LoopSlot). record { number = (newer hall.A c d).changes_a; slots = l }) first_half ∙ newer_view hall.A c d
  where
    a : List LoopSlot
    a = (newer hall.A c d).table.slots

    eight : length (take 8 a) ≡ 8
    eight = length-take-le 8 a (omega (arith, newer_sixteen hall.A c d s t))

    first_half : take 8 (take 8 a ++ drop 8 (newer hall.B c d).table.slots) ≡ take 8 a
    first_half = take-append-le 8 (take 8 a) (drop 8 (newer hall.B c d).table.slots) (omega (arith, eight)) ∙ take-take 8 8 a (omega arith)
view_merged hall.B c d s t =
    ap (λ (l : List LoopSlot). record { number = (newer hall.B c d).changes_b; slots = l }) last_half ∙ newer_view hall.B c d
  where
    a : List LoopSlot
    a = (newer hall.A c d).table.slots

    last_half : drop 8 (take 8 a ++ drop 8 (newer hall.B c d).table.slots) ≡ drop 8 (newer hall.B c d).table.slots
    last_half = drop_at (take 8 a) (drop 8 (newer hall.B c d).table.slots) 8 (length-take-le 8 a (omega (arith, newer_sixteen hall.A c d s t)))

pub sixteen_merged : (c d : LoopCopy) → Sixteen c → Sixteen d → Sixteen (merged c d)
sixteen_merged c d s t =
    length-append (take 8 a) (drop 8 b) ∙ ap₂ ◌+◌ (length-take-le 8 a (omega (arith, newer_sixteen hall.A c d s t))) (length-drop 8 b ∙ ap (λ (n : ℕ). n - 8) (newer_sixteen hall.B c d s t))
  where
    a : List LoopSlot
    a = (newer hall.A c d).table.slots

    b : List LoopSlot
    b = (newer hall.B c d).table.slots

-- ---- well formed halves make a well formed table

all_both : (p : LoopSlot → Bool) (l r : List LoopSlot) → T (all p l) → T (all p r) → T (all p (l ++ r))
all_both p [] r h g = g
all_both p (x ∷ l) r h g = and_i (p x) (all p (l ++ r)) (and_l (p x) (all p l) h) (all_both p l r (and_r (p x) (all p l) h) g)

all_take : (p : LoopSlot → Bool) (n : ℕ) (l : List LoopSlot) → T (all p l) → T (all p (take n l))
all_take p zero l h = tt
all_take p (suc n) [] h = tt
all_take p (suc n) (x ∷ l) h = and_i (p x) (all p (take n l)) (and_l (p x) (all p l) h) (all_take p n l (and_r (p x) (all p l) h))

all_drop : (p : LoopSlot → Bool) (n : ℕ) (l : List LoopSlot) → T (all p l) → T (all p (drop n l))
all_drop p zero l h = h
all_drop p (suc n) [] h = tt
all_drop p (suc n) (x ∷ l) h = all_drop p n l (and_r (p x) (all p l) h)

pub well_formed_merged : (c d : LoopCopy) → well_formed_table c.table ≡ true → well_formed_table d.table ≡ true → c.table.num_frames ≡ d.table.num_frames → well_formed_table (merged c d).table ≡ true
unfolding well_formed_table
well_formed_merged c d l m e = so (all p (take 8 (side hall.A) ++ drop 8 (side hall.B))) (all_both p (take 8 (side hall.A)) (drop 8 (side hall.B)) (all_take p 8 (side hall.A) (each hall.A)) (all_drop p 8 (side hall.B) (each hall.B)))
  where
    p : LoopSlot → Bool
    p = well_formed_slot c.table.num_frames

    side : Hall → List LoopSlot
    side h = (newer h c d).table.slots

    each : (h : Hall) → T (all p (side h))
    each h = go (ltb (changes_of h c) (changes_of h d))
      where
        go : (b : Bool) → T (all p (cond b d c).table.slots)
        go true = subst (λ (n : ℕ). T (all (well_formed_slot n) d.table.slots)) (sym e) (subst T (sym m) tt)
        go false = subst T (sym l) tt

-- ---- 28: the slots compared

same_slot_lem : (x y : LoopSlot) → T (same_slot x y) → x ≡ y
same_slot_lem x y t =
    ap₂
    slot_of
    (eqb-true _ _ (so (eqb x.start y.start) (and_l (eqb x.start y.start) (eqb x.end y.end) t)))
    (eqb-true _ _ (so (eqb x.end y.end) (and_r (eqb x.start y.start) (eqb x.end y.end) t)))

slot_same : (x y : LoopSlot) → x ≡ y → T (same_slot x y)
slot_same x y e =
    and_i
    (eqb x.start y.start)
    (eqb x.end y.end)
    (subst T (sym (eq-eqb _ _ (ap (λ (s : LoopSlot). s.start) e))) tt)
    (subst T (sym (eq-eqb _ _ (ap (λ (s : LoopSlot). s.end) e))) tt)

same_at : (m k j : ℕ) (a b : List LoopSlot) → T (same_slots m k a b) → j < m → get_or a (k + j) empty ≡ get_or b (k + j) empty
unfolding same_slots
same_at zero k j a b t l = absurd (omega (arith, l))
same_at (suc m) k j a b t l = go (same_at m k j a b) (eqb j m) refl
  where
    here : Bool
    here = same_slot (get_or a (k + m) empty) (get_or b (k + m) empty)

    go : (T (same_slots m k a b) → j < m → get_or a (k + j) empty ≡ get_or b (k + j) empty) → (q : Bool) → eqb j m ≡ q → get_or a (k + j) empty ≡ get_or b (k + j) empty
    go below true e =
        subst
        (λ (n : ℕ). get_or a (k + n) empty ≡ get_or b (k + n) empty)
        (sym (eqb-true j m e))
        (same_slot_lem (get_or a (k + m) empty) (get_or b (k + m) empty) (and_r (same_slots m k a b) here t))
    go below false e = below (and_l (same_slots m k a b) here t) (less j m l (eqb-false j m e))
      where
        less : (j m : ℕ) → j < suc m → (j ≡ m → ⊥) → j < m
        less j m l n = omega (arith, l, n)

from_zero : (a b : List LoopSlot) (i : ℕ) → get_or a (0 + i) empty ≡ get_or b (0 + i) empty → get_or a i empty ≡ get_or b i empty
from_zero a b i = subst (λ (n : ℕ). get_or a n empty ≡ get_or b n empty) (omega arith)

half_same : (h : Hall) (t u : LoopTable) → length t.slots ≡ 16 → length u.slots ≡ 16 → T (same_slots 8 (first h) t.slots u.slots) → half h t ≡ half h u
half_same hall.A t u s r e =
    ext_get_or
    empty
    (take 8 t.slots)
    (take 8 u.slots)
    (length-take-le 8 t.slots (omega (arith, s)) ∙ sym (length-take-le 8 u.slots (omega (arith, r))))
    (λ i l. let m : i < 8 = omega (arith, l, length-take-le 8 t.slots (omega (arith, s))) in get_or-take 8 t.slots i empty m ∙ from_zero t.slots u.slots i (same_at 8 0 i t.slots u.slots e m) ∙ sym (get_or-take 8 u.slots i empty m))
half_same hall.B t u s r e =
    ext_get_or
    empty
    (drop 8 t.slots)
    (drop 8 u.slots)
    (length-drop 8 t.slots ∙ ap (λ (n : ℕ). n - 8) (s ∙ sym r) ∙ sym (length-drop 8 u.slots))
    (λ i l. let m : i < 8 = omega (arith, l, length-drop 8 t.slots, s) in get_or-drop 8 t.slots i empty ∙ same_at 8 8 i t.slots u.slots e m ∙ sym (get_or-drop 8 u.slots i empty))

own_slot : (h : Hall) (m : ℕ) → m < 8 → T (owns h (first h + m))
own_slot hall.A m l = subst T (sym (lt-ltb (0 + m) 8 (omega (arith, l)))) tt
own_slot hall.B m l = subst T (sym (le-leb 8 (8 + m) (omega arith))) tt

same_half : (h : Hall) (t u : LoopTable) (m : ℕ) → m ≤ 8 → half h t ≡ half h u → T (same_slots m (first h) t.slots u.slots)
unfolding same_slots
same_half h t u zero l e = tt
same_half h t u (suc m) l e =
    and_i
    (same_slots m (first h) t.slots u.slots)
    (same_slot (get_or t.slots (first h + m) empty) (get_or u.slots (first h + m) empty))
    (same_half h t u m (omega (arith, l)) e)
    (slot_same (held_in t (first h + m)) (held_in u (first h + m)) (held_half h t u (first h + m) (own_slot h m (omega (arith, l))) e))

-- ---- when a merge is accepted

pub record Fit (c d : LoopCopy) : Type 0 where
  pub ours : well_formed_table c.table ≡ true
  pub theirs : well_formed_table d.table ≡ true
  pub frames : c.table.num_frames ≡ d.table.num_frames
  pub halves : (h : Hall) → OneView (view h c) (view h d)

agrees_halves : (h : Hall) (c d : LoopCopy) → Sixteen c → Sixteen d → T (agrees h c d) → OneView (view h c) (view h d)
agrees_halves h c d s t a e =
    half_same h c.table d.table s t (subst (λ (b : Bool). T (not b || same_slots 8 (first h) c.table.slots d.table.slots)) (eq-eqb _ _ e) a)

halves_agree : (h : Hall) (c d : LoopCopy) → OneView (view h c) (view h d) → T (agrees h c d)
halves_agree h c d o = go (eqb (changes_of h c) (changes_of h d)) refl
  where
    go : (b : Bool) → eqb (changes_of h c) (changes_of h d) ≡ b → T (not b || same_slots 8 (first h) c.table.slots d.table.slots)
    go true e = same_half h c.table d.table 8 (omega arith) (o (eqb-true _ _ e))
    go false e = tt

pub fit_of : (c d : LoopCopy) → Sixteen c → Sixteen d → refused_merge c d ≡ 0 → Fit c d
unfolding refused_merge
fit_of c d s t z =
    let p = passed (well_formed_table c.table && well_formed_table d.table) 0 _ z in
    let q = passed (eqb c.table.num_frames d.table.num_frames) 26 _ p.1 in
    let r = passed (agrees hall.A c d && agrees hall.B c d) 27 0 q.1 in
    record {
      ours = so (well_formed_table c.table) (and_l (well_formed_table c.table) (well_formed_table d.table) p.0);
      theirs = so (well_formed_table d.table) (and_r (well_formed_table c.table) (well_formed_table d.table) p.0);
      frames = eqb-true _ _ (so (eqb c.table.num_frames d.table.num_frames) q.0);
      halves = each r.0;
    }
  where
    each : T (agrees hall.A c d && agrees hall.B c d) → (h : Hall) → OneView (view h c) (view h d)
    each a hall.A = agrees_halves hall.A c d s t (and_l (agrees hall.A c d) (agrees hall.B c d) a)
    each a hall.B = agrees_halves hall.B c d s t (and_r (agrees hall.A c d) (agrees hall.B c d) a)

pub accepted_of : (c d : LoopCopy) → Fit c d → refused_merge c d ≡ 0
unfolding refused_merge
accepted_of c d f =
    rw (f.ours, f.theirs, eq-eqb _ _ f.frames, so (agrees hall.A c d) (halves_agree hall.A c d (f.halves hall.A)), so (agrees hall.B c d) (halves_agree hall.B c d (f.halves hall.B)))

pub merged_of : (c d : LoopCopy) → refused_merge c d ≡ 0 → merged_copy c d ≡ record { copy = merged c d; refusal = 0 }
unfolding merged_copy
merged_of c d z = rw z

-- what holds of our copy and, if it is accepted, of the merged one
pub merged_either : (P : LoopCopy → Type 0) (c d : LoopCopy) → (refused_merge c d ≡ 0 → P (merged c d)) → P c → P (merged_copy c d).copy
unfolding merged_copy
merged_either P c d y z = go (eqb (refused_merge c d) 0) refl
  where
    go : (b : Bool) → eqb (refused_merge c d) 0 ≡ b → P (cond b (merged c d) c)
    go true e = y (eqb-true _ 0 e)
    go false e = z
