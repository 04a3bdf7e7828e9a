-- The lanes side by side: a test of all frames is a test of each lane.
-- Each law is by induction on the rate lane, one frame of every lane at a time. Assumes nothing.
use mathlib.Core.Path.{◌≡◌, refl, sym, ap, ap₂, ◌∙◌, subst}
use Prim.Native.Nat.{ℕ, zero, suc, ◌-◌, ◌≤◌, ◌<◌}
use native.Mathlib.Nat.{le_trans, not-suc-le-zero, le_of_suc-le-suc}
use native.Mathlib.Omega.{arith}
use mathlib.Core.Bool.{Bool, true, false, ◌&&◌, cond}
use mathlib.Core.List.{List, [], ◌∷◌, ◌++◌}
use lib.Dec.{T, leb, eqb, leb→le, le→leb, eqb→eq}
use lib.ListN.{length, get_or, take, drop, take-append-drop, length-drop}
use lib.Seq.{length-take-le}
use lib.Ieee.{Float, nan}
use lib.Ieee.Fits.{and_i, and_l, and_r, eq→eqb}
use Rattle.numbers.specs.Words.{finite, finite_clear}
use Rattle.numbers.specs.Lists.{all}
use Rattle.sound_lanes.specs.Lanes.{Lane, Lanes, beside, rows, sized, is_time_step, laned, slow, near, judged, four_finite_clear, first_lanes, rest_lanes}
use Rattle.sound_lanes.proofs.Gathered.{both_assoc, both_swap, four_more}
use Rattle.sound_lanes.proofs.Advances.{slow_finite}

-- ---- one frame
get_d_tail : (l : List Float) (i : ℕ) → get_or (drop 1 l) i nan ≡ get_or l (suc i) nan
get_d_tail [] i = refl
get_d_tail (x ∷ l) i = refl

pub beside_at : (fs vs ls rs qs : List Float) (i : ℕ) (z : Lane) → i < length qs
    → get_or (beside fs vs ls rs qs) i z ≡ record { fade = get_or fs i nan; volume = get_or vs i nan; left = get_or ls i nan; right = get_or rs i nan; rate = get_or qs i nan }
beside_at fs vs ls rs [] i z h = absurd (not-suc-le-zero h)
beside_at fs vs ls rs (q ∷ qs) zero z h = refl
beside_at fs vs ls rs (q ∷ qs) (suc i) z h =
    beside_at (drop 1 fs) (drop 1 vs) (drop 1 ls) (drop 1 rs) qs i z (le_of_suc-le-suc h) ∙ simp (get_d_tail fs i, get_d_tail vs i, get_d_tail ls i, get_d_tail rs i)

pub beside_length : (fs vs ls rs qs : List Float) → length (beside fs vs ls rs qs) ≡ length qs
beside_length fs vs ls rs [] = refl
beside_length fs vs ls rs (q ∷ qs) = ap suc (beside_length (drop 1 fs) (drop 1 vs) (drop 1 ls) (drop 1 rs) qs)

-- ---- the tests of refusals 11 and 12
never : (n : ℕ) → 0 ≡ suc n → ⊥
never n e = omega arith

length_tail : (l : List Float) (n : ℕ) → length l ≡ suc n → length (drop 1 l) ≡ n
length_tail [] n e = absurd (never n e)
length_tail (x ∷ l) n e = less (length l) n e
  where
    less : (a b : ℕ) → suc a ≡ suc b → a ≡ b
    less a b e = omega arith

all_none : (l : List Float) → length l ≡ 0 → all finite_clear l ≡ true
all_none [] e = refl
all_none (x ∷ l) e = absurd (never (length l) (sym e))

all_split : (l : List Float) (n : ℕ) → length l ≡ suc n → all finite_clear l ≡ (finite_clear (get_or l 0 nan) && all finite_clear (drop 1 l))
all_split [] n e = absurd (never n e)
all_split (x ∷ l) n e = refl

-- refusal 11's test is that of the four lanes, and of the rates
pub laned_all : (fs vs ls rs qs : List Float) → length fs ≡ length qs → length vs ≡ length qs → length ls ≡ length qs → length rs ≡ length qs
    → all laned (beside fs vs ls rs qs) ≡ (four_finite_clear fs vs ls rs && all finite qs)
laned_all fs vs ls rs [] a b c d = rw (all_none fs a, all_none vs b, all_none ls c, all_none rs d)
laned_all fs vs ls rs (q ∷ qs) a b c d =
    let n = length qs in
    let A = finite_clear (get_or fs 0 nan) in
    let B = finite_clear (get_or vs 0 nan) in
    let C = finite_clear (get_or ls 0 nan) in
    let D = finite_clear (get_or rs 0 nan) in
    let fade = all finite_clear (drop 1 fs) in
    let volume = all finite_clear (drop 1 vs) in
    let left = all finite_clear (drop 1 ls) in
    let right = all finite_clear (drop 1 rs) in
    let one = A && B && C && D in
    let e : four_finite_clear fs vs ls rs ≡ ((A && fade) && (B && volume) && (C && left) && (D && right)) = rw (all_split fs n a, all_split vs n b, all_split ls n c, all_split rs n d) in
    ap (λ (x : Bool). (one && finite q) && x) (laned_all (drop 1 fs) (drop 1 vs) (drop 1 ls) (drop 1 rs) qs (length_tail fs n a) (length_tail vs n b) (length_tail ls n c) (length_tail rs n d))
    ∙ both_swap one (finite q) (fade && volume && left && right) (all finite qs)
    ∙ ap (λ (x : Bool). x && (finite q && all finite qs))
    (sym (both_assoc one (fade && volume && left) right)
    ∙ ap (λ (x : Bool). x && right) (sym (both_assoc one (fade && volume) left))
    ∙ ap (λ (x : Bool). x && left && right) (sym (both_assoc one fade volume))
    ∙ four_more A B C D fade volume left right
    ∙ sym e)

-- refusal 12's is that of the rates
pub near_all : (hz : ℕ) (dt : Float) (fs vs ls rs qs : List Float) → all (near hz dt) (beside fs vs ls rs qs) ≡ all (slow hz dt) qs
near_all hz dt fs vs ls rs [] = refl
near_all hz dt fs vs ls rs (q ∷ qs) = ap (λ (x : Bool). slow hz dt q && x) (near_all hz dt (drop 1 fs) (drop 1 vs) (drop 1 ls) (drop 1 rs) qs)

-- ---- a cut after k frames
head_take : (k : ℕ) (l : List Float) → get_or (take (suc k) l) 0 nan ≡ get_or l 0 nan
head_take k [] = refl
head_take k (x ∷ l) = refl

tail_take : (k : ℕ) (l : List Float) → drop 1 (take (suc k) l) ≡ take k (drop 1 l)
tail_take zero [] = refl
tail_take (suc k) [] = refl
tail_take k (x ∷ l) = refl

tail_drop : (k : ℕ) (l : List Float) → drop (suc k) l ≡ drop k (drop 1 l)
tail_drop zero [] = refl
tail_drop (suc k) [] = refl
tail_drop k (x ∷ l) = refl

pub beside_take : (k : ℕ) (fs vs ls rs qs : List Float) → beside (take k fs) (take k vs) (take k ls) (take k rs) (take k qs) ≡ take k (beside fs vs ls rs qs)
beside_take zero fs vs ls rs qs = refl
beside_take (suc k) fs vs ls rs [] = refl
beside_take (suc k) fs vs ls rs (q ∷ qs) =
    simp (head_take k fs, head_take k vs, head_take k ls, head_take k rs, tail_take k fs, tail_take k vs, tail_take k ls, tail_take k rs, beside_take k (drop 1 fs) (drop 1 vs) (drop 1 ls) (drop 1 rs) qs)

pub beside_drop : (k : ℕ) (fs vs ls rs qs : List Float) → beside (drop k fs) (drop k vs) (drop k ls) (drop k rs) (drop k qs) ≡ drop k (beside fs vs ls rs qs)
beside_drop zero fs vs ls rs qs = refl
beside_drop (suc k) fs vs ls rs [] = refl
beside_drop (suc k) fs vs ls rs (q ∷ qs) =
    rw (tail_drop k fs, tail_drop k vs, tail_drop k ls, tail_drop k rs) (beside_drop k (drop 1 fs) (drop 1 vs) (drop 1 ls) (drop 1 rs) qs)

pub rows_cut : (k : ℕ) (b : Lanes) → rows (first_lanes k b) ++ rows (rest_lanes k b) ≡ rows b
rows_cut k b =
    ap₂ (λ (x y : List Lane). x ++ y) (beside_take k b.fade b.volume b.left b.right b.rate) (beside_drop k b.fade b.volume b.left b.right b.rate)
    ∙ take-append-drop k (rows b)

-- ---- the lengths, from their test and back
pub record Sized (b : Lanes) : Type 0 where
  pub most : length b.rate ≤ 4096
  pub fade : length b.fade ≡ length b.rate
  pub volume : length b.volume ≡ length b.rate
  pub left : length b.left ≡ length b.rate
  pub right : length b.right ≡ length b.rate

pub sized_parts : (b : Lanes) → T (sized b) → Sized b
sized_parts b h =
    let n = length b.rate in
    let m = leb n 4096 in
    let f = eqb (length b.fade) n in
    let v = eqb (length b.volume) n in
    let l = eqb (length b.left) n in
    let r = eqb (length b.right) n in
    let upToLeft = and_l (m && f && v && l) r h in
    let upToVolume = and_l (m && f && v) l upToLeft in
    let upToFade = and_l (m && f) v upToVolume in
    record {
      most = leb→le n 4096 (and_l m f upToFade);
      fade = eqb→eq (length b.fade) n (and_r m f upToFade);
      volume = eqb→eq (length b.volume) n (and_r (m && f) v upToVolume);
      left = eqb→eq (length b.left) n (and_r (m && f && v) l upToLeft);
      right = eqb→eq (length b.right) n (and_r (m && f && v && l) r h);
    }

pub sized_of : (b : Lanes) → Sized b → T (sized b)
sized_of b h =
    let n = length b.rate in
    let m = leb n 4096 in
    let f = eqb (length b.fade) n in
    let v = eqb (length b.volume) n in
    let l = eqb (length b.left) n in
    let r = eqb (length b.right) n in
    and_i (m && f && v && l) r (and_i (m && f && v) l (and_i (m && f) v (and_i m f (le→leb n 4096 h.most) (eq→eqb h.fade)) (eq→eqb h.volume)) (eq→eqb h.left)) (eq→eqb h.right)

short : (k : ℕ) (l m : List Float) → length l ≡ length m → k ≤ length m → length (take k l) ≡ length (take k m)
short k l m e h = length-take-le k l (subst (λ (n : ℕ). k ≤ n) (sym e) h) ∙ sym (length-take-le k m h)

pub first_sized : (k : ℕ) (b : Lanes) → k ≤ length b.rate → T (sized b) → T (sized (first_lanes k b))
first_sized k b h s =
    let p = sized_parts b s in
    sized_of (first_lanes k b)
    (record {
      most = subst (λ (n : ℕ). n ≤ 4096) (sym (length-take-le k b.rate h)) (le_trans h p.most);
      fade = short k b.fade b.rate p.fade h;
      volume = short k b.volume b.rate p.volume h;
      left = short k b.left b.rate p.left h;
      right = short k b.right b.rate p.right h;
    })

over : (k : ℕ) (l m : List Float) → length l ≡ length m → length (drop k l) ≡ length (drop k m)
over k l m e = length-drop k l ∙ ap (λ (n : ℕ). n - k) e ∙ sym (length-drop k m)

pub rest_sized : (k : ℕ) (b : Lanes) → T (sized b) → T (sized (rest_lanes k b))
rest_sized k b s =
    let p = sized_parts b s in
    sized_of (rest_lanes k b)
    (record {
      most = subst (λ (n : ℕ). n ≤ 4096) (sym (length-drop k b.rate)) (less (length b.rate) k p.most);
      fade = over k b.fade b.rate p.fade;
      volume = over k b.volume b.rate p.volume;
      left = over k b.left b.rate p.left;
      right = over k b.right b.rate p.right;
    })
  where
    less : (n k : ℕ) → n ≤ 4096 → n - k ≤ 4096
    less n k h = omega arith

-- ---- the check
chosen : (a s f : Bool) → (T s → T f) → ◌≡◌ {A = ℕ} (cond (a && f) (cond s 0 12) 11) (cond a (cond s 0 (cond f 12 11)) 11)
chosen false s f h = refl
chosen true true true h = refl
chosen true true false h = absurd (h tt)
chosen true false true h = refl
chosen true false false h = refl

-- lane by lane, and 11 is distinguished from 12 only if a rate is too fast
pub judged_lanes : (hz : ℕ) (dt : Float) (b : Lanes) → T (is_time_step dt) → T (sized b)
    → judged hz dt b ≡ cond (four_finite_clear b.fade b.volume b.left b.right) (cond (all (slow hz dt) b.rate) 0 (cond (all finite b.rate) 12 11)) 11
judged_lanes hz dt b t s =
    let p = sized_parts b s in
    ap₂ (λ (x y : Bool). cond x (cond y 0 12) 11) (laned_all b.fade b.volume b.left b.right b.rate p.fade p.volume p.left p.right) (near_all hz dt b.fade b.volume b.left b.right b.rate)
    ∙ chosen (four_finite_clear b.fade b.volume b.left b.right) (all (slow hz dt) b.rate) (all finite b.rate) (slow_finite hz dt b.rate t)
