-- Gains frame by frame: one more, four more, and what they do not change. By induction on the frames. Assumes nothing.
use mathlib.Core.Path.{◌≡◌, refl, sym, ap, ap₂, ◌∙◌, subst}
use Prim.Native.Nat.{ℕ, zero, suc, ◌+◌, ◌*◌, ◌≤◌, ◌<◌}
use native.Mathlib.Nat.{not-suc-le-zero, le_of_suc-le-suc}
use native.Mathlib.Numerals.{add-one}
use native.Mathlib.Omega.{arith}
use mathlib.Core.List.{List, [], ◌∷◌}
use lib.ListN.{length, get_or, take, drop, set, replicate, get_or-replicate}
use lib.Dec.{T}
use lib.Ieee.{Float, nan, binary32, mul, fits}
use Rattle.numbers.specs.Words.{one}
use Rattle.numbers.proofs.Values.{mul_one_right}
use Rattle.frame.specs.declared.Frame.{Frame}
use Rattle.sound_lanes.specs.declared.Gains.{Gains}
use Rattle.sound_lanes.specs.Lanes.{gains_at, scaled}
use Rattle.sound_gains.specs.Gained.{gained, gained_at, scaled_at}

at_drop : (l : List Float) (i : ℕ) → get_or (drop 1 l) i nan ≡ get_or l (suc i) nan
at_drop [] i = refl
at_drop (x ∷ l) i = refl

pub gained_length : (fs vs ls rs : List Float) (n : ℕ) (out : List Float) → length (gained fs vs ls rs n out) ≡ length out
unfolding gained
gained_length fs vs ls rs zero out = refl
gained_length fs vs ls rs (suc n) [] = refl
gained_length fs vs ls rs (suc n) (x ∷ []) = refl
gained_length fs vs ls rs (suc n) (x ∷ y ∷ out) = ap (λ (n : ℕ). suc (suc n)) (gained_length (drop 1 fs) (drop 1 vs) (drop 1 ls) (drop 1 rs) n out)

-- what follows the first i frames is unchanged
keeps : (fs vs ls rs : List Float) (i : ℕ) (out : List Float) (m : ℕ) → 2 * i ≤ m → get_or (gained fs vs ls rs i out) m nan ≡ get_or out m nan
unfolding gained
keeps fs vs ls rs zero out m h = refl
keeps fs vs ls rs (suc i) [] m h = refl
keeps fs vs ls rs (suc i) (x ∷ []) m h = refl
keeps fs vs ls rs (suc i) (x ∷ y ∷ out) zero h = absurd (never i h)
  where
    never : (i : ℕ) → 2 * suc i ≤ 0 → ⊥
    never i h = omega arith
keeps fs vs ls rs (suc i) (x ∷ y ∷ out) (suc zero) h = absurd (never i h)
  where
    never : (i : ℕ) → 2 * suc i ≤ 1 → ⊥
    never i h = omega arith
keeps fs vs ls rs (suc i) (x ∷ y ∷ out) (suc (suc m)) h = keeps (drop 1 fs) (drop 1 vs) (drop 1 ls) (drop 1 rs) i out m (less i m h)
  where
    less : (i m : ℕ) → 2 * suc i ≤ suc (suc m) → 2 * i ≤ m
    less i m h = omega arith

-- the gains of the frames after the first
later : (fs vs ls rs : List Float) (i : ℕ) → gains_at (drop 1 fs) (drop 1 vs) (drop 1 ls) (drop 1 rs) i ≡ gains_at fs vs ls rs (suc i)
later fs vs ls rs i = rw (at_drop fs i, at_drop vs i, at_drop ls i, at_drop rs i)

abbrev put : List Float → ℕ → Frame → List Float
put l m x = set (set l m x.left) (suc m) x.right

more : (fs vs ls rs : List Float) (i m : ℕ) (out : List Float) → m ≡ 2 * i → suc m < length out
    → put (gained fs vs ls rs i out) m (scaled (get_or out m nan) (get_or out (suc m) nan) (gains_at fs vs ls rs i)) ≡ gained fs vs ls rs (suc i) out
unfolding gained
more fs vs ls rs i m [] e h = absurd (not-suc-le-zero h)
more fs vs ls rs i m (x ∷ []) e h = absurd (not-suc-le-zero (le_of_suc-le-suc h))
more fs vs ls rs zero zero (x ∷ y ∷ out) e h = refl
more fs vs ls rs zero (suc m) (x ∷ y ∷ out) e h = absurd (never m e)
  where
    never : (m : ℕ) → suc m ≡ 2 * 0 → ⊥
    never m e = omega arith
more fs vs ls rs (suc i) zero (x ∷ y ∷ out) e h = absurd (never i e)
  where
    never : (i : ℕ) → 0 ≡ 2 * suc i → ⊥
    never i e = omega arith
more fs vs ls rs (suc i) (suc zero) (x ∷ y ∷ out) e h = absurd (never i e)
  where
    never : (i : ℕ) → 1 ≡ 2 * suc i → ⊥
    never i e = omega arith
more fs vs ls rs (suc i) (suc (suc m)) (x ∷ y ∷ out) e h =
    let f = scaled x y (gains_at fs vs ls rs 0) in
    let g = gained (drop 1 fs) (drop 1 vs) (drop 1 ls) (drop 1 rs) i out in
    ap (λ (l : List Float). f.left ∷ f.right ∷ l)
    (ap (λ (z : Gains). put g m (scaled (get_or out m nan) (get_or out (suc m) nan) z)) (sym (later fs vs ls rs i))
    ∙ more (drop 1 fs) (drop 1 vs) (drop 1 ls) (drop 1 rs) i m out (half i m e) (le_of_suc-le-suc (le_of_suc-le-suc h)))
  where
    half : (i m : ℕ) → suc (suc m) ≡ 2 * suc i → m ≡ 2 * i
    half i m e = omega arith

module _ (fs vs ls rs : List Float) (out : List Float) where
  -- one more frame: its readings are those of an output g that has them unchanged
  pub gained_one : (i n : ℕ) (g o : List Float) → g ≡ gained fs vs ls rs i out → get_or o (2 * i) nan ≡ get_or out (2 * i) nan → get_or o (2 * i + 1) nan ≡ get_or out (2 * i + 1) nan
      → 2 * i + 1 < length out → n ≡ i + 1 → gained_at fs vs ls rs i o g ≡ gained fs vs ls rs n out
  gained_one i n g o e l r h en =
      ap₂ (λ (a b : Float). let x = scaled a b (gains_at fs vs ls rs i) in set (set g (2 * i) x.left) (2 * i + 1) x.right) l r
      ∙ ap (λ (g : List Float). let x = scaled (get_or out (2 * i) nan) (get_or out (2 * i + 1) nan) (gains_at fs vs ls rs i) in set (set g (2 * i) x.left) (2 * i + 1) x.right) e
      ∙ ap (λ (m : ℕ). let x = scaled (get_or out (2 * i) nan) (get_or out m nan) (gains_at fs vs ls rs i) in set (set (gained fs vs ls rs i out) (2 * i) x.left) m x.right) (add-one (2 * i))
      ∙ more fs vs ls rs i (2 * i) out refl (subst (λ (m : ℕ). m < length out) (add-one (2 * i)) h)
      ∙ ap (λ (n : ℕ). gained fs vs ls rs n out) (sym (en ∙ add-one i))

  -- the readings of a frame that is not yet multiplied
  pub unread : (i m : ℕ) (g : List Float) → g ≡ gained fs vs ls rs i out → 2 * i ≤ m → get_or g m nan ≡ get_or out m nan
  unread i m g e h = ap (λ (l : List Float). get_or l m nan) e ∙ keeps fs vs ls rs i out m h

-- ---- a loop over the frames

-- the first i frames are multiplied, and the rest is unchanged
pub record Sofar (fs vs ls rs : List Float) (n : ℕ) (out₀ out : List Float) (i : ℕ) : Type 0 where
  pub within : i ≤ n
  pub so_far : out ≡ gained fs vs ls rs i out₀

module _ (fs vs ls rs : List Float) (n : ℕ) (out₀ : List Float) where
  pub sofar_none : Sofar fs vs ls rs n out₀ out₀ 0
  unfolding gained
  sofar_none = record { within = omega arith; so_far = refl }

  pub sofar_length : (out : List Float) (i : ℕ) → Sofar fs vs ls rs n out₀ out i → length out ≡ length out₀
  sofar_length out i s = ap length s.so_far ∙ gained_length fs vs ls rs i out₀

  -- one frame more
  pub sofar_more : (g o : List Float) (i : ℕ) (z : Gains) → i < n → 2 * n ≤ length out₀ → Sofar fs vs ls rs n out₀ g i → z ≡ gains_at fs vs ls rs i → o ≡ scaled_at z i g g
      → Sofar fs vs ls rs n out₀ o (i + 1)
  sofar_more g o i z h k s e eo =
      let u : (m : ℕ) → 2 * i ≤ m → get_or g m nan ≡ get_or out₀ m nan = λ m l. unread fs vs ls rs out₀ i m g s.so_far l in
      record {
        within = omega arith;
        so_far = eo ∙ ap (λ (z : Gains). scaled_at z i g g) e ∙ gained_one fs vs ls rs out₀ i (i + 1) g g s.so_far (u (2 * i) (omega arith)) (u (2 * i + 1) (omega arith)) (omega arith) refl;
      }

  pub sofar_all : (out : List Float) (i : ℕ) → Sofar fs vs ls rs n out₀ out i → n ≤ i → out ≡ gained fs vs ls rs n out₀
  sofar_all out i s h = let w = s.within in let e : i ≡ n = omega arith in s.so_far ∙ ap (λ (k : ℕ). gained fs vs ls rs k out₀) e

-- the first n frames, alone
first : (fs vs ls rs : List Float) (n m : ℕ) (out : List Float) → m ≡ 2 * n → take m (gained fs vs ls rs n out) ≡ gained fs vs ls rs n (take m out)
unfolding gained
first fs vs ls rs zero m out e = refl
first fs vs ls rs (suc n) zero out e = absurd (never n e)
  where
    never : (n : ℕ) → 0 ≡ 2 * suc n → ⊥
    never n e = omega arith
first fs vs ls rs (suc n) (suc zero) out e = absurd (never n e)
  where
    never : (n : ℕ) → 1 ≡ 2 * suc n → ⊥
    never n e = omega arith
first fs vs ls rs (suc n) (suc (suc m)) [] e = refl
first fs vs ls rs (suc n) (suc (suc m)) (x ∷ []) e = refl
first fs vs ls rs (suc n) (suc (suc m)) (x ∷ y ∷ out) e =
    let f = scaled x y (gains_at fs vs ls rs 0) in
    ap (λ (l : List Float). f.left ∷ f.right ∷ l) (first (drop 1 fs) (drop 1 vs) (drop 1 ls) (drop 1 rs) n m out (half n m e))
  where
    half : (n m : ℕ) → suc (suc m) ≡ 2 * suc n → m ≡ 2 * n
    half n m e = omega arith

pub gained_take : (fs vs ls rs : List Float) (n : ℕ) (out : List Float) → take (2 * n) (gained fs vs ls rs n out) ≡ gained fs vs ls rs n (take (2 * n) out)
gained_take fs vs ls rs n out = first fs vs ls rs n (2 * n) out refl

-- ---- held gains

-- every frame has them
pub gains_once : (g : Gains) (n i : ℕ) → i < n → gains_at (replicate n g.fade) (replicate n g.volume) (replicate n g.left) (replicate n g.right) i ≡ g
gains_once g n i h =
    rw (get_or-replicate n i g.fade nan h, get_or-replicate n i g.volume nan h, get_or-replicate n i g.left nan h, get_or-replicate n i g.right nan h)

-- lanes that are longer than the frames make no difference
pub gained_fewer : (f v l r : Float) (k n : ℕ) (out : List Float) → k ≤ n
    → gained (replicate k f) (replicate k v) (replicate k l) (replicate k r) k out ≡ gained (replicate n f) (replicate n v) (replicate n l) (replicate n r) k out
unfolding gained
gained_fewer f v l r zero n out h = refl
gained_fewer f v l r (suc k) zero out h = absurd (not-suc-le-zero h)
gained_fewer f v l r (suc k) (suc n) [] h = refl
gained_fewer f v l r (suc k) (suc n) (x ∷ []) h = refl
gained_fewer f v l r (suc k) (suc n) (x ∷ y ∷ out) h =
    let z = scaled x y (record { fade = f; volume = v; left = l; right = r }) in
    ap (λ (o : List Float). z.left ∷ z.right ∷ o) (gained_fewer f v l r k n out (le_of_suc-le-suc h))

-- gains of 1 change nothing
times_one : (x : Float) → T (fits binary32 x) → mul binary32 (mul binary32 (mul binary32 x one) one) one ≡ x
times_one x h =
    let e = mul_one_right binary32 x h in
    ap (λ (z : Float). mul binary32 (mul binary32 z one) one) e ∙ ap (λ (z : Float). mul binary32 z one) e ∙ e

pub gained_ones : (n : ℕ) (out : List Float) → ((i : ℕ) → T (fits binary32 (get_or out i nan)))
    → gained (replicate n one) (replicate n one) (replicate n one) (replicate n one) n out ≡ out
unfolding gained
gained_ones zero out h = refl
gained_ones (suc n) [] h = refl
gained_ones (suc n) (x ∷ []) h = refl
gained_ones (suc n) (x ∷ y ∷ out) h =
    ap₂ (λ (a : Float) (l : List Float). a ∷ l) (times_one x (h 0))
    (ap₂ (λ (a : Float) (l : List Float). a ∷ l) (times_one y (h 1)) (gained_ones n out (λ i. h (suc (suc i)))))
