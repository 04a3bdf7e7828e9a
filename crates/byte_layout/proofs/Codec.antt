-- A layout reads what it writes, and writes what it reads. By induction on the rows; each row is one case of `stands`.
use mathlib.Core.Path.{◌≡◌, refl, sym, ap, ◌∙◌}
use Prim.Native.Nat.{ℕ, ◌+◌, ◌-◌, ◌^◌, ◌≤◌, ◌<◌}
use native.Mathlib.Omega.{arith}
use mathlib.Core.Bool.{Bool, true, false, ◌&&◌, cond}
use mathlib.Core.List.{List, [], ◌∷◌, ◌++◌, append_assoc, append-nil}
use lib.Dec.{ltb, leb}
use lib.ListN.{length, take, drop, length-append, take-append-drop}
use lib.Seq.{take_at, drop_at}
use borrow.Author.Tests.{le-leb, leb-true, ltb-true, eqb-true}
use Rattle.refusals.specs.Numbers.{number}
use Rattle.byte_layout.specs.declared.Row.{Row}
use Rattle.byte_layout.specs.Numbers.{num, bytes}
use Rattle.byte_layout.specs.Rows.{stands, within, sound}
use Rattle.byte_layout.specs.Reads.{Reading, bad, good, taken, step, steps}
use Rattle.byte_layout.specs.Writes.{field, payload, fits, fine}
use Rattle.byte_layout.proofs.Numbers.{Small, small_drop, length_bytes, num_bytes, bytes_num}

none : {A : Type 0} → ⊥ → A
none e = elim e [ ]

pub never : {A : Type 0} → false ≡ true → A
never {A} e = let z : ◌≡◌ {A = ℕ} 0 1 = cc in none (omega arith)

pub both : (b c : Bool) → cond b c false ≡ true → (b ≡ true) × (c ≡ true)
both true c e = (refl, e)
both false c e = never e

pub ands : (b c : Bool) → (b && c) ≡ true → (b ≡ true) × (c ≡ true)
ands true c e = (refl, e)
ands false c e = never e

-- what `sound` means for a row
pub record Sound (r : Row) : Type 0 where
  pub narrow : r.width ≤ 8
  pub holds : r.most < 256 ^ r.width

pub sound_cons : (r : Row) (rs : List Row) → sound (r ∷ rs) ≡ true → Sound r × (sound rs ≡ true)
unfolding sound
sound_cons r rs e =
    let w = leb r.width 8 in
    let m = ltb r.most (256 ^ r.width) in
    let h = ands (w && m) (sound rs) e in
    let g = ands w m h.0 in
    (record { narrow = leb-true r.width 8 g.0; holds = ltb-true r.most (256 ^ r.width) g.1 }, h.1)

pub within_most : (r : Row) (x : ℕ) → within r x ≡ true → x ≤ r.most
unfolding within
within_most r x e = leb-true x r.most (ands (leb r.least x) (leb x r.most) e).1

-- one row, written and read
row_read : (r : Row) (b : Bool) (vs p rest : List ℕ) (x k : ℕ) → stands r vs ≡ b → fits b r x ≡ true → r.most < 256 ^ r.width
    → step r (good (length (field b r x ++ p) + k) vs ((field b r x ++ p) ++ rest)) ≡ good (length p + k) (vs ++ (x ∷ [])) (p ++ rest)
unfolding step fits field taken
row_read r false vs p rest x k s f h = rw (s, eqb-true x 0 f) refl
row_read r true vs p rest x k s f h =
    rw s (go (bytes r.width x) (length_bytes r.width x) (num_bytes r.width x (omega (arith, within_most r x f))))
  where
    go : (l : List ℕ) → length l ≡ r.width → num l ≡ x → taken r (length (l ++ p) + k) vs ((l ++ p) ++ rest) ≡ good (length p + k) (vs ++ (x ∷ [])) (p ++ rest)
    go l e n =
        let n1 : length (l ++ p) ≡ r.width + length p = length-append l p ∙ ap (λ (z : ℕ). z + length p) e in
        let n2 : length (l ++ (p ++ rest)) ≡ r.width + length (p ++ rest) = length-append l (p ++ rest) ∙ ap (λ (z : ℕ). z + length (p ++ rest)) e in
        let m : r.width + length p + k - r.width ≡ length p + k = omega arith in
        rw (append_assoc l p rest, n1, n2, le-leb r.width (r.width + length p + k) (omega arith), le-leb r.width (r.width + length (p ++ rest)) (omega arith), take_at l (p ++ rest) r.width e, drop_at l (p ++ rest) r.width e, n, f, m) refl

-- whatever is written is read back as the same numbers
pub read_written : (rs : List Row) (vs ws rest : List ℕ) (k : ℕ) → sound rs ≡ true → fine rs vs ws ≡ true
    → steps rs (good (length (payload rs vs ws) + k) vs (payload rs vs ws ++ rest)) ≡ good k (vs ++ ws) rest
unfolding steps payload fine
read_written [] vs [] rest k o e = rw append-nil (ap (λ (n : ℕ). good n vs rest) (omega arith))
read_written [] vs (x ∷ ws) rest k o e = never e
read_written (r ∷ rs) vs [] rest k o e = never e
read_written (r ∷ rs) vs (x ∷ ws) rest k o e =
    let h = both (fits (stands r vs) r x) (fine rs (vs ++ (x ∷ [])) ws) e in
    let g = sound_cons r rs o in
    ap (steps rs) (row_read r (stands r vs) vs (payload rs (vs ++ (x ∷ [])) ws) rest x k refl h.0 g.0.holds)
    ∙ read_written rs (vs ++ (x ∷ [])) ws rest k g.1 h.1
    ∙ ap (λ (l : List ℕ). good k l rest) (append_assoc vs (x ∷ []) ws)

-- what one row makes of a reading
data Stepped (r : Row) (left : ℕ) (vs bs : List ℕ) : Reading → Type 0 where
  refused : (k : ℕ) → Stepped r left vs bs (bad k)
  passed : (x l : ℕ) (p : List ℕ) → fits (stands r vs) r x ≡ true → bs ≡ field (stands r vs) r x ++ p → left ≡ length (field (stands r vs) r x) + l → Small p
      → Stepped r left vs bs (good l (vs ++ (x ∷ [])) p)

stepped : (r : Row) (left : ℕ) (vs bs : List ℕ) → Small bs → Stepped r left vs bs (step r (good left vs bs))
unfolding step taken fits field
stepped r left vs bs h = go (stands r vs) refl
  where
    w : ℕ
    w = r.width

    n : ℕ
    n = num (take w bs)

    short : (b : Bool) → Stepped r left vs bs (cond b (bad 17) (bad 18))
    short true = refused 17
    short false = refused 18

    most : stands r vs ≡ true → w ≤ left → w ≤ length bs → (b : Bool) → within r n ≡ b
        → Stepped r left vs bs (cond b (good (left - w) (vs ++ (n ∷ [])) (drop w bs)) (bad (number r.refusal)))
    most s p q false e = refused (number r.refusal)
    most s p q true e =
        passed n (left - w) (drop w bs) (rw s e) (rw (s, bytes_num w bs h q) (sym (take-append-drop w bs))) (rw (s, length_bytes w n) (omega arith)) (small_drop w bs h)

    held : stands r vs ≡ true → w ≤ left → (b : Bool) → leb w (length bs) ≡ b
        → Stepped r left vs bs (cond b (cond (within r n) (good (left - w) (vs ++ (n ∷ [])) (drop w bs)) (bad (number r.refusal))) (bad 18))
    held s p true e = most s p (leb-true w (length bs) e) (within r n) refl
    held s p false e = refused 18

    room : stands r vs ≡ true → (b : Bool) → leb w left ≡ b
        → Stepped r left vs bs (cond b (cond (leb w (length bs)) (cond (within r n) (good (left - w) (vs ++ (n ∷ [])) (drop w bs)) (bad (number r.refusal))) (bad 18)) (cond (leb left (length bs)) (bad 17) (bad 18)))
    room s true e = held s (leb-true w left e) (leb w (length bs)) refl
    room s false e = short (leb left (length bs))

    go : (b : Bool) → stands r vs ≡ b → Stepped r left vs bs (cond b (taken r left vs bs) (good left (vs ++ (0 ∷ [])) bs))
    go true s = room s (leb w left) refl
    go false s = passed 0 left bs (rw s refl) (rw s refl) (rw s (omega arith)) h

-- what a reading of all rows says of the bytes
pub record Written (rs : List Row) (left : ℕ) (vs bs : List ℕ) (k : ℕ) (us rest : List ℕ) : Type 0 where
  pub more : List ℕ
  pub same : us ≡ vs ++ more
  pub takes : fine rs vs more ≡ true
  pub from : bs ≡ payload rs vs more ++ rest
  pub count : left ≡ length (payload rs vs more) + k

pub steps_bad : (rs : List Row) (k : ℕ) → steps rs (bad k) ≡ bad k
unfolding steps step
steps_bad [] k = refl
steps_bad (r ∷ rs) k = steps_bad rs k

pub bad_good : {A : Type 0} (j k : ℕ) (us rest : List ℕ) → bad j ≡ good k us rest → A
bad_good j k us rest e = let z : ◌≡◌ {A = ℕ} 0 1 = cc in none (omega arith)

-- what is read is what the numbers read would be written as
pub written_read : (rs : List Row) (left : ℕ) (vs bs : List ℕ) (k : ℕ) (us rest : List ℕ) → Small bs
    → steps rs (good left vs bs) ≡ good k us rest → Written rs left vs bs k us rest
unfolding steps payload fine
written_read [] left vs bs k us rest h e =
    record { more = []; same = sym (cc) ∙ sym (append-nil vs); takes = refl; from = cc; count = (let q : left ≡ k = cc in omega arith) }
written_read (r ∷ rs) left vs bs k us rest h e = go (step r (good left vs bs)) (stepped r left vs bs h) e (λ l us' p s q. written_read rs l us' p k us rest s q)
  where
    go : (d : Reading) → Stepped r left vs bs d → steps rs d ≡ good k us rest
        → ((l : ℕ) (o p : List ℕ) → Small p → steps rs (good l o p) ≡ good k us rest → Written rs l o p k us rest) → Written (r ∷ rs) left vs bs k us rest
    go _ (refused j) q ih = bad_good j k us rest (sym (steps_bad rs j) ∙ q)
    go _ (passed x l p f b n s) q ih =
        let i = ih l (vs ++ (x ∷ [])) p s q in
        let m = i.more in
        let t = payload rs (vs ++ (x ∷ [])) m in
        let y = field (stands r vs) r x in
        record {
          more = x ∷ m;
          same = i.same ∙ append_assoc vs (x ∷ []) m;
          takes = rw f i.takes;
          from = b ∙ ap (λ (z : List ℕ). y ++ z) i.from ∙ sym (append_assoc y t rest);
          count = (let c = i.count in let j = length-append y t in omega (arith, n, c, j));
        }
