-- What is stored: 666 bytes at the buffer's start, or nothing. Assumes nothing.
use mathlib.Core.Path.{◌≡◌, refl, sym, ap, ◌∙◌}
use Prim.Native.Nat.{ℕ, zero, suc, ◌+◌, ◌*◌, ◌^◌, ◌≤◌, ◌<◌}
use native.Mathlib.Omega.{arith}
use mathlib.Core.Bool.{Bool, true, false, ◌&&◌, cond}
use mathlib.Core.List.{List, [], ◌∷◌, ◌++◌}
use lib.Dec.{eqb, leb}
use lib.ListN.{length, get_or, take, drop, replicate, length-append}
use lib.Seq.{sets, sets-eq, take_at}
use borrow.Author.Tests.{eq-eqb, ne_eqb, eqb-true, leb-true, le-leb, lt-leb}
use Rattle.refusals.specs.declared.Refusal.TheVariants.{SavedField}
use Rattle.byte_layout.specs.declared.Row.{Row}
use Rattle.byte_layout.specs.Numbers.{bytes}
use Rattle.byte_layout.specs.Rows.{row, stands}
use Rattle.byte_layout.specs.Writes.{field, fine, payload}
use Rattle.byte_layout.proofs.Numbers.{length_bytes}
use Rattle.byte_layout.proofs.Puts.{sets_append}
use Rattle.byte_layout.proofs.Lengths.{always}
use Rattle.byte_layout.proofs.Takes.{took, none}
use Rattle.crc32.specs.Checksums.{checksum_of}
use Rattle.saved_loops.specs.Tables.{half_rows}
use Rattle.saved_loops.specs.Records.{well_formed, storable, store_refusal, half_numbers, body, encoded, stored}

-- ---- the rows of a half: five, then eighteen words

abbrev word_row : Row
word_row = row 8 0 0 0 18446744073709551615 SavedField

words_length : (n : ℕ) (vs ws : List ℕ) → length ws ≡ n → length (payload (replicate n word_row) vs ws) ≡ 8 * n
unfolding payload field
words_length zero vs ws h = refl
words_length (suc n) vs [] h = absurd (omega (arith, h))
words_length (suc n) vs (x ∷ ws) h =
    rw (always word_row vs refl) (length-append (bytes 8 x) (payload (replicate n word_row) (vs ++ (x ∷ [])) ws) ∙ omega (arith, length_bytes 8 x, words_length n (vs ++ (x ∷ [])) ws (omega (arith, h))))

words_fine : (n : ℕ) (vs ws : List ℕ) → length ws ≡ n → ((i : ℕ) → get_or ws i 0 < 2 ^ 64) → fine (replicate n word_row) vs ws ≡ true
words_fine zero vs [] h s = none vs
words_fine zero vs (x ∷ ws) h s = absurd (omega (arith, h))
words_fine (suc n) vs [] h s = absurd (omega (arith, h))
words_fine (suc n) vs (x ∷ ws) h s =
    took word_row (replicate n word_row) vs x ws refl (omega arith) (omega (arith, s 0)) (words_fine n (vs ++ (x ∷ [])) ws (omega (arith, h)) (λ i. s (suc i)))

pub half_length : (ws : List ℕ) → length ws ≡ 19 → length (payload half_rows [] (half_numbers ws)) ≡ 150
unfolding payload field stands half_rows bytes
half_length [] h = absurd (omega (arith, h))
half_length (x ∷ ws) h = omega (arith, words_length 18 (167 ∷ 76 ∷ 1 ∷ 661 ∷ x ∷ []) ws (omega (arith, h)))

pub half_fine : (ws : List ℕ) → length ws ≡ 19 → get_or ws 0 0 ≤ 255 → ((i : ℕ) → get_or ws i 0 < 2 ^ 64) → fine half_rows [] (half_numbers ws) ≡ true
unfolding half_rows
half_fine [] h a s = absurd (omega (arith, h))
half_fine (x ∷ ws) h a s =
    took _ _ _ _ _ refl (omega arith) (omega arith)
    (took _ _ _ _ _ refl (omega arith) (omega arith)
    (took _ _ _ _ _ refl (omega arith) (omega arith)
    (took _ _ _ _ _ refl (omega arith) (omega arith)
    (took _ _ _ _ _ refl (omega arith) a
    (words_fine 18 (167 ∷ 76 ∷ 1 ∷ 661 ∷ x ∷ []) ws (omega (arith, h)) (λ i. s (suc i)))))))

-- ---- the numbers in the code's array

pub listed : (ws xs rest : List ℕ) → length ws ≡ 19 → xs ≡ ws → 167 ∷ 76 ∷ 1 ∷ 661 ∷ take 19 (xs ++ rest) ≡ half_numbers ws
listed ws xs rest n e = rw (e, take_at ws rest 19 n) refl

pub half_room : (ws vs : List ℕ) (n : ℕ) → length ws ≡ 19 → take 23 vs ≡ half_numbers ws → 666 ≤ n → 0 + length (payload half_rows [] (take 23 vs)) ≤ n
half_room ws vs n l e h = rw e (rw (half_length ws l) (omega (arith, h)))

pub half_put : (ws vs buffer after : List ℕ) → take 23 vs ≡ half_numbers ws → after ≡ sets buffer 0 (payload half_rows [] (take 23 vs)) → after ≡ sets buffer 0 (payload half_rows [] (half_numbers ws))
unfolding half_rows
half_put ws vs buffer after e h = h ∙ ap (λ (xs : List ℕ). sets buffer 0 (payload half_rows [] xs)) e

-- ---- numbers, names, checksum

pub body_length : (ws names : List ℕ) → length ws ≡ 19 → length names ≡ 512 → length (body ws names) ≡ 662
unfolding body half_rows
body_length ws names h l = length-append (payload half_rows [] (half_numbers ws)) names ∙ omega (arith, half_length ws h, l)

pub encoded_length : (ws names : List ℕ) → length ws ≡ 19 → length names ≡ 512 → length (encoded ws names) ≡ 666
unfolding encoded
encoded_length ws names h l =
    length-append (body ws names) (bytes 4 (checksum_of (body ws names))) ∙ omega (arith, body_length ws names h l, length_bytes 4 (checksum_of (body ws names)))

module _ (ws names buffer : List ℕ) (nineteen : length ws ≡ 19) (named : length names ≡ 512) (room : 666 ≤ length buffer) where
  pub body_put : (first second : List ℕ) → first ≡ sets buffer 0 (payload half_rows [] (half_numbers ws)) → second ≡ sets first 150 (take 512 names) → second ≡ sets buffer 0 (body ws names)
  unfolding body half_rows
  body_put first second p q =
      let n = half_length ws nineteen in
      q ∙ ap (λ (l : List ℕ). sets first 150 l) (all names named) ∙ ap (λ (l : List ℕ). sets l 150 names) p
      ∙ ap (λ (k : ℕ). sets (sets buffer 0 (payload half_rows [] (half_numbers ws))) k names) (omega (arith, n))
      ∙ sym (sets_append buffer 0 (payload half_rows [] (half_numbers ws)) names)
    where
      all : (l : List ℕ) → length l ≡ 512 → take 512 l ≡ l
      all l e = ap (λ (k : ℕ). take k l) (sym e) ∙ whole l
        where
          whole : (l : List ℕ) → take (length l) l ≡ l
          whole [] = refl
          whole (x ∷ l) = ap (λ (m : List ℕ). x ∷ m) (whole l)

  pub body_there : (second : List ℕ) → second ≡ sets buffer 0 (body ws names) → take 662 second ≡ body ws names
  body_there second p =
      let n = body_length ws names nineteen named in
      ap (take 662) (p ∙ sets-eq (body ws names) buffer 0 (omega (arith, n, room)))
      ∙ take_at (body ws names) (drop (0 + length (body ws names)) buffer) 662 n

  pub all_put : (second last : List ℕ) (crc : ℕ) → second ≡ sets buffer 0 (body ws names) → crc ≡ checksum_of (take 662 second) → last ≡ sets second 662 (bytes 4 crc)
      → last ≡ sets buffer 0 (encoded ws names)
  unfolding encoded
  all_put second last crc p c q =
      let n = body_length ws names nineteen named in
      let k : crc ≡ checksum_of (body ws names) = c ∙ ap checksum_of (body_there second p) in
      q ∙ ap (λ (x : ℕ). sets second 662 (bytes 4 x)) k ∙ ap (λ (l : List ℕ). sets l 662 (bytes 4 (checksum_of (body ws names)))) p
      ∙ ap (λ (m : ℕ). sets (sets buffer 0 (body ws names)) m (bytes 4 (checksum_of (body ws names)))) (omega (arith, n))
      ∙ sym (sets_append buffer 0 (body ws names) (bytes 4 (checksum_of (body ws names))))

-- ---- the buffer afterwards

module _ (ws names buffer : List ℕ) where
  pub kept : 0 < store_refusal ws (length names) (length buffer) → buffer ≡ stored ws names buffer
  unfolding stored
  kept h = sym (ap (λ (b : Bool). cond b (sets buffer 0 (encoded ws names)) buffer) (ne_eqb (store_refusal ws (length names) (length buffer)) 0 (λ q. omega (arith, h, q))))

  pub written : (after : List ℕ) → store_refusal ws (length names) (length buffer) ≡ 0 → after ≡ sets buffer 0 (encoded ws names) → after ≡ stored ws names buffer
  unfolding stored
  written after h e = e ∙ sym (ap (λ (b : Bool). cond b (sets buffer 0 (encoded ws names)) buffer) (eq-eqb (store_refusal ws (length names) (length buffer)) 0 h))

-- what an accepted store has
pub record Accepted (ws : List ℕ) (n m : ℕ) : Type 0 where
  pub right : well_formed ws ≡ true
  pub named : n ≡ 512
  pub room : 666 ≤ m

passed : (b : Bool) (x k : ℕ) → cond b x (suc k) ≡ 0 → (b ≡ true) × (x ≡ 0)
passed true x k h = (refl, h)
passed false x k h = absurd (omega (arith, h))

pub accepted : (ws : List ℕ) (n m : ℕ) → store_refusal ws n m ≡ 0 → Accepted ws n m
accepted ws n m h = go (well_formed ws) refl h
  where
    go : (b : Bool) → well_formed ws ≡ b → ◌≡◌ {A = ℕ} (cond (b && eqb n 512) (cond (leb 666 m) 0 19) 24) 0 → Accepted ws n m
    go false q u = absurd (omega (arith, u))
    go true q u =
        let p = passed (eqb n 512) (cond (leb 666 m) 0 19) 23 u in
        let r = passed (leb 666 m) 0 18 p.1 in
        record { right = q; named = eqb-true n 512 p.0; room = leb-true 666 m r.0 }

pub enough : (ws : List ℕ) (n m : ℕ) → well_formed ws ≡ true → n ≡ 512 → 666 ≤ m → store_refusal ws n m ≡ 0
enough ws n m h e l = rw (h, eq-eqb n 512 e, le-leb 666 m l) refl

-- the two results for fields that may be stored
pub no_room : (ws : List ℕ) (n m : ℕ) → storable ws n ≡ true → m < 666 → 19 ≡ store_refusal ws n m
no_room ws n m h l = sym (ap (λ (b : Bool). cond b (cond (leb 666 m) 0 19) 24) h ∙ ap (λ (b : Bool). cond b 0 19) (lt-leb 666 m l))

pub with_room : (ws : List ℕ) (n m : ℕ) → storable ws n ≡ true → 666 ≤ m → 0 ≡ store_refusal ws n m
with_room ws n m h l = sym (ap (λ (b : Bool). cond b (cond (leb 666 m) 0 19) 24) h ∙ ap (λ (b : Bool). cond b 0 19) (le-leb 666 m l))
