-- What is stored: 25 or 26 bytes at the buffer's start, or nothing. Assumes nothing.
use Rattle.std.proofs.Common.{◌≡◌, ℕ, suc, ◌+◌, ◌-◌, ◌%◌, ◌<◌, ◌≤◌, Bool, true, false, cond, leb, List, [], ◌∷◌, ◌++◌, length, take, sym, refl, ap, ◌∙◌, arith, eq-eqb, ne_eqb, le-leb, leb-true}
use lib.Seq.{sets}
use Rattle.byte_layout.specs.Numbers.{bytes}
use Rattle.byte_layout.specs.Rows.{stands}
use Rattle.byte_layout.specs.Writes.{field, payload}
use Rattle.saved_settings.specs.declared.SavedSettings.{SavedSettings}
use Rattle.saved_settings.specs.Tables.{first_rows, second_rows}
use Rattle.saved_settings.specs.declared.Version.{Version}
use Rattle.saved_settings.specs.declared.Version.TheVariants.{First, Second}
use Rattle.saved_settings.specs.Records.{version_number, layout, numbers, storable, size, store_refusal, first_numbers, second_numbers, encoded, stored}

pub first_length : (s : SavedSettings) → length (payload first_rows [] (first_numbers s)) ≡ 25
unfolding payload field stands first_rows bytes
first_length s = refl

pub second_length : (s : SavedSettings) → length (payload second_rows [] (second_numbers s)) ≡ 26
unfolding payload field stands second_rows bytes
second_length s = refl

pub long : (v : Version) (s : SavedSettings) → length (payload (layout v) [] (numbers v s)) ≡ size (version_number v)
long First s = first_length s
long Second s = second_length s

pub encoded_is : (v : Version) (s : SavedSettings) → encoded (version_number v) s ≡ payload (layout v) [] (numbers v s)
unfolding encoded
encoded_is First s = refl
encoded_is Second s = refl

-- the numbers in the code's array
pub listed : (v : Version) (s : SavedSettings) (n m : ℕ) (xs ys : List ℕ) → n ≡ version_number v → m ≡ size (version_number v)
    → xs ≡ 94 ∷ 113 ∷ n ∷ (m - 4) ∷ s.start ∷ s.loop_start ∷ s.loop_end ∷ s.reverse ∷ s.rate ∷ s.pitch % 256 ∷ [] → take (length (layout v)) (xs ++ ys) ≡ numbers v s
unfolding first_rows second_rows
listed First s n m xs ys e f g = rw (g, e, f) refl
listed Second s n m xs ys e f g = rw (g, e, f) refl

pub room_for : (v : Version) (s : SavedSettings) (vs : List ℕ) (n : ℕ) → take (length (layout v)) vs ≡ numbers v s → size (version_number v) ≤ n
    → 0 + length (payload (layout v) [] (take (length (layout v)) vs)) ≤ n
room_for v s vs n e h = rw e (omega (arith, long v s, h))

pub put_in : (v : Version) (s : SavedSettings) (vs buffer : List ℕ) → take (length (layout v)) vs ≡ numbers v s
    → sets buffer 0 (payload (layout v) [] (take (length (layout v)) vs)) ≡ sets buffer 0 (encoded (version_number v) s)
put_in v s vs buffer e = rw (e, encoded_is v s) refl

-- ---- the buffer afterwards

module _ (version : ℕ) (s : SavedSettings) (buffer : List ℕ) where
  pub kept : 0 < store_refusal version s (length buffer) → buffer ≡ stored version s buffer
  unfolding stored
  kept h = sym (ap (λ (b : Bool). cond b (sets buffer 0 (encoded version s)) buffer) (ne_eqb (store_refusal version s (length buffer)) 0 (λ q. omega (arith, h, q))))

  pub written : (after : List ℕ) → store_refusal version s (length buffer) ≡ 0 → after ≡ sets buffer 0 (encoded version s) → after ≡ stored version s buffer
  unfolding stored
  written after h e = e ∙ sym (ap (λ (b : Bool). cond b (sets buffer 0 (encoded version s)) buffer) (eq-eqb (store_refusal version s (length buffer)) 0 h))

-- what an accepted store has
pub passed : (b : Bool) (x k : ℕ) → cond b x (suc k) ≡ 0 → (b ≡ true) × (x ≡ 0)
passed true x k h = (refl, h)
passed false x k h = absurd (omega (arith, h))

pub room_left : (version : ℕ) (s : SavedSettings) (n : ℕ) → store_refusal version s n ≡ 0 → size version ≤ n
room_left version s n h = leb-true (size version) n (passed (leb (size version) n) 0 18 (passed (storable version s) (cond (leb (size version) n) 0 19) 23 h).1).0

pub enough : (version : ℕ) (s : SavedSettings) (n : ℕ) → storable version s ≡ true → size version ≤ n → 0 ≡ store_refusal version s n
enough version s n h l = sym (ap (λ (b : Bool). cond b (cond (leb (size version) n) 0 19) 24) h ∙ ap (λ (b : Bool). cond b 0 19) (le-leb (size version) n l))
