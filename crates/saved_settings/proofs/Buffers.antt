-- Round trips over the buffers of `store` and `load`. Assumes nothing.
use Rattle.std.proofs.Common.{◌≡◌, ℕ, ◌+◌, ◌^◌, ◌<◌, ◌≤◌, Bool, true, false, cond, eqb, leb, List, [], ◌++◌, length, get_or, take, drop, sym, refl, ap, ◌∙◌, subst, arith, take_at, eqb-true}
use lib.Seq.{sets, sets-eq}
use Rattle.byte_layout.specs.Reads.{good, steps}
use Rattle.byte_layout.specs.Writes.{payload}
use Rattle.saved_settings.specs.declared.SavedSettings.{SavedSettings}
use Rattle.saved_settings.specs.Tables.{first_rows, second_rows}
use Rattle.saved_settings.specs.Records.{judged, second, loaded, storable, size, store_refusal, first_numbers, second_numbers, encoded, stored}
use Rattle.saved_settings.specs.Promises.{whole, Holds}
use Rattle.saved_settings.proofs.Stores.{first_length, second_length, written, passed, room_left, enough}
use Rattle.saved_settings.proofs.Fields.{storable_parts}
use Rattle.saved_settings.proofs.Rounds.{first, second_back, first_again, second_again, version_is}

encoded_long : (version : ℕ) (s : SavedSettings) → length (encoded version s) ≡ size version
unfolding encoded first_rows second_rows
encoded_long version s = go (eqb version 1)
  where
    go : (b : Bool) → length (cond b (payload first_rows [] (first_numbers s)) (payload second_rows [] (second_numbers s))) ≡ cond b 25 26
    go true = first_length s
    go false = second_length s

-- ---- stored, then loaded

-- an accepted store writes the record before the rest of the buffer
put_first : (version : ℕ) (s : SavedSettings) (buffer : List ℕ) → store_refusal version s (length buffer) ≡ 0
    → stored version s buffer ≡ encoded version s ++ drop (0 + length (encoded version s)) buffer
put_first version s buffer h =
    sym (written version s buffer (sets buffer 0 (encoded version s)) h refl)
    ∙ sets-eq (encoded version s) buffer 0 (omega (arith, encoded_long version s, room_left version s (length buffer) h))

pub store_loads : (version : ℕ) (s : SavedSettings) (buffer : List ℕ) → s.rate < 2 ^ 64 → s.pitch < 2 ^ 64
    → store_refusal version s (length buffer) ≡ 0 → loaded 2 (stored version s buffer) ≡ whole version s
store_loads version s buffer r p h = ap (loaded 2) (put_first version s buffer h) ∙ back (drop (0 + length (encoded version s)) buffer)
  where
    may : storable version s ≡ true
    may = (passed (storable version s) (cond (leb (size version) (length buffer)) 0 19) 23 h).0

    -- a version that is stored is 1 or 2
    go : (v : ℕ) → storable v s ≡ true → (b : Bool) → eqb v 1 ≡ b → (rest : List ℕ) → loaded 2 (encoded v s ++ rest) ≡ whole v s
    go v m true q rest =
        let e : v ≡ 1 = eqb-true v 1 q in
        subst (λ (n : ℕ). loaded 2 (encoded n s ++ rest) ≡ whole n s) (sym e) (first 2 s rest r (subst (λ (n : ℕ). storable n s ≡ true) e m))
    go v m false q rest =
        let c : cond (eqb v 1) (eqb s.pitch 0) (eqb v 2) ≡ true = (storable_parts v s m).1 in
        let e : v ≡ 2 = eqb-true v 2 (sym (ap (λ (b : Bool). cond b (eqb s.pitch 0) (eqb v 2)) q) ∙ c) in
        subst (λ (n : ℕ). loaded 2 (encoded n s ++ rest) ≡ whole n s) (sym e) (second_back s rest r p (subst (λ (n : ℕ). storable n s ≡ true) e m))

    back : (rest : List ℕ) → loaded 2 (encoded version s ++ rest) ≡ whole version s
    back rest = go version may (eqb version 1) refl rest

-- ---- loaded, then stored

module _ (reader version : ℕ) (s : SavedSettings) (bytes buffer : List ℕ) (small : (i : ℕ) → get_or bytes i 0 < 256) where
  of_record : Holds version s bytes → size version ≤ length buffer → stored version s buffer ≡ sets buffer 0 (take (size version) bytes)
  of_record w room =
      sym (written version s buffer (sets buffer 0 (encoded version s)) (sym (enough version s (length buffer) w.may room)) refl)
      ∙ ap (sets buffer 0) (sym (ap (take (size version)) w.is ∙ take_at (encoded version s) w.rest (size version) (encoded_long version s)))

  pub load_stores : 0 < version → loaded reader bytes ≡ whole version s → size version ≤ length buffer → stored version s buffer ≡ sets buffer 0 (take (size version) bytes)
  unfolding loaded
  load_stores some e room = of_record (go (second reader bytes) refl) room
    where
      go : (b : Bool) → second reader bytes ≡ b → Holds version s bytes
      go true q =
          let j : judged 2 (steps second_rows (good 26 [] bytes)) ≡ whole version s = sym (ap (λ (b : Bool). cond b (judged 2 (steps second_rows (good 26 [] bytes))) (judged 1 (steps first_rows (good 25 [] bytes)))) q) ∙ e in
          let v : 2 ≡ version = version_is 2 version (steps second_rows (good 26 [] bytes)) s some j in
          subst (λ (n : ℕ). Holds n s bytes) v (second_again reader s bytes small (e ∙ ap (λ (n : ℕ). whole n s) (sym v)))
      go false q =
          let j : judged 1 (steps first_rows (good 25 [] bytes)) ≡ whole version s = sym (ap (λ (b : Bool). cond b (judged 2 (steps second_rows (good 26 [] bytes))) (judged 1 (steps first_rows (good 25 [] bytes)))) q) ∙ e in
          let v : 1 ≡ version = version_is 1 version (steps first_rows (good 25 [] bytes)) s some j in
          subst (λ (n : ℕ). Holds n s bytes) v (first_again reader s bytes small (e ∙ ap (λ (n : ℕ). whole n s) (sym v)))
