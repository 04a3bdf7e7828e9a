-- Round trips: what is stored loads as the same words and names, and what was loaded is stored as the same bytes. Assumes nothing.
use mathlib.Core.Path.{◌≡◌, refl, sym, ap, ap₂, ◌∙◌}
use Prim.Native.Nat.{ℕ, zero, suc, ◌+◌, ◌^◌, ◌/◌, ◌≤◌, ◌<◌}
use native.Mathlib.Nat.{le_antisymm}
use native.Mathlib.Omega.{arith}
use mathlib.Core.Bool.{Bool, true, false, ◌&&◌, cond}
use mathlib.Core.List.{List, [], ◌∷◌, ◌++◌, append_assoc}
use lib.Dec.{leb, eqb}
use lib.ListN.{length, get_or, take, drop, length-append, length-drop}
use lib.Seq.{sets, sets-eq, take_at, drop_at, take-add, length-take-le}
use borrow.Author.Tests.{eq-eqb, eqb-true, leb-true, le-leb}
use Rattle.byte_layout.specs.declared.Row.{Row}
use Rattle.byte_layout.specs.Numbers.{Bytes, num, bytes}
use Rattle.byte_layout.specs.Rows.{stands}
use Rattle.byte_layout.specs.Reads.{Reading, bad, good, steps}
use Rattle.byte_layout.specs.Writes.{field, fine, payload}
use Rattle.byte_layout.proofs.Numbers.{length_bytes, num_bytes, bytes_num, small_drop}
use Rattle.byte_layout.proofs.Codec.{read_written, written_read}
use Rattle.byte_layout.proofs.Lengths.{most, least, at_most, at_least}
use Rattle.byte_layout.proofs.Takes.{peel}
use Rattle.byte_layout.proofs.Low.{some_refusal}
use Rattle.crc32.specs.Checksums.{checksum_of}
use Rattle.saved_loops.specs.Tables.{half_rows}
use Rattle.saved_loops.specs.Records.{LoadedHalf, well_formed_slots, well_formed, names_in, crc_right, refused_by, shown, judged, loaded, half_numbers, body, encoded, stored}
use Rattle.saved_loops.specs.Promises.{whole, Stores, Kept}
use Rattle.saved_loops.proofs.Checksums.{checksum_word}
use Rattle.saved_loops.proofs.Loads.{half_sound}
use Rattle.saved_loops.proofs.Stores.{half_length, half_fine, body_length, encoded_length, written, accepted, enough}

-- ---- what is written is bytes

bytes_small : (w x : ℕ) → Bytes (bytes w x)
unfolding bytes
bytes_small zero x i = omega arith
bytes_small (suc w) x zero = omega arith
bytes_small (suc w) x (suc i) = bytes_small w (x / 256) i

append_small : (xs ys : List ℕ) → Bytes xs → Bytes ys → Bytes (xs ++ ys)
append_small [] ys h k i = k i
append_small (x ∷ xs) ys h k zero = h 0
append_small (x ∷ xs) ys h k (suc i) = append_small xs ys (λ j. h (suc j)) k i

field_small : (b : Bool) (r : Row) (x : ℕ) → Bytes (field b r x)
unfolding field
field_small true r x = bytes_small r.width x
field_small false r x = λ i. omega arith

payload_small : (rs : List Row) (vs ws : List ℕ) → Bytes (payload rs vs ws)
unfolding payload
payload_small [] vs ws = λ i. omega arith
payload_small (r ∷ rs) vs [] = λ i. omega arith
payload_small (r ∷ rs) vs (x ∷ ws) = append_small (field (stands r vs) r x) (payload rs (vs ++ (x ∷ [])) ws) (field_small (stands r vs) r x) (payload_small rs (vs ++ (x ∷ [])) ws)

pub body_small : (ws names : List ℕ) → Bytes names → Bytes (body ws names)
unfolding body
body_small ws names h = append_small (payload half_rows [] (half_numbers ws)) names (payload_small half_rows [] (half_numbers ws)) h

pub encoded_small : (ws names : List ℕ) → Bytes names → Bytes (encoded ws names)
unfolding encoded
encoded_small ws names h = append_small (body ws names) (bytes 4 (checksum_of (body ws names))) (body_small ws names h) (bytes_small 4 (checksum_of (body ws names)))

-- ---- stored, then loaded

hall_small : (ws : List ℕ) → well_formed ws ≡ true → get_or ws 0 0 ≤ 255
hall_small ws h = go (leb (get_or ws 0 0) 1) refl h
  where
    go : (b : Bool) → leb (get_or ws 0 0) 1 ≡ b → (b && well_formed_slots 8 ws) ≡ true → get_or ws 0 0 ≤ 255
    go true q u = omega (arith, leb-true (get_or ws 0 0) 1 q)
    go false q u = let z : ◌≡◌ {A = ℕ} 0 1 = ap (λ (b : Bool). cond b 1 0) u in absurd (omega (arith, z))

crc_of : (b c rest : List ℕ) → length b ≡ 662 → length c ≡ 4 → num c ≡ checksum_of b → crc_right (b ++ (c ++ rest)) ≡ true
crc_of b c rest p q e =
    ap₂ (λ (x : ℕ) (y : List ℕ). eqb x (checksum_of y)) (ap num (ap (take 4) (drop_at b (c ++ rest) 662 p) ∙ take_at c rest 4 q) ∙ e) (take_at b (c ++ rest) 662 p)
    ∙ eq-eqb (checksum_of b) (checksum_of b) refl

-- the words, and the names, of bytes that begin with the record
module _ (ws names rest : List ℕ) (nineteen : length ws ≡ 19) (words : (i : ℕ) → get_or ws i 0 < 2 ^ 64) (small : Bytes names) (right : well_formed ws ≡ true) (named : length names ≡ 512) where
  abbrev crc : List ℕ
  crc = bytes 4 (checksum_of (body ws names))

  parts : encoded ws names ++ rest ≡ body ws names ++ (bytes 4 (checksum_of (body ws names)) ++ rest)
  unfolding encoded
  parts = append_assoc (body ws names) (bytes 4 (checksum_of (body ws names))) rest

  apart : (tail : List ℕ) → body ws names ++ tail ≡ payload half_rows [] (half_numbers ws) ++ (names ++ tail)
  unfolding body half_rows
  apart tail = append_assoc (payload half_rows [] (half_numbers ws)) names tail

  reads : (tail : List ℕ) → steps half_rows (good 666 [] (body ws names ++ tail)) ≡ good 516 (half_numbers ws) (names ++ tail)
  unfolding half_rows
  reads tail =
      let n : length (payload half_rows [] (half_numbers ws)) + 516 ≡ 666 = omega (arith, half_length ws nineteen) in
      ap₂ (λ (k : ℕ) (l : List ℕ). steps half_rows (good k [] l)) (sym n) (apart tail)
      ∙ read_written half_rows [] (half_numbers ws) (names ++ tail) 516 half_sound (half_fine ws nineteen (hall_small ws right) words)

  is_right : crc_right (body ws names ++ (bytes 4 (checksum_of (body ws names)) ++ rest)) ≡ true
  is_right =
      crc_of (body ws names) (bytes 4 (checksum_of (body ws names))) rest (body_length ws names nineteen named) (length_bytes 4 (checksum_of (body ws names)))
      (num_bytes 4 (checksum_of (body ws names)) (omega (arith, checksum_word (body ws names) (body_small ws names small))))

  is_long : 666 ≤ length (body ws names ++ (bytes 4 (checksum_of (body ws names)) ++ rest))
  is_long =
      omega (arith, length-append (body ws names) (bytes 4 (checksum_of (body ws names)) ++ rest), length-append (bytes 4 (checksum_of (body ws names))) rest, body_length ws names nineteen named, length_bytes 4 (checksum_of (body ws names)))

  pub shown_again : loaded (encoded ws names ++ rest) ≡ whole ws
  unfolding loaded judged
  shown_again =
      let bs = body ws names ++ (bytes 4 (checksum_of (body ws names)) ++ rest) in
      ap loaded parts ∙ ap (judged bs) (reads (bytes 4 (checksum_of (body ws names)) ++ rest))
      ∙ ap (λ (b : Bool). cond b (shown (well_formed ws && crc_right bs) ws) (refused_by 18)) (le-leb 666 (length bs) is_long)
      ∙ ap₂ (λ (x y : Bool). shown (x && y) ws) right is_right

  pub named_again : names_in (encoded ws names ++ rest) ≡ names
  named_again =
      ap names_in (parts ∙ apart (bytes 4 (checksum_of (body ws names)) ++ rest))
      ∙ ap (take 512) (drop_at (payload half_rows [] (half_numbers ws)) (names ++ (bytes 4 (checksum_of (body ws names)) ++ rest)) 150 (half_length ws nineteen))
      ∙ take_at names (bytes 4 (checksum_of (body ws names)) ++ rest) 512 named

pub store_loads : (ws names buffer : List ℕ) → Stores ws names buffer → Kept ws names (stored ws names buffer)
store_loads ws names buffer x =
    let a = accepted ws (length names) (length buffer) x.takes in
    let n = encoded_length ws names x.nineteen a.named in
    let rest = drop (0 + length (encoded ws names)) buffer in
    let e : stored ws names buffer ≡ encoded ws names ++ rest = sym (written ws names buffer (sets buffer 0 (encoded ws names)) x.takes refl) ∙ sets-eq (encoded ws names) buffer 0 (omega (arith, n, a.room)) in
    record {
      shown = ap loaded e ∙ shown_again ws names rest x.nineteen x.words x.small a.right a.named;
      named = ap names_in e ∙ named_again ws names rest x.nineteen x.words x.small a.right a.named;
    }

-- ---- loaded, then stored

some : (k : ℕ) (ws : List ℕ) → refused_by (suc k) ≡ whole ws → ⊥
some k ws e = let z : suc k ≡ 0 = ap (λ (l : LoadedHalf). l.refusal) e in omega (arith, z)

-- what is known about bytes that load
pub record Shown (ws bs vs : List ℕ) : Type 0 where
  pub long : 666 ≤ length bs
  pub words : drop 4 vs ≡ ws
  pub right : well_formed ws ≡ true
  pub crc : num (take 4 (drop 662 bs)) ≡ checksum_of (take 662 bs)

shown_is : (ws bs vs : List ℕ) → cond (leb 666 (length bs)) (shown (well_formed (drop 4 vs) && crc_right bs) (drop 4 vs)) (refused_by 18) ≡ whole ws → Shown ws bs vs
shown_is ws bs vs e = go (leb 666 (length bs)) (well_formed (drop 4 vs)) (crc_right bs) refl refl refl e
  where
    go : (a b c : Bool) → leb 666 (length bs) ≡ a → well_formed (drop 4 vs) ≡ b → crc_right bs ≡ c
        → cond a (cond (b && c) (whole (drop 4 vs)) (refused_by 24)) (refused_by 18) ≡ whole ws → Shown ws bs vs
    go false b c p q r u = absurd (some 17 ws u)
    go true false c p q r u = absurd (some 23 ws u)
    go true true false p q r u = absurd (some 23 ws u)
    go true true true p q r u =
        let w : drop 4 vs ≡ ws = ap (λ (l : LoadedHalf). l.words) u in
        record { long = leb-true 666 (length bs) p; words = w; right = ap well_formed (sym w) ∙ q; crc = eqb-true (num (take 4 (drop 662 bs))) (checksum_of (take 662 bs)) r }

-- the numbers of a record are its head and its words
head_is : (a b c d : ℕ) (l : List ℕ) → 167 ≡ a → 76 ≡ b → 1 ≡ c → 661 ≡ d → 167 ∷ 76 ∷ 1 ∷ 661 ∷ l ≡ a ∷ b ∷ c ∷ d ∷ l
head_is a b c d l p q r t =
    ap (λ (x : ℕ). x ∷ 76 ∷ 1 ∷ 661 ∷ l) p ∙ ap (λ (x : ℕ). a ∷ x ∷ 1 ∷ 661 ∷ l) q ∙ ap (λ (x : ℕ). a ∷ b ∷ x ∷ 661 ∷ l) r ∙ ap (λ (x : ℕ). a ∷ b ∷ c ∷ x ∷ l) t

numbers_are : (ws : List ℕ) → fine half_rows [] ws ≡ true → half_numbers (drop 4 ws) ≡ ws
unfolding half_rows
numbers_are ws h =
    peel (λ (l : List ℕ). half_numbers (drop 4 l) ≡ l) _ _ _ ws refl h (λ a l0 a0 a1 h0.
    peel (λ (l : List ℕ). half_numbers (drop 4 (a ∷ l)) ≡ a ∷ l) _ _ _ l0 refl h0 (λ b l1 b0 b1 h1.
    peel (λ (l : List ℕ). half_numbers (drop 4 (a ∷ b ∷ l)) ≡ a ∷ b ∷ l) _ _ _ l1 refl h1 (λ c l2 c0 c1 h2.
    peel (λ (l : List ℕ). half_numbers (drop 4 (a ∷ b ∷ c ∷ l)) ≡ a ∷ b ∷ c ∷ l) _ _ _ l2 refl h2 (λ d l3 d0 d1 h3.
    head_is a b c d l3 (le_antisymm a0 a1) (le_antisymm b0 b1) (le_antisymm c0 c1) (le_antisymm d0 d1)))))

half_most : most half_rows ≡ 150
unfolding most half_rows
half_most = refl

half_least : least half_rows ≡ 150
unfolding least half_rows
half_least = refl

fine_length : (ws : List ℕ) → fine half_rows [] ws ≡ true → length (payload half_rows [] ws) ≡ 150
fine_length ws h =
    omega (arith, at_most half_rows [] ws, at_least half_rows [] ws h, half_most, half_least)

module _ (ws bs : List ℕ) (small : Bytes bs) where
  -- the bytes of a record that loads
  record_is : (left : ℕ) (vs rest : List ℕ) → steps half_rows (good 666 [] bs) ≡ good left vs rest → Shown ws bs vs → take 666 bs ≡ encoded ws (names_in bs)
  unfolding encoded body half_rows
  record_is left vs rest q x =
      let w = written_read half_rows 666 [] bs left vs rest small q in
      let nums : w.more ≡ half_numbers ws = sym (numbers_are w.more w.takes) ∙ ap (λ (l : List ℕ). half_numbers (drop 4 l)) (sym w.same) ∙ ap half_numbers x.words in
      let pay = payload half_rows [] (half_numbers ws) in
      let from : bs ≡ pay ++ rest = w.from ∙ ap (λ (l : List ℕ). payload half_rows [] l ++ rest) nums in
      let n : length pay ≡ 150 = ap (λ (l : List ℕ). length (payload half_rows [] l)) (sym nums) ∙ fine_length w.more w.takes in
      let head : take 150 bs ≡ pay = ap (take 150) from ∙ take_at pay rest 150 n in
      let front : take 662 bs ≡ pay ++ names_in bs = take-add 150 512 bs ∙ ap (λ (l : List ℕ). l ++ names_in bs) head in
      let l : 4 ≤ length (drop 662 bs) = omega (arith, length-drop 662 bs, x.long) in
      let crc : take 4 (drop 662 bs) ≡ bytes 4 (checksum_of (pay ++ names_in bs)) = sym (bytes_num 4 (drop 662 bs) (small_drop 662 bs small) l) ∙ ap (bytes 4) (x.crc ∙ ap checksum_of front) in
      take-add 662 4 bs ∙ ap₂ ◌++◌ front crc

  names_length : 666 ≤ length bs → length (names_in bs) ≡ 512
  names_length h = length-take-le 512 (drop 150 bs) (omega (arith, length-drop 150 bs, h))

  pub load_stores : (buffer : List ℕ) → loaded bs ≡ whole ws → 666 ≤ length buffer → stored ws (names_in bs) buffer ≡ sets buffer 0 (take 666 bs)
  unfolding loaded judged half_rows
  load_stores buffer e room = go (steps half_rows (good 666 [] bs)) refl e
    where
      go : (d : Reading) → steps half_rows (good 666 [] bs) ≡ d → judged bs d ≡ whole ws → stored ws (names_in bs) buffer ≡ sets buffer 0 (take 666 bs)
      go (bad k) q u =
          let p = some_refusal half_rows bs 666 k q in
          let z : k ≡ 0 = ap (λ (l : LoadedHalf). l.refusal) u in
          absurd (omega (arith, p, z))
      go (good left vs rest) q u =
          let x = shown_is ws bs vs u in
          sym (written ws (names_in bs) buffer (sets buffer 0 (encoded ws (names_in bs))) (enough ws (length (names_in bs)) (length buffer) x.right (names_length x.long) room) refl)
          ∙ ap (sets buffer 0) (sym (record_is left vs rest q x))
