-- Round trips: what is stored loads as the same fields, and what was loaded is stored as the same bytes, by the laws of the codec. Assumes nothing.
use Rattle.std.proofs.Common.{◌≡◌, ℕ, suc, ◌%◌, ◌^◌, ◌<◌, Bool, true, false, cond, ◌&&◌, eqb, List, [], ◌∷◌, ◌++◌, length, get_or, sym, refl, ap, ◌∙◌, subst, le_antisymm, arith, eqb-true, le-leb}
use Rattle.byte_layout.specs.Numbers.{num, bytes}
use Rattle.byte_layout.specs.Rows.{stands, within}
use Rattle.byte_layout.specs.Reads.{Reading, bad, good, steps, step, taken}
use Rattle.byte_layout.specs.Writes.{field, fine, payload}
use Rattle.byte_layout.proofs.Codec.{read_written, written_read}
use Rattle.byte_layout.proofs.Takes.{took, none, peel, ended, read_back}
use Rattle.saved_settings.specs.declared.SavedSettings.{SavedSettings}
use Rattle.saved_settings.specs.Tables.{first_rows, second_rows}
use Rattle.saved_settings.specs.Records.{Loaded, well_formed, signed, saved_of, refused_by, shown, judged, second, loaded, storable, first_numbers, second_numbers, encoded}
use Rattle.saved_settings.specs.Promises.{whole, Holds}
use Rattle.saved_settings.proofs.Fields.{WellFormed, well_formed_parts, storable_parts, signed_back, byte_back}
use Rattle.saved_settings.proofs.Loads.{first_sound, second_sound}
use Rattle.saved_settings.proofs.Stores.{first_length, second_length}

-- ---- stored, then loaded

first_fine : (s : SavedSettings) → s.rate < 2 ^ 64 → WellFormed s → fine first_rows [] (first_numbers s) ≡ true
unfolding first_rows
first_fine s r l =
    took _ _ _ _ _ refl (omega arith) (omega arith)
    (took _ _ _ _ _ refl (omega arith) (omega arith)
    (took _ _ _ _ _ refl (omega arith) (omega arith)
    (took _ _ _ _ _ refl (omega arith) (omega arith)
    (took _ _ _ _ _ refl (omega arith) l.start
    (took _ _ _ _ _ refl (omega arith) l.loop_start_word
    (took _ _ _ _ _ refl (omega arith) l.loop_end_word
    (took _ _ _ _ _ refl (omega arith) l.reverse
    (took _ _ _ _ _ refl (omega arith) (omega (arith, r))
    (none _)))))))))

second_fine : (s : SavedSettings) → s.rate < 2 ^ 64 → WellFormed s → fine second_rows [] (second_numbers s) ≡ true
unfolding second_rows
second_fine s r l =
    took _ _ _ _ _ refl (omega arith) (omega arith)
    (took _ _ _ _ _ refl (omega arith) (omega arith)
    (took _ _ _ _ _ refl (omega arith) (omega arith)
    (took _ _ _ _ _ refl (omega arith) (omega arith)
    (took _ _ _ _ _ refl (omega arith) l.start
    (took _ _ _ _ _ refl (omega arith) l.loop_start_word
    (took _ _ _ _ _ refl (omega arith) l.loop_end_word
    (took _ _ _ _ _ refl (omega arith) l.reverse
    (took _ _ _ _ _ refl (omega arith) (omega (arith, r))
    (took _ _ _ _ _ refl (omega arith) (omega arith)
    (none _))))))))))

-- the version's byte
first_is : (reader : ℕ) (s : SavedSettings) (rest : List ℕ) → second reader (payload first_rows [] (first_numbers s) ++ rest) ≡ false
unfolding payload field stands first_rows bytes
first_is reader s rest = go (eqb reader 1)
  where
    go : (b : Bool) → cond b false false ≡ false
    go true = refl
    go false = refl

second_is : (s : SavedSettings) (rest : List ℕ) → second 2 (payload second_rows [] (second_numbers s) ++ rest) ≡ true
unfolding payload field stands second_rows bytes
second_is s rest = refl

first_saved : (s : SavedSettings) → WellFormed s → s.pitch ≡ 0 → saved_of 1 (first_numbers s) ≡ s
first_saved s l p =
    ap (λ (n : ℕ). record { start = s.start; has_loop = n; loop_start = s.loop_start; loop_end = s.loop_end; reverse = s.reverse; rate = s.rate; pitch = 0 }) l.looped
    ∙ ap (λ (n : ℕ). record { start = s.start; has_loop = s.has_loop; loop_start = s.loop_start; loop_end = s.loop_end; reverse = s.reverse; rate = s.rate; pitch = n }) (sym p)

second_saved : (s : SavedSettings) → WellFormed s → s.pitch < 2 ^ 64 → saved_of 2 (second_numbers s) ≡ s
second_saved s l p =
    ap (λ (n : ℕ). record { start = s.start; has_loop = n; loop_start = s.loop_start; loop_end = s.loop_end; reverse = s.reverse; rate = s.rate; pitch = signed (s.pitch % 256) }) l.looped
    ∙ ap (λ (n : ℕ). record { start = s.start; has_loop = s.has_loop; loop_start = s.loop_start; loop_end = s.loop_end; reverse = s.reverse; rate = s.rate; pitch = n }) (signed_back s.pitch p l.pitch)

show_whole : (version : ℕ) (s t : SavedSettings) → t ≡ s → well_formed s ≡ true → shown version t ≡ whole version s
show_whole version s t e h = ap (shown version) e ∙ ap (λ (b : Bool). cond b (whole version s) (refused_by 24)) h

pub first : (reader : ℕ) (s : SavedSettings) (rest : List ℕ) → s.rate < 2 ^ 64 → storable 1 s ≡ true → loaded reader (encoded 1 s ++ rest) ≡ whole 1 s
unfolding loaded encoded judged first_rows
first reader s rest r h =
    let p = storable_parts 1 s h in
    let l = well_formed_parts s p.0 in
    let e = read_back first_rows (first_numbers s) rest 25 (first_length s) (read_written first_rows [] (first_numbers s) rest 0 first_sound (first_fine s r l)) in
    rw (first_is reader s rest) (ap (judged 1) e ∙ show_whole 1 s (saved_of 1 (first_numbers s)) (first_saved s l (eqb-true s.pitch 0 p.1)) p.0)

pub second_back : (s : SavedSettings) (rest : List ℕ) → s.rate < 2 ^ 64 → s.pitch < 2 ^ 64 → storable 2 s ≡ true → loaded 2 (encoded 2 s ++ rest) ≡ whole 2 s
unfolding loaded encoded judged second_rows
second_back s rest r k h =
    let p = storable_parts 2 s h in
    let l = well_formed_parts s p.0 in
    let e = read_back second_rows (second_numbers s) rest 26 (second_length s) (read_written second_rows [] (second_numbers s) rest 0 second_sound (second_fine s r l)) in
    rw (second_is s rest) (ap (judged 2) e ∙ show_whole 2 s (saved_of 2 (second_numbers s)) (second_saved s l k) p.0)

-- ---- loaded, then stored

-- a version 1 reader stops at the version's byte
stops : (l : List ℕ) → judged 1 (steps first_rows (good 25 [] (94 ∷ 113 ∷ 2 ∷ l))) ≡ refused_by 23
unfolding judged first_rows steps step stands taken within num
stops l =
    rw (le-leb 1 (suc (suc (suc (length l)))) (omega arith), le-leb 1 (suc (suc (length l))) (omega arith), le-leb 1 (suc (length l)) (omega arith)) refl

pub unknown : (s : SavedSettings) (rest : List ℕ) → loaded 1 (encoded 2 s ++ rest) ≡ refused_by 23
unfolding loaded encoded payload field stands second_rows bytes
unknown s rest = stops _

-- loaded fields are well formed, and they are the fields among the numbers read
shown_is : (version : ℕ) (s t : SavedSettings) → 0 < version → shown version t ≡ whole version s → (t ≡ s) × (well_formed s ≡ true)
shown_is version s t p e = go (well_formed t) refl e
  where
    go : (b : Bool) → well_formed t ≡ b → cond b (whole version t) (refused_by 24) ≡ whole version s → (t ≡ s) × (well_formed s ≡ true)
    go true q u =
        let x : t ≡ s = ap (λ (l : Loaded). l.settings) u in
        (x, ap well_formed (sym x) ∙ q)
    go false q u =
        let z : 0 ≡ version = ap (λ (l : Loaded). l.version) u in
        absurd (omega (arith, z, p))

pub version_is : (v w : ℕ) (d : Reading) (s : SavedSettings) → 0 < w → judged v d ≡ whole w s → v ≡ w
unfolding judged
version_is v w (bad k) s p e =
    let z : 0 ≡ w = ap (λ (l : Loaded). l.version) e in
    absurd (omega (arith, z, p))
version_is v w (good left vs rest) s p e = go (well_formed (saved_of v vs)) e
  where
    go : (b : Bool) → cond b (whole v (saved_of v vs)) (refused_by 24) ≡ whole w s → v ≡ w
    go true q = ap (λ (l : Loaded). l.version) q
    go false q =
        let z : 0 ≡ w = ap (λ (l : Loaded). l.version) q in
        absurd (omega (arith, z, p))

-- the numbers of a record are those of its fields
marks : (a b c d : ℕ) (l : List ℕ) (v n : ℕ) → 94 ≡ a → 113 ≡ b → v ≡ c → n ≡ d → 94 ∷ 113 ∷ v ∷ n ∷ l ≡ a ∷ b ∷ c ∷ d ∷ l
marks a b c d l v n p q r t = ap (λ (x : ℕ). x ∷ 113 ∷ v ∷ n ∷ l) p ∙ ap (λ (x : ℕ). a ∷ x ∷ v ∷ n ∷ l) q ∙ ap (λ (x : ℕ). a ∷ b ∷ x ∷ n ∷ l) r ∙ ap (λ (x : ℕ). a ∷ b ∷ c ∷ x ∷ l) t

first_numbers_lem : (ws : List ℕ) → fine first_rows [] ws ≡ true → first_numbers (saved_of 1 ws) ≡ ws
unfolding first_rows
first_numbers_lem ws h =
    peel (λ (l : List ℕ). first_numbers (saved_of 1 (l)) ≡ l) _ _ _ ws refl h (λ a l0 a0 a1 h0.
    peel (λ (l : List ℕ). first_numbers (saved_of 1 (a ∷ l)) ≡ a ∷ l) _ _ _ l0 refl h0 (λ b l1 b0 b1 h1.
    peel (λ (l : List ℕ). first_numbers (saved_of 1 (a ∷ b ∷ l)) ≡ a ∷ b ∷ l) _ _ _ l1 refl h1 (λ c l2 c0 c1 h2.
    peel (λ (l : List ℕ). first_numbers (saved_of 1 (a ∷ b ∷ c ∷ l)) ≡ a ∷ b ∷ c ∷ l) _ _ _ l2 refl h2 (λ d l3 d0 d1 h3.
    peel (λ (l : List ℕ). first_numbers (saved_of 1 (a ∷ b ∷ c ∷ d ∷ l)) ≡ a ∷ b ∷ c ∷ d ∷ l) _ _ _ l3 refl h3 (λ e l4 e0 e1 h4.
    peel (λ (l : List ℕ). first_numbers (saved_of 1 (a ∷ b ∷ c ∷ d ∷ e ∷ l)) ≡ a ∷ b ∷ c ∷ d ∷ e ∷ l) _ _ _ l4 refl h4 (λ f l5 f0 f1 h5.
    peel (λ (l : List ℕ). first_numbers (saved_of 1 (a ∷ b ∷ c ∷ d ∷ e ∷ f ∷ l)) ≡ a ∷ b ∷ c ∷ d ∷ e ∷ f ∷ l) _ _ _ l5 refl h5 (λ g l6 g0 g1 h6.
    peel (λ (l : List ℕ). first_numbers (saved_of 1 (a ∷ b ∷ c ∷ d ∷ e ∷ f ∷ g ∷ l)) ≡ a ∷ b ∷ c ∷ d ∷ e ∷ f ∷ g ∷ l) _ _ _ l6 refl h6 (λ i l7 i0 i1 h7.
    peel (λ (l : List ℕ). first_numbers (saved_of 1 (a ∷ b ∷ c ∷ d ∷ e ∷ f ∷ g ∷ i ∷ l)) ≡ a ∷ b ∷ c ∷ d ∷ e ∷ f ∷ g ∷ i ∷ l) _ _ _ l7 refl h7 (λ j l8 j0 j1 h8.
    subst (λ (l : List ℕ). first_numbers (saved_of 1 (a ∷ b ∷ c ∷ d ∷ e ∷ f ∷ g ∷ i ∷ j ∷ l)) ≡ a ∷ b ∷ c ∷ d ∷ e ∷ f ∷ g ∷ i ∷ j ∷ l) (sym (ended _ l8 h8))
    (marks a b c d (e ∷ f ∷ g ∷ i ∷ j ∷ []) 1 21 (le_antisymm a0 a1) (le_antisymm b0 b1) (le_antisymm c0 c1) (le_antisymm d0 d1)))))))))))

second_numbers_lem : (ws : List ℕ) → fine second_rows [] ws ≡ true → second_numbers (saved_of 2 ws) ≡ ws
unfolding second_rows
second_numbers_lem ws h =
    peel (λ (l : List ℕ). second_numbers (saved_of 2 (l)) ≡ l) _ _ _ ws refl h (λ a l0 a0 a1 h0.
    peel (λ (l : List ℕ). second_numbers (saved_of 2 (a ∷ l)) ≡ a ∷ l) _ _ _ l0 refl h0 (λ b l1 b0 b1 h1.
    peel (λ (l : List ℕ). second_numbers (saved_of 2 (a ∷ b ∷ l)) ≡ a ∷ b ∷ l) _ _ _ l1 refl h1 (λ c l2 c0 c1 h2.
    peel (λ (l : List ℕ). second_numbers (saved_of 2 (a ∷ b ∷ c ∷ l)) ≡ a ∷ b ∷ c ∷ l) _ _ _ l2 refl h2 (λ d l3 d0 d1 h3.
    peel (λ (l : List ℕ). second_numbers (saved_of 2 (a ∷ b ∷ c ∷ d ∷ l)) ≡ a ∷ b ∷ c ∷ d ∷ l) _ _ _ l3 refl h3 (λ e l4 e0 e1 h4.
    peel (λ (l : List ℕ). second_numbers (saved_of 2 (a ∷ b ∷ c ∷ d ∷ e ∷ l)) ≡ a ∷ b ∷ c ∷ d ∷ e ∷ l) _ _ _ l4 refl h4 (λ f l5 f0 f1 h5.
    peel (λ (l : List ℕ). second_numbers (saved_of 2 (a ∷ b ∷ c ∷ d ∷ e ∷ f ∷ l)) ≡ a ∷ b ∷ c ∷ d ∷ e ∷ f ∷ l) _ _ _ l5 refl h5 (λ g l6 g0 g1 h6.
    peel (λ (l : List ℕ). second_numbers (saved_of 2 (a ∷ b ∷ c ∷ d ∷ e ∷ f ∷ g ∷ l)) ≡ a ∷ b ∷ c ∷ d ∷ e ∷ f ∷ g ∷ l) _ _ _ l6 refl h6 (λ i l7 i0 i1 h7.
    peel (λ (l : List ℕ). second_numbers (saved_of 2 (a ∷ b ∷ c ∷ d ∷ e ∷ f ∷ g ∷ i ∷ l)) ≡ a ∷ b ∷ c ∷ d ∷ e ∷ f ∷ g ∷ i ∷ l) _ _ _ l7 refl h7 (λ j l8 j0 j1 h8.
    peel (λ (l : List ℕ). second_numbers (saved_of 2 (a ∷ b ∷ c ∷ d ∷ e ∷ f ∷ g ∷ i ∷ j ∷ l)) ≡ a ∷ b ∷ c ∷ d ∷ e ∷ f ∷ g ∷ i ∷ j ∷ l) _ _ _ l8 refl h8 (λ o l9 o0 o1 h9.
    subst (λ (l : List ℕ). second_numbers (saved_of 2 (a ∷ b ∷ c ∷ d ∷ e ∷ f ∷ g ∷ i ∷ j ∷ o ∷ l)) ≡ a ∷ b ∷ c ∷ d ∷ e ∷ f ∷ g ∷ i ∷ j ∷ o ∷ l) (sym (ended _ l9 h9))
    (ap (λ (y : ℕ). 94 ∷ 113 ∷ 2 ∷ 22 ∷ e ∷ f ∷ g ∷ i ∷ j ∷ y ∷ []) (byte_back o o1) ∙ marks a b c d (e ∷ f ∷ g ∷ i ∷ j ∷ o ∷ []) 2 22 (le_antisymm a0 a1) (le_antisymm b0 b1) (le_antisymm c0 c1) (le_antisymm d0 d1))))))))))))

module _ (reader : ℕ) (s : SavedSettings) (bytes : List ℕ) (small : (i : ℕ) → get_or bytes i 0 < 256) where
  from_first : (d : Reading) → steps first_rows (good 25 [] bytes) ≡ d → judged 1 d ≡ whole 1 s → Holds 1 s bytes
  unfolding judged encoded first_rows
  from_first (bad k) q e =
      let z : ◌≡◌ {A = ℕ} 0 1 = ap (λ (l : Loaded). l.version) e in
      absurd (omega (arith, z))
  from_first (good left vs rest) q e =
      let w = written_read first_rows 25 [] bytes left vs rest small q in
      let x = shown_is 1 s (saved_of 1 vs) (omega arith) e in
      let t : saved_of 1 w.more ≡ s = ap (saved_of 1) (sym w.same) ∙ x.0 in
      let y : w.more ≡ first_numbers s = sym (first_numbers_lem w.more w.takes) ∙ ap first_numbers t in
      record {
        rest = rest;
        is = w.from ∙ ap (λ (l : List ℕ). payload first_rows [] l ++ rest) y;
        may = ap (λ (b : Bool). b && eqb s.pitch 0) x.1 ∙ ap (λ (n : ℕ). eqb n 0) (sym (ap (λ (u : SavedSettings). u.pitch) t));
      }

  from_second : (d : Reading) → steps second_rows (good 26 [] bytes) ≡ d → judged 2 d ≡ whole 2 s → Holds 2 s bytes
  unfolding judged encoded second_rows
  from_second (bad k) q e =
      let z : ◌≡◌ {A = ℕ} 0 2 = ap (λ (l : Loaded). l.version) e in
      absurd (omega (arith, z))
  from_second (good left vs rest) q e =
      let w = written_read second_rows 26 [] bytes left vs rest small q in
      let x = shown_is 2 s (saved_of 2 vs) (omega arith) e in
      let t : saved_of 2 w.more ≡ s = ap (saved_of 2) (sym w.same) ∙ x.0 in
      let y : w.more ≡ second_numbers s = sym (second_numbers_lem w.more w.takes) ∙ ap second_numbers t in
      record {
        rest = rest;
        is = w.from ∙ ap (λ (l : List ℕ). payload second_rows [] l ++ rest) y;
        may = ap (λ (b : Bool). b && true) x.1;
      }

  pub first_again : loaded reader bytes ≡ whole 1 s → Holds 1 s bytes
  unfolding loaded first_rows
  first_again e = go (second reader bytes) e
    where
      go : (b : Bool) → cond b (judged 2 (steps second_rows (good 26 [] bytes))) (judged 1 (steps first_rows (good 25 [] bytes))) ≡ whole 1 s → Holds 1 s bytes
      go true q =
          let z = version_is 2 1 (steps second_rows (good 26 [] bytes)) s (omega arith) q in
          absurd (omega (arith, z))
      go false q = from_first (steps first_rows (good 25 [] bytes)) refl q

  pub second_again : loaded reader bytes ≡ whole 2 s → Holds 2 s bytes
  unfolding loaded second_rows
  second_again e = go (second reader bytes) e
    where
      go : (b : Bool) → cond b (judged 2 (steps second_rows (good 26 [] bytes))) (judged 1 (steps first_rows (good 25 [] bytes))) ≡ whole 2 s → Holds 2 s bytes
      go true q = from_second (steps second_rows (good 26 [] bytes)) refl q
      go false q =
          let z = version_is 1 2 (steps first_rows (good 25 [] bytes)) s (omega arith) q in
          absurd (omega (arith, z))
