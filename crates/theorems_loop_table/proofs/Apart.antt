-- Two halls do not disturb each other, and a loop taken earlier stays: only the calls that concern the hall and the voice matter.
-- Two worlds are alike for hall h and voice i if their tables are both well formed or neither, over the same frames and with the same half, and the voice is the same. Assumes nothing.
use mathlib.Core.Path.{◌≡◌, refl, sym, ap, ap₂, ◌∙◌, subst}
use Prim.Native.Nat.{ℕ}
use mathlib.Core.Bool.{Bool, true, false, cond}
use mathlib.Core.List.{List}
use lib.Dec.{T, eqb, leb}
use lib.Ieee.{Float}
use borrow.Author.Tests.{eqb-true}
use Rattle.sound_state.specs.declared.StaticSound.{StaticSound}
use Rattle.sound_commands.specs.Commands.{commanded}
use Rattle.static_sound.specs.Entries.{processed, processed_into}
use Rattle.loop_table.specs.declared.Hall.{Hall}
use Rattle.loop_table.specs.declared.Hall.TheVariants as hall
use Rattle.loop_table.specs.declared.LoopSlot.{LoopSlot}
use Rattle.loop_table.specs.declared.LoopTable.{LoopTable}
use Rattle.loop_table.specs.Tables.{LoopFound, unless, slot_of, empty, is_empty, looping, well_formed_table, same, half, owns, refused_slot, held_in, changed, refused_write, written, refused_clear, cleared, refused_read, found}
use Rattle.take_loop.specs.Taking.{taken_from, taken}
use Rattle.theorems_loop_table.specs.Calls.{Call, Write, Clear, Read, Play, New, Take, Command, Block, Mix, Event, ByHall, ByVoice, Numbered, Looked, Obeyed, Played, World, hall_answer, table_after, voice_answer, voice_after, answer_to, next}
use Rattle.theorems_loop_table.specs.Apart.{concerns, takes_from, HallsApart, of_voice, takes_none, TakenStays}
use Rattle.theorems_loop_table.proofs.Stores.{never, Passed, write_passed, clear_passed, held_half, changed_number, changed_frames, changed_well_formed, changed_other, changed_own}
use Rattle.theorems_loop_table.proofs.Rows.{rows_alike}

pub record Alike (h : Hall) (t u : LoopTable) : Type 0 where
  pub well_formed : well_formed_table t ≡ well_formed_table u
  pub frames : t.num_frames ≡ u.num_frames
  pub slots : half h t ≡ half h u

-- ---- one call at two tables that are alike

-- a read, by the two values that it depends on
abbrev found_by : ℕ → Bool → LoopSlot → LoopFound
found_by k l x =
    let n = unless l 1 (unless (leb k 15) 20 (cond (is_empty x) 22 0)) in
    record { slot = cond (eqb n 0) x empty; refusal = n }

found_by_lem : (t : LoopTable) (k : ℕ) → found t k ≡ found_by k (well_formed_table t) (held_in t k)
unfolding found refused_read
found_by_lem t k = refl

found_alike : (h : Hall) (t u : LoopTable) (k : ℕ) → Alike h t u → T (owns h k) → found t k ≡ found u k
found_alike h t u k a o = found_by_lem t k ∙ ap₂ (found_by k) a.well_formed (held_half h t u k o a.slots) ∙ sym (found_by_lem u k)

pub write_alike : (h : Hall) (t u : LoopTable) (k s e : ℕ) → Alike h t u → refused_write t h k s e ≡ refused_write u h k s e
unfolding refused_write
write_alike h t u k s e a = ap₂ (λ (l : Bool) (n : ℕ). unless l 1 (unless (looping n s e) 6 (refused_slot h k))) a.well_formed a.frames

pub clear_alike : (h : Hall) (t u : LoopTable) (k : ℕ) → Alike h t u → refused_clear t h k ≡ refused_clear u h k
unfolding refused_clear
clear_alike h t u k a = ap (λ (l : Bool). unless l 1 (refused_slot h k)) a.well_formed

-- a change by h of both
pub changed_both : (h : Hall) (t u : LoopTable) (n m k : ℕ) (s : LoopSlot) → n ≡ m → (n ≡ 0 → Passed h t k s) → (m ≡ 0 → Passed h u k s)
    → Alike h t u → Alike h (changed n t k s).table (changed m u k s).table
changed_both h t u n m k s e p q a =
    record {
      well_formed = changed_well_formed n k s h t p ∙ a.well_formed ∙ sym (changed_well_formed m k s h u q);
      frames = changed_frames n k s t ∙ a.frames ∙ sym (changed_frames m k s u);
      slots = changed_own n k s h t u p a.slots ∙ ap (λ (z : ℕ). half h (changed z u k s).table) e;
    }

-- a change of one by the other hall
pub changed_one : (h g : Hall) (t u : LoopTable) (n k : ℕ) (s : LoopSlot) → same h g ≡ false → (n ≡ 0 → Passed g t k s) → Alike h t u → Alike h (changed n t k s).table u
changed_one h g t u n k s d p a =
    record {
      well_formed = changed_well_formed n k s g t p ∙ a.well_formed;
      frames = changed_frames n k s t ∙ a.frames;
      slots = changed_other n k s h g t d p ∙ a.slots;
    }

pub same_is : (h g : Hall) → same h g ≡ true → h ≡ g
same_is hall.A hall.A e = refl
same_is hall.A hall.B e = cc
same_is hall.B hall.A e = cc
same_is hall.B hall.B e = refl

-- voice i after its own call, in the world's voices
module _ (snd : List Float) (i : ℕ) where
  voice_next : (j : ℕ) (p : Play) (w : World) → eqb i j ≡ true → (next snd w (ByVoice j p)).voices i ≡ voice_after (w.voices i) (voice_answer snd w.table (w.voices i) p)
  voice_next j p w d = rw d

module _ (snd : List Float) (h : Hall) (i : ℕ) where
  pub record AlikeFor (w u : World) : Type 0 where
    pub table : Alike h w.table u.table
    pub voice : w.voices i ≡ u.voices i

  -- ---- a call that does not concern h and i
  pub skipped : (e : Event) (w u : World) → concerns h i e ≡ false → AlikeFor w u → AlikeFor (next snd w e) u
  unfolding written cleared
  skipped (ByHall g (Write k s e)) w u d a =
      record { table = changed_one h g w.table u.table (refused_write w.table g k s e) k (slot_of s e) d (write_passed w.table g k s e) a.table; voice = a.voice }
  skipped (ByHall g (Clear k)) w u d a =
      record { table = changed_one h g w.table u.table (refused_clear w.table g k) k empty d (clear_passed w.table g k) a.table; voice = a.voice }
  skipped (ByHall g (Read k)) w u d a = a
  skipped (ByVoice j p) w u d a = record { table = a.table; voice = rw d a.voice }

  -- ---- a call that does
  abbrev Both : Hall → Call → LoopTable → LoopTable → Type 0
  Both g c t u = (hall_answer t g c ≡ hall_answer u g c) × Alike h (table_after t g c) (table_after u g c)

  own_write : (k s e : ℕ) (t u : LoopTable) → Alike h t u → Both h (Write k s e) t u
  unfolding written
  own_write k s e t u a =
      let x = write_alike h t u k s e a in
      (ap Numbered (changed_number _ k (slot_of s e) t ∙ x ∙ sym (changed_number _ k (slot_of s e) u)), changed_both h t u _ _ k (slot_of s e) x (write_passed t h k s e) (write_passed u h k s e) a)

  own_clear : (k : ℕ) (t u : LoopTable) → Alike h t u → Both h (Clear k) t u
  unfolding cleared
  own_clear k t u a =
      let x = clear_alike h t u k a in
      (ap Numbered (changed_number _ k empty t ∙ x ∙ sym (changed_number _ k empty u)), changed_both h t u _ _ k empty x (clear_passed t h k) (clear_passed u h k) a)

  by_own : (g : Hall) (c : Call) (w u : World) → same h g ≡ true → AlikeFor w u → Both h c w.table u.table
      → (answer_to snd w (ByHall g c) ≡ answer_to snd u (ByHall g c)) × AlikeFor (next snd w (ByHall g c)) (next snd u (ByHall g c))
  by_own g c w u d a b =
      let x = subst (λ (f : Hall). Both f c w.table u.table) (same_is h g d) b in
      (x.0, record { table = x.1; voice = a.voice })

  voice_told : (p : Play) (t u : LoopTable) (v z : StaticSound) → T (takes_from h (ByVoice i p)) → Alike h t u → v ≡ z → voice_answer snd t v p ≡ voice_answer snd u z p
  unfolding taken
  voice_told (New s) t u v z o a e = refl
  voice_told (Take k) t u v z o a e = ap₂ (λ (x : StaticSound) (f : LoopFound). Obeyed (taken_from snd x f)) e (found_alike h t u k a o)
  voice_told (Command c) t u v z o a e = ap (λ (x : StaticSound). Obeyed (commanded snd x c)) e
  voice_told (Block dt b g out) t u v z o a e = ap (λ (x : StaticSound). Played (processed snd x dt b g out)) e
  voice_told (Mix dt b g mix from) t u v z o a e = ap (λ (x : StaticSound). Played (processed_into snd x dt b g mix from)) e

  pub moved : (e : Event) (w u : World) → concerns h i e ≡ true → T (takes_from h e) → AlikeFor w u
      → (answer_to snd w e ≡ answer_to snd u e) × AlikeFor (next snd w e) (next snd u e)
  moved (ByHall g (Write k s e)) w u d o a = by_own g (Write k s e) w u d a (own_write k s e w.table u.table a.table)
  moved (ByHall g (Clear k)) w u d o a = by_own g (Clear k) w u d a (own_clear k w.table u.table a.table)
  moved (ByHall g (Read k)) w u d o a = (ap Looked (found_alike h w.table u.table k a.table (subst T (sym d) tt)), a)
  moved (ByVoice j p) w u d o a =
      let x = voice_told p w.table u.table (w.voices i) (u.voices i) o a.table a.voice in
      (subst (λ (n : ℕ). voice_answer snd w.table (w.voices n) p ≡ voice_answer snd u.table (u.voices n) p) (eqb-true i j d) x, record { table = a.table; voice = voice_next snd i j p w d ∙ ap₂ voice_after a.voice x ∙ sym (voice_next snd i j p u d) })

  itself : (w : World) → AlikeFor w w
  itself w = record { table = record { well_formed = refl; frames = refl; slots = refl }; voice = refl }

pub halls_apart : HallsApart
halls_apart snd h i w es fs x =
    let r = rows_alike snd (concerns h i) (takes_from h) (AlikeFor snd h i) (skipped snd h i) (moved snd h i) es fs w w w (itself snd h i w) (itself snd h i w) x.calls x.own in
    record { same_answers = r.0; slots = r.1.table.slots ∙ sym r.2.table.slots; voice = r.1.voice ∙ sym r.2.voice }

-- ---- a loop taken earlier: two worlds with the same voice

module _ (snd : List Float) (i : ℕ) where
  abbrev SameVoice : World → World → Type 0
  SameVoice w u = w.voices i ≡ u.voices i

  passed_by : (e : Event) (w u : World) → of_voice i e ≡ false → SameVoice w u → SameVoice (next snd w e) u
  passed_by (ByHall g c) w u d a = a
  passed_by (ByVoice j p) w u d a = rw d a

  untaken : (p : Play) (t u : LoopTable) (v z : StaticSound) → T (takes_none (ByVoice i p)) → v ≡ z → voice_answer snd t v p ≡ voice_answer snd u z p
  untaken (New s) t u v z o e = refl
  untaken (Take k) t u v z o e = absurd o
  untaken (Command c) t u v z o e = ap (λ (x : StaticSound). Obeyed (commanded snd x c)) e
  untaken (Block dt b g out) t u v z o e = ap (λ (x : StaticSound). Played (processed snd x dt b g out)) e
  untaken (Mix dt b g mix from) t u v z o e = ap (λ (x : StaticSound). Played (processed_into snd x dt b g mix from)) e

  played : (e : Event) (w u : World) → of_voice i e ≡ true → T (takes_none e) → SameVoice w u → (answer_to snd w e ≡ answer_to snd u e) × SameVoice (next snd w e) (next snd u e)
  played (ByHall g c) w u d o a = absurd (never (sym d))
  played (ByVoice j p) w u d o a =
      let x = untaken p w.table u.table (w.voices i) (u.voices i) o a in
      (subst (λ (n : ℕ). voice_answer snd w.table (w.voices n) p ≡ voice_answer snd u.table (u.voices n) p) (eqb-true i j d) x, voice_next snd i j p w d ∙ ap₂ voice_after a x ∙ sym (voice_next snd i j p u d))

pub taken_stays : TakenStays
taken_stays snd i w u es fs x =
    let r = rows_alike snd (of_voice i) takes_none (SameVoice snd i) (passed_by snd i) (played snd i) es fs w u u x.voice refl x.calls x.none in
    (r.0, r.1 ∙ sym r.2)
