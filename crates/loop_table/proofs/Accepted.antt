-- An accepted write or clear: from refusal 0 to what each test says, one test after the other; and what a call returns, by its refusal. Assumes nothing.
use mathlib.Core.Path.{◌≡◌, sym, ◌∙◌}
use Prim.Native.Nat.{ℕ, suc, ◌<◌}
use native.Mathlib.Omega.{arith}
use mathlib.Core.Bool.{Bool, true, false}
use lib.Dec.{T, leb, leb→le}
use Rattle.refusals.specs.declared.Refusal.{Refusal}
use Rattle.refusals.specs.Numbers.{number}
use Rattle.refusals.proofs.Numbers.{number_eqb}
use Rattle.loop_table.specs.declared.Hall.{Hall}
use Rattle.loop_table.specs.declared.LoopSlot.{LoopSlot}
use Rattle.loop_table.specs.declared.LoopTable.{LoopTable}
use Rattle.loop_table.specs.Tables.{LoopChanged, LoopFound, unless, looping, empty, well_formed_table, owns, stored, changed, refused_table, refused_slot, refused_write, refused_clear, refused_read, found}

-- a test that returns its number if it fails
pub passed : (ok : Bool) (n rest : ℕ) → unless ok (suc n) rest ≡ 0 → T ok × (rest ≡ 0)
passed true n rest h = (tt, h)
passed false n rest h = let e : ◌≡◌ {A = ℕ} (suc n) 0 = h in absurd (omega arith)

-- the slot is one of the sixteen, and the hall's own
pub record Own (h : Hall) (k : ℕ) : Type 0 where
  pub among : k < 16
  pub own : T (owns h k)

slot_own : (h : Hall) (k : ℕ) → refused_slot h k ≡ 0 → Own h k
slot_own h k e =
    let p = passed (leb k 15) 19 _ e in
    let q = passed (owns h k) 20 0 p.1 in
    let l = leb→le k 15 p.0 in
    record { among = omega (arith, l); own = q.0 }

module _ (t : LoopTable) (h : Hall) (k : ℕ) where
  pub write_accepted : (s e : ℕ) → refused_write t h k s e ≡ 0 → T (well_formed_table t) × T (looping t.num_frames s e) × Own h k
  unfolding refused_write
  write_accepted s e z =
      let p = passed (well_formed_table t) 0 _ z in
      let q = passed (looping t.num_frames s e) 5 _ p.1 in
      (p.0, q.0, slot_own h k q.1)

  pub clear_accepted : refused_clear t h k ≡ 0 → T (well_formed_table t) × Own h k
  unfolding refused_clear
  clear_accepted z = let p = passed (well_formed_table t) 0 _ z in (p.0, slot_own h k p.1)

-- ---- the first test

-- a table that is not well formed is refused with 1, whatever the rest
pub refused_first : (t : LoopTable) (r : Refusal) (rest : ℕ) → number r ≡ refused_table t → number r ≡ unless (well_formed_table t) 1 rest
refused_first t r rest e = go (well_formed_table t) e
  where
    go : (b : Bool) → number r ≡ unless b 1 0 → number r ≡ unless b 1 rest
    go true h = absurd (nonzero (number_eqb r) h)
      where
        nonzero : (lib.Dec.eqb (number r) 0 ≡ false) → number r ≡ 0 → ⊥
        nonzero f z = let q = rw z at f in cc
    go false h = h

-- a well-formed table passes
pub passed_first : (t : LoopTable) (rest : ℕ) → 0 ≡ refused_table t → unless (well_formed_table t) 1 rest ≡ rest
passed_first t rest e = go (well_formed_table t) e
  where
    go : (b : Bool) → 0 ≡ unless b 1 0 → unless b 1 rest ≡ rest
    go true h = mathlib.Core.Path.refl
    go false h = absurd (omega (arith, h))

-- ---- what a call returns

pub refused_change : (t : LoopTable) (k : ℕ) (s : LoopSlot) (r : Refusal) (n : ℕ) → number r ≡ n → ◌≡◌ {A = LoopChanged} (record { table = t; refusal = number r }) (changed n t k s)
refused_change t k s r n e = rw (← e, number_eqb r)

pub accepted_change : (t u : LoopTable) (k : ℕ) (s : LoopSlot) (n : ℕ) → 0 ≡ n → u ≡ stored t k s → ◌≡◌ {A = LoopChanged} (record { table = u; refusal = 0 }) (changed n t k s)
accepted_change t u k s n e f = rw (← e, f)

-- a read of a table that is not well formed
pub refused_found : (t : LoopTable) (k : ℕ) (r : Refusal) → number r ≡ refused_table t → ◌≡◌ {A = LoopFound} (record { slot = empty; refusal = number r }) (found t k)
unfolding refused_read found
refused_found t k r e =
    let f : number r ≡ refused_read t k = refused_first t r _ e in
    rw (← f, number_eqb r)
