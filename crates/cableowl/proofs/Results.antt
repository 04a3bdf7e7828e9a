-- What `value_or` and its callers return, from the result of the function below them. Assumes nothing.
use Rattle.std.specs.Prelude.{Result, Ok, Err, MatchResult, ◌<◌}
use Rattle.std.specs.Result.{result_unwrap_or}
use mathlib.Core.Path.{◌≡◌, refl, ap}
use Prim.Native.Nat.{ℕ, ◌≤◌}
use mathlib.Core.Bool.{Bool, true, false, cond}
use mathlib.Core.List.{List}
use lib.Dec.{leb}
use lib.ListN.{replicate}
use lib.Ieee.{Float}
use borrow.Author.Tests.{le-leb, lt-leb}
use Rattle.refusals.specs.declared.Refusal.{Refusal}
use Rattle.refusals.specs.declared.Refusal.TheVariants.{State, Level}
use Rattle.refusals.specs.Numbers.{number_of}
use Rattle.decibels.specs.Levels.{amplitude, level_refusal, amplitude_or, amplitude_answer}
use Rattle.saved_loops.specs.Records.{LoadedHalf, half_of}
use Rattle.trace_records.specs.Writes.{sent}
use Rattle.loop_table.specs.declared.Hall.{Hall}
use Rattle.loop_table.specs.declared.LoopSlot.{LoopSlot}
use Rattle.loop_table.specs.declared.LoopTable.{LoopTable}
use Rattle.loop_table.specs.Tables.{empty, changed_of, found_of}
use Rattle.loop_copies.specs.declared.LoopCopy.{LoopCopy}
use Rattle.loop_copies.specs.Copies.{copy_changed_of}
use Rattle.cableowl.specs.declared.loops.LoopChanged.{LoopChanged}
use Rattle.cableowl.specs.declared.loops.LoopFound.{LoopFound}
use Rattle.cableowl.specs.declared.copies.CopyChanged.{CopyChanged}
use Rattle.cableowl.specs.declared.traces.Sent.{Sent}
use Rattle.cableowl.specs.Loops.{hall_of, changed_c, found_c, copy_changed_c}
use Rattle.cableowl.specs.Traces.{sent_c}

-- ---- the two parts

pub value_value_or : {A : Type 0} (x : A) (r : Result A Refusal) (p : A × ℕ) → p ≡ (result_unwrap_or r x, number_of r) → p.0 ≡ result_unwrap_or r x
value_value_or {A} x r p f = ap (λ (q : A × ℕ). q.0) f

pub number_value_or : {A : Type 0} (x : A) (r : Result A Refusal) (p : A × ℕ) → p ≡ (result_unwrap_or r x, number_of r) → p.1 ≡ number_of r
number_value_or {A} x r p f = ap (λ (q : A × ℕ). q.1) f

-- ---- levels

pub level_number : (t : ℕ) → number_of (amplitude_answer t) ≡ level_refusal t
level_number t = go (leb t 601)
  where
    go : (b : Bool) → number_of (cond b (Ok (amplitude t)) (Err Level)) ≡ cond b 0 13
    go true = refl
    go false = refl

pub level_value : (t : ℕ) (x : Float) → result_unwrap_or (amplitude_answer t) x ≡ amplitude_or t x
level_value t x = go (leb t 601)
  where
    go : (b : Bool) → result_unwrap_or (cond b (Ok (amplitude t)) (Err Level)) x ≡ cond b (amplitude t) x
    go true = refl
    go false = refl

-- ---- loops

pub changed_value_or : (t : LoopTable) (r : Result LoopTable Refusal)
    → ◌≡◌ {A = LoopChanged} (record { table = result_unwrap_or r t; refusal = number_of r }) (changed_c (changed_of t r))
changed_value_or t (Ok u) = refl
changed_value_or t (Err k) = refl

pub copy_value_or : (t : LoopCopy) (r : Result LoopCopy Refusal)
    → ◌≡◌ {A = CopyChanged} (record { copy = result_unwrap_or r t; refusal = number_of r }) (copy_changed_c (copy_changed_of t r))
copy_value_or t (Ok u) = refl
copy_value_or t (Err k) = refl

pub found_value_or : (r : Result LoopSlot Refusal) → ◌≡◌ {A = LoopFound} (record { slot = result_unwrap_or r empty; refusal = number_of r }) (found_c (found_of r))
found_value_or (Ok s) = refl
found_value_or (Err k) = refl

-- ---- a half

pub half_value_or : (r : Result (List ℕ) Refusal) (a : LoadedHalf) → half_of r ≡ a → (number_of r ≡ a.refusal) × (result_unwrap_or r (replicate 19 0) ≡ a.words)
half_value_or (Ok ws) a f = (ap (λ (h : LoadedHalf). h.refusal) f, ap (λ (h : LoadedHalf). h.words) f)
half_value_or (Err k) a f = (ap (λ (h : LoadedHalf). h.refusal) f, ap (λ (h : LoadedHalf). h.words) f)

-- ---- halls

-- what a call of a hall returns, by the hall's number: g makes the C record of it
pub by_hall : {A B C : Type 0} (f : Result A Refusal → B) (g : B → C) (w : Hall → B) (n : ℕ) (h : Result Hall Refusal) (r : Result A Refusal)
    → MatchResult h (λ x. (x ≡ hall_of n) × (n ≤ 1)) (λ e. (e ≡ State) × (1 < n)) → MatchResult h (λ x. f r ≡ w x) (λ e. r ≡ Err e)
    → g (f r) ≡ cond (leb n 1) (g (w (hall_of n))) (g (f (Err State)))
by_hall f g w n (Ok x) r m e = rw (le-leb n 1 m.1, ← m.0) (ap g e)
by_hall f g w n (Err k) r m e = rw (lt-leb n 1 m.1, ← m.0) (ap (λ q. g (f q)) e)

-- ---- a write to a trace

pub sent_value_or : (at : ℕ) (r : Result ℕ Refusal) → ◌≡◌ {A = Sent} (record { refusal = number_of r; next = result_unwrap_or r at }) (sent_c (sent at r))
sent_value_or at (Ok n) = refl
sent_value_or at (Err k) = refl
