-- A sequence of calls compared with those that pass a test: if the other calls keep two worlds alike, and the same call keeps them alike and returns the same, all results are the same.
-- By induction on the sequence. Assumes nothing.
use mathlib.Core.Path.{◌≡◌, refl, sym, ap, ap₂, ◌∙◌}
use mathlib.Core.Bool.{Bool, true, false, cond}
use mathlib.Core.List.{List, [], ◌∷◌}
use lib.Dec.{T}
use lib.Ieee.{Float}
use lib.Ieee.Fits.{and_l, and_r}
use Rattle.numbers.specs.Lists.{all}
use Rattle.theorems_loop_table.specs.Calls.{Event, World, answer_to, next, after, answers, only}

module _ (snd : List Float) (p q : Event → Bool) (R : World → World → Type 0)
    (skip : (e : Event) (w u : World) → p e ≡ false → R w u → R (next snd w e) u)
    (move : (e : Event) (w u : World) → p e ≡ true → T (q e) → R w u → (answer_to snd w e ≡ answer_to snd u e) × R (next snd w e) (next snd u e)) where
  abbrev Only : List Event → Type 0
  Only es =
      (w u : World) → R w u → T (all q (only p es))
      → (answers snd p w es ≡ answers snd p u (only p es)) × R (after snd w es) (after snd u (only p es))

  row_only : (es : List Event) → Only es
  row_only [] w u r t = (refl, r)
  row_only (e ∷ es) w u r t = go (row_only es) (p e) refl t
    where
      go : Only es → (b : Bool) → p e ≡ b → T (all q (cond b (e ∷ only p es) (only p es)))
          → (cond b (answer_to snd w e ∷ answers snd p (next snd w e) es) (answers snd p (next snd w e) es) ≡ answers snd p u (cond b (e ∷ only p es) (only p es)))
          × R (after snd (next snd w e) es) (after snd u (cond b (e ∷ only p es) (only p es)))
      go rest true d t =
          let m = move e w u d (and_l (q e) (all q (only p es)) t) r in
          let i = rest (next snd w e) (next snd u e) m.1 (and_r (q e) (all q (only p es)) t) in
          (rw d (ap₂ ◌∷◌ m.0 i.0), i.1)
      go rest false d t = rest (next snd w e) u (skip e w u d r) t

  -- two sequences of which the same calls pass
  pub rows_alike : (es fs : List Event) (w u x : World) → R w x → R u x → only p es ≡ only p fs → T (all q (only p es))
      → (answers snd p w es ≡ answers snd p u fs) × R (after snd w es) (after snd x (only p es)) × R (after snd u fs) (after snd x (only p es))
  rows_alike es fs w u x r s e t =
      let a = row_only es w x r t in
      let b = row_only fs u x s (rw e at t) in
      (a.0 ∙ ap (answers snd p x) e ∙ sym b.0, a.1, rw e b.1)
