-- A merge: it never goes back, and the order, number and grouping of merges do not matter. By the views of each copy. Assumes nothing.
use mathlib.Core.Path.{◌≡◌, refl, sym, ap, ◌∙◌, subst}
use Prim.Native.Nat.{◌≤◌}
use native.Mathlib.Omega.{arith}
use Rattle.loop_table.specs.declared.Hall.{Hall}
use Rattle.loop_copies.specs.declared.LoopCopy.{LoopCopy}
use Rattle.loop_copies.specs.Copies.{CopyChanged, merged, merged_copy}
use Rattle.theorems_loop_copies.specs.Merging.{Sixteen, NeverBack, AnyOrder, AnyTimes, AnyGrouping}
use Rattle.theorems_loop_copies.proofs.Views.{View, view, pick, picked, pick_order, pick_older, pick_grouping, OneView, copy_ext, view_merged, sixteen_merged, well_formed_merged, Fit, fit_of, accepted_of, merged_of, merged_either}

-- a view that is not older, and the same where its number is
abbrev On : View → View → Type 0
On v w = (v.number ≤ w.number) × OneView w v

on_pick : (v w : View) → On v (pick v w)
on_pick v w = picked (On v) v w (λ l. (omega (arith, l), λ e. absurd (omega (arith, l, e)))) (λ l. (omega arith, λ e. refl))

pub never_back : NeverBack
never_back c d h q =
    let s = q.ours in
    let t = q.theirs in
    let p = merged_either (λ (x : LoopCopy). On (view h c) (view h x)) c d (λ z. subst (On (view h c)) (sym (view_merged h c d s t)) (on_pick (view h c) (view h d))) (omega arith, λ e. refl) in
    record { number = p.0; kept = p.1 }

swapped : (c d : LoopCopy) → Fit c d → Fit d c
swapped c d f = record { ours = f.theirs; theirs = f.ours; frames = sym f.frames; halves = λ h e. sym (f.halves h (sym e)) }

abbrev accepted : LoopCopy → CopyChanged
accepted c = record { copy = c; refusal = 0 }

pub any_order : AnyOrder
any_order c d q =
    let s = q.ours in
    let t = q.theirs in
    let z = q.accepted in
    let f = fit_of c d s t z in
    merged_of d c (accepted_of d c (swapped c d f))
    ∙ ap accepted (copy_ext (merged d c) (merged c d) (sym f.frames) (λ h. view_merged h d c t s ∙ pick_order (view h c) (view h d) (f.halves h) ∙ sym (view_merged h c d s t)))
    ∙ sym (merged_of c d z)

pub any_times : AnyTimes
any_times c q =
    let s = q.sixteen in
    let l = q.well_formed in
    merged_of c c (accepted_of c c (record { ours = l; theirs = l; frames = refl; halves = λ h e. refl }))
    ∙ ap accepted (copy_ext (merged c c) c refl (λ h. view_merged h c c s s ∙ pick_older (view h c) (view h c) (omega arith)))

-- a merged copy fits what both of its parts fit
pub fit_left : (c d e : LoopCopy) → (h : Hall) → OneView (view h c) (view h e) → OneView (view h d) (view h e) → OneView (pick (view h c) (view h d)) (view h e)
fit_left c d e h o p = picked (λ (x : View). OneView x (view h e)) (view h c) (view h d) (λ l. p) (λ l. o)

pub any_grouping : AnyGrouping
any_grouping c d e q =
    let s = q.first.ours in
    let t = q.first.theirs in
    let r = q.second.theirs in
    let y = q.first.accepted in
    let z = q.second.accepted in
    let w = q.third.accepted in
    let f = fit_of c d s t y in
    let g = fit_of d e t r z in
    let k = fit_of c e s r w in
    let left : Fit (merged c d) e = record { ours = well_formed_merged c d f.ours f.theirs f.frames; theirs = g.theirs; frames = k.frames; halves = λ h. subst (λ (x : View). OneView x (view h e)) (sym (view_merged h c d s t)) (fit_left c d e h (k.halves h) (g.halves h)) } in
    let right : Fit c (merged d e) = record { ours = f.ours; theirs = well_formed_merged d e g.ours g.theirs g.frames; frames = f.frames; halves = λ h. subst (λ (x : View). OneView (view h c) x) (sym (view_merged h d e t r)) (λ q. sym (fit_left d e c h (λ i. sym (f.halves h (sym i))) (λ i. sym (k.halves h (sym i))) (sym q))) } in
    ap (λ (x : CopyChanged). merged_copy x.copy e) (merged_of c d y)
    ∙ merged_of (merged c d) e (accepted_of (merged c d) e left)
    ∙ ap accepted (copy_ext (merged (merged c d) e) (merged c (merged d e)) refl (λ h. views s t r h))
    ∙ sym (merged_of c (merged d e) (accepted_of c (merged d e) right))
    ∙ sym (ap (λ (x : CopyChanged). merged_copy c x.copy) (merged_of d e z))
  where
    views : Sixteen c → Sixteen d → Sixteen e → (h : Hall) → view h (merged (merged c d) e) ≡ view h (merged c (merged d e))
    views s t r h =
        view_merged h (merged c d) e (sixteen_merged c d s t) r
        ∙ ap (λ (x : View). pick x (view h e)) (view_merged h c d s t)
        ∙ pick_grouping (view h c) (view h d) (view h e)
        ∙ sym (ap (λ (x : View). pick (view h c) x) (view_merged h d e t r))
        ∙ sym (view_merged h c (merged d e) s (sixteen_merged d e t r))
