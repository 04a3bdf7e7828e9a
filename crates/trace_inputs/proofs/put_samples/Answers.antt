-- `trace_inputs::put_samples`: what is still to store, stored, is the whole sound stored.
use mathlib.Core.Path.{◌≡◌, refl, sym, ap, ◌∙◌}
use Prim.Native.Nat.{ℕ, ◌+◌, ◌-◌, ◌*◌, ◌≤◌, ◌<◌}
use native.Mathlib.Omega.{arith}
use borrow.Author.Rules.{rules}
use lib.ListN.{length, get_or, take, drop, length-set}
use lib.Seq.{sets}
use Rattle.trace_inputs.specs.Inputs.{stereo}
use Rattle.trace_inputs.proofs.Samples.{left_start, left_next, left_end, at_most_le, all_samples}
use Rattle.trace_inputs.proofs.put_samples.Goals as goal

pub loop-k-init : goal.loop-k-init
loop-k-init c = (search rules, omega (arith, c.at_most-n.ensures, at_most_le 64 (get_or c.args.values 12 0)), search rules, refl, refl)

pub bounds-out-k-in-loop-k : goal.bounds-out-k-in-loop-k
bounds-out-k-in-loop-k c = let h : 2 * c.loop-k.k + 1 < length c.loop-k.out = omega arith in simp length-set h

pub loop-k-preserved : goal.loop-k-preserved
loop-k-preserved c =
    let i = c.before.before in
    let l = i.loop-k in
    let a = i.args in
    let e : length l.out ≡ length a.out.now = l.invariant.3 in
    (search rules, search rules, simp (length-set) l.invariant.2, simp length-set e, left_next a.values _ l.k l.out _ _ i.loop-k-test.true (search rules) c.single_of.ensures c.single_of-in-loop-k.ensures ∙ l.invariant.4)

pub shape_of-out : goal.shape_of-out
shape_of-out c = c.loop-k.invariant.3

pub returns : goal.returns
returns c =
    let l = c.loop-k in
    let m = c.before.before in
    let a = m.args in
    let h = sym (left_end a.values m.at_most-n.result l.k l.out c.loop-k-test.false) ∙ l.invariant.4 in
    let e = m.at_most-n.ensures in
    (h ∙ ap (λ z. sets a.out.now 0 z) (left_start a.values m.at_most-n.result ∙ ap (λ (z : ℕ). stereo (take z (drop 13 a.values))) e), ap (λ (z : ℕ). 2 * z) e ∙ sym (all_samples a.values (search rules)))
