-- `once`: gains of 1 change nothing. Other gains scale one frame per iteration. The invariant: the frames so far are scaled, and the rest is unchanged.
use Prim.Native.Nat.{ℕ}
use mathlib.Core.Path.{◌≡◌, sym, ap, ◌∙◌}
use mathlib.Core.List.{List}
use native.Mathlib.Omega.{arith}
use lib.Dec.{T}
use lib.ListN.{get_or, replicate}
use lib.Ieee.{Float, nan, binary32, fits}
use Rattle.numbers.specs.Words.{one}
use Rattle.numbers.proofs.Equal.{first_of, second_of}
use Rattle.sound_lanes.specs.declared.Gains.{Gains}
use Rattle.sound_gains.specs.Gained.{gained}
use Rattle.sound_gains.proofs.Gained.{sofar_none, sofar_length, sofar_more, sofar_all, gains_once, gained_ones}
use Rattle.sound_gains.proofs.once.Goals as goal

-- the frames times four gains of 1
kept : (g : Gains) (n : ℕ) (out : List Float) → g.fade ≡ one → g.volume ≡ one → g.left ≡ one → g.right ≡ one → ((i : ℕ) → T (fits binary32 (get_or out i nan)))
    → out ≡ gained (replicate n g.fade) (replicate n g.volume) (replicate n g.left) (replicate n g.right) n out
kept g n out f v l r h =
    sym (gained_ones n out h)
    ∙ ap (λ (x : Float). gained (replicate n x) (replicate n one) (replicate n one) (replicate n one) n out) (sym f)
    ∙ ap (λ (x : Float). gained (replicate n g.fade) (replicate n x) (replicate n one) (replicate n one) n out) (sym v)
    ∙ ap (λ (x : Float). gained (replicate n g.fade) (replicate n g.volume) (replicate n x) (replicate n one) n out) (sym l)
    ∙ ap (λ (x : Float). gained (replicate n g.fade) (replicate n g.volume) (replicate n g.left) (replicate n x) n out) (sym r)

pub returns-then-is_one : goal.returns-then-is_one
returns-then-is_one c =
    let e = c.if-is_one.true in
    let three = first_of _ c.is_one-4.result e in
    let two = first_of _ c.is_one-3.result three in
    kept c.args.gains c.args.n c.args.out.now (c.is_one.ensures (first_of _ c.is_one-2.result two)) (c.is_one-2.ensures (second_of c.is_one.result _ two))
    (c.is_one-3.ensures (second_of _ _ three)) (c.is_one-4.ensures (second_of _ _ e)) c.type_inv.out

pub loop-i-init : goal.loop-i-init
loop-i-init c = sofar_none _ _ _ _ _ _

pub gain_by-requires : goal.gain_by-requires
gain_by-requires c =
    let r = c.requires in
    let t = c.loop-i-test.true in
    record { i_in_bounds = omega (arith, sofar_length _ _ _ _ _ _ _ _ c.loop-i.invariant, t, r.n_in_bounds); i_bound = omega (arith, t, r.n_bound) }

pub loop-i-preserved : goal.loop-i-preserved
loop-i-preserved c =
    let a = c.args in
    sofar_more _ _ _ _ _ _ _ _ _ a.gains c.loop-i-test.true c.requires.n_in_bounds c.loop-i.invariant (sym (gains_once a.gains a.n c.loop-i.i c.loop-i-test.true)) c.gain_by.ensures

pub shape_of-out : goal.shape_of-out
shape_of-out c = sofar_length _ _ _ _ _ _ _ _ c.loop-i.invariant

pub returns : goal.returns
returns c = sofar_all _ _ _ _ _ _ _ _ c.loop-i.invariant c.loop-i-test.false
