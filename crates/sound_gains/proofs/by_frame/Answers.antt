-- `by_frame` scales one frame per iteration. The invariant: the frames so far are scaled, and the rest is unchanged.
use native.Mathlib.Omega.{arith}
use Rattle.sound_gains.proofs.Gained.{sofar_none, sofar_length, sofar_more, sofar_all}
use Rattle.sound_gains.proofs.by_frame.Goals as goal

pub loop-i-init : goal.loop-i-init
loop-i-init c = sofar_none _ _ _ _ _ _

pub gains-requires : goal.gains-requires
gains-requires c =
    let h = c.requires.covers in
    let t = c.loop-i-test.true in
    record { fade = omega (arith, h.fade, t); volume = omega (arith, h.volume, t); left = omega (arith, h.left, t); right = omega (arith, h.right, t) }

pub gain_by-requires : goal.gain_by-requires
gain_by-requires c =
    let r = c.requires in
    let t = c.loop-i-test.true in
    record { i_in_bounds = omega (arith, sofar_length _ _ _ _ _ _ _ _ c.loop-i.invariant, t, r.n_in_bounds); i_bound = omega (arith, t, r.n_bound) }

pub loop-i-preserved : goal.loop-i-preserved
loop-i-preserved c = sofar_more _ _ _ _ _ _ _ _ _ _ c.loop-i-test.true c.requires.n_in_bounds c.loop-i.invariant c.gains.ensures c.gain_by.ensures

pub shape_of-out : goal.shape_of-out
shape_of-out c = sofar_length _ _ _ _ _ _ _ _ c.loop-i.invariant

pub returns : goal.returns
returns c = sofar_all _ _ _ _ _ _ _ _ c.loop-i.invariant c.loop-i-test.false
