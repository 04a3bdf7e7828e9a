-- `four_moves` makes one frame's steps after another.
use mathlib.Core.Path.{sym, subst}
use Prim.Native.Nat.{◌+◌}
use native.Mathlib.Omega.{arith}
use lib.Dec.{T}
use lib.Ieee.{Float}
use Rattle.numbers.specs.Words.{advance}
use Rattle.sound_lanes.specs.Lanes.{slow}
use Rattle.sound_fast_reading.specs.Moves.{Move}
use Rattle.sound_fast_reading.proofs.Scans.{all_at}
use Rattle.sound_fast_straight.proofs.four_moves.Goals as goal

pub moved-first-requires-clause-t_3 : goal.moved-first-requires-clause-t_3
moved-first-requires-clause-t_3 g c =
    let a = c.args in
    subst (λ (q : Float). T (slow a.sample_rate a.dt q)) (sym c.rate.ensures) (all_at (slow a.sample_rate a.dt) (g.R.Rates.list a.rates) a.i (omega (arith, c.requires.i_in_bounds)) c.requires.t_3)

pub moved-second-requires-clause-t_3 : goal.moved-second-requires-clause-t_3
moved-second-requires-clause-t_3 g c =
    let a = c.args in
    subst (λ (q : Float). T (slow a.sample_rate a.dt q)) (sym c.rate-2.ensures) (all_at (slow a.sample_rate a.dt) (g.R.Rates.list a.rates) (a.i + 1) (omega (arith, c.requires.i_in_bounds)) c.requires.t_3)

pub moved-third-requires-clause-t_3 : goal.moved-third-requires-clause-t_3
moved-third-requires-clause-t_3 g c =
    let a = c.args in
    subst (λ (q : Float). T (slow a.sample_rate a.dt q)) (sym c.rate-3.ensures) (all_at (slow a.sample_rate a.dt) (g.R.Rates.list a.rates) (a.i + 2) (omega (arith, c.requires.i_in_bounds)) c.requires.t_3)

pub moved-fourth-requires-clause-t_3 : goal.moved-fourth-requires-clause-t_3
moved-fourth-requires-clause-t_3 g c =
    let a = c.args in
    subst (λ (q : Float). T (slow a.sample_rate a.dt q)) (sym c.rate-4.ensures) (all_at (slow a.sample_rate a.dt) (g.R.Rates.list a.rates) (a.i + 3) c.requires.i_in_bounds c.requires.t_3)

pub returns : goal.returns
returns g c =
    let a = c.args in
    let m = c.moved-first in
    let n = c.moved-second in
    let o = c.moved-third in
    let p = c.moved-fourth in
    record {
      fact = subst (λ (q : Float). Move a.fractional_position (advance a.sample_rate q a.dt) m.result) c.rate.ensures m.ensures;
      fact_2 = subst (λ (q : Float). Move m.result.fraction (advance a.sample_rate q a.dt) n.result) c.rate-2.ensures n.ensures;
      fact_3 = subst (λ (q : Float). Move n.result.fraction (advance a.sample_rate q a.dt) o.result) c.rate-3.ensures o.ensures;
      fact_4 = subst (λ (q : Float). Move o.result.fraction (advance a.sample_rate q a.dt) p.result) c.rate-4.ensures p.ensures;
    }
