-- `is_steady` compares every rate with the first. The invariant: if all so far were the same, each of them is.
use mathlib.Core.Path.{sym}
use native.Mathlib.Omega.{arith}
use borrow.Author.Tests.{ltb-true}
use Rattle.sound_fast_reading.proofs.Moves.{same_list}
use Rattle.sound_fast_reading.proofs.is_steady.Goals as goal

pub returns : goal.returns
returns c = λ e. record { some = ltb-true 0 _ (sym c.in-Some-Some.ensures.item.0); each = same_list _ _ (λ i h. c.loop-r.invariant e i (omega (arith, h, c.loop-r-test.false))) }
