-- `test_exports::states::answer_of` meets its contract: the number picks one answer. Assumes nothing.
use mathlib.Core.Path.{sym, ap}
use native.Mathlib.Omega.{arith}
use borrow.Author.Tests.{ne_eqb}
use Rattle.test_exports.specs.States.{answer_of}
use Rattle.test_exports.proofs.states.answer_of.Goals as goal

pub returns-in-0 : goal.returns-in-0
unfolding answer_of
returns-in-0 c = sym (ap answer_of c.in-0.is)

pub returns-in-1 : goal.returns-in-1
unfolding answer_of
returns-in-1 c = sym (ap answer_of c.in-1.is)

pub returns-in_default : goal.returns-in_default
unfolding answer_of
returns-in_default c = rw (ne_eqb c.args.n 0 (omega arith), ne_eqb c.args.n 1 (omega arith))
