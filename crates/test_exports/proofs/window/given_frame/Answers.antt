-- `test_exports::window::given_frame` meets its contract, which has the same test. Assumes nothing.
use Rattle.std.specs.Prelude.{Some}
use mathlib.Core.Path.{ap}
use borrow.Author.Tests.{eq-eqb, ne_eqb}
use Rattle.test_exports.proofs.window.given_frame.Goals as goal

pub returns-then-given-eq0 : goal.returns-then-given-eq0
returns-then-given-eq0 c = simp (eq-eqb _ 0 c.if-given-eq0.true)

pub returns-else-given-eq0 : goal.returns-else-given-eq0
returns-else-given-eq0 c = rw (ne_eqb _ 0 c.if-given-eq0.false) (ap Some c.from.ensures)
