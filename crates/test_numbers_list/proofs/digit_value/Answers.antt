-- `test_numbers_list::digit_value` meets its contract, which has the same test. Assumes nothing.
use borrow.Author.Tests.{lt-ltb, le-ltb}
use Rattle.test_numbers_list.proofs.digit_value.Goals as goal

pub returns-then-v-lt58 : goal.returns-then-v-lt58
returns-then-v-lt58 c = simp (lt-ltb _ 58 c.if-v-lt58.true)

pub returns-else-v-lt58 : goal.returns-else-v-lt58
returns-else-v-lt58 c = simp (le-ltb _ 58 c.if-v-lt58.false)
