-- `test_numbers_list::is_right` meets its contract: the kind picks one test. Assumes nothing.
use Rattle.std.proofs.Common.{rules}
use mathlib.Core.Path.{ap, ◌∙◌}
use Prim.Native.Nat.{ℕ}
use lib.Dec.{eqb}
use Rattle.test_numbers_list.proofs.Lines.{kind_n, kind_r, kind_c, kind_m, kind_other}
use Rattle.test_numbers_list.proofs.is_right.Goals as goal

pub returns-in-110 : goal.returns-in-110
returns-in-110 c = c.narrows_to.ensures ∙ kind_n _ _ _ _ c.in-110.is

pub returns-in-114 : goal.returns-in-114
returns-in-114 c = ap (λ (n : ℕ). eqb n c.args.expected) c.round_half_away.ensures ∙ kind_r _ _ _ _ (search rules) c.in-114.is

pub returns-in-99 : goal.returns-in-99
returns-in-99 c = ap (λ (n : ℕ). eqb n c.args.expected) c.cut.ensures ∙ kind_c _ _ _ _ (search rules) (search rules) c.in-99.is

pub returns-in-109 : goal.returns-in-109
returns-in-109 c = c.measures.ensures ∙ kind_m _ _ _ _ (search rules) (search rules) (search rules) c.in-109.is

pub returns-in_default : goal.returns-in_default
returns-in_default c = kind_other _ _ _ _ (search rules) (search rules) (search rules) (search rules)
