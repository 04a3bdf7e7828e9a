-- `byte_layout::Row::contains`: both ends of the range.
use Rattle.byte_layout.specs.Rows.{within}
use borrow.Author.Rules.{rules}
use Rattle.byte_layout.proofs.Row.contains.Goals as goal

pub returns : goal.returns
unfolding within
returns c = search rules
