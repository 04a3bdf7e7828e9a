-- `byte_layout::Row::stands`: the guard's number against `low`.
use mathlib.Core.Path.{◌≡◌, refl}
use borrow.Author.Rules.{rules}
use lib.ListN.{get_or}
use Rattle.byte_layout.specs.Rows.{stands}
use Rattle.byte_layout.proofs.Row.stands.Goals as goal

pub returns : goal.returns
unfolding stands
returns c =
    let e : c.unwrap_or-x.result ≡ get_or c.args.before.now c.args.self.guard 0 = search rules in
    rw e refl
