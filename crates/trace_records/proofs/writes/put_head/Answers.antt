-- `trace_records::writes::put_head`: the head's four numbers.
use Rattle.std.proofs.Common.{ℕ, ◌+◌, ap, ◌∙◌, rules}
use Rattle.byte_layout.specs.Numbers.{bytes}
use Rattle.byte_layout.specs.Rows.{stands}
use Rattle.byte_layout.specs.Writes.{field, payload}
use Rattle.trace_records.specs.Tables.{head_rows}
use Rattle.trace_records.proofs.Rounds.{head_length}
use Rattle.trace_records.proofs.writes.put_head.Goals as goal

pub put_rows-requires : goal.put_rows-requires
unfolding payload field stands bytes
put_rows-requires c = search rules

pub returns : goal.returns
unfolding head_rows
returns c =
    let a = c.args in
    (c.put_rows.ensures.0, c.put_rows.ensures.1 ∙ ap (λ (z : ℕ). a.at + z) (head_length a.kind a.n))
