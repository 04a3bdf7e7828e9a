-- `saved_settings::read` meets its contract. Assumes nothing.
use Rattle.std.proofs.Common.{ap, ◌∙◌, arith}
use Rattle.byte_layout.specs.declared.Parsed.{Parsed}
use Rattle.byte_layout.specs.Reads.{steps}
use Rattle.byte_layout.proofs.Ways.{begun}
use Rattle.saved_settings.proofs.Loads.{few, sounds}
use Rattle.saved_settings.proofs.read.Goals as goal

pub read_rows-requires : goal.read_rows-requires
read_rows-requires c =
    let a = c.args in
    (omega (arith, ap (λ (p : Parsed). p.at) c.begin.ensures), rw c.layout.ensures (few a.version), rw c.layout.ensures (sounds a.version))

pub returns : goal.returns
returns c =
    rw (← c.layout.ensures, ← c.size.ensures) (c.read_rows.ensures.0 ∙ ap (steps c.layout.result.now) (begun c.args.s.now 0 _ c.begin.result c.begin.ensures))
