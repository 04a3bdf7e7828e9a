-- A record becomes the blank state, or a voice field by field.
use Rattle.std.proofs.Common.{rules}
use Rattle.c_state.specs.Records.{recent_of, decoded}
use Rattle.c_state.proofs.Maps.{mapped}
use mathlib.Core.Path.{sym, ◌∙◌}
use Rattle.c_state.proofs.StaticSoundFromCableowlState.from.Goals as goal

pub returns-then-not-is_well_formed : goal.returns-then-not-is_well_formed
unfolding decoded
returns-then-not-is_well_formed c = rw (sym c.is_well_formed.ensures ∙ c.if-not-is_well_formed.true, c.blank.ensures)

pub returns : goal.returns
unfolding decoded
returns c =
    let e = mapped _ recent_of (λ p q x y k. search rules) _ c.args.state.window c.map.result 4 (search rules) c.map.ensures.items in
    rw (
      sym c.is_well_formed.ensures ∙ c.if-not-is_well_formed.false,
      c.range_of.ensures,
      c.range_of-2.ensures,
      c.state_of.ensures,
      e,
    )
