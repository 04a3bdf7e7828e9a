-- `held_if_constant`: constant lanes are the first frame's numbers, held.
use mathlib.Core.Path.{sym, ap, ◌∙◌}
use lib.ListN.{length}
use Rattle.sound_held.specs.declared.Held.{Held}
use Rattle.sound_held.specs.Held.{held_lanes}
use Rattle.sound_lanes.specs.Lanes.{lanes_of}
use Rattle.static_sound.proofs.held_if_constant.Goals as goal

pub first_of-requires : goal.first_of-requires
first_of-requires c = c.are_constant.ensures c.if-are_constant.true

pub returns-then-are_constant : goal.returns-then-are_constant
returns-then-are_constant c =
    let b = lanes_of c.args.lanes in
    ap (λ (h : Held). held_lanes h (length b.rate)) c.first_of.ensures ∙ sym (c.are_constant.ensures c.if-are_constant.true).each
