-- `process_into`: the block over its lanes, held or not.
use mathlib.Core.Path.{ap, ◌∙◌}
use Rattle.sound_lanes.specs.Lanes.{Lanes}
use Rattle.static_sound.specs.Entries.{processed_into}
use Rattle.static_sound.proofs.process_into.Goals as goal

pub returns : goal.returns
returns c =
    let a = c.args in
    c.process_at.ensures ∙ ap (λ (b : Lanes). processed_into a.sound.now a.voice a.dt b a.signals a.mix.now a.from) c.held_if_constant.ensures
