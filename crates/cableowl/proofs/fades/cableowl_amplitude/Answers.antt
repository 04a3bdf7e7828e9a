-- `cableowl_amplitude` meets its contract: the amplitude, or the old value.
use Rattle.cableowl.proofs.Results.{level_number, level_value}
use Rattle.cableowl.proofs.fades.cableowl_amplitude.Goals as goal

pub returns : goal.returns
returns c =
    let a = c.args in
    rw (c.value_or-amplitude.ensures, c.as_amplitude.ensures) (level_number a.level, level_value a.level a.to.now)
