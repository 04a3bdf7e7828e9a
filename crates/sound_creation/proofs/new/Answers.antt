-- `sound_creation::new` meets its contract: refused or made, by what `check` answers.
use Rattle.std.proofs.lemmas.Result.{err_from_is_err_and}
use Rattle.refusals.proofs.Numbers.{number_eqb}
use Rattle.sound_creation.specs.Creation.{created}
use Rattle.sound_creation.proofs.new.Goals as goal

pub returns-in_err-check : goal.returns-in_err-check
unfolding created
returns-in_err-check c =
    let p = err_from_is_err_and c.from_residual.result c.from_residual.ensures.1 in
    rw (p.1, p.2, ← c.in_err-check.ensures, number_eqb)

pub returns : goal.returns
unfolding created
returns c = rw (c.make.ensures, ← c.in_ok-check.ensures)
