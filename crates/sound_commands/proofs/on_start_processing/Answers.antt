-- `sound_commands::on_start_processing` meets its contract: refused or obeyed, by what `check` answers.
use mathlib.Core.Path.{sym}
use Rattle.std.proofs.lemmas.Result.{err_from_is_err_and}
use Rattle.refusals.proofs.Numbers.{number_eqb}
use Rattle.resampler.proofs.Windows.{heard_low}
use Rattle.sound_state.proofs.WellFormed.{well_formed_for_parts}
use Rattle.sound_commands.specs.Commands.{commanded}
use Rattle.sound_commands.proofs.Refusals.{obeyable_parts}
use Rattle.sound_commands.proofs.on_start_processing.Goals as goal

pub returns-in_err-check : goal.returns-in_err-check
unfolding commanded
returns-in_err-check c =
    let p = err_from_is_err_and c.from_residual.result c.from_residual.ensures.1 in
    rw (p.1, p.2, ← c.in_err-check.ensures, number_eqb)

pub last_played_position-position-requires : goal.last_played_position-position-requires
last_played_position-position-requires c =
    heard_low _ (well_formed_for_parts _ _ (obeyable_parts _ _ _ (sym c.in_ok-check.ensures)).well_formed_for).0.window

pub returns : goal.returns
unfolding commanded
returns c = rw (c.read_commands.ensures, c.last_played_position-position.ensures, ← c.in_ok-check.ensures)
