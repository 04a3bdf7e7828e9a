-- A move that is made if a test passes, by the test's result. Assumes nothing.
use mathlib.Core.Path.{◌≡◌}
use mathlib.Core.Bool.{Bool, true, false, cond}
use Rattle.transport.specs.declared.Transport.{Transport}
use Rattle.test_exports.specs.Moves.{plain_transport, nowhere}

module _ (test : Transport → Bool) (move : Transport → Transport) {g t : Transport} (e : g ≡ t) where
  pub passed : test g ≡ true → plain_transport (move g) ≡ cond (test t) (plain_transport (move t)) nowhere
  passed p = rw (← e, p)

  pub refused : test g ≡ false → nowhere ≡ cond (test t) (plain_transport (move t)) nowhere
  refused p = rw (← e, p)
