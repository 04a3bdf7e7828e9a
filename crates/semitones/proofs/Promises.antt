-- The theorems about pitches, put together. Assumes nothing.
use native.Mathlib.Omega.{arith}
use Rattle.semitones.specs.Promises.{Witnesses, Promises}
use Rattle.semitones.proofs.Ratios.{scaled_rule, none_larger, ratio_exact}

witnesses : Witnesses
witnesses = record { rule = omega arith; none_larger = record { semitones = omega arith; fits = tt }; exact = omega arith }

pub kept : Promises
kept = record { rule = scaled_rule; none_larger = λ n e x. none_larger n e x.semitones x.fits; exact = ratio_exact; witnesses = witnesses }
