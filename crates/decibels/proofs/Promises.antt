-- The theorems about levels and ramps, put together. Assumes nothing.
use mathlib.Core.Path.{◌≡◌, refl}
use native.Mathlib.Omega.{arith}
use lib.ListN.{take-append-drop}
use Rattle.numbers.specs.Words.{positive_zero}
use Rattle.decibels.specs.Levels.{amplitude}
use Rattle.decibels.specs.Promises.{Witnesses, Promises}
use Rattle.decibels.proofs.Levels as levels
use Rattle.decibels.proofs.Amplitudes as amplitudes
use Rattle.decibels.proofs.Ramps as ramps

silent : amplitude 601 ≡ positive_zero
unfolding amplitude
silent = refl

witnesses : Witnesses
witnesses =
    record {
      none_larger = tt;
      exact = omega arith;
      first = omega arith;
      last = omega arith;
      between = record { frame = omega arith; low_start = omega arith; low_end = omega arith; start_high = omega arith; end_high = omega arith };
      upward = record { levels = omega arith; order = omega arith; frame = omega arith };
      downward = record { levels = omega arith; order = omega arith; frame = omega arith };
      each = omega arith;
    }

pub kept : Promises
kept =
    record {
      rule = levels.scaled_rule;
      none_larger = levels.none_larger;
      exact = amplitudes.amplitude_exact;
      silent = silent;
      passes = amplitudes.amplitude_passes;
      first = ramps.first;
      last = ramps.last;
      between = λ start end n i low high x. ramps.between start end n i low high x.frame x.low_start x.low_end x.start_high x.end_high;
      upward = λ start end n i j x. ramps.upward start end n i j x.levels x.order x.frame;
      downward = λ start end n i j x. ramps.downward start end n i j x.levels x.order x.frame;
      each = λ start end n i h. ramps.each start end n n i h;
      parts = take-append-drop;
      witnesses = witnesses;
    }
