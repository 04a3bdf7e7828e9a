-- `test_exports::states::state_of` meets its contract: a known number, or one above 6.
use Rattle.std.specs.Prelude.{Result, Ok, Err, MatchResult, ◌<◌, ◌≤◌, ℕ, eqb, false}
use Rattle.std.specs.Result.{result_unwrap_or}
use mathlib.Core.Path.{◌≡◌, refl, sym, ◌∙◌}
use native.Mathlib.Omega.{arith}
use borrow.Author.Tests.{ne_eqb}
use Rattle.playback_state_manager.specs.declared.PlaybackState.{PlaybackState}
use Rattle.playback_state_manager.specs.declared.PlaybackState.TheVariants.{Playing, Pausing, Paused, WaitingToResume, Resuming, Stopping, Stopped}
use Rattle.playback_state_manager.specs.declared.UnknownState.{UnknownState}
use Rattle.playback_state_manager.specs.States.{number}
use Rattle.test_exports.specs.States.{state_of}
use Rattle.test_exports.proofs.states.state_of.Goals as goal

state_back : (s : PlaybackState) → state_of (number s) ≡ s
unfolding state_of
state_back Playing = refl
state_back Pausing = refl
state_back Paused = refl
state_back WaitingToResume = refl
state_back Resuming = refl
state_back Stopping = refl
state_back Stopped = refl

above : (n k : ℕ) → 6 < n → k ≤ 6 → eqb n k ≡ false
above n k h i = ne_eqb n k (λ e. omega (arith, e, h, i))

unknown : (n : ℕ) → 6 < n → Stopped ≡ state_of n
unfolding state_of
unknown n h =
    simp (
      above n 0 h (omega arith),
      above n 1 h (omega arith),
      above n 2 h (omega arith),
      above n 3 h (omega arith),
      above n 4 h (omega arith),
      above n 5 h (omega arith),
    )

tried : (n : ℕ) (r : Result PlaybackState UnknownState) → MatchResult r (λ s. number s ≡ n) (λ _. 6 < n) → result_unwrap_or r Stopped ≡ state_of n
tried n (Ok s) h = rw (sym h) (sym (state_back s))
tried n (Err e) h = unknown n h

pub returns : goal.returns
returns c = c.unwrap_or.ensures ∙ tried _ c.try_from.result c.try_from.ensures
