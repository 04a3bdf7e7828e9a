-- `PlaybackState::resume` meets its contract: whether the resume waits picks the state that `unless_stopped` is given.
use Rattle.playback_state_manager.proofs.PlaybackState.resume.Goals as goal

pub returns-then-waits : goal.returns-then-waits
returns-then-waits c = rw c.if-waits.true c.unless_stopped.ensures

pub returns-else-waits : goal.returns-else-waits
returns-else-waits c = rw c.if-waits.false c.unless_stopped-else-waits.ensures
