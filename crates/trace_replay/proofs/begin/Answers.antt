-- `trace_replay::begin`: the blank voice.
use mathlib.Core.Path.{refl, ap}
use mathlib.Core.List.{[]}
use Rattle.trace_replay.proofs.Replays.{replay}
use Rattle.trace_replay.proofs.begin.Goals as goal

pub returns : goal.returns
returns c = (ap (λ v. replay v [] 0) c.blank.ensures, refl)
