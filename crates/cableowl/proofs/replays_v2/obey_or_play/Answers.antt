-- `obey_or_play`: by the kind.
use Rattle.std.proofs.Common.{rules}
use Rattle.std.specs.Prelude.{Ok}
use Rattle.trace_records.specs.Records.{record_read}
use Rattle.cableowl.proofs.ReplaySteps.{part_long}
use Rattle.cableowl.proofs.ReplayStepsV2.{obeyed_commands, obeyed_lanes, obeyed_block}
use Rattle.cableowl.proofs.replays_v2.obey_or_play.Goals as goal

pub slice_bounds-obey-end : goal.slice_bounds-obey-end
slice_bounds-obey-end c = part_long c.args.replay.samples c.args.sound.now c.requires.0

pub returns-in-2 : goal.returns-in-2
returns-in-2 c =
    let a = c.args in
    obeyed_commands a.replay (record_read 0 (Ok a.read)) a.bytes.now a.sound.now a.out.now _ c.in-2.is c.obey.ensures

pub returns-in-5 : goal.returns-in-5
returns-in-5 c =
    let a = c.args in
    obeyed_lanes a.replay (record_read 0 (Ok a.read)) a.bytes.now a.sound.now a.out.now _ (search rules) c.in-5.is c.play_lanes.ensures

pub returns-in_default : goal.returns-in_default
returns-in_default c =
    let a = c.args in
    obeyed_block a.replay (record_read 0 (Ok a.read)) a.bytes.now a.sound.now a.out.now _ (search rules) (search rules) c.play.ensures
