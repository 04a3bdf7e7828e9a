-- `play_record`: by the kind.
use Rattle.std.proofs.Common.{rules}
use Rattle.std.specs.Prelude.{Ok}
use Rattle.trace_records.specs.Records.{record_read}
use Rattle.cableowl.proofs.ReplaySteps.{part_long, turned_creation, turned_commands, turned_block}
use Rattle.cableowl.proofs.replays.play_record.Goals as goal

pub slice_bounds-obey-end : goal.slice_bounds-obey-end
slice_bounds-obey-end c = c.requires.1

pub slice_bounds-obey-end-in-2 : goal.slice_bounds-obey-end-in-2
slice_bounds-obey-end-in-2 c = part_long c.args.replay.samples c.args.sound.now c.requires.1

pub returns-in-1 : goal.returns-in-1
returns-in-1 c =
    let a = c.args in
    turned_creation a.replay (record_read 0 (Ok a.read)) a.sound.now a.out.now _ _ c.in-1.is c.create_with.ensures.0 c.create_with.ensures.1

pub returns-in-2 : goal.returns-in-2
returns-in-2 c =
    let a = c.args in
    turned_commands a.replay (record_read 0 (Ok a.read)) a.sound.now a.out.now _ (search rules) c.in-2.is c.obey.ensures

pub returns-in_default : goal.returns-in_default
returns-in_default c =
    let a = c.args in
    turned_block a.replay (record_read 0 (Ok a.read)) a.sound.now a.out.now _ (search rules) (search rules) c.play.ensures
