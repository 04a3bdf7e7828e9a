-- `play_record_v2`: by the kind, then by the voice's sound.
use Rattle.std.proofs.Common.{rules}
use Rattle.std.specs.Prelude.{Ok}
use lib.ListN.{length}
use Rattle.trace_records.specs.Records.{record_read}
use Rattle.cableowl.proofs.ReplayStepsV2.{turned_creation_v2, turned_given, turned_sound, turned_over, enough_given, enough_played}
use Rattle.cableowl.proofs.replays_v2.play_record_v2.Goals as goal

pub returns-in-1 : goal.returns-in-1
returns-in-1 c =
    let a = c.args in
    turned_creation_v2 a.replay (record_read 0 (Ok a.read)) a.bytes.now a.sound.now a.given.now a.sounds a.out.now _ _ _ c.in-1.is c.playing_of.ensures c.create_with.ensures.0 c.create_with.ensures.1

pub create_over_given-requires : goal.create_over_given-requires
create_over_given-requires c =
    let a = c.args in
    enough_given a.replay (record_read 0 (Ok a.read)) a.sounds (length a.given.now) c.requires.3 c.in-4.is

pub returns-in-4 : goal.returns-in-4
returns-in-4 c =
    let a = c.args in
    turned_given a.replay (record_read 0 (Ok a.read)) a.bytes.now a.sound.now a.given.now a.sounds a.out.now _ (search rules) c.in-4.is c.create_over_given.ensures

pub obey_or_play-requires : goal.obey_or_play-requires
obey_or_play-requires c = (c.requires.2 c.if-replay-eq0.true, c.requires.1)

pub returns-then-replay-eq0 : goal.returns-then-replay-eq0
returns-then-replay-eq0 c =
    let a = c.args in
    turned_sound a.replay (record_read 0 (Ok a.read)) a.bytes.now a.sound.now a.given.now a.sounds a.out.now _ _ (search rules) (search rules) c.if-replay-eq0.true c.obey_or_play.ensures

pub obey_or_play-requires-else-replay-eq0 : goal.obey_or_play-requires-else-replay-eq0
obey_or_play-requires-else-replay-eq0 c =
    let a = c.args in
    (enough_played a.replay (record_read 0 (Ok a.read)) a.sounds (length a.given.now) c.requires.3 (search rules) (search rules) c.if-replay-eq0.false, c.requires.1)

pub returns-else-replay-eq0 : goal.returns-else-replay-eq0
returns-else-replay-eq0 c =
    let a = c.args in
    turned_over a.replay (record_read 0 (Ok a.read)) a.bytes.now a.sound.now a.given.now a.sounds a.out.now _ _ (search rules) (search rules) c.if-replay-eq0.false c.obey_or_play-else-replay-eq0.ensures
