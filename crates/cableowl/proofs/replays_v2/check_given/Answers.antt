-- `check_given`: by the kind, then by its test.
use Rattle.std.specs.Prelude.{Ok}
use Rattle.trace_records.specs.Records.{record_read}
use Rattle.cableowl.proofs.ReplayStepsV2.{lacks_nothing_4, lacks_19, lacks_nothing, lacks_1}
use Rattle.cableowl.proofs.replays_v2.check_given.Goals as goal

pub returns-then-sounds-samples : goal.returns-then-sounds-samples
returns-then-sounds-samples c =
    let a = c.args in
    lacks_nothing_4 a.replay (record_read 0 (Ok a.read)) a.sounds a.len _ c.if-read-eq4.true c.given_samples_of-samples.ensures c.if-sounds-samples.true

pub returns-then-read-eq4 : goal.returns-then-read-eq4
returns-then-read-eq4 c =
    let a = c.args in
    lacks_19 a.replay (record_read 0 (Ok a.read)) a.sounds a.len _ c.if-read-eq4.true c.given_samples_of-samples.ensures c.if-sounds-samples.false

pub returns-then-read-replay : goal.returns-then-read-replay
returns-then-read-replay c = let a = c.args in lacks_nothing a.replay (record_read 0 (Ok a.read)) a.sounds a.len c.if-read-eq4.false c.if-read-replay.true

pub returns : goal.returns
returns c = let a = c.args in lacks_1 a.replay (record_read 0 (Ok a.read)) a.sounds a.len c.if-read-eq4.false c.if-read-replay.false
