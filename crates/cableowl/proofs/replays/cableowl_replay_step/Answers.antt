-- `cableowl_replay_step` meets its contract: refused, no bytes, a record played, a refused one.
use Rattle.std.specs.Prelude.{Ok, Err}
use mathlib.Core.Path.{refl, sym, ap, ◌∙◌}
use lib.ListN.{length}
use Rattle.trace_records.specs.Records.{record_read}
use Rattle.cableowl.proofs.ReplaySteps.{accepted_room, called_err, called_ok, step_refused, step_empty, step_played, step_unread}
use Rattle.cableowl.proofs.replays.cableowl_replay_step.Goals as goal

pub returns-in-Err : goal.returns-in-Err
returns-in-Err c =
    let a = c.args in
    let e = called_err c.check.result c.in-Err.refusal _ c.check.ensures c.in-Err.is in
    step_refused a.replay a.bytes.now a.ended a.sound.now a.out.now c.in-Err.refusal _ e c.refused_call.ensures

pub returns-then-bytes-eq0 : goal.returns-then-bytes-eq0
returns-then-bytes-eq0 c =
    let a = c.args in
    let e = called_ok c.check.result c.in_default.field-0 _ c.check.ensures c.in_default.is in
    step_empty a.replay a.bytes.now a.ended a.sound.now a.out.now _ e c.if-bytes-eq0.true c.no_record.ensures

pub play_record-requires : goal.play_record-requires
play_record-requires c =
    let a = c.args in
    accepted_room a.replay (length a.sound.now) (length a.out.now) (called_ok c.check.result c.in_default.field-0 _ c.check.ensures c.in_default.is)

pub returns-in-Ok : goal.returns-in-Ok
returns-in-Ok c =
    let a = c.args in
    let e = called_ok c.check.result c.in_default.field-0 _ c.check.ensures c.in_default.is in
    let f = ap (record_read 0) (sym c.in-Ok.is) ∙ c.read.ensures in
    step_played a.replay a.bytes.now a.ended a.sound.now a.out.now (record_read 0 (Ok c.in-Ok.read)) e c.if-bytes-eq0.false f _ refl c.play_record.ensures

pub returns-in-Err-read : goal.returns-in-Err-read
returns-in-Err-read c =
    let a = c.args in
    let e = called_ok c.check.result c.in_default.field-0 _ c.check.ensures c.in_default.is in
    let f = ap (record_read 0) (sym c.in-Err-read.is) ∙ c.read.ensures in
    step_unread a.replay a.bytes.now a.ended a.sound.now a.out.now (record_read 0 (Err c.in-Err-read.refusal)) e c.if-bytes-eq0.false f c.in-Err-read.refusal _ refl
    c.refused_record.ensures
