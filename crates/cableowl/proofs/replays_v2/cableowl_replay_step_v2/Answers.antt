-- `cableowl_replay_step_v2` meets its contract: refused, no bytes, a given sound too short, a record played, a refused one.
use Rattle.std.specs.Prelude.{Ok, Err}
use mathlib.Core.Path.{refl, sym, ap, ◌∙◌}
use lib.ListN.{length}
use Rattle.trace_records.specs.Records.{record_read}
use Rattle.cableowl.proofs.ReplaySteps.{called_err, called_ok}
use Rattle.cableowl.proofs.ReplayStepsV2.{accepted_room_v2, step_refused_v2, step_empty_v2, step_lacking, step_played_v2, step_unread_v2}
use Rattle.cableowl.proofs.replays_v2.cableowl_replay_step_v2.Goals as goal

pub returns-in-Err : goal.returns-in-Err
returns-in-Err c =
    let a = c.args in
    let e = called_err c.check.result c.in-Err.refusal _ c.check.ensures c.in-Err.is in
    step_refused_v2 a.replay a.bytes.now a.ended a.sound.now a.given.now a.sounds a.out.now c.in-Err.refusal _ e c.refused_call.ensures

pub returns-then-bytes-eq0 : goal.returns-then-bytes-eq0
returns-then-bytes-eq0 c =
    let a = c.args in
    let e = called_ok c.check.result c.in_default.field-0 _ c.check.ensures c.in_default.is in
    step_empty_v2 a.replay a.bytes.now a.ended a.sound.now a.given.now a.sounds a.out.now _ e c.if-bytes-eq0.true c.no_record.ensures

pub play_record_v2-requires : goal.play_record_v2-requires
play_record_v2-requires c =
    let a = c.args in
    let g = accepted_room_v2 a.replay (length a.sound.now) (length a.out.now) (called_ok c.check.result c.in_default.field-0 _ c.check.ensures c.in_default.is) in
    (g.0, g.1, g.2, called_ok c.check_given.result c.in-Ok-check_given.field-0 _ c.check_given.ensures c.in-Ok-check_given.is)

pub returns-in-Ok-check_given : goal.returns-in-Ok-check_given
returns-in-Ok-check_given c =
    let a = c.args in
    let e = called_ok c.check.result c.in_default.field-0 _ c.check.ensures c.in_default.is in
    let f = ap (record_read 0) (sym c.in-Ok.is) ∙ c.read.ensures in
    let m = called_ok c.check_given.result c.in-Ok-check_given.field-0 _ c.check_given.ensures c.in-Ok-check_given.is in
    step_played_v2 a.replay a.bytes.now a.ended a.sound.now a.given.now a.sounds a.out.now (record_read 0 (Ok c.in-Ok.read)) e c.if-bytes-eq0.false f _ refl m
    c.play_record_v2.ensures

pub returns-in-Err-check_given : goal.returns-in-Err-check_given
returns-in-Err-check_given c =
    let a = c.args in
    let e = called_ok c.check.result c.in_default.field-0 _ c.check.ensures c.in_default.is in
    let f = ap (record_read 0) (sym c.in-Ok.is) ∙ c.read.ensures in
    let m = called_err c.check_given.result c.in-Err-check_given.refusal _ c.check_given.ensures c.in-Err-check_given.is in
    step_lacking a.replay a.bytes.now a.ended a.sound.now a.given.now a.sounds a.out.now (record_read 0 (Ok c.in-Ok.read)) e c.if-bytes-eq0.false f
    c.in-Err-check_given.refusal _ refl m c.refused_call-in-Err-check_given.ensures

pub returns-in-Err-read : goal.returns-in-Err-read
returns-in-Err-read c =
    let a = c.args in
    let e = called_ok c.check.result c.in_default.field-0 _ c.check.ensures c.in_default.is in
    let f = ap (record_read 0) (sym c.in-Err-read.is) ∙ c.read.ensures in
    step_unread_v2 a.replay a.bytes.now a.ended a.sound.now a.given.now a.sounds a.out.now (record_read 0 (Err c.in-Err-read.refusal)) e c.if-bytes-eq0.false f
    c.in-Err-read.refusal _ refl c.refused_record.ensures
