-- `trace_replay::advance`: the end, a refused record, a record played.
use Rattle.std.proofs.Common.{◌∙◌, ap, refl, arith, Ok, Err}
use native.Mathlib.Nat.{le_refl}
use Rattle.refusals.proofs.Numbers.{number_not_0}
use Rattle.trace_lines.specs.Lines.{refused_line}
use Rattle.trace_records.specs.Records.{record_read}
use Rattle.trace_replay.specs.Runs.{replay_of}
use Rattle.trace_replay.proofs.Parts.{prefix, fits}
use Rattle.trace_replay.proofs.Steps.{at_end_lem, turned_back, played, next_in, next_on}
use Rattle.trace_replay.proofs.advance.Goals as goal

pub returns-then-at-bytes : goal.returns-then-at-bytes
returns-then-at-bytes c =
    let a = c.args in
    (at_end_lem (replay_of a.run a.sound.now) a.place a.at a.bytes.now c.if-at-bytes.true, c.requires.0, c.requires.2, omega arith, le_refl a.at)

pub returns-in-Ok : goal.returns-in-Ok
returns-in-Ok c =
    let a = c.args in
    let r = record_read a.at (Ok c.in-Ok.record) in
    let e = c.play_record-played.ensures in (
      played (replay_of a.run a.sound.now) a.place a.at a.bytes.now r c.in-Ok.ensures c.requires.0 c.if-at-bytes.false _ _ refl e.0 e.1,
      next_in a.bytes.now a.at r c.requires.0 c.in-Ok.ensures,
      e.2,
      e.3,
      next_on a.bytes.now a.at r c.requires.0 c.in-Ok.ensures,
    )

pub returns-in-Err : goal.returns-in-Err
returns-in-Err c =
    let a = c.args in
    let r = record_read a.at (Err c.in-Err.refusal) in
    let w = c.put_refused in
    let e = w.ensures in
    let l = refused_line c.from.result a.place in (
      turned_back (replay_of a.run a.sound.now) a.place a.at a.bytes.now r c.in-Err.ensures c.requires.0 c.if-at-bytes.false _ (number_not_0 c.in-Err.refusal)
          (prefix a.line.now w.new.line l w.result e.0 e.1 (omega (arith, e.1, e.2, c.requires.3)) ∙ ap (λ n. refused_line n a.place) c.from.ensures),
      c.requires.0,
      c.requires.2,
      fits a.line.now w.new.line l w.result e.0 e.2 c.requires.3,
      le_refl a.at,
    )
