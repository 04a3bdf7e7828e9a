-- `trace_replay::put_line`: by the answer.
use Rattle.std.proofs.Common.{◌∙◌, ap, sym, refl, arith, Ok, Err}
use Rattle.refusals.proofs.Numbers.{number_not_0}
use Rattle.static_sound.specs.Entries.{block_answer}
use Rattle.trace_lines.specs.Lines.{block_line, refused_block_line}
use Rattle.trace_replay.specs.Runs.{line_of}
use Rattle.trace_replay.proofs.Parts.{prefix, fits}
use Rattle.trace_replay.proofs.Answers.{line_played, line_refused}
use Rattle.trace_replay.proofs.put_line.Goals as goal

pub returns-in-Ok : goal.returns-in-Ok
returns-in-Ok c =
    let a = c.args in
    let w = c.put_block in
    let e = w.ensures in
    let p = c.in-Ok.processed in (
      λ v. line_played a.number a.frames (block_answer v (Ok p)) c.from.result _ refl c.from.ensures (prefix a.line.now w.new.line _ w.result e.0 e.1 (omega (arith, e.1, e.2, c.requires)))
          ∙ ap (λ z. line_of a.number a.frames (block_answer v z)) (sym c.in-Ok.is),
      fits a.line.now w.new.line (block_line a.number a.frames p.steps c.from.result p.voice.moving.transport.position) w.result e.0 e.2 c.requires,
    )

pub returns-in-Err : goal.returns-in-Err
returns-in-Err c =
    let a = c.args in
    let w = c.put_refused_block in
    let e = w.ensures in
    let r = c.in-Err.refusal in
    let n = c.from-in-Err in (
      λ v. line_refused a.number a.frames (block_answer v (Err r)) _ (number_not_0 r) (prefix a.line.now w.new.line _ w.result e.0 e.1 (omega (arith, e.1, e.2, c.requires)) ∙ ap (refused_block_line a.number) n.ensures)
          ∙ ap (λ z. line_of a.number a.frames (block_answer v z)) (sym c.in-Err.is),
      fits a.line.now w.new.line (refused_block_line a.number n.result) w.result e.0 e.2 c.requires,
    )
