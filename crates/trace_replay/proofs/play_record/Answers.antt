-- `trace_replay::play_record`: by the kind.
use Rattle.std.proofs.Common.{ap, ◌∙◌, arith}
use Rattle.trace_replay.specs.Runs.{AfterRecord, replay_of}
use Rattle.trace_replay.proofs.Replays.{of_creation, of_commands, of_block}
use Rattle.trace_replay.proofs.play_record.Goals as goal

pub returns-in-1 : goal.returns-in-1
returns-in-1 c =
    let a = c.args in
    let o = of_creation (replay_of a.run a.sound.now) a.kind a.values c.in-1.is in
    (c.create.ensures.0 ∙ ap (λ (x : AfterRecord). x.replay) o, ap (λ (x : AfterRecord). x.line) o, c.create.ensures.1, omega arith)

pub returns-in-2 : goal.returns-in-2
returns-in-2 c =
    let a = c.args in
    let o = of_commands (replay_of a.run a.sound.now) a.kind a.values (λ z. omega arith) c.in-2.is in
    (c.command.ensures.0 ∙ ap (λ (x : AfterRecord). x.replay) o, ap (λ (x : AfterRecord). x.line) o, c.command.ensures.1, omega arith)

pub returns-in_default : goal.returns-in_default
returns-in_default c =
    let a = c.args in
    let o = of_block (replay_of a.run a.sound.now) a.kind a.values (λ z. omega arith) (λ z. omega arith) in
    (c.play.ensures.0 ∙ ap (λ (x : AfterRecord). x.replay) o, c.play.ensures.1 ∙ ap (λ (x : AfterRecord). x.line) o, c.play.ensures.2, c.play.ensures.3)
