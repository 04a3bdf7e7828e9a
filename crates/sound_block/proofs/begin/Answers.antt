-- `begin` hands back the voice that has taken its signals, by whether it had started and by the answer of its start.
use mathlib.Core.Path.{sym, ap, ◌∙◌}
use mathlib.Core.Bool.{Bool}
use Rattle.playback_state_manager.specs.declared.PlaybackState.{PlaybackState}
use Rattle.sound_block.proofs.Begins.{restated, begun_started, begun_waiting, begun_now, begun_never}
use Rattle.sound_block.proofs.begin.Goals.{then-voice, else-voice+in-Waiting, else-voice+in-Now, else-voice+in-Never}
use Rattle.sound_block.proofs.begin.Goals as goal

pub returns : goal.returns
returns c =
    let g = c.args.signals in
    let v = c.args.voice in
    let s = c.update-settled.result in
    let e = c.update-settled.ensures in
    let with = λ (p : Bool × PlaybackState). restated v p.0 p.1 in
    elim c.if-voice.branch [
      | then-voice w ↦ ap with w.started-is ∙ begun_started g v s e w.if-voice.true
      | else-voice+in-Waiting w ↦ ap with w.started-is ∙ begun_waiting g v s e w.if-voice.false (sym w.answer.ensures ∙ w.in-Waiting.is)
      | else-voice+in-Now w ↦ ap with w.started-is ∙ begun_now g v s e w.if-voice.false (sym w.answer.ensures ∙ w.in-Now.is)
      | else-voice+in-Never w ↦ ap with w.started-is ∙ begun_never g v s e w.if-voice.false (sym w.answer.ensures ∙ w.in-Never.is)
    ]
