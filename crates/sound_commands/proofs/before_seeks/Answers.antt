-- `sound_commands::before_seeks` meets its contract: each command by its function, in the order of `before_seeks`.
use mathlib.Core.Path.{◌≡◌}
use mathlib.Core.Bool.{cond}
use lib.Ieee.{Float}
use Rattle.playback_state_manager.specs.declared.PlaybackState.{PlaybackState}
use Rattle.playback_state_manager.specs.States.{pausing, stopping}
use Rattle.transport.specs.declared.Transport.{Transport}
use Rattle.transport.specs.Moves.{reloop}
use Rattle.sound_state.specs.declared.StaticSound.{StaticSound}
use Rattle.sound_commands.specs.declared.Commands.{Commands}
use Rattle.sound_commands.specs.Commands.{or_else, looped, woken, before_seeks}
use Rattle.sound_commands.proofs.before_seeks.Goals as goal

told-by : (c : Commands) (v : StaticSound) (x : Float) (t : Transport) (p r s : PlaybackState)
    → x ≡ or_else c.playback_rate v.playback_rate → t ≡ reloop v.moving.transport (looped v c.loop_region)
    → p ≡ cond c.pause (pausing v.moving.state) v.moving.state → r ≡ woken c.resume p → s ≡ cond c.stop (stopping r) r
    → ◌≡◌ {A = StaticSound}
    (record {
      setup = v.setup;
      playback_rate = x;
      started = v.started;
      fractional_position = v.fractional_position;
      moving = record { state = s; transport = t; resampler = v.moving.resampler; wraps = v.moving.wraps };
    })
    (before_seeks c v)
unfolding before_seeks
told-by c v x t p r s rate loop pause resume stop = rw (stop, resume, pause, loop, rate)

pub returns : goal.returns
returns c =
    let a = c.args in
    told-by a.commands a.voice _ _ _ _ _ c.unwrap_or-playback_rate.ensures c.set_loop_region-transport.ensures c.pause-state.ensures c.resume-state.ensures c.stop-state.ensures
