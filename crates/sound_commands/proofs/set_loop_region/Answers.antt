-- `sound_commands::set_loop_region` meets its contract: each arm is a case of `looped`, and N is the setup's.
use Rattle.sound_commands.proofs.set_loop_region.Goals as goal

pub returns-in-Keep : goal.returns-in-Keep
returns-in-Keep c = rw c.in-Keep.is

pub returns-in-Clear : goal.returns-in-Clear
returns-in-Clear c = rw c.in-Clear.is c.set_loop_region.ensures

pub returns-in-Set : goal.returns-in-Set
returns-in-Set c = rw (c.in-Set.is, ← c.num_frames.ensures, ← c.into_frames-frames.ensures) c.set_loop_region-in-Set.ensures
