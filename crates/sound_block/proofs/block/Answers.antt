-- `block` is the sound of a voice that is live once it has taken its signals, and the silence of any other.
use mathlib.Core.Path.{sym, ◌∙◌}
use lib.ListN.{length}
use Rattle.sound_lanes.specs.Lanes.{Lanes}
use Rattle.sound_fast_path.specs.BlockLanes.{block_lanes}
use Rattle.sound_block.proofs.Sounds.{sounds, rests, playable}
use Rattle.sound_block.proofs.block.Goals.{After-begin-begun}
use Rattle.sound_block.proofs.block.Goals as goal

abbrev lent : After-begin-begun → Lanes
lent c = block_lanes c.args.lanes

pub play-requires : goal.play-requires
play-requires c =
    let a = c.args in
    playable a.sound.now a.dt (lent (goal.at.play-requires c).After-begin-begun) a.signals a.voice c.begin-begun.result c.begin-begun.ensures (length a.out.now) c.requires

pub returns-then-is_live : goal.returns-then-is_live
returns-then-is_live c =
    let a = c.args in
    sounds a.sound.now a.dt (lent (goal.at.returns-then-is_live c).After-begin-begun) a.signals a.voice _ c.begin-begun.ensures (sym c.is_live.ensures ∙ c.if-is_live.true) _ c.play.ensures

pub returns : goal.returns
returns c =
    let a = c.args in
    rests a.sound.now a.dt (lent (goal.at.returns c).After-begin-begun) a.signals a.voice _ c.begin-begun.ensures (sym c.is_live.ensures ∙ c.if-is_live.false) _ (length a.out.now) c.silence.ensures c.requires.long
