-- The lanes of a block as code passes them: a number for each frame, or held lanes and their number of frames.
use Rattle.sound_lanes.specs.Lanes.{Lanes, lanes_of}
use Rattle.sound_held.specs.Held.{held_lanes}
use Rattle.sound_fast_path.specs.declared.block_lanes.BlockLanes.{BlockLanes}
use Rattle.sound_fast_path.specs.declared.block_lanes.BlockLanes.TheVariants as lanes

-- the lanes of all frames
abbrev pub block_lanes : BlockLanes → Lanes
block_lanes (lanes.Each l) = lanes_of l
block_lanes (lanes.Held x n) = held_lanes x n
