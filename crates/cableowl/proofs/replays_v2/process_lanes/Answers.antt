-- `process_lanes`: each lane is decoded, and the block is played over them.
use lib.ListN.{drop}
use Rattle.trace_inputs.specs.Inputs.{single, double}
use Rattle.cableowl.proofs.ReplayStepsV2.{lane_is, lane_long, lanes_outcome}
use Rattle.cableowl.proofs.replays_v2.process_lanes.Goals as goal

pub slice_bounds-lanes-end : goal.slice_bounds-lanes-end
slice_bounds-lanes-end c =
    lane_long 4 (λ x. single x) c.args.block.frames (drop 18 c.args.bytes.now) c.singles_of-fade.result c.requires c.singles_of-fade.ensures

pub slice_bounds-lanes-end-2 : goal.slice_bounds-lanes-end-2
slice_bounds-lanes-end-2 c =
    lane_long 4 (λ x. single x) c.args.block.frames (drop 22 c.args.bytes.now) c.singles_of-volume.result c.requires c.singles_of-volume.ensures

pub slice_bounds-lanes-end-3 : goal.slice_bounds-lanes-end-3
slice_bounds-lanes-end-3 c =
    lane_long 4 (λ x. single x) c.args.block.frames (drop 26 c.args.bytes.now) c.singles_of-left.result c.requires c.singles_of-left.ensures

pub slice_bounds-lanes-end-4 : goal.slice_bounds-lanes-end-4
slice_bounds-lanes-end-4 c =
    lane_long 4 (λ x. single x) c.args.block.frames (drop 30 c.args.bytes.now) c.singles_of-right.result c.requires c.singles_of-right.ensures

pub slice_bounds-lanes-end-5 : goal.slice_bounds-lanes-end-5
slice_bounds-lanes-end-5 c =
    lane_long 8 (λ x. double x) c.args.block.frames (drop 34 c.args.bytes.now) c.doubles_of-rate.result c.requires c.doubles_of-rate.ensures

pub returns : goal.returns
returns c =
    let a = c.args in
    let n = a.block.frames in
    let bs = a.bytes.now in
    lanes_outcome a.sound.now a.voice a.block bs a.out.now _ _ _ _ _ _
    (lane_is 4 (λ x. single x) n (drop 18 bs) c.singles_of-fade.result c.requires c.singles_of-fade.ensures)
    (lane_is 4 (λ x. single x) n (drop 22 bs) c.singles_of-volume.result c.requires c.singles_of-volume.ensures)
    (lane_is 4 (λ x. single x) n (drop 26 bs) c.singles_of-left.result c.requires c.singles_of-left.ensures)
    (lane_is 4 (λ x. single x) n (drop 30 bs) c.singles_of-right.result c.requires c.singles_of-right.ensures)
    (lane_is 8 (λ x. double x) n (drop 34 bs) c.doubles_of-rate.result c.requires c.doubles_of-rate.ensures)
    c.process.ensures
