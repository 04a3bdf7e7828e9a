-- `process_at` returns a refusal, or plays its block into its part of the mix.
use mathlib.Core.Path.{sym}
use native.Mathlib.Omega.{arith}
use Rattle.std.proofs.lemmas.Result.{err_from_is_err_and}
use Rattle.refusals.proofs.Numbers.{number_not_0}
use Rattle.sound_slow_path.specs.Plays.{accepted}
use Rattle.sound_fast_path.specs.BlockLanes.{block_lanes}
use Rattle.static_sound.proofs.Calls.{refused_at, inside_at, playable_at, processed_at}
use Rattle.static_sound.proofs.process_at.Goals as goal

pub returns-in_err-check : goal.returns-in_err-check
returns-in_err-check c =
    let a = c.args in
    let p = err_from_is_err_and c.from_residual.result c.from_residual.ensures.1 in
    rw (p.1, p.2)
    (refused_at a.sound.now a.voice a.dt (block_lanes a.lanes) a.signals a.mix.now a.from _ _ c.frames-frames.ensures c.has_room-placed.ensures _ c.in_err-check.ensures (number_not_0 _))

pub overflow_mul-a : goal.overflow_mul-a
overflow_mul-a c =
    let a = c.args in
    let l = inside_at a.sound.now a.voice a.dt (block_lanes a.lanes) a.signals a.mix.now a.from _ _ c.frames-frames.ensures c.has_room-placed.ensures c.in_ok-check.ensures in
    omega (arith, l, c.ranges.from)

pub overflow_mul-e : goal.overflow_mul-e
overflow_mul-e c =
    let a = c.args in
    let l = inside_at a.sound.now a.voice a.dt (block_lanes a.lanes) a.signals a.mix.now a.from _ _ c.frames-frames.ensures c.has_room-placed.ensures c.in_ok-check.ensures in
    omega (arith, l)

pub overflow_add-e : goal.overflow_add-e
overflow_add-e c =
    let a = c.args in
    let l = inside_at a.sound.now a.voice a.dt (block_lanes a.lanes) a.signals a.mix.now a.from _ _ c.frames-frames.ensures c.has_room-placed.ensures c.in_ok-check.ensures in
    omega (arith, l)

pub offset_bounds-mix-a : goal.offset_bounds-mix-a
offset_bounds-mix-a c =
    let a = c.args in
    let l = inside_at a.sound.now a.voice a.dt (block_lanes a.lanes) a.signals a.mix.now a.from _ _ c.frames-frames.ensures c.has_room-placed.ensures c.in_ok-check.ensures in
    omega (arith, l)

pub slice_bounds-block-end : goal.slice_bounds-block-end
slice_bounds-block-end c =
    let a = c.args in
    let l = inside_at a.sound.now a.voice a.dt (block_lanes a.lanes) a.signals a.mix.now a.from _ _ c.frames-frames.ensures c.has_room-placed.ensures c.in_ok-check.ensures in
    omega (arith, l)

pub block-requires : goal.block-requires
block-requires c =
    let a = c.args in
    playable_at a.sound.now a.voice a.dt (block_lanes a.lanes) a.signals a.mix.now a.from _ _ c.frames-frames.ensures c.has_room-placed.ensures c.in_ok-check.ensures

pub returns : goal.returns
returns c =
    let a = c.args in
    processed_at a.sound.now a.voice a.dt (block_lanes a.lanes) a.signals a.mix.now a.from _ _ c.frames-frames.ensures c.has_room-placed.ensures c.in_ok-check.ensures (accepted c.block.result) _ c.block.ensures
