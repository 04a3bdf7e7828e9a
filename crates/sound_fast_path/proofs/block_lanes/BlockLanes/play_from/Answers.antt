-- `play_from` passes on the lanes and the output from the next frame on.
use Prim.Native.Nat.{ℕ, ◌≤◌}
use mathlib.Core.Path.{◌≡◌, sym, ap, ◌∙◌, subst}
use lib.ListN.{length, length-replicate}
use Rattle.sound_lanes.specs.Lanes.{Lanes, lanes_of}
use Rattle.sound_held.specs.Held.{held_lanes}
use Rattle.sound_slow_path.specs.Plays.{accepted}
use Rattle.sound_slow_path.specs.FrameSteps.{Playable}
use Rattle.sound_fast_path.specs.BlockLanes.{block_lanes}
use Rattle.sound_fast_path.specs.Scans.{played_from}
use Rattle.sound_fast_path.proofs.Joins.{playable_from, played_from_lem}
use Rattle.sound_fast_path.proofs.After.{playable_rest, played_rest}
use Rattle.sound_fast_path.proofs.block_lanes.BlockLanes.play_from.Goals.{In-Each, In-Held}
use Rattle.sound_fast_path.proofs.block_lanes.BlockLanes.play_from.Goals as goal

each : (c : In-Each) → block_lanes c.args.self ≡ lanes_of c.in-Each.lanes
each c = ap block_lanes c.in-Each.is

held : (c : In-Held) → block_lanes c.args.self ≡ held_lanes c.in-Held.held c.in-Held.field-1
held c = ap block_lanes c.in-Held.is

playable_each : (c : In-Each) → (let a = c.args in Playable a.sound.now a.voice a.dt (lanes_of c.in-Each.lanes) (length a.out.now))
playable_each c = let a = c.args in subst (λ (b : Lanes). Playable a.sound.now a.voice a.dt b (length a.out.now)) (each c) c.requires.playable

playable_held : (c : In-Held) → (let a = c.args in Playable a.sound.now a.voice a.dt (held_lanes c.in-Held.held c.in-Held.field-1) (length a.out.now))
playable_held c = let a = c.args in subst (λ (b : Lanes). Playable a.sound.now a.voice a.dt b (length a.out.now)) (held c) c.requires.playable

next_held : (c : In-Held) → c.args.next ≤ c.in-Held.field-1
next_held c =
    let x = c.in-Held.held in
    let n = c.in-Held.field-1 in
    subst (λ (k : ℕ). c.args.next ≤ k) (ap (λ (b : Lanes). length b.rate) (held c) ∙ length-replicate n x.rate) c.requires.next_in_bounds

pub play-requires : goal.play-requires
play-requires c =
    let a = c.args in
    let p = (goal.at.play-requires c).In-Each in
    playable_from a.sound.now a.voice a.dt (lanes_of c.in-Each.lanes) a.out.now (playable_each p) a.next
    (subst (λ (b : Lanes). a.next ≤ length b.rate) (each p) c.requires.next_in_bounds)

pub play-requires-in-Held : goal.play-requires-in-Held
play-requires-in-Held c =
    let a = c.args in
    let p = (goal.at.play-requires-in-Held c).In-Held in
    playable_rest a.sound.now a.voice a.dt c.in-Held.held c.in-Held.field-1 a.out.now (playable_held p) a.next (next_held p)

pub returns-in-Each : goal.returns-in-Each
returns-in-Each c =
    let a = c.args in
    let p = (goal.at.returns-in-Each c).In-Each in
    played_from_lem a.sound.now a.voice a.dt (lanes_of c.in-Each.lanes) a.out.now (playable_each p) a.next (accepted c.play.result) _ c.play.ensures
    ∙ ap (λ (b : Lanes). played_from a.sound.now a.dt b a.next a.voice a.out.now) (sym (each p))

pub returns-in-Held : goal.returns-in-Held
returns-in-Held c =
    let a = c.args in
    let p = (goal.at.returns-in-Held c).In-Held in
    played_rest a.sound.now a.voice a.dt c.in-Held.held c.in-Held.field-1 a.out.now (playable_held p) a.next (next_held p) (accepted c.play-in-Held.result) _ c.play-in-Held.ensures
    ∙ ap (λ (b : Lanes). played_from a.sound.now a.dt b a.next a.voice a.out.now) (sym (held p))
