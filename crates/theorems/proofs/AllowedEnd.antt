-- The only way to end: the rest of a block after k frames is played from the voice after them, and an ended voice stays idle. Assumes nothing.
use mathlib.Core.Path.{◌≡◌, sym, ap, ◌∙◌, subst}
use mathlib.Core.Logic.{◌⊎◌, inl, inr}
use Prim.Native.Nat.{ℕ, ◌*◌, ◌≤◌}
use mathlib.Core.List.{List, ◌++◌}
use lib.Dec.{T}
use lib.ListN.{length, take, drop, take-append-drop}
use lib.Seq.{length-take-le, drop_at}
use Rattle.numbers.specs.Lists.{all}
use Rattle.numbers.proofs.Lists.{all_front, all_rest}
use Rattle.sound_lanes.specs.Lanes.{Lane, rows, laned, near}
use Rattle.sound_lanes.proofs.Rows.{beside_length}
use Rattle.sound_state.specs.declared.Setup.{Setup}
use Rattle.sound_state.specs.declared.StaticSound.{StaticSound}
use Rattle.sound_state.specs.WellFormed.{WellFormed}
use Rattle.sound_state.proofs.WellFormed.{well_formed_for_parts}
use Rattle.sound_slow_path.specs.Plays.{Played, plays, Outcome}
use Rattle.sound_block.specs.Blocks.{begun, zeros}
use Rattle.static_sound.specs.Entries.{holds, processed}
use Rattle.sound_slow_path.proofs.Plays.{plays_append, plays_length, plays_setup}
use Rattle.sound_block.proofs.Blocks.{block_live}
use Rattle.sound_block.proofs.Keeps.{begun_well_formed}
use Rattle.sound_slow_path.proofs.Keeps.{plays_well_formed}
use Rattle.static_sound.proofs.Refusals.{Accepted, accepted_parts}
use Rattle.static_sound.proofs.Entries.{time_step_above, processed_passed, processed_done}
use Rattle.theorems.specs.AllowedEnd.{Ended, EndsOnly, UpdateEnds, BlockEnds}
use Rattle.theorems.proofs.Ends.{updated_ends, plays_ends, plays_idle}

pub update_ends : UpdateEnds
update_ends = updated_ends

pub block_ends : BlockEnds
unfolding begun
block_ends snd v dt b g out k x = go (plays_ends snd dt xs u)
  where
    xs : List Lane
    xs = take k (rows b)

    ys : List Lane
    ys = drop k (rows b)

    u : StaticSound
    u = begun g v

    w : StaticSound
    w = (plays snd dt (take k (rows b)) (begun g v)).voice

    p : Accepted (length snd) v dt b (holds b out)
    p = accepted_parts (length snd) v dt b (holds b out) (processed_passed snd v dt b g out x.accepted)

    f : WellFormed (begun g v)
    f = begun_well_formed g v (well_formed_for_parts (length snd) v p.well_formed_for).0

    cut : take k (rows b) ++ drop k (rows b) ≡ rows b
    cut = take-append-drop k (rows b)

    la : T (all laned (take k (rows b) ++ drop k (rows b)))
    la = subst (λ (ls : List Lane). T (all laned ls)) (sym cut) p.laned

    ne : T (all (near v.setup.sample_rate dt) (take k (rows b) ++ drop k (rows b)))
    ne = subst (λ (ls : List Lane). T (all (near v.setup.sample_rate dt) ls)) (sym cut) p.near

    -- the samples of the first k frames
    long : length (plays snd dt (take k (rows b)) (begun g v)).samples ≡ 2 * k
    long =
        plays_length snd dt xs u
        ∙ ap (λ (n : ℕ). 2 * n)
        (length-take-le k (rows b) (subst (λ (n : ℕ). k ≤ n) (sym (beside_length b.fade b.volume b.left b.right b.rate)) x.inside))

    frame_read : (processed snd v dt b g out).samples ≡ (plays snd dt (take k (rows b)) (begun g v)).samples ++ (plays snd dt (drop k (rows b)) (plays snd dt (take k (rows b)) (begun g v)).voice).samples
    frame_read =
        ap (λ (o : Outcome). o.samples) (processed_done snd v dt b g out (processed_passed snd v dt b g out x.accepted))
        ∙ ap (λ (y : Played). y.samples) (block_live snd dt (rows b) g v x.live)
        ∙ ap (λ (ls : List Lane). (plays snd dt ls u).samples) (sym cut)
        ∙ ap (λ (y : Played). y.samples) (plays_append snd dt xs ys u)

    go : EndsOnly u.moving.state w.moving → (w.moving.state ≡ u.moving.state) ⊎ (Ended w.moving × (drop (2 * k) (processed snd v dt b g out).samples ≡ zeros ys))
    go (inl s) = inl s
    go (inr s) =
        let n = near v.setup.sample_rate dt in
        let t = time_step_above dt p.is_time_step in
        let i =
        plays_idle snd dt t ys w (all_rest laned xs ys la)
        (subst (λ (z : Setup). T (all (near z.sample_rate dt) ys)) (sym (plays_setup snd dt xs u)) (all_rest n xs ys ne))
        (plays_well_formed snd dt t xs u (all_front n xs ys ne) f) s
        in
        inr (s, ap (drop (2 * k)) frame_read ∙ drop_at (plays snd dt xs u).samples (plays snd dt ys w).samples (2 * k) long ∙ i.samples)
