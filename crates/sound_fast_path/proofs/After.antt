-- The frames after a scan where the five numbers are given once: fewer frames of the same numbers. Assumes nothing.
use mathlib.Core.Path.{◌≡◌, sym, ap, ◌∙◌, subst}
use mathlib.Core.List.{List, ◌++◌, append-nil}
use Prim.Native.Nat.{ℕ, ◌+◌, ◌-◌, ◌*◌, ◌/◌, ◌≤◌}
use native.Mathlib.Nat.{le_of_eq}
use native.Mathlib.Omega.{arith}
use lib.Dec.{T}
use lib.ListN.{length, take, drop, length-replicate, length-drop, drop_of_length-le}
use lib.Seq.{drop_at}
use lib.Ieee.{Float}
use Rattle.numbers.specs.Lists.{all}
use Rattle.numbers.proofs.Lists.{all_drop}
use Rattle.sound_lanes.specs.Lanes.{Lane, rows, near}
use Rattle.sound_lanes.proofs.Rows.{sized_parts}
use Rattle.sound_state.specs.declared.StaticSound.{StaticSound}
use Rattle.sound_held.specs.declared.Held.{Held}
use Rattle.sound_held.specs.Held.{held_lanes}
use Rattle.sound_held.proofs.Once.{rows_more, rows_many, once_sized}
use Rattle.sound_slow_path.specs.Plays.{BlockAnswer, plays, Outcome, accepted_with, accepted_as}
use Rattle.sound_slow_path.specs.FrameSteps.{Playable}
use Rattle.sound_fast_path.specs.Scans.{played_from}
use Rattle.sound_fast_path.proofs.Joins.{cut, part_is}

module _ (snd : List Float) (v : StaticSound) (dt : Float) (x : Held) (n : ℕ) (out : List Float) (p : Playable snd v dt (held_lanes x n) (length out)) where
  pub twice : length out ≡ 2 * n
  twice = p.long ∙ ap (λ (k : ℕ). 2 * k) (length-replicate n x.rate)

  pub most : n ≤ 4096
  most = subst (λ (k : ℕ). k ≤ 4096) (length-replicate n x.rate) (sized_parts (held_lanes x n) p.sized).most

  module _ (i : ℕ) (h : i ≤ n) where
    cut_long : length (cut (2 * i) out) ≡ 2 * (n - i)
    cut_long = ap length (part_is (2 * i) out) ∙ length-drop (2 * i) out ∙ omega (arith, twice)

    half : length (cut (2 * i) out) / 2 ≡ n - i
    half = halved (length (cut (2 * i) out)) (n - i) cut_long
      where
        halved : (k m : ℕ) → k ≡ 2 * m → k / 2 ≡ m
        halved k m e = omega arith

    rows_rest : rows (held_lanes x (n - i)) ≡ drop i (rows (held_lanes x n))
    rows_rest =
        let e : n ≡ i + (n - i) = omega arith in
        sym
        (ap (λ (k : ℕ). drop i (rows (held_lanes x k))) e
        ∙ ap (drop i) (rows_more x i (n - i))
        ∙ drop_at (rows (held_lanes x i)) (rows (held_lanes x (n - i))) i (rows_many x i))

    -- the frames that are left may be played
    pub playable_rest : Playable snd v dt (held_lanes x (length (cut (2 * i) out) / 2)) (length (cut (2 * i) out))
    playable_rest =
        subst (λ (k : ℕ). Playable snd v dt (held_lanes x k) (length (cut (2 * i) out))) (sym half)
        (record {
          well_formed = p.well_formed;
          lent = p.lent;
          sized = once_sized x (n - i) (omega (arith, most));
          long = cut_long ∙ ap (λ (k : ℕ). 2 * k) (sym (length-replicate (n - i) x.rate));
          is_time_step = p.is_time_step;
          near = subst (λ (l : List Lane). T (all (near v.setup.sample_rate dt) l)) (sym rows_rest) (all_drop (near v.setup.sample_rate dt) i (rows (held_lanes x n)) p.near);
        })

    pub played_rest : (r : BlockAnswer) (samples : List Float)
        → record { answer = r; samples = samples } ≡ accepted_as (plays snd dt (rows (held_lanes x (length (cut (2 * i) out) / 2))) v)
        → record { answer = r; samples = take (2 * i) out ++ (samples ++ drop (length out - 2 * i) (drop (2 * i) out)) } ≡ played_from snd dt (held_lanes x n) i v out
    played_rest r samples e =
        ap (λ (l : List Float). record { answer = r; samples = take (2 * i) out ++ l })
        (ap (λ (l : List Float). samples ++ l) (drop_of_length-le (drop (2 * i) out) (le_of_eq (length-drop (2 * i) out))) ∙ append-nil samples)
        ∙ ap (λ (o : Outcome). record { answer = o.answer; samples = take (2 * i) out ++ o.samples }) e
        ∙ ap (λ (l : List Lane). let q = plays snd dt l v in accepted_with q (take (2 * i) out ++ q.samples)) (ap (λ (k : ℕ). rows (held_lanes x k)) half ∙ rows_rest)
