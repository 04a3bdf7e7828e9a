-- Both entries, cut in two: each part passes the tests that the whole has passed, and the block's cut does the rest. Assumes nothing.
use mathlib.Core.Path.{◌≡◌, refl, sym, ap, ◌∙◌, subst}
use Prim.Native.Nat.{ℕ, ◌-◌, ◌*◌, ◌≤◌}
use native.Mathlib.Omega.{arith}
use mathlib.Core.Bool.{Bool, true}
use mathlib.Core.List.{List, ◌++◌}
use lib.Dec.{T, eqb→eq}
use lib.ListN.{length, take, drop, length-drop}
use lib.Seq.{length-take-le}
use lib.Ieee.{Float}
use lib.Ieee.Fits.{eq→eqb}
use Rattle.numbers.specs.Lists.{all}
use Rattle.numbers.proofs.Lists.{all_front, all_rest}
use Rattle.sound_lanes.specs.Lanes.{Lane, Lanes, rows, laned, near, first_lanes, rest_lanes}
use Rattle.sound_lanes.proofs.Rows.{rows_cut, first_sized, rest_sized}
use Rattle.sound_state.specs.declared.Setup.{Setup}
use Rattle.sound_state.specs.declared.StaticSound.{StaticSound}
use Rattle.sound_state.proofs.WellFormed.{well_formed_for_parts}
use Rattle.sound_block.specs.declared.Signals.{Signals}
use Rattle.sound_block.specs.Blocks.{block, quiet}
use Rattle.static_sound.specs.Entries.{refused_block, holds}
use Rattle.sound_block.proofs.Blocks.{block_setup}
use Rattle.static_sound.proofs.Refusals.{Accepted, accepted_parts, accepted_of}
use Rattle.static_sound.proofs.Entries.{time_step_above, block_well_formed_for, processed_passed, processed_done}
use Rattle.theorems.specs.Cut.{CutBlocks}
use Rattle.theorems.proofs.Blocks.{CutPlayed, block_cut}

-- what holds of every frame holds of every frame of each part
module _ (p : Lane → Bool) (k : ℕ) (b : Lanes) (h : T (all p (rows b))) where
  joined : T (all p (rows (first_lanes k b) ++ rows (rest_lanes k b)))
  joined = subst (λ (ls : List Lane). T (all p ls)) (sym (rows_cut k b)) h

  pub first_all : T (all p (rows (first_lanes k b)))
  first_all = all_front p (rows (first_lanes k b)) (rows (rest_lanes k b)) joined

  pub rest_all : T (all p (rows (rest_lanes k b)))
  rest_all = all_rest p (rows (first_lanes k b)) (rows (rest_lanes k b)) joined

-- 12 is checked with the sample rate, which the first part does not change
pub rest_near : (snd : List Float) (dt : Float) (k : ℕ) (b : Lanes) (g : Signals) (v : StaticSound) → T (all (near v.setup.sample_rate dt) (rows b))
    → T (all (near (block snd dt (rows (first_lanes k b)) g v).voice.setup.sample_rate dt) (rows (rest_lanes k b)))
rest_near snd dt k b g v h =
    subst (λ (s : Setup). T (all (near s.sample_rate dt) (rows (rest_lanes k b)))) (sym (block_setup snd dt (rows (first_lanes k b)) g v))
    (rest_all (near v.setup.sample_rate dt) k b h)

-- what an accepted call has passed, its parts have passed
module _ (snd : List Float) (v : StaticSound) (dt : Float) (b : Lanes) (g : Signals) (placed : Bool) (k : ℕ) (p : Accepted (length snd) v dt b placed) where
  pub first_accepted : (here : Bool) → T here → k ≤ length b.rate → Accepted (length snd) v dt (first_lanes k b) here
  first_accepted here h q =
      record {
        well_formed_for = p.well_formed_for;
        sized = first_sized k b q p.sized;
        placed = h;
        is_time_step = p.is_time_step;
        laned = first_all laned k b p.laned;
        near = first_all (near v.setup.sample_rate dt) k b p.near;
      }

  pub rest_accepted : (here : Bool) → T here → k ≤ length b.rate → Accepted (length snd) (block snd dt (rows (first_lanes k b)) g v).voice dt (rest_lanes k b) here
  rest_accepted here h q =
      record {
        well_formed_for = block_well_formed_for snd v dt (first_lanes k b) g true (first_accepted true tt q);
        sized = rest_sized k b p.sized;
        placed = h;
        is_time_step = p.is_time_step;
        laned = rest_all laned k b p.laned;
        near = rest_near snd dt k b g v p.near;
      }

  pub accepted_cut : CutPlayed (block snd dt (rows b) g v) (block snd dt (rows (first_lanes k b)) g v) (block snd dt (rows (rest_lanes k b)) (quiet g) (block snd dt (rows (first_lanes k b)) g v).voice)
  accepted_cut =
      let xs = rows (first_lanes k b) in
      let ys = rows (rest_lanes k b) in
      subst (λ (ls : List Lane). T (all laned ls) → T (all (near v.setup.sample_rate dt) ls) → CutPlayed (block snd dt ls g v) (block snd dt xs g v) (block snd dt ys (quiet g) (block snd dt xs g v).voice))
      (rows_cut k b)
      (block_cut snd dt xs ys (time_step_above dt p.is_time_step) g v (well_formed_for_parts (length snd) v p.well_formed_for).0)
      p.laned p.near

-- ---- the plain entry

-- the first 2 * k samples of an output, and the rest
first_holds : (k : ℕ) (b : Lanes) (out : List Float) → k ≤ length b.rate → T (holds b out) → T (holds (first_lanes k b) (take (2 * k) out))
first_holds k b out q h =
    let e = eqb→eq (length out) (2 * length b.rate) h in
    eq→eqb (length-take-le (2 * k) out (omega arith) ∙ ap (λ (n : ℕ). 2 * n) (sym (length-take-le k b.rate q)))

rest_holds : (k : ℕ) (b : Lanes) (out : List Float) → T (holds b out) → T (holds (rest_lanes k b) (drop (2 * k) out))
rest_holds k b out h =
    let e = eqb→eq (length out) (2 * length b.rate) h in
    eq→eqb (length-drop (2 * k) out ∙ less (length out) (length b.rate) e ∙ ap (λ (n : ℕ). 2 * n) (sym (length-drop k b.rate)))
  where
    less : (m n : ℕ) → m ≡ 2 * n → m - 2 * k ≡ 2 * (n - k)
    less m n e = omega arith

pub cut_blocks : CutBlocks
cut_blocks snd v dt b g out k x =
    rw (processed_done snd v dt b g out passed, processed_done snd v dt (first_lanes k b) g (take (2 * k) out) first_ok, processed_done snd u dt (rest_lanes k b) (quiet g) (drop (2 * k) out) rest_ok)
    (record { answers = record { accepted = (refl, refl); same = d.same; lowest = d.lowest; alike = d.alike }; samples = d.samples })
  where
    passed : refused_block (length snd) v dt b (holds b out) ≡ 0
    passed = processed_passed snd v dt b g out x.accepted

    p : Accepted (length snd) v dt b (holds b out)
    p = accepted_parts (length snd) v dt b (holds b out) passed

    u : StaticSound
    u = (block snd dt (rows (first_lanes k b)) g v).voice

    d : CutPlayed (block snd dt (rows b) g v) (block snd dt (rows (first_lanes k b)) g v) (block snd dt (rows (rest_lanes k b)) (quiet g) u)
    d = accepted_cut snd v dt b g (holds b out) k p

    first_ok : refused_block (length snd) v dt (first_lanes k b) (holds (first_lanes k b) (take (2 * k) out)) ≡ 0
    first_ok =
        accepted_of (length snd) v dt (first_lanes k b) (holds (first_lanes k b) (take (2 * k) out))
        (first_accepted snd v dt b g (holds b out) k p (holds (first_lanes k b) (take (2 * k) out)) (first_holds k b out x.inside p.placed) x.inside)

    rest_ok : refused_block (length snd) u dt (rest_lanes k b) (holds (rest_lanes k b) (drop (2 * k) out)) ≡ 0
    rest_ok =
        accepted_of (length snd) u dt (rest_lanes k b) (holds (rest_lanes k b) (drop (2 * k) out))
        (rest_accepted snd v dt b g (holds b out) k p (holds (rest_lanes k b) (drop (2 * k) out)) (rest_holds k b out p.placed) x.inside)
