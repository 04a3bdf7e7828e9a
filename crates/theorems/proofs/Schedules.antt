-- Any sequence of accepted blocks compared with the whole stream played as one block of the definition, which has no largest length; so two sequences agree.
-- By induction on the blocks: each is a cut of what is left of the stream. Assumes nothing.
use mathlib.Core.Path.{◌≡◌, refl, sym, ap, ◌∙◌, subst}
use Prim.Native.Nat.{ℕ, ◌+◌, ◌-◌, ◌*◌}
use native.Mathlib.Omega.{arith}
use mathlib.Core.List.{List, [], ◌∷◌, ◌++◌}
use lib.Dec.{T, eqb, eqb→eq}
use lib.ListN.{length, take, drop, length-drop}
use lib.Seq.{take_all}
use lib.Ieee.{Float}
use lib.Ieee.Fits.{and_l, and_r}
use Rattle.numbers.specs.Lists.{all}
use Rattle.numbers.proofs.Lists.{all_append}
use Rattle.sound_lanes.specs.Lanes.{Lane, Lanes, rows, laned, near, first_lanes, rest_lanes}
use Rattle.sound_lanes.proofs.Rows.{beside_take, beside_length, rows_cut}
use Rattle.sound_state.specs.declared.Setup.{Setup}
use Rattle.sound_state.specs.declared.StaticSound.{StaticSound}
use Rattle.sound_state.proofs.WellFormed.{well_formed_for_parts}
use Rattle.sound_block.specs.declared.Signals.{Signals}
use Rattle.sound_slow_path.specs.Plays.{Played, lower, Outcome, accepted_with}
use Rattle.sound_block.specs.Blocks.{block, quiet}
use Rattle.static_sound.specs.Entries.{holds, processed}
use Rattle.sound_block.proofs.Blocks.{block_setup}
use Rattle.static_sound.proofs.Refusals.{Accepted, accepted_parts}
use Rattle.static_sound.proofs.Entries.{time_step_above, processed_passed, processed_done}
use Rattle.theorems.specs.Sums.{sum}
use Rattle.theorems.specs.Alike.{bare, awake}
use Rattle.theorems.specs.Schedules.{Run, alone, followed, played_by, AnySizes}
use Rattle.theorems.proofs.Blocks.{CutPlayed, block_cut}

-- a sequence compared with one block p of the lanes ls; and what its blocks have passed, over all lanes
pub record Whole (dt : Float) (ls : List Lane) (v : StaticSound) (p : Played) (r : Run) : Type 0 where
  pub laned : T (all laned ls)
  pub near : T (all (near v.setup.sample_rate dt) ls)
  pub samples : r.samples ≡ p.samples
  pub same : T (all awake r.cuts) → (r.voice ≡ p.voice) × (r.steps ≡ p.steps)
  pub lowest : T (all awake r.cuts) → r.lowest_count ≡ p.lowest_count
  pub alike : bare r.voice ≡ bare p.voice

-- a block of all remaining frames
rows_all : (k : ℕ) (b : Lanes) → k + 0 ≡ length b.rate → rows (first_lanes k b) ≡ rows b
rows_all k b e =
    let l = beside_length b.fade b.volume b.left b.right b.rate in
    beside_take k b.fade b.volume b.left b.right b.rate ∙ take_all k (rows b) (omega arith)

module _ (snd : List Float) (dt : Float) where
  abbrev done : Lanes → Signals → StaticSound → Outcome
  done b g v = let p = block snd dt (rows b) g v in accepted_with p p.samples

  -- a block alone
  once : (b : Lanes) (g : Signals) (v : StaticSound) (out : List Float) → Accepted (length snd) v dt b (holds b out)
      → Whole dt (rows b) v (block snd dt (rows b) g v) (alone (done b g v))
  once b g v out p = record { laned = p.laned; near = p.near; samples = refl; same = λ a. (refl, refl); lowest = λ a. refl; alike = refl }

  -- a block, and the sequence after it
  next : (b : Lanes) (ys : List Lane) (g : Signals) (v : StaticSound) (out : List Float) (r : Run) → Accepted (length snd) v dt b (holds b out)
      → let u = (block snd dt (rows b) g v).voice in
      Whole dt ys u (block snd dt ys (quiet g) u) r → Whole dt (rows b ++ ys) v (block snd dt (rows b ++ ys) g v) (followed (done b g v) r)
  next b ys g v out r p w =
      record {
        laned = la;
        near = ne;
        samples = ap (λ (z : List Float). q.samples ++ z) w.samples ∙ sym d.samples;
        same = λ a.
            let e = w.same (and_r (awake u) (all awake r.cuts) a) in
            let f = d.same (and_l (awake u) (all awake r.cuts) a) in
            (e.0 ∙ sym f.0, ap (λ (n : ℕ). q.steps + n) e.1 ∙ sym f.1);
        lowest = λ a.
            ap (lower q.lowest_count) (w.lowest (and_r (awake u) (all awake r.cuts) a)) ∙ sym (d.lowest (and_l (awake u) (all awake r.cuts) a));
        alike = w.alike ∙ sym d.alike;
      }
    where
      q : Played
      q = block snd dt (rows b) g v

      u : StaticSound
      u = (block snd dt (rows b) g v).voice

      la : T (all laned (rows b ++ ys))
      la = all_append laned (rows b) ys p.laned w.laned

      ne : T (all (near v.setup.sample_rate dt) (rows b ++ ys))
      ne =
          all_append (near v.setup.sample_rate dt) (rows b) ys p.near
          (subst (λ (s : Setup). T (all (near s.sample_rate dt) ys)) (block_setup snd dt (rows b) g v) w.near)

      d : CutPlayed (block snd dt (rows b ++ ys) g v) (block snd dt (rows b) g v) (block snd dt ys (quiet g) (block snd dt (rows b) g v).voice)
      d = block_cut snd dt (rows b) ys (time_step_above dt p.is_time_step) g v (well_formed_for_parts (length snd) v p.well_formed_for).0 la ne

  -- the result of an accepted block
  taken : (b : Lanes) (g : Signals) (v : StaticSound) (out : List Float) → T (eqb (processed snd v dt b g out).answer.refusal 0)
      → (processed snd v dt b g out ≡ done b g v) × Accepted (length snd) v dt b (holds b out)
  taken b g v out h =
      let e = processed_passed snd v dt b g out (eqb→eq (processed snd v dt b g out).answer.refusal 0 h) in
      (processed_done snd v dt b g out e, accepted_parts (length snd) v dt b (holds b out) e)

  pub run_whole : (k : ℕ) (ks : List ℕ) (b : Lanes) (g : Signals) (v : StaticSound) (out : List Float) → k + sum ks ≡ length b.rate
      → T (played_by snd dt k ks b g v out).accepted → Whole dt (rows b) v (block snd dt (rows b) g v) (played_by snd dt k ks b g v out)
  unfolding played_by
  run_whole k [] b g v out e h =
      let f = first_lanes k b in
      let t = taken f g v (take (2 * k) out) h in
      subst (λ (ls : List Lane). Whole dt ls v (block snd dt ls g v) (alone (processed snd v dt f g (take (2 * k) out)))) (rows_all k b e)
      (subst (λ (o : Outcome). Whole dt (rows f) v (block snd dt (rows f) g v) (alone o)) (sym t.0) (once f g v (take (2 * k) out) t.1))
  run_whole k (j ∷ ks) b g v out e h =
      let f = first_lanes k b in
      let ys = rows (rest_lanes k b) in
      let o = processed snd v dt f g (take (2 * k) out) in
      let r = played_by snd dt j ks (rest_lanes k b) (quiet g) o.answer.voice (drop (2 * k) out) in
      let t = taken f g v (take (2 * k) out) (and_l (eqb o.answer.refusal 0) r.accepted h) in
      let w = run_whole j ks (rest_lanes k b) (quiet g) o.answer.voice (drop (2 * k) out) (left (length b.rate) (sum ks) e ∙ sym (length-drop k b.rate)) (and_r (eqb o.answer.refusal 0) r.accepted h) in
      let x : Whole dt ys (done f g v).answer.voice (block snd dt ys (quiet g) (done f g v).answer.voice) r =
      subst (λ (z : Outcome). Whole dt ys z.answer.voice (block snd dt ys (quiet g) z.answer.voice) r) t.0 w
      in
      subst (λ (ls : List Lane). Whole dt ls v (block snd dt ls g v) (followed o r)) (rows_cut k b)
      (subst (λ (z : Outcome). Whole dt (rows f ++ ys) v (block snd dt (rows f ++ ys) g v) (followed z r)) (sym t.0) (next f ys g v (take (2 * k) out) r t.1 x))
    where
      left : (n s : ℕ) → k + (j + s) ≡ n → j + s ≡ n - k
      left n s e = omega arith

pub any_sizes : AnySizes
any_sizes snd dt b g v k ks out j js mix ways =
    let x = run_whole snd dt k ks b g v out ways.0.all_of_it ways.0.accepted in
    let y = run_whole snd dt j js b g v mix ways.1.all_of_it ways.1.accepted in
    record {
      samples = x.samples ∙ sym y.samples;
      same = λ a. ((x.same a.0).0 ∙ sym (y.same a.1).0, (x.same a.0).1 ∙ sym (y.same a.1).1);
      lowest = λ a. x.lowest a.0 ∙ sym (y.lowest a.1);
      alike = x.alike ∙ sym y.alike;
    }
