-- A sequence of accepted blocks into a mix is the plain sequence, written at its position; so two sequences agree as the plain ones do.
-- What is accepted as a plain sequence is accepted into a mix with enough space. By induction on the blocks. Assumes nothing.
use mathlib.Core.Path.{◌≡◌, refl, sym, ap, ap₂, ◌∙◌, subst}
use Prim.Native.Nat.{ℕ, ◌+◌, ◌-◌, ◌*◌, ◌/◌, ◌%◌, ◌≤◌}
use native.Mathlib.Omega.{arith}
use mathlib.Core.List.{List, [], ◌∷◌, ◌++◌}
use lib.Dec.{T, eqb, eqb→eq}
use lib.ListN.{length, take, drop, length-drop, replicate, length-replicate}
use lib.Seq.{length-take-le}
use lib.Ieee.{Float}
use lib.Ieee.Fits.{and_i, and_l, and_r, eq→eqb}
use Rattle.numbers.specs.Words.{positive_zero}
use Rattle.numbers.specs.Lists.{all}
use Rattle.sound_lanes.specs.Lanes.{Lanes, first_lanes, rest_lanes}
use Rattle.sound_state.specs.declared.StaticSound.{StaticSound}
use Rattle.sound_block.specs.declared.Signals.{Signals}
use Rattle.sound_block.specs.Blocks.{quiet}
use Rattle.sound_slow_path.specs.Plays.{lower, Outcome}
use Rattle.static_sound.specs.Entries.{holds, room, mixed, processed, processed_into}
use Rattle.static_sound.proofs.Refusals.{accepted_parts, accepted_of}
use Rattle.static_sound.proofs.Entries.{processed_passed, into_done}
use Rattle.theorems.specs.Sums.{sum}
use Rattle.theorems.specs.Alike.{bare, awake}
use Rattle.theorems.specs.Schedules.{Run, played_by, mixed_by, AnySizesMix, AllAcceptedMix}
use Rattle.theorems.proofs.Mix.{mixed_length, mixed_cut, Room, room_parts, room_of}
use Rattle.theorems.proofs.Plain.{held, plain_accepted, plain_is, plain_length}
use Rattle.theorems.proofs.Schedules.{any_sizes}
use Rattle.theorems.proofs.Streams.{all_accepted}

-- a sequence into a mix compared with the plain sequence r
record AsPlain (from n : ℕ) (mix : List Float) (m r : Run) : Type 0 where
  accepted : T r.accepted
  voice : m.voice ≡ r.voice
  samples : m.samples ≡ mixed from n mix r.samples
  steps : m.steps ≡ r.steps
  lowest : m.lowest_count ≡ r.lowest_count
  cuts : m.cuts ≡ r.cuts

-- k samples a channel of an output that is long enough
first_holds : (k : ℕ) (b : Lanes) (out : List Float) → k ≤ length b.rate → length out ≡ 2 * length b.rate → T (holds (first_lanes k b) (take (2 * k) out))
first_holds k b out q e = eq→eqb (length-take-le (2 * k) out (omega arith) ∙ ap (λ (n : ℕ). 2 * n) (sym (length-take-le k b.rate q)))

rest_length : (k : ℕ) (b : Lanes) (out : List Float) → length out ≡ 2 * length b.rate → length (drop (2 * k) out) ≡ 2 * length (drop k b.rate)
rest_length k b out e = length-drop (2 * k) out ∙ twice (length out) (length b.rate) e ∙ ap (λ (n : ℕ). 2 * n) (sym (length-drop k b.rate))
  where
    twice : (m n : ℕ) → m ≡ 2 * n → m - 2 * k ≡ 2 * (n - k)
    twice m n e = omega arith

module _ (snd : List Float) (dt : Float) where
  as_plain : (k : ℕ) (ks : List ℕ) (b : Lanes) (g : Signals) (v : StaticSound) (mix : List Float) (from : ℕ) (out : List Float)
      → k + sum ks ≡ length b.rate → length out ≡ 2 * length b.rate → T (mixed_by snd dt k ks b g v mix from).accepted
      → AsPlain from (length b.rate) mix (mixed_by snd dt k ks b g v mix from) (played_by snd dt k ks b g v out)
  unfolding mixed_by played_by
  as_plain k [] b g v mix from out e l h =
      let q : k ≤ length b.rate = omega arith in
      let f = first_lanes k b in
      let xs = take (2 * k) out in
      let a = eqb→eq (processed_into snd v dt f g mix from).answer.refusal 0 h in
      let t = first_holds k b out q l in
      let i = plain_is snd v dt f g mix from a xs t in
      let c : length (take k b.rate) ≡ length b.rate = length-take-le k b.rate q ∙ (omega arith) in
      record {
        accepted = eq→eqb (plain_accepted snd v dt f g mix from a xs t);
        voice = ap (λ (o : Outcome). o.answer.voice) i;
        samples = ap (λ (o : Outcome). o.samples) i ∙ ap (λ (n : ℕ). mixed from n mix (processed snd v dt f g xs).samples) c;
        steps = ap (λ (o : Outcome). o.answer.steps) i;
        lowest = ap (λ (o : Outcome). o.answer.lowest_count) i;
        cuts = refl;
      }
  as_plain k (j ∷ ks) b g v mix from out e l h =
      let q : k ≤ length b.rate = omega arith in
      let f = first_lanes k b in
      let xs = take (2 * k) out in
      let o = processed_into snd v dt f g mix from in
      let p = processed snd v dt f g xs in
      let m = mixed_by snd dt j ks (rest_lanes k b) (quiet g) o.answer.voice o.samples (from + k) in
      let a = eqb→eq o.answer.refusal 0 (and_l (eqb o.answer.refusal 0) m.accepted h) in
      let t = first_holds k b out q l in
      let i = plain_is snd v dt f g mix from a xs t in
      let s = ap (λ (o : Outcome). o.answer.voice) i in
      let w : AsPlain (from + k) (length (drop k b.rate)) o.samples m (played_by snd dt j ks (rest_lanes k b) (quiet g) o.answer.voice (drop (2 * k) out)) =
      as_plain j ks (rest_lanes k b) (quiet g) o.answer.voice o.samples (from + k) (drop (2 * k) out) (left (length b.rate) (sum ks) e ∙ sym (length-drop k b.rate))
      (rest_length k b out l) (and_r (eqb o.answer.refusal 0) m.accepted h)
      in
      let w' : AsPlain (from + k) (length (drop k b.rate)) o.samples m (played_by snd dt j ks (rest_lanes k b) (quiet g) p.answer.voice (drop (2 * k) out)) =
      subst (λ (u : StaticSound). AsPlain (from + k) (length (drop k b.rate)) o.samples m (played_by snd dt j ks (rest_lanes k b) (quiet g) u (drop (2 * k) out))) s w
      in
      let r = played_by snd dt j ks (rest_lanes k b) (quiet g) p.answer.voice (drop (2 * k) out) in
      record {
        accepted = and_i (eqb p.answer.refusal 0) r.accepted (eq→eqb (plain_accepted snd v dt f g mix from a xs t)) w'.accepted;
        voice = w'.voice;
        samples =
            w'.samples
            ∙ ap (λ (z : List Float). mixed (from + k) (length (drop k b.rate)) z r.samples) (ap (λ (o : Outcome). o.samples) i)
            ∙ cut q (held snd v dt f g mix from a).inside (plain_length snd v dt f g mix from a xs t) r.samples;
        steps = ap₂ (λ (x y : ℕ). x + y) (ap (λ (o : Outcome). o.answer.steps) i) w'.steps;
        lowest = ap₂ lower (ap (λ (o : Outcome). o.answer.lowest_count) i) w'.lowest;
        cuts = ap₂ (λ (x : StaticSound) (y : List StaticSound). x ∷ y) s w'.cuts;
      }
    where
      left : (n s : ℕ) → k + (j + s) ≡ n → j + s ≡ n - k
      left n s e = omega arith

      cut : k ≤ length b.rate → from + length (take k b.rate) ≤ length mix / 2 → length (processed snd v dt (first_lanes k b) g (take (2 * k) out)).samples ≡ 2 * length (take k b.rate) → (ys : List Float)
          → mixed (from + k) (length (drop k b.rate)) (mixed from (length (take k b.rate)) mix (processed snd v dt (first_lanes k b) g (take (2 * k) out)).samples) ys
          ≡ mixed from (length b.rate) mix ((processed snd v dt (first_lanes k b) g (take (2 * k) out)).samples ++ ys)
      cut q i z ys =
          let c = length-take-le k b.rate q in
          let d = length-drop k b.rate in
          let xs = (processed snd v dt (first_lanes k b) g (take (2 * k) out)).samples in
          ap (λ (n : ℕ). mixed (from + k) (length (drop k b.rate)) (mixed from n mix xs) ys) c
          ∙ mixed_cut from k (length (drop k b.rate)) mix xs ys (z ∙ ap (λ (n : ℕ). 2 * n) c) (omega (arith, i, c))
          ∙ ap (λ (n : ℕ). mixed from n mix (xs ++ ys)) (whole (length (drop k b.rate)) (length b.rate) q d)
        where
          whole : (m n : ℕ) → k ≤ n → m ≡ n - k → k + m ≡ n
          whole m n q d = omega arith

pub any_sizes_mix : AnySizesMix
any_sizes_mix snd dt b g v k ks j js mix from ways =
    let e = ways.0.all_of_it in
    let f = ways.1.all_of_it in
    let out = replicate (2 * length b.rate) positive_zero in
    let l = length-replicate (2 * length b.rate) positive_zero in
    let x = as_plain snd dt k ks b g v mix from out e l ways.0.accepted in
    let y = as_plain snd dt j js b g v mix from out f l ways.1.accepted in
    let a = any_sizes snd dt b g v k ks out j js out (record { all_of_it = e; accepted = x.accepted }, record { all_of_it = f; accepted = y.accepted }) in
    record {
      samples = x.samples ∙ ap (mixed from (length b.rate) mix) a.samples ∙ sym y.samples;
      same = λ c.
          let z = a.same (subst (λ (us : List StaticSound). T (all awake us)) x.cuts c.0, subst (λ (us : List StaticSound). T (all awake us)) y.cuts c.1) in
          (x.voice ∙ z.0 ∙ sym y.voice, x.steps ∙ z.1 ∙ sym y.steps);
      lowest = λ c.
          x.lowest
          ∙ a.lowest (subst (λ (us : List StaticSound). T (all awake us)) x.cuts c.0, subst (λ (us : List StaticSound). T (all awake us)) y.cuts c.1)
          ∙ sym y.lowest;
      alike = ap bare x.voice ∙ a.alike ∙ sym (ap bare y.voice);
    }

-- ---- an acceptable stream is accepted into a mix with enough space

-- what is accepted into an output of its own is accepted wherever there is space
into_accepted : (snd : List Float) (v : StaticSound) (dt : Float) (b : Lanes) (g : Signals) (out mix : List Float) (from : ℕ)
    → (processed snd v dt b g out).answer.refusal ≡ 0 → T (room from (length b.rate) mix) → (processed_into snd v dt b g mix from).answer.refusal ≡ 0
into_accepted snd v dt b g out mix from e h =
    let r = room from (length b.rate) mix in
    let p = accepted_parts (length snd) v dt b (holds b out) (processed_passed snd v dt b g out e) in
    ap (λ (o : Outcome). o.answer.refusal)
    (into_done snd v dt b g mix from (accepted_of (length snd) v dt b r (record { well_formed_for = p.well_formed_for; sized = p.sized; placed = h; is_time_step = p.is_time_step; laned = p.laned; near = p.near })))

module _ (snd : List Float) (dt : Float) where
  from_plain : (k : ℕ) (ks : List ℕ) (b : Lanes) (g : Signals) (v : StaticSound) (mix : List Float) (from : ℕ) (out : List Float)
      → k + sum ks ≡ length b.rate → length out ≡ 2 * length b.rate → T (room from (length b.rate) mix) → T (played_by snd dt k ks b g v out).accepted
      → T (mixed_by snd dt k ks b g v mix from).accepted
  unfolding mixed_by played_by
  from_plain k [] b g v mix from out e l r h =
      let c : length (take k b.rate) ≡ length b.rate = length-take-le k b.rate (omega arith) ∙ (omega arith) in
      eq→eqb (into_accepted snd v dt (first_lanes k b) g (take (2 * k) out) mix from (eqb→eq (processed snd v dt (first_lanes k b) g (take (2 * k) out)).answer.refusal 0 h)
      (subst (λ (n : ℕ). T (room from n mix)) (sym c) r))
  from_plain k (j ∷ ks) b g v mix from out e l r h =
      let q : k ≤ length b.rate = omega arith in
      let f = first_lanes k b in
      let xs = take (2 * k) out in
      let p = processed snd v dt f g xs in
      let rest = played_by snd dt j ks (rest_lanes k b) (quiet g) p.answer.voice (drop (2 * k) out) in
      let o = processed_into snd v dt f g mix from in
      let a = into_accepted snd v dt f g xs mix from (eqb→eq p.answer.refusal 0 (and_l (eqb p.answer.refusal 0) rest.accepted h)) (first_room q) in
      let t = first_holds k b out q l in
      let i = plain_is snd v dt f g mix from a xs t in
      let s = ap (λ (o : Outcome). o.answer.voice) i in
      let w =
      from_plain j ks (rest_lanes k b) (quiet g) o.answer.voice o.samples (from + k) (drop (2 * k) out) (left (length b.rate) (sum ks) e ∙ sym (length-drop k b.rate))
      (rest_length k b out l)
      (subst (λ (z : List Float). T (room (from + k) (length (drop k b.rate)) z)) (sym (ap (λ (o : Outcome). o.samples) i)) (rest_room q p.samples (plain_length snd v dt f g mix from a xs t)))
      (subst (λ (u : StaticSound). T (played_by snd dt j ks (rest_lanes k b) (quiet g) u (drop (2 * k) out)).accepted) (sym s) (and_r (eqb p.answer.refusal 0) rest.accepted h))
      in
      and_i (eqb o.answer.refusal 0) (mixed_by snd dt j ks (rest_lanes k b) (quiet g) o.answer.voice o.samples (from + k)).accepted (eq→eqb a) w
    where
      there : Room from (length b.rate) mix
      there = room_parts from (length b.rate) mix r

      left : (n s : ℕ) → k + (j + s) ≡ n → j + s ≡ n - k
      left n s e = omega arith

      first_room : k ≤ length b.rate → T (room from (length (take k b.rate)) mix)
      first_room q =
          let c = length-take-le k b.rate q in
          room_of from (length (take k b.rate)) mix (record { even = there.even; inside = omega (arith, c, there.inside) })

      rest_room : k ≤ length b.rate → (ys : List Float) → length ys ≡ 2 * length (take k b.rate) → T (room (from + k) (length (drop k b.rate)) (mixed from (length (take k b.rate)) mix ys))
      rest_room q ys z =
          let c = length-take-le k b.rate q in
          let d = length-drop k b.rate in
          let m = mixed from (length (take k b.rate)) mix ys in
          let kept : length m ≡ length mix = mixed_length from (length (take k b.rate)) mix ys z (omega (arith, c, there.inside)) in
          room_of (from + k) (length (drop k b.rate)) m
          (record {
            even = ap (λ (i : ℕ). i % 2) kept ∙ there.even;
            inside = subst (λ (i : ℕ). from + k + length (drop k b.rate) ≤ i / 2) (sym kept) (omega (arith, d, there.inside));
          })

pub all_accepted_mix : AllAcceptedMix
all_accepted_mix snd dt b g v k ks mix from x =
    let out = replicate (2 * length b.rate) positive_zero in
    let l = length-replicate (2 * length b.rate) positive_zero in
    from_plain snd dt k ks b g v mix from out x.all_of_it l x.holds
    (all_accepted snd dt b g v k ks out (record { stream = x.stream; holds = l; all_of_it = x.all_of_it; few = x.few }))
