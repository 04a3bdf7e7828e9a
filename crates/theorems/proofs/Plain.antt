-- A block into a mix is the plain block, written at its position: the same result, and the plain samples in the mix. So Steps and AllowedEnd hold for it too. Assumes nothing.
use mathlib.Core.Path.{◌≡◌, sym, ap, ◌∙◌, subst}
use mathlib.Core.Logic.{◌⊎◌, inl, inr}
use Prim.Native.Nat.{ℕ, ◌+◌, ◌-◌, ◌*◌, ◌≤◌}
use native.Mathlib.Omega.{arith}
use mathlib.Core.List.{List, ◌++◌, append_assoc}
use lib.Dec.{T}
use lib.ListN.{length, take, drop, length-drop, length-append, take-append-drop}
use lib.Seq.{length-take-le, take_at, drop_at}
use lib.Ieee.{Float}
use lib.Ieee.Fits.{eq→eqb}
use Rattle.sound_lanes.specs.Lanes.{Lanes, rows}
use Rattle.sound_lanes.proofs.Rows.{beside_length}
use Rattle.sound_state.specs.declared.StaticSound.{StaticSound}
use Rattle.sound_block.specs.declared.Signals.{Signals}
use Rattle.sound_slow_path.specs.Plays.{plays, Outcome}
use Rattle.sound_block.specs.Blocks.{block, begun, zeros}
use Rattle.static_sound.specs.Entries.{refused_block, holds, room, mixed, processed, processed_into}
use Rattle.sound_block.proofs.Blocks.{block_length}
use Rattle.static_sound.proofs.Refusals.{Accepted, accepted_parts, accepted_of}
use Rattle.static_sound.proofs.Entries.{processed_done, into_passed, into_done}
use Rattle.theorems.specs.AllowedEnd.{Ended, MixEnds}
use Rattle.theorems.specs.Steps.{Stepped, MixStepsMade}
use Rattle.theorems.proofs.Mix.{Room, room_parts}
use Rattle.theorems.proofs.Steps.{steps_made}
use Rattle.theorems.proofs.AllowedEnd.{block_ends}

-- an outcome's samples put into a mix
abbrev pub put_into : List Float → ℕ → ℕ → Outcome → Outcome
put_into mix from n o = record { answer = o.answer; samples = mixed from n mix o.samples }

-- an accepted block into a mix, and the plain one
module _ (snd : List Float) (v : StaticSound) (dt : Float) (b : Lanes) (g : Signals) (mix : List Float) (from : ℕ)
    (e : (processed_into snd v dt b g mix from).answer.refusal ≡ 0) where
  passed : Accepted (length snd) v dt b (room from (length b.rate) mix)
  passed = accepted_parts (length snd) v dt b (room from (length b.rate) mix) (into_passed snd v dt b g mix from e)

  pub held : Room from (length b.rate) mix
  held = room_parts from (length b.rate) mix passed.placed

  module _ (out : List Float) (h : T (holds b out)) where
    pub plain_passed : refused_block (length snd) v dt b (holds b out) ≡ 0
    plain_passed =
        let p = passed in
        accepted_of (length snd) v dt b (holds b out) (record { well_formed_for = p.well_formed_for; sized = p.sized; placed = h; is_time_step = p.is_time_step; laned = p.laned; near = p.near })

    pub plain_accepted : (processed snd v dt b g out).answer.refusal ≡ 0
    plain_accepted = ap (λ (o : Outcome). o.answer.refusal) (processed_done snd v dt b g out plain_passed)

    pub plain_is : processed_into snd v dt b g mix from ≡ put_into mix from (length b.rate) (processed snd v dt b g out)
    plain_is =
        into_done snd v dt b g mix from (into_passed snd v dt b g mix from e)
        ∙ sym (ap (put_into mix from (length b.rate)) (processed_done snd v dt b g out plain_passed))

    pub plain_length : length (processed snd v dt b g out).samples ≡ 2 * length b.rate
    plain_length =
        ap (λ (o : Outcome). length o.samples) (processed_done snd v dt b g out plain_passed)
        ∙ block_length snd dt (rows b) g v
        ∙ ap (λ (i : ℕ). 2 * i) (beside_length b.fade b.volume b.left b.right b.rate)

-- the block's own samples are an output with space for it
abbrev own : List Float → StaticSound → Float → Lanes → Signals → List Float
own snd v dt b g = (block snd dt (rows b) g v).samples

own_holds : (snd : List Float) (v : StaticSound) (dt : Float) (b : Lanes) (g : Signals) → T (holds b (own snd v dt b g))
own_holds snd v dt b g =
    eq→eqb (block_length snd dt (rows b) g v ∙ ap (λ (i : ℕ). 2 * i) (beside_length b.fade b.volume b.left b.right b.rate))

pub mix_steps_made : MixStepsMade
mix_steps_made snd v dt b g mix from e =
    let out = own snd v dt b g in
    let h = own_holds snd v dt b g in
    let s = steps_made snd v dt b g out (plain_accepted snd v dt b g mix from e out h) in
    subst (Stepped snd v dt b g) (sym (plain_is snd v dt b g mix from e out h)) (record { reported = s.reported; few = s.few; made = s.made })

-- from its frame k on, the mix has the block's samples from k on
mixed_rest : (from n k : ℕ) (mix xs : List Float) → length xs ≡ 2 * n → 2 * from ≤ length mix → k ≤ n
    → take (2 * (n - k)) (drop (2 * (from + k)) (mixed from n mix xs)) ≡ drop (2 * k) xs
mixed_rest from n k mix xs e h q =
    ap (λ (z : List Float). take (2 * (n - k)) (drop (2 * (from + k)) z)) regroup
    ∙ ap (take (2 * (n - k))) (drop_at (front ++ take (2 * k) xs) (drop (2 * k) xs ++ after) (2 * (from + k)) long)
    ∙ take_at (drop (2 * k) xs) after (2 * (n - k)) (length-drop (2 * k) xs ∙ rest (length xs) e)
  where
    front : List Float
    front = take (2 * from) mix

    after : List Float
    after = drop (2 * (from + n)) mix

    rest : (m : ℕ) → m ≡ 2 * n → m - 2 * k ≡ 2 * (n - k)
    rest m e = omega arith

    long : length (take (2 * from) mix ++ take (2 * k) xs) ≡ 2 * (from + k)
    long =
        let a = length-append (take (2 * from) mix) (take (2 * k) xs) in
        let b = length-take-le (2 * from) mix h in
        let c = length-take-le (2 * k) xs (omega (arith, e, q)) in
        omega (arith, a, b, c)

    regroup : take (2 * from) mix ++ (xs ++ drop (2 * (from + n)) mix) ≡ (take (2 * from) mix ++ take (2 * k) xs) ++ (drop (2 * k) xs ++ drop (2 * (from + n)) mix)
    regroup =
        ap (λ (z : List Float). front ++ (z ++ after)) (sym (take-append-drop (2 * k) xs))
        ∙ ap (λ (z : List Float). front ++ z) (append_assoc (take (2 * k) xs) (drop (2 * k) xs) after)
        ∙ sym (append_assoc front (take (2 * k) xs) (drop (2 * k) xs ++ after))

pub mix_ends : MixEnds
mix_ends snd v dt b g mix from k x = go (block_ends snd v dt b g out k (record { accepted = plain_accepted snd v dt b g mix from x.accepted out h; live = x.live; inside = x.inside }))
  where
    out : List Float
    out = own snd v dt b g

    h : T (holds b out)
    h = own_holds snd v dt b g

    n : ℕ
    n = length b.rate

    xs : List Float
    xs = (processed snd v dt b g (own snd v dt b g)).samples

    room_there : 2 * from ≤ length mix
    room_there = let i = (held snd v dt b g mix from x.accepted).inside in omega (arith, i)

    after : StaticSound
    after = (plays snd dt (take k (rows b)) (begun g v)).voice

    there : take (2 * (length b.rate - k)) (drop (2 * (from + k)) (processed_into snd v dt b g mix from).samples) ≡ drop (2 * k) (processed snd v dt b g (own snd v dt b g)).samples
    there =
        ap (λ (o : Outcome). take (2 * (n - k)) (drop (2 * (from + k)) o.samples)) (plain_is snd v dt b g mix from x.accepted out h)
        ∙ mixed_rest from n k mix xs (plain_length snd v dt b g mix from x.accepted out h) room_there x.inside

    go : (after.moving.state ≡ (begun g v).moving.state) ⊎ (Ended after.moving × (drop (2 * k) (processed snd v dt b g (own snd v dt b g)).samples ≡ zeros (drop k (rows b))))
        → (after.moving.state ≡ (begun g v).moving.state) ⊎ (Ended after.moving × (take (2 * (length b.rate - k)) (drop (2 * (from + k)) (processed_into snd v dt b g mix from).samples) ≡ zeros (drop k (rows b))))
    go (inl s) = inl s
    go (inr s) = inr (s.0, there ∙ s.1)
