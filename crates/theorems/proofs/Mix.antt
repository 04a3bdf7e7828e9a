-- A block into a mix, cut in two: the second part begins where the first ends, and the samples around both are unchanged. Assumes nothing.
use mathlib.Core.Path.{◌≡◌, refl, sym, ap, ap₂, ◌∙◌, subst}
use Prim.Native.Nat.{ℕ, ◌+◌, ◌-◌, ◌*◌, ◌/◌, ◌%◌, ◌≤◌}
use native.Mathlib.Omega.{arith}
use mathlib.Core.List.{List, ◌++◌, append_assoc}
use lib.Dec.{T, leb, eqb, leb→le, le→leb, eqb→eq}
use lib.ListN.{length, take, drop, length-append, length-drop}
use lib.Seq.{length-take-le, take_at, drop-append-add, drop-drop}
use lib.Ieee.{Float}
use lib.Ieee.Fits.{and_i, and_l, and_r, eq→eqb}
use Rattle.sound_lanes.specs.Lanes.{Lanes, rows, first_lanes, rest_lanes}
use Rattle.sound_lanes.proofs.Rows.{beside_length}
use Rattle.sound_state.specs.declared.StaticSound.{StaticSound}
use Rattle.sound_block.specs.Blocks.{block, quiet}
use Rattle.static_sound.specs.Entries.{refused_block, room, mixed}
use Rattle.sound_block.proofs.Blocks.{block_length}
use Rattle.static_sound.proofs.Refusals.{Accepted, accepted_parts, accepted_of}
use Rattle.static_sound.proofs.Entries.{into_passed, into_done}
use Rattle.theorems.specs.Mix.{CutMixes}
use Rattle.theorems.proofs.Blocks.{CutPlayed}
use Rattle.theorems.proofs.Cut.{first_accepted, rest_accepted, accepted_cut}

-- ---- the samples of a mix

-- writing into a mix does not change its length
pub mixed_length : (from n : ℕ) (mix xs : List Float) → length xs ≡ 2 * n → 2 * (from + n) ≤ length mix → length (mixed from n mix xs) ≡ length mix
mixed_length from n mix xs e h =
    let a = length-append (take (2 * from) mix) (xs ++ drop (2 * (from + n)) mix) in
    let b = length-append xs (drop (2 * (from + n)) mix) in
    let c = length-take-le (2 * from) mix (omega arith) in
    let d = length-drop (2 * (from + n)) mix in
    omega arith

-- k frames, and m frames after them
pub mixed_cut : (from k m : ℕ) (mix xs ys : List Float) → length xs ≡ 2 * k → 2 * (from + k) ≤ length mix
    → mixed (from + k) m (mixed from k mix xs) ys ≡ mixed from (k + m) mix (xs ++ ys)
mixed_cut from k m mix xs ys e h =
    ap (λ (z : List Float). take (2 * (from + k)) z ++ (ys ++ drop (2 * (from + k + m)) z)) (sym (append_assoc front xs after))
    ∙ ap₂ (λ (x y : List Float). x ++ (ys ++ y)) (take_at (front ++ xs) after (2 * (from + k)) long) rest
    ∙ append_assoc front xs (ys ++ drop (2 * (from + (k + m))) mix)
    ∙ ap (λ (z : List Float). front ++ z) (sym (append_assoc xs ys (drop (2 * (from + (k + m))) mix)))
  where
    front : List Float
    front = take (2 * from) mix

    after : List Float
    after = drop (2 * (from + k)) mix

    long : length (take (2 * from) mix ++ xs) ≡ 2 * (from + k)
    long =
        let a = length-append (take (2 * from) mix) xs in
        let b = length-take-le (2 * from) mix (omega arith) in
        omega arith

    past : (n : ℕ) → n ≡ 2 * (from + k) → 2 * (from + k + m) ≡ n + 2 * m
    past n e = omega arith

    joined : 2 * (from + k) + 2 * m ≡ 2 * (from + (k + m))
    joined = omega arith

    rest : drop (2 * (from + k + m)) ((take (2 * from) mix ++ xs) ++ drop (2 * (from + k)) mix) ≡ drop (2 * (from + (k + m))) mix
    rest =
        ap (λ (n : ℕ). drop n ((front ++ xs) ++ after)) (past (length (front ++ xs)) long)
        ∙ drop-append-add (front ++ xs) after (2 * m)
        ∙ drop-drop (2 * m) (2 * (from + k)) mix
        ∙ ap (λ (n : ℕ). drop n mix) joined

-- ---- the space for each part

pub record Room (from n : ℕ) (mix : List Float) : Type 0 where
  pub even : length mix % 2 ≡ 0
  pub inside : from + n ≤ length mix / 2

pub room_parts : (from n : ℕ) (mix : List Float) → T (room from n mix) → Room from n mix
room_parts from n mix h =
    let a = eqb (length mix % 2) 0 in
    let b = leb (from + n) (length mix / 2) in
    record { even = eqb→eq (length mix % 2) 0 (and_l a b h); inside = leb→le (from + n) (length mix / 2) (and_r a b h) }

pub room_of : (from n : ℕ) (mix : List Float) → Room from n mix → T (room from n mix)
room_of from n mix h =
    and_i (eqb (length mix % 2) 0) (leb (from + n) (length mix / 2)) (eq→eqb h.even) (le→leb (from + n) (length mix / 2) h.inside)

pub cut_mixes : CutMixes
cut_mixes snd v dt b g mix from k x =
    rw (into_done snd v dt b g mix from passed, into_done snd v dt first g mix from first_ok, into_done snd u dt rest (quiet g) after (from + k) rest_ok)
    (record { answers = record { accepted = (refl, refl); same = d.same; lowest = d.lowest; alike = d.alike }; samples = same })
  where
    first : Lanes
    first = first_lanes k b

    rest : Lanes
    rest = rest_lanes k b

    -- the frames of the block and of its two parts
    n : ℕ
    n = length b.rate

    j : ℕ
    j = length first.rate

    m : ℕ
    m = length rest.rate

    passed : refused_block (length snd) v dt b (room from n mix) ≡ 0
    passed = into_passed snd v dt b g mix from x.accepted

    p : Accepted (length snd) v dt b (room from n mix)
    p = accepted_parts (length snd) v dt b (room from n mix) passed

    held : Room from n mix
    held = room_parts from n mix p.placed

    u : StaticSound
    u = (block snd dt (rows first) g v).voice

    xs : List Float
    xs = (block snd dt (rows first) g v).samples

    ys : List Float
    ys = (block snd dt (rows rest) (quiet g) u).samples

    after : List Float
    after = mixed from j mix xs

    d : CutPlayed (block snd dt (rows b) g v) (block snd dt (rows first) g v) (block snd dt (rows rest) (quiet g) u)
    d = accepted_cut snd v dt b g (room from n mix) k p

    short : j ≡ k
    short = length-take-le k b.rate x.inside

    left : m ≡ n - k
    left = length-drop k b.rate

    long : length xs ≡ 2 * j
    long = block_length snd dt (rows first) g v ∙ ap (λ (i : ℕ). 2 * i) (beside_length first.fade first.volume first.left first.right first.rate)

    inside : 2 * (from + j) ≤ length mix
    inside = omega (arith, short, held.inside)

    kept : length after ≡ length mix
    kept = mixed_length from j mix xs long inside

    first_room : T (room from j mix)
    first_room = room_of from j mix (record { even = held.even; inside = omega (arith, short, held.inside) })

    rest_room : T (room (from + k) m after)
    rest_room =
        room_of (from + k) m after
        (record {
          even = ap (λ (i : ℕ). i % 2) kept ∙ held.even;
          inside = subst (λ (i : ℕ). from + k + m ≤ i / 2) (sym kept) (omega (arith, left, held.inside));
        })

    first_ok : refused_block (length snd) v dt first (room from j mix) ≡ 0
    first_ok = accepted_of (length snd) v dt first (room from j mix) (first_accepted snd v dt b g (room from n mix) k p (room from j mix) first_room x.inside)

    rest_ok : refused_block (length snd) u dt rest (room (from + k) m after) ≡ 0
    rest_ok =
        accepted_of (length snd) u dt rest (room (from + k) m after)
        (rest_accepted snd v dt b g (room from n mix) k p (room (from + k) m after) rest_room x.inside)

    total : n ≡ j + m
    total = omega (arith, short, left)

    same : mixed from n mix (block snd dt (rows b) g v).samples ≡ mixed (from + k) m after ys
    same =
        ap₂ (λ (i : ℕ) (z : List Float). mixed from i mix z) total d.samples
        ∙ sym (mixed_cut from j m mix xs ys long inside)
        ∙ ap (λ (i : ℕ). mixed (from + i) m after ys) short
