-- One iteration of a scan that wraps: two frames more. Assumes nothing.
use mathlib.Core.Path.{◌≡◌, refl, sym, ◌∙◌, subst}
use Prim.Native.Nat.{ℕ, ◌+◌, ◌-◌, ◌*◌, ◌≤◌, ◌<◌}
use native.Mathlib.Omega.{arith}
use mathlib.Core.Bool.{Bool, true}
use mathlib.Core.List.{List}
use lib.Dec.{T}
use lib.ListN.{length, get_or, set}
use lib.Ieee.{Float, nan}
use Rattle.numbers.specs.declared.Stepped.{Stepped}
use Rattle.numbers.specs.Words.{advance}
use Rattle.frame.specs.declared.Frame.{Frame}
use Rattle.sound_lanes.specs.Lanes.{slow}
use Rattle.sound_track.specs.Tracks.{nexts, roomy}
use Rattle.sound_track.proofs.Same.{holds}
use Rattle.sound_fast_reading.specs.declared.Way.{Way}
use Rattle.sound_fast_reading.specs.declared.Reached.{Reached}
use Rattle.sound_fast_reading.specs.Moves.{Move}
use Rattle.sound_fast_reading.specs.Scans.{read_on, Scannable, Scanned}
use Rattle.sound_fast_reading.proofs.Moves.{roomy_first, roomy_rest}
use Rattle.sound_fast_reading.proofs.Scans.{place, scanned_more, all_at, stored_at, stored_length}

less1 : (i n : ℕ) → i + 1 < n → i < n
less1 i n h = omega arith

two : (i : ℕ) → i + 2 ≡ i + 1 + 1
two i = omega arith

even1 : (i : ℕ) → 2 * i + 2 ≡ 2 * (i + 1)
even1 i = omega arith

-- a frame written at sample k
abbrev put : List Float → ℕ → Frame → List Float
put out k x = set (set out k x.left) (k + 1) x.right

-- x and y are the two frames, a and b their steps, q the place of the second and z the place after it
pub two_more : (snd : List Float) (w : Way) (rates : List Float) → Scannable snd w rates → (r : Reached) (out : List Float) → Scanned snd w rates r out → r.next + 1 < length rates
    → (x : Frame) (o : List Float) → o ≡ put out (2 * r.next) x → (y : Frame) (p : List Float) → p ≡ put o (2 * r.next + 2) y
    → (a b : Stepped) (q z : ℕ) (room : Bool)
    → Move r.fractional_position (advance w.sample_rate (get_or rates r.next nan) w.dt) a
    → Move a.fraction (advance w.sample_rate (get_or rates (r.next + 1) nan) w.dt) b
    → room ≡ roomy w.track (a.steps + b.steps) r.at → room ≡ true
    → q ≡ nexts a.steps w.track r.at → z ≡ nexts b.steps w.track q
    → x ≡ read_on snd w.track r.at r.fractional_position → y ≡ read_on snd w.track q a.fraction
    → Scanned snd w rates (place z b.fraction (r.steps + a.steps + b.steps) (r.next + 2)) p
two_more snd w rates ready r out h l x o e y p d a b q z room ma mb er nr eq ez ex ey =
    let k = w.track in
    let all : T (roomy k (a.steps + b.steps) r.at) = holds _ (sym er ∙ nr) in
    let one =
    scanned_more snd w rates r.next r.steps r.at r.fractional_position out x a q (r.steps + a.steps) (r.next + 1) o ready h (less1 _ _ l) ex ma.is eq
    (roomy_first k r.at a.steps b.steps h.on all) refl refl (stored_at o out (2 * r.next) r.next x refl e) in
    scanned_more snd w rates (r.next + 1) (r.steps + a.steps) q a.fraction o y b z (r.steps + a.steps + b.steps) (r.next + 2) p ready one l ey mb.is ez
    (subst (λ (q : ℕ). T (roomy k b.steps q)) (sym eq) (roomy_rest k r.at a.steps b.steps h.on all)) refl (two r.next) (stored_at p o (2 * r.next + 2) (r.next + 1) y (even1 r.next) d)
