-- A scan frame by frame: one scan and then another, one more frame, and where it begins. By induction on the rates. Assumes nothing.
use mathlib.Core.Path.{◌≡◌, refl, sym, ap, ap₂, ◌∙◌, subst}
use Prim.Native.Nat.{ℕ, zero, suc, ◌+◌, ◌*◌, ◌<◌}
use native.Mathlib.Nat.{add-zero, zero-add, add_assoc, not-suc-le-zero, le_of_suc-le-suc}
use native.Mathlib.Numerals.{add-one}
use native.Mathlib.Omega.{arith}
use mathlib.Core.Bool.{Bool}
use mathlib.Core.List.{List, [], ◌∷◌, ◌++◌, append_assoc}
use lib.Dec.{T}
use lib.ListN.{length, get_or, take, set, length-set}
use lib.Seq.{take-suc, take-suc-set}
use lib.Ieee.{Float, nan, binary64, add}
use lib.Ieee.Fits.{and_l, and_r}
use Rattle.numbers.specs.declared.Stepped.{Stepped}
use Rattle.numbers.specs.Words.{proper, whole, part, stepped, advance}
use Rattle.numbers.specs.Lists.{all}
use Rattle.frame.specs.declared.Frame.{Frame}
use Rattle.sound_lanes.specs.Lanes.{slow}
use Rattle.sound_track.specs.declared.Track.{Track}
use Rattle.sound_track.specs.Tracks.{nexts, On, roomy}
use Rattle.sound_track.proofs.Tracks.{on_nexts, nexts_add}
use Rattle.sound_fast_reading.specs.declared.Way.{Way}
use Rattle.sound_fast_reading.specs.declared.Reached.{Reached}
use Rattle.sound_fast_reading.specs.Scans.{Scan, then_scan, scans, scan_from, read_on, Scannable, Scanned}
use Rattle.sound_fast_reading.proofs.Moves.{moved_few, moved_below, roomy_both}

-- one scan, and another after it
abbrev pub joined_scans : Scan → Scan → Scan
joined_scans a b = record { at = b.at; fractional_position = b.fractional_position; steps = a.steps + b.steps; samples = a.samples ++ b.samples }

abbrev pub place : ℕ → Float → ℕ → ℕ → Reached
place q f steps i = record { at = q; fractional_position = f; steps = steps; next = i }

-- two stores after the first k
two : (l : List Float) (k : ℕ) (x y : Float) → k + 1 < length l → take (k + 2) (set (set l k x) (k + 1) y) ≡ take k l ++ (x ∷ y ∷ [])
two l k x y h =
    let h₁ : k < length l = omega arith in
    let h₂ : suc k < length (set l k x) = simp length-set (omega arith) in
    let e : k + 2 ≡ suc (suc k) = omega arith in
    rw (e, add-one, take-suc-set (set l k x) (suc k) y h₂, take-suc-set l k x h₁, append_assoc)

pub all_at : (p : Float → Bool) (l : List Float) (i : ℕ) → i < length l → T (all p l) → T (p (get_or l i nan))
all_at p [] i h k = absurd (not-suc-le-zero h)
all_at p (x ∷ l) zero h k = and_l (p x) (all p l) k
all_at p (x ∷ l) (suc i) h k = all_at p l i (le_of_suc-le-suc h) (and_r (p x) (all p l) k)

-- frame i begins at sample 2 * i, however the code computes it
pub stored_at : (o out : List Float) (k i : ℕ) (x : Frame) → k ≡ 2 * i → o ≡ set (set out k x.left) (k + 1) x.right → o ≡ set (set out (2 * i) x.left) (2 * i + 1) x.right
stored_at o out k i x e h = h ∙ ap (λ (k : ℕ). set (set out k x.left) (k + 1) x.right) e

-- writing a frame does not change the length of an output
pub stored_length : (o out : List Float) (i : ℕ) (x : Frame) → o ≡ set (set out (2 * i) x.left) (2 * i + 1) x.right → length o ≡ length out
stored_length o out i x e = ap length e ∙ length-set (set out (2 * i) x.left) (2 * i + 1) x.right ∙ length-set out (2 * i) x.left

module _ (snd : List Float) (k : Track) (hz : ℕ) (dt : Float) where
  pub scans_append : (xs ys : List Float) (q : ℕ) (f : Float)
      → let a = scans snd k hz dt xs q f in
      scans snd k hz dt (xs ++ ys) q f ≡ joined_scans a (scans snd k hz dt ys a.at a.fractional_position)
  unfolding scans
  scans_append [] ys q f =
      let b = scans snd k hz dt ys q f in
      ap (λ (n : ℕ). record { at = b.at; fractional_position = b.fractional_position; steps = n; samples = b.samples }) (sym (zero-add b.steps))
  scans_append (r ∷ xs) ys q f =
      let x = add binary64 f (advance hz r dt) in
      let a = scans snd k hz dt xs (nexts (whole x) k q) (part x) in
      let b = scans snd k hz dt ys a.at a.fractional_position in
      ap (then_scan (read_on snd k q f) (whole x)) (scans_append xs ys (nexts (whole x) k q) (part x))
      ∙ ap (λ (n : ℕ). record { at = b.at; fractional_position = b.fractional_position; steps = n; samples = (read_on snd k q f).left ∷ (read_on snd k q f).right ∷ (a.samples ++ b.samples) }) (sym (add_assoc (whole x) a.steps b.steps))

  -- a scan ends as many positions further as it has steps
  pub scans_at : (rs : List Float) (q : ℕ) (f : Float) → let a = scans snd k hz dt rs q f in a.at ≡ nexts a.steps k q
  unfolding scans nexts
  scans_at [] q f = refl
  scans_at (r ∷ rs) q f =
      let x = add binary64 f (advance hz r dt) in
      let p = nexts (whole x) k q in
      scans_at rs p (part x) ∙ sym (nexts_add (whole x) (scans snd k hz dt rs p (part x)).steps k q)

  -- one frame
  one : (r : Float) (q : ℕ) (f : Float)
      → let x = add binary64 f (advance hz r dt) in
      scans snd k hz dt (r ∷ []) q f ≡ record { at = nexts (whole x) k q; fractional_position = part x; steps = whole x; samples = (read_on snd k q f).left ∷ (read_on snd k q f).right ∷ [] }
  unfolding scans
  one r q f =
      let x = add binary64 f (advance hz r dt) in
      ap (λ (n : ℕ). record { at = nexts (whole x) k q; fractional_position = part x; steps = n; samples = (read_on snd k q f).left ∷ (read_on snd k q f).right ∷ [] }) (add-zero (whole x))

module _ (snd : List Float) (w : Way) (rates : List Float) where
  -- the scan made so far, as the code has it
  abbrev made : ℕ → Float → ℕ → List Float → Scan
  made q f steps samples = record { at = q; fractional_position = f; steps = steps; samples = samples }

  abbrev tr : Track
  tr = w.track

  abbrev hz : ℕ
  hz = w.sample_rate

  one_more : (i steps q : ℕ) (f : Float) (out : List Float) (x : Frame) (a : Stepped) (z : ℕ) → i < length rates → 2 * i + 1 < length out
      → scan_from snd w (take i rates) ≡ made q f steps (take (2 * i) out)
      → x ≡ read_on snd tr q f → a ≡ stepped (add binary64 f (advance hz (get_or rates i nan) w.dt)) → z ≡ nexts a.steps tr q
      → scan_from snd w (take (i + 1) rates) ≡ made z a.fraction (steps + a.steps) (take (2 * (i + 1)) (set (set out (2 * i) x.left) (2 * i + 1) x.right))
  one_more i steps q f out x a z h long e ex ea ez =
      let r = get_or rates i nan in
      let dt = w.dt in
      let d : 2 * (i + 1) ≡ 2 * i + 2 = omega arith in
      ap (λ (n : ℕ). scan_from snd w (take n rates)) (add-one i)
      ∙ ap (scan_from snd w) (take-suc rates i nan h)
      ∙ scans_append snd tr hz dt (take i rates) (r ∷ []) w.at w.fractional_position
      ∙ ap (λ (b : Scan). joined_scans b (scans snd tr hz dt (r ∷ []) b.at b.fractional_position)) e
      ∙ ap (joined_scans (made q f steps (take (2 * i) out))) (one snd tr hz dt r q f)
      ∙ sym
      (ap (λ (z : ℕ). made z a.fraction (steps + a.steps) (take (2 * (i + 1)) (set (set out (2 * i) x.left) (2 * i + 1) x.right))) ez
      ∙ ap₂ (λ (x : Frame) (a : Stepped). made (nexts a.steps tr q) a.fraction (steps + a.steps) (take (2 * (i + 1)) (set (set out (2 * i) x.left) (2 * i + 1) x.right))) ex ea
      ∙ ap (λ (n : ℕ). made (nexts (whole (add binary64 f (advance hz r dt))) tr q) (part (add binary64 f (advance hz r dt))) (steps + whole (add binary64 f (advance hz r dt))) (take n (set (set out (2 * i) (read_on snd tr q f).left) (2 * i + 1) (read_on snd tr q f).right))) d
      ∙ ap (made (nexts (whole (add binary64 f (advance hz r dt))) tr q) (part (add binary64 f (advance hz r dt))) (steps + whole (add binary64 f (advance hz r dt)))) (two out (2 * i) (read_on snd tr q f).left (read_on snd tr q f).right long))

  -- a scan of no frames
  pub scanned_none : (out : List Float) → length out ≡ 2 * length rates → On tr w.at → T (proper w.fractional_position) → T (roomy tr 0 w.at)
      → Scanned snd w rates (place w.at w.fractional_position 0 0) out
  unfolding scans
  scanned_none out len o p r = record { within = omega arith; few = omega arith; as_long = len; begins = o; on = o; below = p; room = r; so_far = refl }

  -- one more frame, however the code names the position, the steps, the frame and the output after it
  pub scanned_more : (i steps q : ℕ) (f : Float) (out : List Float) (x : Frame) (a : Stepped) (z s n : ℕ) (o : List Float) → Scannable snd w rates → Scanned snd w rates (place q f steps i) out
      → i < length rates → x ≡ read_on snd tr q f → a ≡ stepped (add binary64 f (advance hz (get_or rates i nan) w.dt)) → z ≡ nexts a.steps tr q → T (roomy tr a.steps q)
      → s ≡ steps + a.steps → n ≡ i + 1 → o ≡ set (set out (2 * i) x.left) (2 * i + 1) x.right
      → Scanned snd w rates (place z a.fraction s n) o
  scanned_more i steps q f out x a z s n o updatable h l ex ea ez room es en eo =
      let sl = all_at (slow hz w.dt) rates i l updatable.slow in
      let came : q ≡ nexts steps tr w.at =
      sym (ap (λ (r : Scan). r.at) h.so_far) ∙ scans_at snd tr hz w.dt (take i rates) w.at w.fractional_position ∙ ap (λ (r : Scan). nexts r.steps tr w.at) h.so_far in
      let few = moved_few hz w.dt f (get_or rates i nan) h.below updatable.is_time_step sl a ea in
      let all-few = h.few in
      let more : Scanned snd w rates (place z a.fraction (steps + a.steps) (i + 1)) (set (set out (2 * i) x.left) (2 * i + 1) x.right) =
      record {
        within = omega arith;
        few = omega arith;
        as_long = simp length-set h.as_long;
        begins = h.begins;
        on = subst (On tr) (sym ez) (on_nexts a.steps tr q h.on);
        below = moved_below hz w.dt f (get_or rates i nan) h.below updatable.is_time_step sl a ea;
        room = roomy_both tr w.at steps a.steps h.begins h.room (subst (λ (p : ℕ). T (roomy tr a.steps p)) came room);
        so_far = one_more i steps q f out x a z l (long (length out) (length rates) i h.as_long l) h.so_far ex ea ez;
      } in
      subst (Scanned snd w rates (place z a.fraction s n)) (sym eo)
      (subst (λ (n : ℕ). Scanned snd w rates (place z a.fraction s n) (set (set out (2 * i) x.left) (2 * i + 1) x.right)) (sym en)
      (subst (λ (s : ℕ). Scanned snd w rates (place z a.fraction s (i + 1)) (set (set out (2 * i) x.left) (2 * i + 1) x.right)) (sym es) more))
    where
      long : (m n i : ℕ) → m ≡ 2 * n → i < n → 2 * i + 1 < m
      long m n i e h = omega arith
