-- Four frames of a scan, in either direction, with a rate for each frame or one for all. Assumes nothing.
use mathlib.Core.Path.{◌≡◌, refl, ◌∙◌}
use Prim.Native.Nat.{ℕ, ◌+◌, ◌-◌, ◌*◌, ◌≤◌, ◌<◌}
use native.Mathlib.Omega.{arith}
use mathlib.Core.List.{List}
use lib.ListN.{length, get_or, set}
use lib.Ieee.{Float, nan}
use Rattle.numbers.specs.declared.Stepped.{Stepped}
use Rattle.numbers.specs.Words.{advance}
use Rattle.frame.specs.declared.Frame.{Frame}
use Rattle.sound_fast_reading.specs.declared.Way.{Way}
use Rattle.sound_fast_reading.specs.Moves.{Move}
use Rattle.sound_fast_reading.proofs.Scans.{stored_at, stored_length}
use Rattle.sound_fast_straight.specs.declared.Moves.{Moves}

-- ---- numbers

pub small : (n : ℕ) → n ≤ 4096 → n < 8192
small n h = omega arith

pub less : (i n : ℕ) → i + 3 < n → n - (i + 4) < n - i
less i n h = omega arith

-- ---- four frames written

-- a frame written at sample k
abbrev pub put : List Float → ℕ → Frame → List Float
put out k x = set (set out k x.left) (k + 1) x.right

fits : (o i j n : ℕ) → o ≡ 2 * n → i + 3 < n → j ≤ 6 → 2 * i + j + 1 < o
fits o i j n e l h = omega arith

even : (i j k : ℕ) → k ≡ 2 * j → 2 * i + k ≡ 2 * (i + j)
even i j k e = omega arith

-- frame i of n and the three after it: each is written inside the output
module _ (n i : ℕ) (l : i + 3 < n) (out : List Float) (e₀ : length out ≡ 2 * n) where
  module _ (x₁ : Frame) (o₁ : List Float) (e₁ : o₁ ≡ put out (2 * i) x₁) where
    long1 : length o₁ ≡ 2 * n
    long1 = stored_length o₁ out i x₁ e₁ ∙ e₀

    pub fits2 : 2 * i + 2 + 1 < length o₁
    fits2 = fits (length o₁) i 2 n long1 l (omega arith)

    module _ (x₂ : Frame) (o₂ : List Float) (e₂ : o₂ ≡ put o₁ (2 * i + 2) x₂) where
      long2 : length o₂ ≡ 2 * n
      long2 = stored_length o₂ o₁ (i + 1) x₂ (stored_at o₂ o₁ (2 * i + 2) (i + 1) x₂ (even i 1 2 refl) e₂) ∙ long1

      pub fits3 : 2 * i + 4 + 1 < length o₂
      fits3 = fits (length o₂) i 4 n long2 l (omega arith)

      module _ (x₃ : Frame) (o₃ : List Float) (e₃ : o₃ ≡ put o₂ (2 * i + 4) x₃) where
        pub fits4 : 2 * i + 6 + 1 < length o₃
        fits4 = fits (length o₃) i 6 n (stored_length o₃ o₂ (i + 2) x₃ (stored_at o₃ o₂ (2 * i + 4) (i + 2) x₃ (even i 2 4 refl) e₃) ∙ long2) l (omega arith)

-- ---- the steps of four frames

abbrev pub FourMoves : Way → List Float → Float → ℕ → Moves → Type 0
FourMoves w rates f i m =
    Move f (advance w.sample_rate (get_or rates i nan) w.dt) m.first
    × (Move m.first.fraction (advance w.sample_rate (get_or rates (i + 1) nan) w.dt) m.second
    × (Move m.second.fraction (advance w.sample_rate (get_or rates (i + 2) nan) w.dt) m.third
    × Move m.third.fraction (advance w.sample_rate (get_or rates (i + 3) nan) w.dt) m.fourth))

-- ---- four frames more

-- From a law of one frame in a direction: At is where a scan has come to, Reads what is read at a place, Leads where steps lead.
module _ (w : Way) (rates : List Float) (At : ℕ → Float → ℕ → ℕ → List Float → Type 0) (Reads : ℕ → Float → Frame → Type 0) (Leads : ℕ → ℕ → ℕ → Type 0)
    (more : (i steps p : ℕ) (f : Float) (out : List Float) (x : Frame) (a : Stepped) (z s n : ℕ) (o : List Float) → At p f steps i out → i < length rates → Reads p f x
    → Move f (advance w.sample_rate (get_or rates i nan) w.dt) a → Leads p a.steps z → s ≡ steps + a.steps → n ≡ i + 1 → o ≡ put out (2 * i) x → At z a.fraction s n o) where
  pub four_more : (i steps p : ℕ) (f : Float) (out : List Float) (m : Moves) (x₁ x₂ x₃ x₄ : Frame) (p₁ p₂ p₃ p₄ s : ℕ) (o₁ o₂ o₃ o₄ : List Float)
      → At p f steps i out → i + 3 < length rates → FourMoves w rates f i m
      → Leads p m.first.steps p₁ → Leads p₁ m.second.steps p₂ → Leads p₂ m.third.steps p₃ → Leads p₃ m.fourth.steps p₄
      → Reads p f x₁ → Reads p₁ m.first.fraction x₂ → Reads p₂ m.second.fraction x₃ → Reads p₃ m.third.fraction x₄
      → o₁ ≡ put out (2 * i) x₁ → o₂ ≡ put o₁ (2 * i + 2) x₂ → o₃ ≡ put o₂ (2 * i + 4) x₃ → o₄ ≡ put o₃ (2 * i + 6) x₄
      → s ≡ steps + (m.first.steps + m.second.steps + m.third.steps + m.fourth.steps) → At p₄ m.fourth.fraction s (i + 4) o₄
  four_more i steps p f out m x₁ x₂ x₃ x₄ p₁ p₂ p₃ p₄ s o₁ o₂ o₃ o₄ h l ms l₁ l₂ l₃ l₄ r₁ r₂ r₃ r₄ e₁ e₂ e₃ e₄ es =
      let s₁ = steps + m.first.steps in
      let s₂ = s₁ + m.second.steps in
      let s₃ = s₂ + m.third.steps in
      let a = more i steps p f out x₁ m.first p₁ s₁ (i + 1) o₁ h (omega (arith, l)) r₁ ms.0 l₁ refl refl e₁ in
      let b = more (i + 1) s₁ p₁ m.first.fraction o₁ x₂ m.second p₂ s₂ (i + 2) o₂ a (omega (arith, l)) r₂ ms.1.0 l₂ refl (omega arith) (stored_at o₂ o₁ (2 * i + 2) (i + 1) x₂ (even i 1 2 refl) e₂) in
      let c = more (i + 2) s₂ p₂ m.second.fraction o₂ x₃ m.third p₃ s₃ (i + 3) o₃ b (omega (arith, l)) r₃ ms.1.1.0 l₃ refl (omega arith) (stored_at o₃ o₂ (2 * i + 4) (i + 2) x₃ (even i 2 4 refl) e₃) in
      more (i + 3) s₃ p₃ m.third.fraction o₃ x₄ m.fourth p₄ s (i + 4) o₄ c l r₄ ms.1.1.1 l₄ (es ∙ sums steps m.first.steps m.second.steps m.third.steps m.fourth.steps) (omega arith) (stored_at o₄ o₃ (2 * i + 6) (i + 3) x₄ (even i 3 6 refl) e₄)
    where
      sums : (t a b c d : ℕ) → t + (a + b + c + d) ≡ t + a + b + c + d
      sums t a b c d = omega arith
