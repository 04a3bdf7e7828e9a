-- Half of all ticks are reached: below due the wrapped difference runs over the upper half of the range, from due on over the lower half, so over each once.
-- A block does not change the start after its signals. Assumes nothing.
use mathlib.Core.Path.{◌≡◌, refl, sym, ap, ap₂, ◌∙◌, subst}
use Prim.Native.Nat.{ℕ, zero, suc, ◌+◌, ◌-◌, ◌%◌, ◌<◌, ◌≤◌}
use native.Mathlib.Omega.{arith}
use native.Mathlib.Nat.{le_of_lt, add_assoc, add_comm, zero-add, add-sub_of_le, add-mod_right, mod-eq_of_lt}
use mathlib.Core.Bool.{Bool, true, false, ◌||◌, cond}
use mathlib.Core.List.{List}
use lib.Dec.{ltb}
use lib.Ieee.{Float}
use borrow.Author.Tests.{lt-ltb, le-ltb}
use Rattle.playback_state_manager.specs.declared.StartAnswer.TheVariants.{Now, Waiting}
use Rattle.start_time.specs.declared.StartSignal.{StartSignal}
use Rattle.start_time.specs.declared.StartSignal.TheVariants.{Tick}
use Rattle.start_time.specs.Ticks.{tick_range, half, reached, answering}
use Rattle.start_time.proofs.Ticks.{reached_moved}
use Rattle.sound_lanes.specs.Lanes.{Lane, rows}
use Rattle.sound_state.specs.declared.StaticSound.{StaticSound}
use Rattle.sound_slow_path.specs.Plays.{plays}
use Rattle.sound_slow_path.proofs.Plays.{plays_started}
use Rattle.sound_block.specs.declared.Signals.{Signals}
use Rattle.sound_block.specs.Blocks.{silent, come, begun, live, block}
use Rattle.static_sound.proofs.Entries.{processed_passed, processed_done, into_passed, into_done}
use Rattle.theorems.specs.StartTicks.{how_many, HalfReached, MovedTogether, TickStarts, MixTickStarts}

-- ---- counting

count_same : (p q : ℕ → Bool) (n : ℕ) → ((i : ℕ) → i < n → p i ≡ q i) → how_many p n ≡ how_many q n
unfolding how_many
count_same p q zero h = refl
count_same p q (suc n) h = ap₂ (λ (b : Bool) (k : ℕ). cond b 1 0 + k) (h n (omega arith)) (count_same p q n (λ i l. h i (omega (arith, l))))

none_more : (a : ℕ) → a + 0 ≡ a
none_more a = omega arith

one_more : (a b : ℕ) → a + suc b ≡ suc (a + b)
one_more a b = omega arith

count_add : (p : ℕ → Bool) (a b : ℕ) → how_many p (a + b) ≡ how_many (λ (i : ℕ). p (a + i)) b + how_many p a
unfolding how_many
count_add p a zero = ap (λ (n : ℕ). how_many p n) (none_more a) ∙ sym (zero-add (how_many p a))
count_add p a (suc b) =
    ap (λ (n : ℕ). how_many p n) (one_more a b) ∙ ap (λ (k : ℕ). cond (p (a + b)) 1 0 + k) (count_add p a b)
    ∙ sym (add_assoc (cond (p (a + b)) 1 0) (how_many (λ (i : ℕ). p (a + i)) b) (how_many p a))

count_all : (p : ℕ → Bool) (n : ℕ) → ((i : ℕ) → i < n → p i ≡ true) → how_many p n ≡ n
unfolding how_many
count_all p zero h = refl
count_all p (suc n) h =
    ap₂ (λ (b : Bool) (k : ℕ). cond b 1 0 + k) (h n (omega arith)) (count_all p n (λ i l. h i (omega (arith, l)))) ∙ first n
  where
    first : (k : ℕ) → 1 + k ≡ suc k
    first k = omega arith

count_none : (p : ℕ → Bool) (n : ℕ) → ((i : ℕ) → i < n → p i ≡ false) → how_many p n ≡ 0
unfolding how_many
count_none p zero h = refl
count_none p (suc n) h = ap₂ (λ (b : Bool) (k : ℕ). cond b 1 0 + k) (h n (omega arith)) (count_none p n (λ i l. h i (omega (arith, l))))

-- of the first h + d numbers h lie below h
count_below : (h d : ℕ) → how_many (λ (i : ℕ). ltb i h) (h + d) ≡ h
count_below h d =
    count_add (λ (i : ℕ). ltb i h) h d
    ∙ ap₂ (λ (x y : ℕ). x + y)
    (count_none (λ (i : ℕ). ltb (h + i) h) d (λ i l. le-ltb (h + i) h (omega arith)))
    (count_all (λ (i : ℕ). ltb i h) h (λ i l. lt-ltb i h l))
    ∙ zero-add h

-- a range of d + e numbers, due at d
module _ (h d e : ℕ) (more : 0 < e) (few : h ≤ d + e) where
  abbrev at : ℕ → Bool
  at n = ltb ((n + e) % (d + e)) h

  from_due : (i : ℕ) → i < e → at (d + i) ≡ ltb i h
  from_due i l = ap (λ (x : ℕ). ltb x h) (ap (λ (x : ℕ). x % (d + e)) (turned i d e) ∙ add-mod_right i (d + e) ∙ mod-eq_of_lt (omega (arith, l)))
    where
      turned : (i d e : ℕ) → d + i + e ≡ i + (d + e)
      turned i d e = omega arith

  before_due : (i : ℕ) → i < d → at i ≡ ltb (e + i) h
  before_due i l = ap (λ (x : ℕ). ltb x h) (mod-eq_of_lt (omega (arith, l)) ∙ add_comm i e)

  counted : how_many at (d + e) ≡ h
  counted =
      count_add at d e
      ∙ ap₂ (λ (x y : ℕ). x + y) (count_same (λ (i : ℕ). at (d + i)) (λ (i : ℕ). ltb i h) e from_due) (count_same at (λ (i : ℕ). ltb (e + i) h) d before_due)
      ∙ add_comm (how_many (λ (i : ℕ). ltb i h) e) (how_many (λ (i : ℕ). ltb (e + i) h) d)
      ∙ sym (count_add (λ (i : ℕ). ltb i h) e d)
      ∙ ap (λ (n : ℕ). how_many (λ (i : ℕ). ltb i h) n) (add_comm e d ∙ sym (add-sub_of_le few))
      ∙ count_below h (d + e - h)

halves : (m h due : ℕ) → due < m → h ≤ m → how_many (λ (now : ℕ). ltb ((now + (m - due)) % m) h) m ≡ h
halves m h due l k =
    let s : due + (m - due) ≡ m = add-sub_of_le (le_of_lt l) in
    subst (λ (x : ℕ). how_many (λ (now : ℕ). ltb ((now + (m - due)) % x) h) x ≡ h) s
    (counted h due (m - due) (omega arith) (subst (λ (x : ℕ). h ≤ x) (sym s) k))

pub half_reached : HalfReached
half_reached due l = halves tick_range half due l (omega arith)

pub moved_together : MovedTogether
moved_together due now k x = reached_moved due now k x.0 x.1

-- ---- whether a voice has started after a block

come_tick : (r b : Bool) → come (cond r Now Waiting) b ≡ (b || r)
come_tick true true = refl
come_tick true false = refl
come_tick false true = refl
come_tick false false = refl

block_started : (snd : List Float) (dt : Float) (ls : List Lane) (g : Signals) (v : StaticSound) (due now : ℕ) → g.start ≡ Tick due now
    → (block snd dt ls g v).voice.started ≡ (v.started || reached due now)
unfolding block begun
block_started snd dt ls g v due now e =
    go (live (begun g v)) ∙ ap (λ (s : StartSignal). come (answering s) v.started) e ∙ come_tick (reached due now) v.started
  where
    go : (b : Bool) → (cond b (plays snd dt ls (begun g v)) (silent ls (begun g v))).voice.started ≡ (begun g v).started
    go true = plays_started snd dt ls (begun g v)
    go false = refl

pub tick_starts : TickStarts
tick_starts snd v dt b g out due now x =
    rw (processed_done snd v dt b g out (processed_passed snd v dt b g out x.accepted)) (block_started snd dt (rows b) g v due now x.tick)

pub mix_tick_starts : MixTickStarts
mix_tick_starts snd v dt b g mix from due now x =
    rw (into_done snd v dt b g mix from (into_passed snd v dt b g mix from x.accepted)) (block_started snd dt (rows b) g v due now x.tick)
