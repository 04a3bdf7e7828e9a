-- A silent block and one that plays: the samples, a count of at most 4, and what stays unchanged. The signals of a later part change nothing.
-- By cases. Assumes nothing.
use mathlib.Core.Path.{◌≡◌, refl, ap, ap₂, ◌∙◌}
use Prim.Native.Nat.{◌*◌, ◌≤◌}
use native.Mathlib.Nat.{le_refl}
use mathlib.Core.Bool.{Bool, true, false, cond}
use mathlib.Core.List.{List, [], ◌∷◌, ◌++◌}
use lib.ListN.{length}
use lib.Ieee.{Float}
use Rattle.numbers.specs.Words.{positive_zero}
use Rattle.playback_state_manager.specs.declared.PlaybackState.{PlaybackState}
use Rattle.playback_state_manager.specs.declared.StartAnswer.{StartAnswer}
use Rattle.playback_state_manager.specs.declared.StartAnswer.TheVariants.{Waiting, Now}
use Rattle.playback_state_manager.specs.States.{settled}
use Rattle.playback_state_manager.proofs.Stays.{settled_quiet}
use Rattle.start_time.specs.declared.StartSignal.{StartSignal}
use Rattle.start_time.specs.declared.StartSignal.TheVariants.{Answer, Tick}
use Rattle.start_time.specs.Ticks.{reached, answering, again}
use Rattle.sound_lanes.specs.Lanes.{Lane}
use Rattle.sound_state.specs.declared.StaticSound.{StaticSound}
use Rattle.sound_slow_path.proofs.Plays.{two_more, plays_lowest, plays_length, plays_setup}
use Rattle.sound_block.specs.declared.Signals.{Signals}
use Rattle.sound_slow_path.specs.Plays.{plays}
use Rattle.sound_block.specs.Blocks.{zeros, silent, come, given_up, begun, live, block, quiet}

pub zeros_append : (xs ys : List Lane) → zeros (xs ++ ys) ≡ zeros xs ++ zeros ys
unfolding zeros
zeros_append [] ys = refl
zeros_append (l ∷ xs) ys = ap (λ (z : List Float). positive_zero ∷ positive_zero ∷ z) (zeros_append xs ys)

pub zeros_length : (ls : List Lane) → length (zeros ls) ≡ 2 * length ls
unfolding zeros
zeros_length [] = refl
zeros_length (l ∷ ls) = two_more (length (zeros ls)) (length ls) (zeros_length ls)

module _ (snd : List Float) (dt : Float) where
  -- ---- the block, by whether it is silent

  pub block_live : (ls : List Lane) (g : Signals) (v : StaticSound) → live (begun g v) ≡ true → block snd dt ls g v ≡ plays snd dt ls (begun g v)
  unfolding block
  block_live ls g v e = ap (λ (b : Bool). cond b (plays snd dt ls (begun g v)) (silent ls (begun g v))) e

  pub block_silent : (ls : List Lane) (g : Signals) (v : StaticSound) → live (begun g v) ≡ false → block snd dt ls g v ≡ silent ls (begun g v)
  unfolding block
  block_silent ls g v e = ap (λ (b : Bool). cond b (plays snd dt ls (begun g v)) (silent ls (begun g v))) e

  pub block_length : (ls : List Lane) (g : Signals) (v : StaticSound) → length (block snd dt ls g v).samples ≡ 2 * length ls
  unfolding block
  block_length ls g v = go (live (begun g v))
    where
      go : (b : Bool) → length (cond b (plays snd dt ls (begun g v)) (silent ls (begun g v))).samples ≡ 2 * length ls
      go true = plays_length snd dt ls (begun g v)
      go false = zeros_length ls

  pub block_lowest : (ls : List Lane) (g : Signals) (v : StaticSound) → (block snd dt ls g v).lowest_count ≤ 4
  unfolding block
  block_lowest ls g v = go (live (begun g v))
    where
      go : (b : Bool) → (cond b (plays snd dt ls (begun g v)) (silent ls (begun g v))).lowest_count ≤ 4
      go true = plays_lowest snd dt ls (begun g v)
      go false = le_refl 4

  pub block_setup : (ls : List Lane) (g : Signals) (v : StaticSound) → (block snd dt ls g v).voice.setup ≡ v.setup
  unfolding block
  block_setup ls g v = go (live (begun g v))
    where
      go : (b : Bool) → (cond b (plays snd dt ls (begun g v)) (silent ls (begun g v))).voice.setup ≡ v.setup
      go true = plays_setup snd dt ls (begun g v)
      go false = refl

-- ---- the signals of a later part change nothing

-- a due tick, reached or not, as an answer
abbrev by_tick : Bool → StartAnswer
by_tick r = cond r Now Waiting

come_quiet : (b : Bool) → come Waiting b ≡ b
come_quiet true = refl
come_quiet false = refl

come_twice : (r b : Bool) → come (by_tick r) (come (by_tick r) b) ≡ come (by_tick r) b
come_twice true true = refl
come_twice true false = refl
come_twice false true = refl
come_twice false false = refl

given_tick : (r b : Bool) (s : PlaybackState) → given_up (by_tick r) b s ≡ s
given_tick true true s = refl
given_tick true false s = refl
given_tick false true s = refl
given_tick false false s = refl

-- a start that has taken a signal: the same signal in a later part leaves it
abbrev pub Taken : Signals → Bool → Type 0
Taken g b = come (answering (again g.start)) b ≡ b

come_again : (s : StartSignal) (b : Bool) → come (answering (again s)) (come (answering s) b) ≡ come (answering s) b
come_again (Answer a) b = come_quiet (come a b)
come_again (Tick due now) b = come_twice (reached due now) b

given_again : (s : StartSignal) (b : Bool) (t : PlaybackState) → given_up (answering (again s)) b t ≡ t
given_again (Answer a) b t = given_tick false b t
given_again (Tick due now) b t = given_tick (reached due now) b t

pub begun_taken : (g : Signals) (v : StaticSound) → Taken g (begun g v).started
unfolding begun
begun_taken g v = come_again g.start v.started

pub begun_quiet : (g : Signals) (v : StaticSound) → Taken g v.started → begun (quiet g) v ≡ v
unfolding begun
begun_quiet g v h =
    ap₂ (λ (b : Bool) (s : PlaybackState). record {
      setup = v.setup;
      playback_rate = v.playback_rate;
      started = b;
      fractional_position = v.fractional_position;
      moving = record { state = s; transport = v.moving.transport; resampler = v.moving.resampler; wraps = v.moving.wraps };
    })
    h
    (given_again g.start v.started (settled false Waiting v.moving.state) ∙ settled_quiet v.moving.state)
