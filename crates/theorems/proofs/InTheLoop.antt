-- Once in the loop, always in the loop: steps and seeks stay inside, so no update ends the voice, and a sequence of calls is one call after the other. Assumes nothing.
use Rattle.std.specs.Prelude.{Option, Some, None}
use mathlib.Core.Path.{◌≡◌, refl, sym, ap, ap₂, ◌∙◌, subst}
use Prim.Native.Nat.{ℕ, zero, suc, ◌+◌, ◌-◌, ◌≤◌, ◌<◌}
use native.Mathlib.Nat.{lt_of_lt_of_le}
use native.Mathlib.Omega.{arith}
use mathlib.Core.Bool.{Bool, true, false, false≢true, not, ◌&&◌, ◌||◌, cond}
use mathlib.Core.List.{List, [], ◌∷◌}
use lib.Dec.{T, leb, ltb, eqb}
use lib.Ieee.{Float}
use borrow.Author.Tests.{leb-false, ltb-true, ltb-false, lt-ltb, eqb-true, eqb-false}
use Rattle.numbers.specs.Words.{whole, positive_zero}
use Rattle.numbers.specs.Frames.{cut_off}
use Rattle.playback_position.specs.Positions.{within}
use Rattle.playback_position.proofs.Ranges.{ranged_parts}
use Rattle.playback_state_manager.specs.declared.PlaybackState.{PlaybackState}
use Rattle.playback_state_manager.specs.declared.PlaybackState.TheVariants.{Playing, Pausing, Paused, WaitingToResume, Resuming, Stopping, Stopped}
use Rattle.playback_state_manager.specs.declared.StartAnswer.{StartAnswer}
use Rattle.playback_state_manager.specs.declared.StartAnswer.TheVariants.{Waiting, Now, Never}
use Rattle.start_time.specs.Ticks.{answering}
use Rattle.playback_state_manager.specs.States.{unless_stopped, pausing, stopping, settled, advancing}
use Rattle.transport.specs.declared.Transport.{Transport}
use Rattle.transport.specs.Moves.{cycled, under, over, forward, backward, seek}
use Rattle.transport.specs.WellFormed.{Inside}
use Rattle.transport.proofs.Wraps.{wrapped_lt}
use Rattle.transport.proofs.WellFormed.{forward_inside, backward_inside}
use Rattle.resampler.specs.Windows.{is_empty}
use Rattle.sound_lanes.specs.Lanes.{Lane, rows}
use Rattle.sound_state.specs.declared.Setup.{Setup}
use Rattle.sound_update.specs.declared.Moving.{Moving}
use Rattle.sound_update.specs.declared.Slice.{Slice}
use Rattle.sound_state.specs.declared.StaticSound.{StaticSound}
use Rattle.sound_state.specs.Voices.{length_of_slice, slice_of}
use Rattle.sound_update.specs.Updates.{pushed, stepped, updated, updates}
use Rattle.sound_state.proofs.WellFormed.{well_formed_parts}
use Rattle.sound_commands.specs.declared.LoopCommand.{LoopCommand}
use Rattle.sound_commands.specs.declared.LoopCommand.TheVariants as loop
use Rattle.sound_commands.specs.declared.ResumeCommand.{ResumeCommand}
use Rattle.sound_commands.specs.declared.ResumeCommand.TheVariants as resume
use Rattle.sound_commands.specs.declared.Commands.{Commands}
use Rattle.sound_commands.specs.Commands.{CommandsAnswer}
use Rattle.sound_commands.specs.Commands.{target_by, target_to, looped, woken, ordered, before_seeks, jumped, refilled, sought, sought_by, sought_to, obeyed, commanded}
use Rattle.sound_commands.proofs.Orders.{by_setup, obeyed_setup}
use Rattle.sound_commands.proofs.Answers.{commanded_passed, commanded_done, commanded_refused}
use Rattle.loop_table.specs.declared.LoopTable.{LoopTable}
use Rattle.loop_table.specs.Tables.{LoopFound}
use Rattle.loop_table.specs.Tables.{found}
use Rattle.take_loop.specs.Taking.{loop_command_of, taken}
use Rattle.sound_block.specs.declared.Signals.{Signals}
use Rattle.sound_slow_path.specs.Plays.{total, after_frame, plays}
use Rattle.sound_block.specs.Blocks.{begun, live, silent, block, given_up}
use Rattle.static_sound.specs.Entries.{processed, processed_into}
use Rattle.sound_block.proofs.Blocks.{block_setup}
use Rattle.static_sound.proofs.Entries.{processed_passed, processed_done, processed_refused, into_passed, into_done, into_refused}
use Rattle.theorems.specs.InTheLoop.{Call, Block, Mix, Command, Take, Stretch, after, accepted, after_all, some_accepted, changes_loop, reloops, is_never, stops, ending, InTheLoop}

-- ---- the transport's moves

module _ (s e : ℕ) where
  abbrev Range : ℕ → Type 0
  Range x = (s ≤ x) × (x < e)

  wrapped : (a b : ℕ) → s < e → Range (s + cycled a b (e - s))
  wrapped a b h = (omega arith, wrapped_lt s e a b h)

  -- where a seek from inside the loop leads
  sought_range : (p q : ℕ) → Range p → Range (cond (ltb p q) (under (Some (s, e)) q) (over (Some (s, e)) q))
  sought_range p q h = go (ltb p q) refl
    where
      more : s < e
      more = let a = h.0 in let b = h.1 in omega arith

      up : (b : Bool) → leb e q ≡ b → p < q → Range (cond b (s + cycled q s (e - s)) q)
      up true k l = wrapped q s more
      up false k l = let m = leb-false e q k in let a = h.0 in (omega arith, omega arith)

      down : (b : Bool) → ltb q s ≡ b → q ≤ p → Range (cond b (s + cycled q s (e - s)) q)
      down true k l = wrapped q s more
      down false k l = let m = ltb-false q s k in let a = h.1 in (omega arith, omega arith)

      go : (b : Bool) → ltb p q ≡ b → Range (cond b (under (Some (s, e)) q) (over (Some (s, e)) q))
      go true k = up (leb e q) refl (ltb-true p q k)
      go false k = down (ltb q s) refl (ltb-false p q k)

  seek_inside : (n : ℕ) (t : Transport) (q : ℕ) → e ≤ n → Inside s e t → Inside s e (seek n t q)
  unfolding seek
  seek_inside n t q k h =
      let x = cond (ltb t.position q) (under t.loop_region q) (over t.loop_region q) in
      let r : Range x = subst (λ (g : Option (ℕ × ℕ)). Range (cond (ltb t.position q) (under g q) (over g q))) (sym h.loop) (sought_range t.position q (h.from, h.to)) in
      record { loop = h.loop; going = ap₂ (λ (a b : Bool). a && b) h.going (lt-ltb x n (lt_of_lt_of_le r.1 k)); from = r.0; to = r.1 }

  -- ---- the moving part: in the loop, and in the same playback state

  pub record Holds (m w : Moving) : Type 0 where
    pub inside : Inside s e w.transport
    pub state : w.state ≡ m.state

  stayed : (m : Moving) → Inside s e m.transport → Holds m m
  stayed m h = record { inside = h; state = refl }

  onward : (m n w : Moving) → Holds m n → Holds n w → Holds m w
  onward m n w a b = record { inside = b.inside; state = b.state ∙ a.state }

  module _ (snd : List Float) (c : Slice) (k : e ≤ c.num_frames) where
    updated_holds : (m : Moving) → Inside s e m.transport → Holds m (updated snd c m)
    unfolding updated stepped
    updated_holds m h =
        let t = go c.backwards in
        record { inside = t; state = ap (λ (b : Bool). cond (not b && is_empty (pushed snd c m)) Stopped m.state) t.going }
      where
        go : (b : Bool) → Inside s e (cond b (backward m.transport) (forward c.num_frames m.transport))
        go true = backward_inside s e m.transport h
        go false = forward_inside c.num_frames s e m.transport k h

    updates_hold : (n : ℕ) (m : Moving) → Inside s e m.transport → Holds m (updates n snd c m)
    unfolding updates
    updates_hold zero m h = stayed m h
    updates_hold (suc n) m h =
        let a = updated_holds m h in
        onward m (updated snd c m) (updates n snd c (updated snd c m)) a (updates_hold n (updated snd c m) a.inside)

  -- ---- a voice whose loop lies in its N frames

  pub record In (v : StaticSound) : Type 0 where
    pub fits : e ≤ length_of_slice v.setup
    pub inside : Inside s e v.moving.transport

  plays_hold : (snd : List Float) (dt : Float) (ls : List Lane) (v : StaticSound) → In v → Holds v.moving (plays snd dt ls v).voice.moving
  unfolding plays after_frame
  plays_hold snd dt [] v h = stayed v.moving h.inside
  plays_hold snd dt (l ∷ ls) v h =
      let u = after_frame snd dt v l in
      let a = updates_hold snd (slice_of v) h.fits (whole (total dt v l)) v.moving h.inside in
      onward v.moving u.moving (plays snd dt ls u).voice.moving a (plays_hold snd dt ls u (record { fits = h.fits; inside = a.inside }))

  -- a block: the state is what its signals made of it
  block_holds : (snd : List Float) (dt : Float) (ls : List Lane) (g : Signals) (v : StaticSound) → In v → Holds (begun g v).moving (block snd dt ls g v).voice.moving
  unfolding block begun
  block_holds snd dt ls g v h = go (live (begun g v))
    where
      i : In (begun g v)
      i = record { fits = h.fits; inside = h.inside }

      go : (b : Bool) → Holds (begun g v).moving (cond b (plays snd dt ls (begun g v)) (silent ls (begun g v))).voice.moving
      go true = plays_hold snd dt ls (begun g v) i
      go false = stayed (begun g v).moving h.inside

  -- a seek
  sought_holds : (snd : List Float) (v : StaticSound) (q : ℕ) → In v → Holds v.moving (sought snd v q).moving
  unfolding sought
  sought_holds snd v q h = go (advancing v.moving.state)
    where
      j : Inside s e (seek (length_of_slice v.setup) v.moving.transport q)
      j = seek_inside (length_of_slice v.setup) v.moving.transport q h.fits h.inside

      go : (b : Bool) → Holds v.moving (cond b (refilled snd (slice_of v) (jumped v q)) (jumped v q))
      go true = record { inside = j; state = refl }
      go false = record { inside = j; state = refl }

  by_holds : (snd : List Float) (v : StaticSound) (a : Option Float) → In v → Holds v.moving (sought_by snd v a).moving
  by_holds snd v None h = stayed v.moving h.inside
  by_holds snd v (Some x) h = sought_holds snd v (cut_off (target_by v x)) h

  to_holds : (snd : List Float) (v : StaticSound) (a : Option Float) → In v → Holds v.moving (sought_to snd v a).moving
  to_holds snd v None h = stayed v.moving h.inside
  to_holds snd v (Some x) h = sought_holds snd v (cut_off (target_to v x)) h

  kept_loop : (v : StaticSound) (l : LoopCommand) → T (not (changes_loop l)) → looped v l ≡ v.moving.transport.loop_region
  kept_loop v loop.Keep h = refl
  kept_loop v loop.Clear h = absurd h
  kept_loop v (loop.Set r) h = absurd h

  obeyed_holds : (snd : List Float) (c : Commands) (v : StaticSound) → T (not (changes_loop c.loop_region)) → In v → Holds (before_seeks c v).moving (obeyed snd c v).moving
  unfolding obeyed before_seeks
  obeyed_holds snd c v k h =
      let u = before_seeks c v in
      let i : In u = record { fits = h.fits; inside = record { loop = kept_loop v c.loop_region k ∙ h.inside.loop; going = h.inside.going; from = h.inside.from; to = h.inside.to } } in
      let w = sought_by snd u c.seek_by in
      let a = by_holds snd u c.seek_by i in
      let f : e ≤ length_of_slice w.setup = subst (λ (x : Setup). e ≤ length_of_slice x) (sym (by_setup snd u c.seek_by)) i.fits in
      onward u.moving w.moving (sought_to snd w c.seek_to).moving a (to_holds snd w c.seek_to (record { fits = f; inside = a.inside }))

-- ---- the states: neither Stopping nor Stopped

abbrev alive : PlaybackState → Type 0
alive s = T (not (ending s))

abbrev hopeful : StartAnswer → Type 0
hopeful a = T (not (is_never a))

settled_alive : (d : Bool) (a : StartAnswer) (s : PlaybackState) → hopeful a → alive s → alive (settled d a s)
settled_alive d a Playing h k = tt
settled_alive true a Pausing h k = tt
settled_alive false a Pausing h k = tt
settled_alive d a Paused h k = tt
settled_alive d Waiting WaitingToResume h k = tt
settled_alive d Now WaitingToResume h k = tt
settled_alive d Never WaitingToResume h k = absurd h
settled_alive true a Resuming h k = tt
settled_alive false a Resuming h k = tt
settled_alive d a Stopping h k = absurd k
settled_alive d a Stopped h k = absurd k

given_alive : (a : StartAnswer) (b : Bool) (s : PlaybackState) → hopeful a → alive s → alive (given_up a b s)
given_alive a true s h k = k
given_alive Waiting false s h k = k
given_alive Now false s h k = k
given_alive Never false s h k = absurd h

unless_alive : (r s : PlaybackState) → alive r → alive s → alive (unless_stopped r s)
unless_alive r Playing h k = h
unless_alive r Pausing h k = h
unless_alive r Paused h k = h
unless_alive r WaitingToResume h k = h
unless_alive r Resuming h k = h
unless_alive r Stopping h k = h
unless_alive r Stopped h k = absurd k

woken_alive : (w : ResumeCommand) (s : PlaybackState) → alive s → alive (woken w s)
woken_alive resume.Keep s k = k
woken_alive resume.Now s k = unless_alive Resuming s tt k
woken_alive resume.Waiting s k = unless_alive WaitingToResume s tt k

ordered_alive : (c : Commands) (s : PlaybackState) → T (not c.stop) → alive s → alive (ordered c s)
ordered_alive c s e k = last c.stop e
  where
    p : PlaybackState
    p = cond c.pause (pausing s) s

    paused : (b : Bool) → alive (cond b (pausing s) s)
    paused true = unless_alive Pausing s tt k
    paused false = k

    last : (b : Bool) → T (not b) → alive (cond b (stopping (woken c.resume p)) (woken c.resume p))
    last true h = absurd h
    last false h = woken_alive c.resume p (paused c.pause)

-- ---- a loop that is not taken

-- refused by the table, or by the command set: the given voice
pub taken_refused : (snd : List Float) (t : LoopTable) (k : ℕ) (v : StaticSound) → ((taken snd t k v).refusal ≡ 0 → ⊥) → (taken snd t k v).voice ≡ v
unfolding taken
taken_refused snd t k v = go (eqb f.refusal 0)
  where
    f : LoopFound
    f = found t k

    c : Commands
    c = loop_command_of f.slot

    go : (b : Bool)
        → let r = cond {A = CommandsAnswer} b (commanded snd v (loop_command_of f.slot)) (record { refusal = f.refusal; voice = v; position = positive_zero }) in
        (r.refusal ≡ 0 → ⊥) → r.voice ≡ v
    go true n = ap (λ (a : CommandsAnswer). a.voice) (commanded_refused snd v c n)
    go false n = refl

-- ---- one call

-- a condition for an accepted call, none for a refused one
abbrev Asked : (Call → Bool) → Call → StaticSound → Type 0
Asked kind c v = T (not (accepted c v && kind c))

-- the voice after a call: the result of the block or the set, or unchanged
pub record Next (s e : ℕ) (c : Call) (v w : StaticSound) : Type 0 where
  pub fits : e ≤ length_of_slice w.setup
  pub inside : Inside s e w.moving.transport
  pub alive : Asked stops c v → alive v.moving.state → alive w.moving.state

not_or_l : (a b : Bool) → T (not (a || b)) → T (not a)
not_or_l true b h = absurd h
not_or_l false b h = tt

not_or_r : (a b : Bool) → T (not (a || b)) → T (not b)
not_or_r true b h = absurd h
not_or_r false b h = h

module _ (s e : ℕ) (v : StaticSound) (h : In s e v) where
  untouched : (c : Call) → Next s e c v v
  untouched c = record { fits = h.fits; inside = h.inside; alive = λ a b. b }

  -- a block's signals
  begun_alive : (g : Signals) → T (not (is_never (answering g.start) || is_never g.resume)) → alive v.moving.state → alive (begun g v).moving.state
  unfolding begun
  begun_alive g k a =
      let x = is_never (answering g.start) in
      let y = is_never g.resume in
      given_alive (answering g.start) v.started (settled g.finished g.resume v.moving.state) (not_or_l x y k)
      (settled_alive g.finished g.resume v.moving.state (not_or_r x y k) a)

  block_next : (c : Call) (snd : List Float) (dt : Float) (ls : List Lane) (g : Signals) → (Asked stops c v → T (not (is_never (answering g.start) || is_never g.resume)))
      → Next s e c v (block snd dt ls g v).voice
  block_next c snd dt ls g k =
      let b = block_holds s e snd dt ls g v h in
      record {
        fits = subst (λ (x : Setup). e ≤ length_of_slice x) (sym (block_setup snd dt ls g v)) h.fits;
        inside = b.inside;
        alive = λ a i. subst alive (sym b.state) (begun_alive g (k a) i);
      }

  set_next : (call : Call) (snd : List Float) (c : Commands) → T (not (changes_loop c.loop_region)) → (Asked stops call v → T (not c.stop)) → Next s e call v (obeyed snd c v)
  unfolding before_seeks
  set_next call snd c k j =
      let b = obeyed_holds s e snd c v k h in
      record {
        fits = subst (λ (x : Setup). e ≤ length_of_slice x) (sym (obeyed_setup snd c v)) h.fits;
        inside = b.inside;
        alive = λ a i. subst alive (sym b.state) (ordered_alive c v.moving.state (j a) i);
      }

  -- if the call is accepted, the condition holds for it
  asked : (kind : Bool) (b : Bool) → b ≡ true → T (not (b && kind)) → T (not kind)
  asked kind true q k = k
  asked kind false q k = absurd (false≢true q)

  next : (c : Call) → Asked reloops c v → Next s e c v (after c v)
  next (Block snd dt b g out) k = go (accepted (Block snd dt b g out) v) refl
    where
      c : Call
      c = Block snd dt b g out

      go : (t : Bool) → eqb (processed snd v dt b g out).answer.refusal 0 ≡ t → Next s e (Block snd dt b g out) v (processed snd v dt b g out).answer.voice
      go true q =
          rw (processed_done snd v dt b g out (processed_passed snd v dt b g out (eqb-true (processed snd v dt b g out).answer.refusal 0 q)))
          (block_next c snd dt (rows b) g (asked (stops c) (accepted c v) q))
      go false q = rw (processed_refused snd v dt b g out (eqb-false (processed snd v dt b g out).answer.refusal 0 q)) (untouched c)
  next (Mix snd dt b g mix from) k = go (accepted (Mix snd dt b g mix from) v) refl
    where
      c : Call
      c = Mix snd dt b g mix from

      go : (t : Bool) → eqb (processed_into snd v dt b g mix from).answer.refusal 0 ≡ t → Next s e (Mix snd dt b g mix from) v (processed_into snd v dt b g mix from).answer.voice
      go true q =
          rw (into_done snd v dt b g mix from (into_passed snd v dt b g mix from (eqb-true (processed_into snd v dt b g mix from).answer.refusal 0 q)))
          (block_next c snd dt (rows b) g (asked (stops c) (accepted c v) q))
      go false q = rw (into_refused snd v dt b g mix from (eqb-false (processed_into snd v dt b g mix from).answer.refusal 0 q)) (untouched c)
  next (Command snd o) k = go (accepted (Command snd o) v) refl
    where
      c : Call
      c = Command snd o

      go : (t : Bool) → eqb (commanded snd v o).refusal 0 ≡ t → Next s e (Command snd o) v (commanded snd v o).voice
      go true q =
          rw (commanded_done snd v o (commanded_passed snd v o (eqb-true (commanded snd v o).refusal 0 q)))
          (set_next c snd o (asked (reloops c) (accepted c v) q k) (asked (stops c) (accepted c v) q))
      go false q = rw (commanded_refused snd v o (eqb-false (commanded snd v o).refusal 0 q)) (untouched c)
  next (Take snd t n) k = subst (λ (w : StaticSound). Next s e (Take snd t n) v w) (sym (taken_refused snd t n v (λ z. refuses (taken snd t n v).refusal z k))) (untouched (Take snd t n))
    where
      refuses : (r : ℕ) → r ≡ 0 → T (not (eqb r 0 && true)) → ⊥
      refuses r z h = subst (λ (x : ℕ). T (not (eqb x 0 && true))) z h
  next (Stretch snd) k = untouched (Stretch snd)

-- ---- a sequence of calls

module _ (s e : ℕ) where
  row_inside : (cs : List Call) (v : StaticSound) → In s e v → T (not (some_accepted reloops cs v)) → Inside s e (after_all cs v).moving.transport
  unfolding after_all some_accepted
  row_inside [] v h k = h.inside
  row_inside (c ∷ cs) v h k =
      let a = accepted c v && reloops c in
      let b = some_accepted reloops cs (after c v) in
      let n = next s e v h c (not_or_l a b k) in
      row_inside cs (after c v) (record { fits = n.fits; inside = n.inside }) (not_or_r a b k)

  row_alive : (cs : List Call) (v : StaticSound) → In s e v → T (not (some_accepted reloops cs v)) → T (not (some_accepted stops cs v)) → alive v.moving.state
      → alive (after_all cs v).moving.state
  unfolding after_all some_accepted
  row_alive [] v h k j i = i
  row_alive (c ∷ cs) v h k j i =
      let a = accepted c v && reloops c in
      let b = some_accepted reloops cs (after c v) in
      let x = accepted c v && stops c in
      let y = some_accepted stops cs (after c v) in
      let n = next s e v h c (not_or_l a b k) in
      row_alive cs (after c v) (record { fits = n.fits; inside = n.inside }) (not_or_r a b k) (not_or_r x y j) (n.alive (not_or_l x y j) i)

pub in_the_loop : InTheLoop
in_the_loop s e cs v x =
    record { inside = row_inside s e cs v i x.no_loop_command; stopped = λ q. ends (some_accepted stops cs v) (ending v.moving.state) (λ a b. subst alive q (row_alive s e cs v i x.no_loop_command a b)) }
  where
    fits : e ≤ length_of_slice v.setup
    fits = (ranged_parts (length_of_slice v.setup) s e (subst (λ (r : Option (ℕ × ℕ)). T (within (length_of_slice v.setup) r)) x.inside.loop (well_formed_parts v x.well_formed).transport_well_formed.loop)).inside

    i : In s e v
    i = record { fits = fits; inside = x.inside }

    ends : (a b : Bool) → (T (not a) → T (not b) → ⊥) → T (a || b)
    ends true b f = tt
    ends false true f = tt
    ends false false f = absurd (f tt tt)
