-- The archive's calls lead where the calls below lead: a record represents the voice, before and after each of them. Assumes nothing.
use mathlib.Core.Path.{◌≡◌, refl, sym, ap, ap₂, ◌∙◌, subst}
use Prim.Native.Nat.{ℕ}
use mathlib.Core.Bool.{Bool, true, false, ◌&&◌, ◌||◌, not, cond}
use mathlib.Core.List.{List, [], ◌∷◌, map}
use lib.Dec.{T, eqb}
use borrow.Author.Tests.{eqb-true, eqb-false}
use Rattle.transport.specs.WellFormed.{Inside}
use Rattle.sound_state.specs.declared.StaticSound.{StaticSound}
use Rattle.sound_commands.specs.Commands.{commanded}
use Rattle.sound_commands.specs.Commands.{CommandsAnswer}
use Rattle.sound_commands.proofs.Answers.{commanded_refused}
use Rattle.sound_slow_path.specs.Plays.{Outcome}
use Rattle.static_sound.specs.Entries.{processed, processed_into}
use Rattle.static_sound.proofs.Entries.{processed_refused, into_refused}
use Rattle.take_loop.specs.Taking.{taken}
use Rattle.c_state.specs.declared.CableowlState.{CableowlState}
use Rattle.c_state.specs.Records.{decoded, encoded}
use Rattle.c_inputs.specs.Inputs.{commands_of, signals_of}
use Rattle.cableowl.specs.Entries.{after, commanded_c, processed_c, processed_into_c}
use Rattle.cableowl.specs.Loops.{taken_c}
use Rattle.theorems.specs.InTheLoop as below
use Rattle.theorems.specs.ArchiveInTheLoop.{CallC, Block, Mix, Command, Take, Stretch, after_c, accepted_c, after_all_c, some_accepted_c, reloops_c, stops_c, InTheLoopC}
use Rattle.theorems.proofs.Archive.{after_means}
use Rattle.theorems.proofs.InTheLoop.{in_the_loop, taken_refused}

-- what a call of the archive means
abbrev meant : CallC → below.Call
meant (Block snd dt b g out) = below.Block snd dt b (signals_of g) out
meant (Mix snd dt b g mix from) = below.Mix snd dt b (signals_of g) mix from
meant (Command snd k) = below.Command snd (commands_of k)
meant (Take snd t k) = below.Take snd t k
meant (Stretch snd) = below.Stretch snd

-- the returned record represents the returned voice: a refused call changes neither
back : (r : ℕ) (v : StaticSound) (c : CableowlState) → ((r ≡ 0 → ⊥) → v ≡ decoded c) → decoded (after r v c) ≡ v
unfolding after
back r v c h = go (eqb r 0) refl
  where
    go : (b : Bool) → eqb r 0 ≡ b → decoded (cond b (encoded v) c) ≡ v
    go true q = subst (λ (x : Bool). decoded (cond x (encoded v) c) ≡ v) q (after_means r v c (eqb-true r 0 q))
    go false q = sym (h (eqb-false r 0 q))

after_meant : (d : CallC) (c : CableowlState) → decoded (after_c d c) ≡ below.after (meant d) (decoded c)
unfolding processed_c processed_into_c commanded_c taken_c
after_meant (Block snd dt b g out) c =
    let o = processed snd (decoded c) dt b (signals_of g) out in
    back o.answer.refusal o.answer.voice c (λ n. ap (λ (o : Outcome). o.answer.voice) (processed_refused snd (decoded c) dt b (signals_of g) out n))
after_meant (Mix snd dt b g mix from) c =
    let o = processed_into snd (decoded c) dt b (signals_of g) mix from in
    back o.answer.refusal o.answer.voice c (λ n. ap (λ (o : Outcome). o.answer.voice) (into_refused snd (decoded c) dt b (signals_of g) mix from n))
after_meant (Command snd k) c =
    let r = commanded snd (decoded c) (commands_of k) in
    back r.refusal r.voice c (λ n. ap (λ (a : CommandsAnswer). a.voice) (commanded_refused snd (decoded c) (commands_of k) n))
after_meant (Take snd t k) c =
    let r = taken snd t k (decoded c) in
    back r.refusal r.voice c (taken_refused snd t k (decoded c))
after_meant (Stretch snd) c = refl

accepted_meant : (d : CallC) (c : CableowlState) → accepted_c d c ≡ below.accepted (meant d) (decoded c)
unfolding processed_c processed_into_c commanded_c taken_c
accepted_meant (Block snd dt b g out) c = refl
accepted_meant (Mix snd dt b g mix from) c = refl
accepted_meant (Command snd k) c = refl
accepted_meant (Take snd t k) c = refl
accepted_meant (Stretch snd) c = refl

pub row_meant : (ds : List CallC) (c : CableowlState) → decoded (after_all_c ds c) ≡ below.after_all (map meant ds) (decoded c)
unfolding after_all_c below.after_all
row_meant [] c = refl
row_meant (d ∷ ds) c = row_meant ds (after_c d c) ∙ ap (below.after_all (map meant ds)) (after_meant d c)

pub some_meant : (kindC : CallC → Bool) (kind : below.Call → Bool) → ((d : CallC) → kindC d ≡ kind (meant d))
    → (ds : List CallC) (c : CableowlState) → some_accepted_c kindC ds c ≡ below.some_accepted kind (map meant ds) (decoded c)
unfolding some_accepted_c below.some_accepted
some_meant kindC kind e [] c = refl
some_meant kindC kind e (d ∷ ds) c =
    ap₂ (λ (x y : Bool). x || y) (ap₂ (λ (x y : Bool). x && y) (accepted_meant d c) (e d))
    (some_meant kindC kind e ds (after_c d c) ∙ ap (below.some_accepted kind (map meant ds)) (after_meant d c))

pub reloops_meant : (d : CallC) → reloops_c d ≡ below.reloops (meant d)
reloops_meant (Block snd dt b g out) = refl
reloops_meant (Mix snd dt b g mix from) = refl
reloops_meant (Command snd k) = refl
reloops_meant (Take snd t k) = refl
reloops_meant (Stretch snd) = refl

stops_meant : (d : CallC) → stops_c d ≡ below.stops (meant d)
stops_meant (Block snd dt b g out) = refl
stops_meant (Mix snd dt b g mix from) = refl
stops_meant (Command snd k) = refl
stops_meant (Take snd t k) = refl
stops_meant (Stretch snd) = refl

pub archive_in_the_loop : InTheLoopC
archive_in_the_loop s e ds c x =
    let r = row_meant ds c in
    let k = subst (λ (b : Bool). T (not b)) (some_meant reloops_c below.reloops reloops_meant ds c) x.no_loop_command in
    let i = in_the_loop s e (map meant ds) (decoded c) (record { well_formed = x.well_formed; inside = x.inside; no_loop_command = k }) in
    record {
      inside = subst (λ (v : StaticSound). Inside s e v.moving.transport) (sym r) i.inside;
      stopped = λ q.
          subst (λ (b : Bool). T (b || below.ending (decoded c).moving.state)) (sym (some_meant stops_c below.stops stops_meant ds c))
          (i.stopped (sym (ap (λ (v : StaticSound). v.moving.state) r) ∙ q));
    }
