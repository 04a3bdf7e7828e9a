-- `sound_commands::read_commands` meets its contract: the commands in the order of `obeyed`, each on a voice that is still well formed.
use Rattle.std.specs.Prelude.{Option}
use mathlib.Core.Path.{◌≡◌, sym, ap, ◌∙◌, subst}
use Prim.Native.Nat.{ℕ, ◌*◌}
use mathlib.Core.List.{List}
use lib.Dec.{T}
use lib.ListN.{length}
use lib.Ieee.{Float}
use Rattle.sound_state.specs.declared.Setup.{Setup}
use Rattle.sound_state.specs.declared.StaticSound.{StaticSound}
use Rattle.sound_state.specs.WellFormed.{well_formed_for}
use Rattle.sound_state.proofs.WellFormed.{well_formed_for_parts, well_formed_for_of}
use Rattle.sound_commands.specs.declared.Commands.{Commands}
use Rattle.sound_commands.specs.Commands.{refused_set, before_seeks, sought_by, sought_to, obeyed}
use Rattle.sound_commands.proofs.Refusals.{obeyable_parts}
use Rattle.sound_commands.proofs.Orders.{told_well_formed, by_well_formed, by_setup}
use Rattle.sound_commands.proofs.read_commands.Goals.{After-before_seeks-ready}
use Rattle.sound_commands.proofs.read_commands.Goals as goal

told-well-formed-for : (len : ℕ) (c : Commands) (v : StaticSound) → refused_set len v c ≡ 0 → T (well_formed_for len (before_seeks c v))
unfolding before_seeks
told-well-formed-for len c v h =
    let a = obeyable_parts len v c h in
    let p = well_formed_for_parts len v a.well_formed_for in
    well_formed_for_of len (before_seeks c v) (told_well_formed c v a.loop a.rate p.0) p.1

by-well-formed-for : (len : ℕ) (snd : List Float) (v : StaticSound) (a : Option Float) → T (well_formed_for len v) → T (well_formed_for len (sought_by snd v a))
by-well-formed-for len snd v a h =
    let p = well_formed_for_parts len v h in
    well_formed_for_of len (sought_by snd v a) (by_well_formed snd v a p.0) (p.1 ∙ ap (λ (k : Setup). 2 * k.num_frames) (sym (by_setup snd v a)))

-- the voice before its seeks
told-there : (c : After-before_seeks-ready) → T (well_formed_for (length c.args.sound.now) c.before_seeks-ready.result)
told-there c =
    subst (λ (v : StaticSound). T (well_formed_for (length c.args.sound.now) v)) (sym c.before_seeks-ready.ensures)
    (told-well-formed-for (length c.args.sound.now) c.args.commands c.args.voice c.requires)

pub seek_by-sought-requires : goal.seek_by-sought-requires
seek_by-sought-requires c = told-there (goal.at.seek_by-sought-requires c).After-before_seeks-ready

pub seek_to-requires : goal.seek_to-requires
seek_to-requires c =
    subst (λ (v : StaticSound). T (well_formed_for (length c.args.sound.now) v)) (sym c.seek_by-sought.ensures)
    (by-well-formed-for (length c.args.sound.now) c.args.sound.now c.before_seeks-ready.result c.args.commands.seek_by (told-there (goal.at.seek_to-requires c).After-before_seeks-ready))

pub returns : goal.returns
unfolding obeyed
returns c =
    let snd = c.args.sound.now in
    let k = c.args.commands in
    c.seek_to.ensures
    ∙ ap (λ (v : StaticSound). sought_to snd v k.seek_to) (c.seek_by-sought.ensures ∙ ap (λ (v : StaticSound). sought_by snd v k.seek_by) c.before_seeks-ready.ensures)
