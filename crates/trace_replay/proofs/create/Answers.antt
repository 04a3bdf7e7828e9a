-- `trace_replay::create`: the written samples are the sound of the creation.
use Rattle.std.proofs.Common.{◌≡◌, ◌∙◌, ◌≤◌, ap, arith, length, take, Ok, Err, rules}
use Rattle.sound_creation.specs.Creation.{created_of}
use Rattle.trace_inputs.specs.Inputs.{samples_of, settings_of}
use Rattle.trace_replay.proofs.Parts.{prefix, inside, part_long}
use Rattle.trace_replay.proofs.Replays.{replay, few_samples, creation_replay}
use Rattle.trace_replay.proofs.create.Goals.{After-put_samples-samples}
use Rattle.trace_replay.proofs.create.Goals as goal

long : (c : After-put_samples-samples) → 77 ≤ length c.args.values
long c = search rules

-- the samples lie in the buffer
here : (c : After-put_samples-samples) → c.put_samples-samples.result ≤ length c.put_samples-samples.new.out
here c =
    let ps = c.put_samples-samples in
    let a = c.args in
    inside a.sound.now ps.new.out (samples_of a.values) ps.result ps.ensures.0 ps.ensures.1 (few_samples a.values (long c)) c.requires

-- and are those of the creation
same : (c : After-put_samples-samples) → take c.put_samples-samples.result c.put_samples-samples.new.out ≡ samples_of c.args.values
same c =
    let ps = c.put_samples-samples in
    let a = c.args in
    prefix a.sound.now ps.new.out (samples_of a.values) ps.result ps.ensures.0 ps.ensures.1 (omega (arith, few_samples a.values (long c), c.requires))

pub slice_bounds-new-end : goal.slice_bounds-new-end
slice_bounds-new-end c = here (goal.at.slice_bounds-new-end c).After-put_samples-samples

pub slice_bounds-new-end-2 : goal.slice_bounds-new-end-2
slice_bounds-new-end-2 c = part_long _ _ (here (goal.at.slice_bounds-new-end-2 c).After-put_samples-samples)

pub returns-in-Ok : goal.returns-in-Ok
returns-in-Ok c =
    let p = (goal.at.returns-in-Ok c).After-put_samples-samples in
    (creation_replay (created_of (Ok c.in-Ok.voice)) _ (samples_of c.args.values) c.settings_of.result (settings_of c.args.values) c.args.run.blocks c.in-Ok.ensures (same p) c.settings_of.ensures, here p)

pub returns-in-Err : goal.returns-in-Err
returns-in-Err c =
    let p = (goal.at.returns-in-Err c).After-put_samples-samples in
    let ps = c.put_samples-samples in (
      ap (λ v. replay v (take ps.result ps.new.out) c.args.run.blocks) c.blank.ensures
          ∙ creation_replay (created_of (Err c.in-Err.field-0)) _ (samples_of c.args.values) c.settings_of.result (settings_of c.args.values) c.args.run.blocks c.in-Err.ensures (same p) c.settings_of.ensures,
      here p,
    )
