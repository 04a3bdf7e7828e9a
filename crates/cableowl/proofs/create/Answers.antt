-- `cableowl::create` meets its contract: the voice that was made, or the blank one.
use Rattle.cableowl.proofs.Few.{created_few}
use Rattle.cableowl.proofs.Answers.{made_is}
use Rattle.cableowl.proofs.create.Goals as goal

pub encode-requires : goal.encode-requires
encode-requires c =
    let e = made_is c.new-made.result c.blank.result c.value_or-refusal.result c.blank.ensures c.value_or-refusal.ensures in
    rw (e.0, c.new-made.ensures) (created_few c.args.sound.now c.args.settings)

pub returns : goal.returns
returns c =
    let e = made_is c.new-made.result c.blank.result c.value_or-refusal.result c.blank.ensures c.value_or-refusal.ensures in
    rw (c.encode.ensures, e.0, e.1, c.new-made.ensures)
