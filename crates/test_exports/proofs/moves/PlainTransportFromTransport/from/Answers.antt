-- `PlainTransport::from` meets its contract, by its callees'. Assumes nothing.
use mathlib.Core.Path.{◌∙◌}
use Rattle.test_exports.proofs.Bits.{byte_bit}
use Rattle.test_exports.proofs.moves.PlainTransportFromTransport.from.Goals as goal

pub returns : goal.returns
returns c = rw (c.from.ensures, c.from-2.ensures ∙ byte_bit _)
