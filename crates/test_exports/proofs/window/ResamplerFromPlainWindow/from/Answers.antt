-- `Resampler::from` meets its contract, entry by entry. Assumes nothing.
use Rattle.test_exports.proofs.window.ResamplerFromPlainWindow.from.Goals as goal

pub returns : goal.returns
returns c = rw (c.from-a.ensures, c.from-b.ensures, c.from-c.ensures, c.from-d.ensures)
