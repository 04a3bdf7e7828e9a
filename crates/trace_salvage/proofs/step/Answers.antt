-- `trace_salvage::step`: a record kept, or a byte skipped.
use Rattle.std.proofs.Common.{arith}
use Rattle.trace_salvage.proofs.Keeps.{size_le, keeps, skips}
use Rattle.trace_salvage.proofs.step.Goals as goal

pub copy-requires : goal.copy-requires
copy-requires c =
    let a = c.args in
    let p = c.requires in
    let n = size_le a.reader a.s.now a.t.at in
    let e = c.in-Some.ensures in
    (omega (arith, e.0), omega (arith, n, e.0, e.1), omega (arith, n, e.0, e.1, p))

pub returns-in-Some : goal.returns-in-Some
returns-in-Some c =
    let a = c.args in
    let p = c.requires in
    let e = c.in-Some.ensures in
    keeps a.reader a.s.now a.out.now a.t p.0 p.1 p.2 p.3 c.copy.new.out c.in-Some.end _ (omega (arith, e.0)) e.1 (omega (arith, e.0)) c.copy.ensures

pub returns-in-None : goal.returns-in-None
returns-in-None c =
    let a = c.args in
    let p = c.requires in
    skips a.reader a.s.now a.out.now a.t p.0 p.1 p.2 p.3 _ (omega (arith, c.in-None.ensures)) c.unwrap_or.ensures
