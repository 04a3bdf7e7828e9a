-- `saved_loops::put` meets its contract: numbers, names, checksum. Assumes nothing.
use mathlib.Core.Path.{◌≡◌}
use lib.ListN.{length}
use Rattle.saved_loops.proofs.Stores.{body_put, all_put}
use borrow.Author.Rules.{rules}
use Rattle.saved_loops.proofs.put.Goals.{Start}
use Rattle.saved_loops.proofs.put.Goals as goal

nineteen : (c : Start) → length c.args.words ≡ 19
nineteen c = search rules

pub returns : goal.returns
returns c =
    let k = c.before.before in
    let h = k.before.before in
    let n = h.before.before.before.before in
    let p = n.before.before.before.before in
    let s = p.before.before.before.before in
    let a = s.args in
    let l = nineteen (goal.at.returns c).Start in
    let e = body_put a.words a.names.now a.buffer.now l s.requires.0 s.requires.1 _ _ p.put_numbers.ensures n.copy.ensures in
    all_put a.words a.names.now a.buffer.now l s.requires.0 s.requires.1 _ _ _ e h.checksum-crc.ensures k.put_number.ensures
