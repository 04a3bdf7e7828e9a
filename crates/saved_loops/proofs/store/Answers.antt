-- `saved_loops::store` meets its contract. Assumes nothing.
use mathlib.Core.Path.{sym, subst}
use Prim.Native.Nat.{ℕ, ◌<◌}
use lib.ListN.{length}
use Rattle.std.proofs.lemmas.Result.{err_from_is_err_and}
use Rattle.byte_layout.proofs.Low.{numbered}
use Rattle.saved_loops.proofs.Stores.{kept, written, accepted}
use Rattle.saved_loops.proofs.store.Goals as goal

pub returns-in_err-check_store : goal.returns-in_err-check_store
returns-in_err-check_store c =
    let a = c.args in
    let p = err_from_is_err_and c.from_residual.result c.from_residual.ensures.1 in
    let e = c.in_err-check_store.ensures in
    rw (p.1, p.2) (e, kept a.words a.names.now a.buffer.now (subst (λ (n : ℕ). 0 < n) e (numbered _)))

pub put-requires : goal.put-requires
put-requires c =
    let a = c.args in
    let x = accepted a.words (length a.names.now) (length a.buffer.now) (sym c.in_ok-check_store.ensures) in
    (x.named, x.room)

pub returns : goal.returns
returns c =
    let a = c.args in
    let e = c.in_ok-check_store.ensures in
    (e, written a.words a.names.now a.buffer.now _ (sym e) c.put.ensures)
