-- `saved_settings::store` meets its contract. Assumes nothing.
use Rattle.std.proofs.Common.{ℕ, ◌<◌, length, sym, subst}
use Rattle.std.proofs.lemmas.Result.{err_from_is_err_and}
use Rattle.byte_layout.proofs.Low.{numbered}
use Rattle.saved_settings.proofs.Stores.{kept, written, room_left}
use Rattle.saved_settings.proofs.store.Goals as goal

pub returns-in_err-known : goal.returns-in_err-known
returns-in_err-known c =
    let a = c.args in
    let p = err_from_is_err_and c.from_residual.result c.from_residual.ensures.1 in
    let e = c.in_err-known.ensures.refusal in
    rw (p.1, p.2) (e, kept a.version a.s a.buffer.now (subst (λ (n : ℕ). 0 < n) e (numbered _)))

pub put-requires : goal.put-requires
put-requires c =
    let a = c.args in
    let e = c.in_ok-known.ensures in
    rw e.version (room_left a.version a.s (length a.buffer.now) (sym e.refusal))

pub returns : goal.returns
returns c =
    let a = c.args in
    let e = c.in_ok-known.ensures in
    (e.refusal, written a.version a.s a.buffer.now _ (sym e.refusal) (rw e.version at c.put.ensures))
