-- `byte_layout::read_rows`: the rest of the rows, read, has the result of all of them.
use Prim.Native.Nat.{ℕ, ◌+◌}
use native.Mathlib.Omega.{arith}
use mathlib.Core.Path.{◌≡◌, sym, ap, ◌∙◌}
use lib.ListN.{length, drop}
use borrow.Author.Rules.{rules}
use Rattle.std.proofs.lemmas.Result.{err_from_is_err_and}
use Rattle.std.specs.Prelude.{Ok}
use Rattle.byte_layout.specs.Reads.{steps, view}
use Rattle.byte_layout.proofs.Codec.{steps_bad}
use Rattle.byte_layout.proofs.Loops.{blank, sound_row, next, done, one_more}
use Rattle.byte_layout.proofs.read_rows.Goals as goal

pub read-requires : goal.read-requires
read-requires c =
    (search rules, search rules, (sound_row c.args.table.now c.loop-i.i _ c.requires.2 c.loop-i-test.true).narrow)

pub returns-in_err-q : goal.returns-in_err-q
returns-in_err-q c =
    let a = c.args in
    let l = c.loop-i in
    let p = err_from_is_err_and c.from_residual.result c.from_residual.ensures.1 in
    rw (p.1, p.2) (sym (steps_bad (drop (l.i + 1) a.table.now) _) ∙ ap (steps (drop (l.i + 1) a.table.now)) c.in_err-q.ensures.0 ∙ sym (next a.table.now l.i blank _ c.loop-i-test.true) ∙ l.invariant.1, tt)

pub loop-i-preserved : goal.loop-i-preserved
loop-i-preserved c =
    let a = c.args in
    let l = c.loop-i in (
      c.in_ok-q.ensures.1.0,
      ap (steps (drop (l.i + 1) a.table.now)) c.in_ok-q.ensures.0 ∙ sym (next a.table.now l.i blank _ c.loop-i-test.true) ∙ l.invariant.1,
      c.in_ok-q.ensures.1.1 ∙ one_more l.q.values a.parsed.values l.i l.invariant.2,
    )

pub returns : goal.returns
returns c =
    let a = c.args in
    let l = c.loop-i in
    let e : length a.table.now ≡ l.i = omega arith in
    (ap (λ (k : ℕ). view a.s.now k (Ok l.q)) e ∙ sym (done a.table.now l.i (view a.s.now l.i (Ok l.q)) c.loop-i-test.false) ∙ l.invariant.1, (l.invariant.0, rw e l.invariant.2))
