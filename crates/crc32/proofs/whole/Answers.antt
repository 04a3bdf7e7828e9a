-- `crc32::whole` meets its contract: the final register does not change. Assumes nothing.
use mathlib.Core.Path.{refl, sym, ap, ◌∙◌}
use Prim.Native.Nat.{ℕ, ◌+◌}
use lib.Bits.{bit_xor}
use lib.ListN.{drop}
use borrow.Author.Rules.{rules}
use Rattle.crc32.specs.Checksums.{register, checksum_of}
use Rattle.crc32.proofs.Registers.{byte_on, at_end_lem}
use Rattle.crc32.proofs.whole.Goals as goal

pub loop-b-init : goal.loop-b-init
loop-b-init c = refl

pub loop-b-preserved : goal.loop-b-preserved
loop-b-preserved c =
    let l = c.before.before.before.before in
    let s = l.args.s.now in
    let i = l.loop-b.b-index in
    ap (λ (r : ℕ). register r (drop (i + 1) s)) c.step-c.ensures ∙ sym (byte_on l.loop-b.c s i (search rules)) ∙ l.loop-b.invariant

pub returns : goal.returns
unfolding checksum_of
returns c =
    let l = c.before in
    ap (λ (r : ℕ). bit_xor r 4294967295) (sym (at_end_lem l.loop-b.c l.args.s.now l.loop-b.b-index (search rules)) ∙ l.loop-b.invariant)
