-- `crc32::checksum` meets its contract: the bytes that exist. Assumes nothing.
use Rattle.std.proofs.Common.{◌≡◌, ℕ, ◌+◌, ◌-◌, length, take, drop, ap, ◌∙◌, arith, length-drop}
use Prim.Native.Nat.{min}
use Rattle.std.proofs.lemmas.List.{take_min, drop_min}
use Rattle.crc32.specs.Checksums.{checksum_of}
use Rattle.crc32.proofs.checksum.Goals as goal

pub returns : goal.returns
returns c =
    let a = c.args in
    let s = a.s.now in
    let i = c.min-start.result in
    let e : i + c.min.result - i ≡ min a.n (length (drop i s)) = rw length-drop (omega (arith, c.min.ensures)) in
    let d : drop i s ≡ drop a.at s = rw c.min-start.ensures (drop_min a.at s) in
    c.whole.ensures ∙ ap checksum_of (ap (λ (k : ℕ). take k (drop i s)) e ∙ take_min a.n (drop i s) ∙ ap (take a.n) d)
