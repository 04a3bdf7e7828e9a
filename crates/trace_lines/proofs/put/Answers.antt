-- `trace_lines::put`: a copy of all of the text.
use mathlib.Core.Path.{◌≡◌, refl, ap, ◌∙◌}
use Prim.Native.Nat.{ℕ, ◌+◌, ◌-◌, ◌*◌, ◌%◌, ◌^◌, ◌≤◌, ◌<◌}
use native.Mathlib.Omega.{arith}
use lib.ListN.{length, take}
use mathlib.Core.List.{List}
use lib.Seq.{sets, take_all}
use Rattle.trace_lines.proofs.put.Goals as goal

pub returns : goal.returns
returns c =
    let k = c.before.before in
    let a = k.args in
    let t = a.text.now in
    let e : length t - 0 ≡ length t = omega arith in
    (k.copy.ensures ∙ ap (λ (z : List ℕ). sets a.line.now a.at z) (ap (λ (k : ℕ). take k t) e ∙ take_all (length t) t (omega arith)), refl)
