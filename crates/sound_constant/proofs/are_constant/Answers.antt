-- `are_constant`: if every lane repeats its first number, the lanes are constant.
use Prim.Native.Nat.{ℕ, ◌<◌}
use mathlib.Core.Path.{◌≡◌, sym, ◌∙◌, subst}
use mathlib.Core.Bool.{false≢true}
use native.Mathlib.Omega.{arith}
use lib.Dec.{T}
use borrow.Author.Tests.{eqb-false}
use lib.ListN.{length}
use lib.Ieee.{nan}
use Rattle.numbers.proofs.Equal.{first_of, second_of}
use Rattle.sound_lanes.specs.Lanes.{Lanes, Covers, lanes_of, sized}
use Rattle.sound_lanes.proofs.Rows.{sized_parts}
use Rattle.sound_constant.proofs.Lanes.{constant_of}
use Rattle.sound_constant.proofs.are_constant.Goals.{Else-not-are_sized}
use Rattle.sound_constant.proofs.are_constant.Goals as goal

abbrev lent : Else-not-are_sized → Lanes
lent c = lanes_of c.args.lanes

is-sized : (c : Else-not-are_sized) → T (sized (lent c))
is-sized c = subst T (sym (sym c.are_sized.ensures ∙ c.if-not-are_sized.false)) tt

positive : (n : ℕ) → (n ≡ 0 → ⊥) → 0 < n
positive n h = omega arith

some : (c : Else-not-are_sized) → 0 < length (lent c).rate
some c = positive _ (eqb-false _ _ (sym c.is_empty.ensures ∙ c.if-is_empty.false))

-- a lane that is as long as the rates has a first number
somes : (c : Else-not-are_sized) → Covers 1 (lent c)
somes c =
    let p = sized_parts (lent c) (is-sized c) in
    let h = some c in
    record { fade = omega (arith, p.fade, h); volume = omega (arith, p.volume, h); left = omega (arith, p.left, h); right = omega (arith, p.right, h) }

pub returns-then-is_empty : goal.returns-then-is_empty
returns-then-is_empty c = λ e. absurd (false≢true e)

pub returns-then-not-are_sized : goal.returns-then-not-are_sized
returns-then-not-are_sized c = λ e. absurd (false≢true e)

pub has_equal_ends-requires : goal.has_equal_ends-requires
has_equal_ends-requires c = (somes (goal.at.has_equal_ends-requires c).Else-not-are_sized).fade

pub has_equal_ends-requires-2 : goal.has_equal_ends-requires-2
has_equal_ends-requires-2 c = (somes (goal.at.has_equal_ends-requires-2 c).Else-not-are_sized).volume

pub has_equal_ends-requires-3 : goal.has_equal_ends-requires-3
has_equal_ends-requires-3 c = (somes (goal.at.has_equal_ends-requires-3 c).Else-not-are_sized).left

pub has_equal_ends-requires-4 : goal.has_equal_ends-requires-4
has_equal_ends-requires-4 c = (somes (goal.at.has_equal_ends-requires-4 c).Else-not-are_sized).right

pub returns-then-not-has_equal_ends : goal.returns-then-not-has_equal_ends
returns-then-not-has_equal_ends c = λ e. absurd (false≢true e)

pub is_constant-requires : goal.is_constant-requires
is_constant-requires c = some (goal.at.is_constant-requires c).Else-not-are_sized

pub is_constant-requires-2 : goal.is_constant-requires-2
is_constant-requires-2 c = (somes (goal.at.is_constant-requires-2 c).Else-not-are_sized).fade

pub is_constant-requires-3 : goal.is_constant-requires-3
is_constant-requires-3 c = (somes (goal.at.is_constant-requires-3 c).Else-not-are_sized).volume

pub is_constant-requires-4 : goal.is_constant-requires-4
is_constant-requires-4 c = (somes (goal.at.is_constant-requires-4 c).Else-not-are_sized).left

pub is_constant-requires-5 : goal.is_constant-requires-5
is_constant-requires-5 c = (somes (goal.at.is_constant-requires-5 c).Else-not-are_sized).right

pub returns : goal.returns
returns c = λ e.
    let at = (goal.at.returns c).Else-not-are_sized in
    let four = first_of _ c.is_constant-5.result e in
    let three = first_of _ c.is_constant-4.result four in
    let two = first_of _ c.is_constant-3.result three in
    constant_of (lent at) (is-sized at) (some at)
    (c.is_constant.ensures (first_of _ c.is_constant-2.result two) nan)
    (c.is_constant-2.ensures (second_of c.is_constant.result _ two) nan)
    (c.is_constant-3.ensures (second_of _ _ three) nan)
    (c.is_constant-4.ensures (second_of _ _ four) nan)
    (c.is_constant-5.ensures (second_of _ _ e) nan)
