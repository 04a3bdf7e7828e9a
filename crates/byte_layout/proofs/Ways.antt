-- Each result that one row can have, from the tests of the code.
use mathlib.Core.Path.{◌≡◌, refl, ap}
use Prim.Native.Nat.{ℕ, ◌+◌, ◌-◌, ◌≤◌, ◌<◌}
use native.Mathlib.Numerals.{add-one}
use mathlib.Core.Bool.{true, false}
use mathlib.Core.List.{List, []}
use lib.ListN.{length, take, drop, set, length-drop, replicate}
use lib.Seq.{take-suc-set, drop-drop}
use borrow.Author.Tests.{le-leb, lt-leb}
use Rattle.std.specs.Prelude.{Ok}
use Rattle.refusals.specs.Numbers.{number}
use Rattle.byte_layout.specs.declared.Row.{Row}
use Rattle.byte_layout.specs.declared.Parsed.{Parsed}
use Rattle.byte_layout.specs.Numbers.{num}
use Rattle.byte_layout.specs.Rows.{stands, within}
use Rattle.byte_layout.specs.Reads.{bad, good, taken, step, view}

-- where `begin` begins
pub begun : (s : List ℕ) (at left : ℕ) (p : Parsed) → p ≡ record { at = at; left = left; values = replicate 80 0 } → view s 0 (Ok p) ≡ good left [] (drop at s)
begun s at left p h = ap (λ (q : Parsed). view s 0 (Ok q)) h

module _ (s : List ℕ) (i : ℕ) (p : Parsed) (r : Row) where
  pub absent : (xs : List ℕ) → xs ≡ p.values → i < length xs → false ≡ stands r (take i p.values)
      → good p.left (take (i + 1) (set xs i 0)) (drop p.at s) ≡ step r (view s i (Ok p))
  unfolding step
  absent xs v l e = rw (← e, v, add-one i, take-suc-set p.values i 0 (rw v at l)) refl

  module _ (here : true ≡ stands r (take i p.values)) where
    pub ends : p.left < r.width → p.left ≤ length s - p.at → bad 17 ≡ step r (view s i (Ok p))
    unfolding step taken
    ends a b = rw (← here, lt-leb r.width p.left a, length-drop p.at s, le-leb p.left (length s - p.at) b) refl

    pub cut : p.left < r.width → length s - p.at < p.left → bad 18 ≡ step r (view s i (Ok p))
    unfolding step taken
    cut a b = rw (← here, lt-leb r.width p.left a, length-drop p.at s, lt-leb p.left (length s - p.at) b) refl

    pub short : r.width ≤ p.left → length s - p.at < r.width → bad 18 ≡ step r (view s i (Ok p))
    unfolding step taken
    short a b = rw (← here, le-leb r.width p.left a, length-drop p.at s, lt-leb r.width (length s - p.at) b) refl

    module _ (a : r.width ≤ p.left) (b : r.width ≤ length s - p.at) (x : ℕ) (n : x ≡ num (take r.width (drop p.at s))) where
      pub wrong : false ≡ within r x → bad (number r.refusal) ≡ step r (view s i (Ok p))
      unfolding step taken
      wrong e = rw (← here, le-leb r.width p.left a, length-drop p.at s, le-leb r.width (length s - p.at) b, ← n, ← e) refl

      pub right : (xs : List ℕ) → xs ≡ p.values → i < length xs → true ≡ within r x
          → good (p.left - r.width) (take (i + 1) (set xs i x)) (drop (p.at + r.width) s) ≡ step r (view s i (Ok p))
      unfolding step taken
      right xs v l e =
          rw (← here, le-leb r.width p.left a, length-drop p.at s, le-leb r.width (length s - p.at) b, ← n, ← e, v, add-one i, take-suc-set p.values i x (rw v at l), drop-drop) refl
