-- An offset within the part of a buffer that a window shows.
use Rattle.std.proofs.Common.{ℕ, ◌≤◌, List, length, take, arith, length-take-le}

pub within : (s : List ℕ) (end n : ℕ) → end ≤ length s → n ≤ end → n ≤ length (take end s)
within s end n h k = omega (arith, k, length-take-le end s h)
