-- The largest whole number that passes a test.
use Rattle.std.specs.Prelude.{ℕ, zero, suc, Bool, cond}

-- the largest of 0 to n that passes; 0 if none does
unfoldable pub largest : (ℕ → Bool) → ℕ → ℕ
largest p zero = zero
largest p (suc n) = cond (p (suc n)) (suc n) (largest p n)
