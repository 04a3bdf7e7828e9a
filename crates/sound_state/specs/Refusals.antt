-- Checks one after the other (docs/assurance/RULES.md, "Numbers and their refusals"): the lowest number is returned.
use Rattle.std.specs.Prelude.{ℕ, Bool, cond}

-- a number if its test fails, otherwise the result of the rest
abbrev pub unless : Bool → ℕ → ℕ → ℕ
unless ok n rest = cond ok rest n
