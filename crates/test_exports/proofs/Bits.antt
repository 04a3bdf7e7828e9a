-- The number of a Bool is its bit. Assumes nothing.
use Rattle.std.specs.Prelude.{Bool, true, false}
use Rattle.std.specs.Int.{from_bool}
use mathlib.Core.Path.{◌≡◌, refl}
use Rattle.test_exports.specs.Answers.{bit}

pub byte_bit : (b : Bool) → from_bool b ≡ bit b
byte_bit true = refl
byte_bit false = refl
