-- `c_state::encode` meets its contract, field by field.
use Rattle.std.proofs.Common.{rules, ◌≡◌}
use Rattle.std.specs.Prelude.{Bool, true, false, map}
use Rattle.std.specs.Int.{from_bool}
use mathlib.Core.Path.{refl, ◌∙◌}
use Rattle.c_state.specs.Records.{bit, entry_of, encoded}
use Rattle.c_state.proofs.Maps.{mapped}
use Rattle.c_state.proofs.encode.Goals as goal

byte_bit : (b : Bool) → from_bool b ≡ bit b
byte_bit true = refl
byte_bit false = refl

entries : (c : goal.After-map) → c.map.result ≡ map entry_of c.args.voice.moving.resampler.frames
entries c = mapped _ entry_of (λ p q x y k. search rules) _ _ _ 4 (search rules) c.map.ensures.items

pub returns : goal.returns
unfolding encoded
returns c =
    rw (
      c.parts_of-has_slice.ensures,
      c.parts_of-has_loop.ensures,
      c.from.ensures,
      c.from-2.ensures ∙ byte_bit _,
      c.from-3.ensures ∙ byte_bit _,
      c.from-4.ensures ∙ byte_bit _,
      entries c,
    )
