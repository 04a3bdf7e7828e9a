-- The hypotheses at their inputs, by computing. Assumes nothing.
use Rattle.std.proofs.Common.{◌≡◌, T, refl, arith}
use Rattle.byte_layout.specs.Numbers.{num, bytes}
use Rattle.byte_layout.specs.Rows.{stands, within}
use Rattle.byte_layout.specs.Reads.{taken, step, steps}
use Rattle.byte_layout.specs.Writes.{payload, field}
use Rattle.byte_layout.proofs.Numbers.{are_small, small_of}
use Rattle.saved_settings.specs.Tables.{first_rows, second_rows}
use Rattle.saved_settings.specs.Records.{encoded, judged, loaded}
use Rattle.saved_settings.specs.Promises.{whole, looping, Witnesses}

first_bytes : T (are_small (encoded 1 (looping 0)))
unfolding encoded payload field stands bytes first_rows
first_bytes = tt

second_bytes : T (are_small (encoded 2 (looping 2)))
unfolding encoded payload field stands bytes second_rows
second_bytes = tt

first_shown : loaded 1 (encoded 1 (looping 0)) ≡ whole 1 (looping 0)
unfolding loaded judged steps step taken stands within num encoded payload field bytes first_rows
first_shown = refl

second_shown : loaded 2 (encoded 2 (looping 2)) ≡ whole 2 (looping 2)
unfolding loaded judged steps step taken stands within num encoded payload field bytes first_rows second_rows
second_shown = refl

pub witnesses : Witnesses
witnesses =
    record {
      first = record { word = omega arith; may = refl };
      second = record { word = omega arith; pitch_word = omega arith; may = refl };
      first_again = record { small = small_of (encoded 1 (looping 0)) first_bytes; shown = first_shown };
      second_again = record { small = small_of (encoded 2 (looping 2)) second_bytes; shown = second_shown };
      store_loads = record { word = omega arith; pitch_word = omega arith; takes = refl };
      load_stores = record { small = small_of (encoded 2 (looping 2)) second_bytes; known = omega arith; shown = second_shown; room = omega arith };
    }
