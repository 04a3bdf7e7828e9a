-- What is asked, at its inputs: by computing. Assumes nothing.
use mathlib.Core.Path.{◌≡◌, refl}
use native.Mathlib.Omega.{arith}
use mathlib.Core.Bool.{true}
use mathlib.Core.List.{[]}
use lib.ListN.{replicate}
use Rattle.byte_layout.specs.Numbers.{num, bytes}
use Rattle.byte_layout.specs.Rows.{stands, within}
use Rattle.byte_layout.specs.Reads.{taken, step, steps}
use Rattle.byte_layout.specs.Writes.{payload, fine, field, fits}
use Rattle.byte_layout.proofs.Numbers.{small_of}
use Rattle.trace_records.specs.Tables.{head_rows, command_rows, body}
use Rattle.trace_records.specs.Records.{possible, found, ended, bodied, read_record, valued, record_at}
use Rattle.trace_records.specs.Writes.{record_of, write_record}
use Rattle.trace_records.specs.Traces.{onward, read_all_by, read_all, is_whole, takes_all, write_all}
use Rattle.trace_records.specs.Promises.{pause_numbers, pause_record, pauses, Takes, Writes, Puts, Witnesses}

takes : fine (body 2) [] pause_numbers ≡ true
unfolding fine fits stands within command_rows
takes = refl

takes_all_lem : Takes pauses
unfolding takes_all fine fits stands within command_rows
takes_all_lem = refl

reads : read_record pause_record ≡ found 2 pause_numbers []
unfolding read_record bodied ended possible steps step taken stands within num head_rows command_rows
reads = refl

to_the_end : is_whole (read_all 0 pause_record) ≡ true
unfolding is_whole read_all_by onward read_record bodied ended possible steps step taken stands within num head_rows command_rows
to_the_end = refl

writes : Writes (replicate 20 0) 4 pauses
unfolding write_all write_record record_of payload field fine fits stands within bytes head_rows command_rows
writes = refl

answers : (record_at pause_record 0).refusal ≡ 0
unfolding record_at valued read_record bodied ended possible steps step taken stands within num head_rows command_rows
answers = refl

puts : Puts (replicate 20 0) 4 2 pause_numbers
unfolding write_record record_of payload field fine fits stands within bytes head_rows command_rows
puts = refl

pub witnesses : Witnesses
witnesses =
    record {
      read_back = record { kind = refl; takes = takes };
      written_again = record { bytes = small_of pause_record tt; reads = reads };
      trace_read_back = takes_all_lem;
      trace_written_again = record { bytes = small_of pause_record tt; to_the_end = to_the_end };
      trace_appended = writes;
      window = omega arith;
      answer_written = record { bytes = small_of pause_record tt; reads = answers };
      written_answer = puts;
    }
