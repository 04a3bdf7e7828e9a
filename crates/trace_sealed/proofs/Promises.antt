-- The theorems, by their laws. Assumes nothing.
use mathlib.Core.Path.{refl}
use native.Mathlib.Omega.{arith}
use lib.ListN.{replicate}
use Rattle.byte_layout.specs.Numbers.{num, bytes}
use Rattle.byte_layout.specs.Rows.{stands, within}
use Rattle.byte_layout.specs.Reads.{taken, step, steps}
use Rattle.byte_layout.specs.Writes.{field, payload, fits, fine}
use Rattle.byte_layout.proofs.Numbers.{small_of}
use Rattle.crc32.specs.Checksums.{bit, bits, byte, register, checksum_of}
use Rattle.trace_records.specs.Records.{in_steps}
use Rattle.trace_sealed.specs.Tables.{head_rows, laned_rows}
use Rattle.trace_sealed.specs.Records.{possible, tail, closed, bodied, read_sealed, read_any}
use Rattle.trace_sealed.specs.Promises.{Witnesses, Promises, silent_record}
use Rattle.trace_sealed.proofs.Readers.{read_any_lem, again, as_reader_1}
use Rattle.trace_sealed.proofs.Windows.{window}

witnesses : Witnesses
unfolding fine fits within stands field payload laned_rows head_rows num bytes taken step steps bit bits byte register checksum_of in_steps possible tail closed bodied read_sealed read_any
witnesses =
    record {
      read_back = record { kind = refl; takes = refl; whole = refl; bytes = small_of (replicate 24 0) tt };
      written_again = record { bytes = small_of silent_record tt; sealed = refl; reads = refl };
      as_reader_1 = refl;
      window = omega arith;
    }

pub kept : Promises
kept = record { read_back = read_any_lem; written_again = again; as_reader_1 = as_reader_1; window = window; witnesses = witnesses }
