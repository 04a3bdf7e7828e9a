-- The theorems, by their laws. Assumes nothing.
use mathlib.Core.Path.{◌≡◌, refl, ap, ◌∙◌}
use Prim.Native.Nat.{ℕ}
use mathlib.Core.Bool.{true}
use mathlib.Core.List.{List, [], ◌∷◌, ◌++◌, append-nil}
use lib.ListN.{replicate}
use Rattle.byte_layout.specs.Numbers.{Bytes}
use Rattle.byte_layout.proofs.Numbers.{small_of}
use Rattle.trace_records.specs.Promises.{pause_numbers, pause_record}
use Rattle.trace_records.specs.Records.{found}
use Rattle.trace_records.specs.Traces.{and_then, read_all_by, is_whole}
use Rattle.trace_records.proofs.Traces.{one_first}
use Rattle.trace_records.proofs.Witnesses as trace_records
use Rattle.trace_sealed.specs.Records.{read_by}
use Rattle.trace_sealed.specs.Promises.{silent_numbers, silent_record}
use Rattle.trace_sealed.proofs.Readers.{as_reader_1, by_2, opens_by}
use Rattle.trace_sealed.proofs.Promises as trace_sealed
use Rattle.trace_salvage.specs.Salvage.{size_by}
use Rattle.trace_salvage.specs.Promises.{story, Whole, Witnesses, Promises}
use Rattle.trace_salvage.proofs.Keeps.{all_bytes}
use Rattle.trace_salvage.proofs.Mended.{whole_kept, again, mended, before_hole}

damaged : Bytes (0 ∷ pause_record)
damaged = small_of (0 ∷ pause_record) tt

first_version : Whole 1 pause_record
unfolding read_by
first_version = record { bytes = (trace_records.witnesses).trace_written_again.bytes; to_the_end = (trace_records.witnesses).trace_written_again.to_the_end }

-- a record that is all of the bytes, and more after it
one_record : (k : ℕ) (ws bs more : List ℕ) → Bytes bs → read_by 2 bs ≡ found k ws [] → story 2 (bs ++ more) ≡ and_then (record { kind = k; numbers = ws }) (story 2 more)
one_record k ws bs more s e =
    let o = opens_by 2 bs k ws [] s e in
    ap (λ (z : List ℕ). story 2 (z ++ more)) (o.same ∙ append-nil o.front) ∙ one_first (read_by 2) k ws o.front more (o.reads more) o.some

silent_read : read_by 2 silent_record ≡ found 5 (silent_numbers ++ replicate 24 0) []
silent_read = by_2 2 silent_record refl ∙ (trace_sealed.kept).witnesses.written_again.reads

pause_read : read_by 2 pause_record ≡ found 2 pause_numbers []
pause_read = by_2 2 pause_record refl ∙ as_reader_1 pause_record refl ∙ (trace_records.witnesses).written_again.reads

pauses_to_the_end : is_whole (story 2 pause_record) ≡ true
unfolding read_all_by is_whole
pauses_to_the_end = ap is_whole (one_record 2 pause_numbers pause_record [] (small_of pause_record tt) pause_read)

second_version : Whole 2 (silent_record ++ pause_record)
unfolding is_whole
second_version =
    record {
      bytes = small_of (silent_record ++ pause_record) tt;
      to_the_end = ap is_whole (one_record 5 (silent_numbers ++ replicate 24 0) silent_record pause_record (small_of silent_record tt) silent_read) ∙ pauses_to_the_end;
    }

witnesses : Witnesses
witnesses = record { whole_kept = (first_version, second_version); again = damaged; mended = damaged; before_the_hole = damaged }

pub all_kept : Promises
all_kept =
    record {
      all_bytes = λ v bs. all_bytes (size_by v) bs 0;
      whole_kept = λ v bs x. whole_kept v bs x.bytes x.to_the_end;
      again = again;
      mended = mended;
      before_the_hole = before_hole;
      witnesses = witnesses;
    }
