-- The C records of traces: what a read, a write and a salvage return, as numbers.
use Rattle.std.specs.Prelude.{ℕ, List}
use Rattle.trace_records.specs.Records as records
use Rattle.trace_records.specs.Writes.{Written}
use Rattle.trace_records.specs.Writes as writes
use Rattle.trace_salvage.specs.Salvage.{Salvaged}
use Rattle.trace_salvage.specs.Salvage as salvages
use Rattle.cableowl.specs.declared.traces.Record.{Record}
use Rattle.cableowl.specs.declared.traces.Sent.{Sent}
use Rattle.cableowl.specs.declared.traces.Saved.{Saved}

-- a record that was read
abbrev pub record_c : records.Record → Record
record_c r = record { refusal = r.refusal; kind = r.kind; next = r.next; values = r.values }

-- the answer of a write
abbrev pub sent_c : writes.Sent → Sent
sent_c a = record { refusal = a.refusal; next = a.next }

-- with the buffer after the write
abbrev pub sent_of : Sent → List ℕ → Written
sent_of a buf = record { number = a.refusal; next = a.next; buffer = buf }

-- the answer of a salvage
abbrev pub saved_c : salvages.Saved → Saved
saved_c r = record { refusal = r.refusal; records = r.records; skipped = r.skipped; first = r.first }

-- with the output after it
abbrev pub saved_of : Saved → List ℕ → Salvaged
saved_of r out = record { number = r.refusal; count = r.records; skip = r.skipped; place = r.first; output = out }
