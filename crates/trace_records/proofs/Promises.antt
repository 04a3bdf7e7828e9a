-- What is promised beyond the contracts, by its laws. Assumes nothing.
use Rattle.trace_records.specs.Promises.{Promises}
use Rattle.trace_records.proofs.Rounds.{read_record_lem, written_record}
use Rattle.trace_records.proofs.Traces.{read_trace, written_trace, appended}
use Rattle.trace_records.proofs.Windows.{window}
use Rattle.trace_records.proofs.Answers.{answer_written, written_answer}
use Rattle.trace_records.proofs.Witnesses.{witnesses}

pub all_kept : Promises
all_kept =
    record {
      read_back = λ k ws rest x. read_record_lem k ws rest x.kind x.takes;
      written_again = λ bs k ws rest x. written_record bs k ws rest x.bytes x.reads;
      trace_read_back = read_trace;
      trace_written_again = λ bs x. written_trace bs x.bytes x.to_the_end;
      trace_appended = appended;
      window = window;
      answer_written = λ bs at buf to x. answer_written bs at buf to x.bytes x.reads;
      written_answer = written_answer;
      witnesses = witnesses;
    }
