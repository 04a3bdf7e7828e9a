-- The same for the functions that replay a trace as crates/theorems/specs/Coincide.antt says for the others: any two
-- outcomes that one contract allows for one input coincide. Of a borrowed buffer the part in use is compared: the run's
-- samples, and the written bytes of the line.
use Rattle.std.specs.Prelude.{ℕ, List, take, Float}
use borrow.Fn.Read.{r_last}
use Rattle.float_bits.specs.contracts.digit_value as FloatBitsDigitValue
use Rattle.float_bits.specs.contracts.f64_of as FloatBitsF64Of
use Rattle.float_bits.specs.contracts.f32_of as FloatBitsF32Of
use Rattle.float_bits.specs.contracts.bits_of_f64 as FloatBitsBitsOfF64
use Rattle.float_bits.specs.contracts.bits_of_f32 as FloatBitsBitsOfF32
use Rattle.trace_inputs.specs.contracts.settings_of as TraceInputsSettingsOf
use Rattle.trace_inputs.specs.contracts.put_samples as TraceInputsPutSamples
use Rattle.trace_inputs.specs.contracts.commands_of as TraceInputsCommandsOf
use Rattle.trace_inputs.specs.contracts.block_of as TraceInputsBlockOf
use Rattle.trace_inputs.specs.contracts.HeldFromBlock.from as HeldFromBlock
use Rattle.trace_inputs.specs.contracts.given_samples_of as TraceInputsGivenSamplesOf
use Rattle.trace_inputs.specs.contracts.laned_block_of as TraceInputsLanedBlockOf
use Rattle.trace_inputs.specs.contracts.singles_of as TraceInputsSinglesOf
use Rattle.trace_inputs.specs.contracts.doubles_of as TraceInputsDoublesOf
use Rattle.trace_lines.specs.contracts.put_block as TraceLinesPutBlock
use Rattle.trace_lines.specs.contracts.put_refused_block as TraceLinesPutRefusedBlock
use Rattle.trace_lines.specs.contracts.put_refused as TraceLinesPutRefused
use Rattle.trace_replay.specs.contracts.begin as TraceReplayBegin
use Rattle.trace_replay.specs.contracts.play_record as TraceReplayPlayRecord
use Rattle.trace_replay.specs.contracts.advance as TraceReplayAdvance
use Rattle.theorems.specs.Coincide.{Decides, DecidesWith, Post}

-- the run's samples, and the line
abbrev pub InUse : Type 0
InUse = List Float × List ℕ

pub record Coincide : Type 0 where
  -- float_bits
  pub float_bits_digit_value :
      Decides (Post FloatBitsDigitValue.ended FloatBitsDigitValue.clauses (λ k a. (tt, λ r s. r_last _)))
  pub float_bits_f64_of : Decides (Post FloatBitsF64Of.ended FloatBitsF64Of.clauses (λ k a. (tt, λ r s. r_last _)))
  pub float_bits_f32_of : Decides (Post FloatBitsF32Of.ended FloatBitsF32Of.clauses (λ k a. (tt, λ r s. r_last _)))
  pub float_bits_bits_of_f64 :
      Decides (Post FloatBitsBitsOfF64.ended FloatBitsBitsOfF64.clauses (λ k a. (tt, λ r s. r_last _)))
  pub float_bits_bits_of_f32 :
      Decides (Post FloatBitsBitsOfF32.ended FloatBitsBitsOfF32.clauses (λ k a. (tt, λ r s. r_last _)))
  -- trace_inputs
  pub trace_inputs_settings_of :
      Decides (Post TraceInputsSettingsOf.ended TraceInputsSettingsOf.clauses (λ k a. (tt, λ r s. r_last _)))
  pub trace_inputs_put_samples :
      DecidesWith (λ k r s. s.1.0.now) (Post TraceInputsPutSamples.ended TraceInputsPutSamples.clauses
      (λ k a. (tt, λ r s. r_last _)))
  pub trace_inputs_commands_of :
      Decides (Post TraceInputsCommandsOf.ended TraceInputsCommandsOf.clauses (λ k a. (tt, λ r s. r_last _)))
  pub trace_inputs_block_of :
      Decides (Post TraceInputsBlockOf.ended TraceInputsBlockOf.clauses (λ k a. (tt, λ r s. r_last _)))
  pub trace_inputs_held_from :
      Decides (Post HeldFromBlock.ended HeldFromBlock.clauses (λ k a. (tt, λ r s. r_last _)))
  pub trace_inputs_given_samples_of :
      Decides (Post TraceInputsGivenSamplesOf.ended TraceInputsGivenSamplesOf.clauses (λ k a. (tt, λ r s. r_last _)))
  pub trace_inputs_laned_block_of :
      Decides (Post TraceInputsLanedBlockOf.ended TraceInputsLanedBlockOf.clauses (λ k a. (tt, λ r s. r_last _)))
  pub trace_inputs_singles_of :
      Decides (Post TraceInputsSinglesOf.ended TraceInputsSinglesOf.clauses (λ k a. (tt, λ r s. r_last _)))
  pub trace_inputs_doubles_of :
      Decides (Post TraceInputsDoublesOf.ended TraceInputsDoublesOf.clauses (λ k a. (tt, λ r s. r_last _)))
  -- trace_lines
  pub trace_lines_put_block :
      DecidesWith (λ k r s. s.0.now) (Post TraceLinesPutBlock.ended TraceLinesPutBlock.clauses
      (λ k a. (tt, λ r s. r_last _)))
  pub trace_lines_put_refused_block :
      DecidesWith (λ k r s. s.0.now) (Post TraceLinesPutRefusedBlock.ended TraceLinesPutRefusedBlock.clauses
      (λ k a. (tt, λ r s. r_last _)))
  pub trace_lines_put_refused :
      DecidesWith (λ k r s. s.0.now) (Post TraceLinesPutRefused.ended TraceLinesPutRefused.clauses
      (λ k a. (tt, λ r s. r_last _)))
  -- trace_replay
  pub trace_replay_begin : Decides (Post TraceReplayBegin.ended TraceReplayBegin.clauses (λ k a. (tt, λ r s. r_last _)))
  pub trace_replay_play_record : DecidesWith {B = InUse}
      (λ k r s. (
        take r.run.samples s.1.1.1.0.now,
        take r.written s.1.1.1.1.0.now,
      )) (Post TraceReplayPlayRecord.ended TraceReplayPlayRecord.clauses (λ k a. (tt, λ r s. r_last _)))
  pub trace_replay_advance : DecidesWith {B = InUse}
      (λ k r s. (
        take r.run.samples s.1.1.1.1.0.now,
        take r.written s.1.1.1.1.1.0.now,
      )) (Post TraceReplayAdvance.ended TraceReplayAdvance.clauses (λ k a. (tt, λ r s. r_last _)))
