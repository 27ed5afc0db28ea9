-- The outcome of a run: the report, or the first refusal in the order of the inputs. It is a
-- function of the input bytes alone.
use Rattle.std.specs.Prelude.{ℕ, List, length, Result, Ok, Err}
use Rattle.port_call.specs.declared.faults.InputFault.{InputFault}
use Rattle.port_call.specs.declared.faults.RunFault.{RunFault}
use Rattle.port_call.specs.declared.inputs.Inputs.{Inputs}
use Rattle.port_call.specs.Inputs.{Case, case_of}
use Rattle.port_call.specs.Refusals.{run_fault}
use Rattle.seq_report.specs.declared.complete.Summary.{Summary}
use Rattle.seq_report.specs.Report.{Line, lines_of, report_of, first_of}

-- a report, and what it came to
pub record Outcome : Type 0 where
  pub text : List ℕ
  pub summary : Summary

abbrev pub outcome_on : List Line → Outcome
outcome_on lines =
    record {
      text = report_of lines;
      summary = record { lines = length lines; first = first_of lines };
    }

-- of a case that is defined, or its refusal
abbrev pub outcome_if : Result Case InputFault → Result Outcome RunFault
outcome_if (Ok case) = Ok (outcome_on (lines_of case.ship case.arrival case.ops))
outcome_if (Err e) = Err (run_fault e)

-- of the inputs
abbrev pub outcome_of : Inputs → Result Outcome RunFault
outcome_of inputs = outcome_if (case_of inputs)
