-- Lines have one report.
use Rattle.std.proofs.Common.{◌≡◌, ℕ, false, List, sym, ap, ◌∙◌}
use Rattle.trace_lines.specs.Input.{Input}
use Rattle.lawful_run.specs.Setup.{solo}
use Rattle.lawful_run.specs.Report.{report_text}
use Rattle.lawful_run.specs.Trace.{answered_report, epochs_told, slots_of}
use Rattle.lawful_run.proofs.OneRun.{run_is_one}
use Rattle.solo_command.specs.Report.{IsSoloReport, slices}
use Rattle.trace_run.specs.Report.{IsText}

-- it is that of the sequential gateway
report_is : (input : Input) (text : List ℕ) → IsText IsSoloReport false input text
    → text ≡ report_text false (answered_report solo input)
report_is input text told =
    told.written ∙ ap (report_text false) (run_is_one solo (slots_of input)
    (epochs_told slices input) told.report told.allowed.lawful told.allowed.in_sequence)

pub one_report : (input : Input) (text other : List ℕ) → IsText IsSoloReport false input text
    → IsText IsSoloReport false input other → text ≡ other
one_report input text other told also = report_is input text told ∙ sym (report_is input other also)
