-- A trace that was cut behind a FENCE, saved and resumed.
use Rattle.std.proofs.Common.{ℕ, false, List, ◌++◌, map, ◌∙◌}
use Rattle.std.specs.List.{flat_map}
use Rattle.pc_outside.specs.Faults.{Rises}
use Rattle.report_lines.specs.declared.entry.Entry.TheVariants as entry
use Rattle.trace_lines.specs.Input.{Input, input_of}
use Rattle.lawful_run.specs.Report.{epoch_entries}
use Rattle.trace_run.specs.Report.{IsText, Reports}
use Rattle.trace_run.specs.declared.status.Status.{Status}
use Rattle.trace_run.specs.declared.status.Status.TheVariants as status
use Rattle.solo_command.specs.Gateway.{no_subscribers}
use Rattle.solo_command.specs.Reports.{Gives}
use Rattle.solo_command.specs.Law.{ResumedRunsGoOn, TellsAll}
use Rattle.solo_command.proofs.LawTexts.{texts_split}
use Rattle.solo_command.specs.Report.{IsSoloReport}
use Rattle.report_laws.specs.Resuming.{CutRunsGoOn}

given_text : (input : Input) (text : List ℕ) → IsText IsSoloReport false input text
    → IsText (Gives 64 no_subscribers) false input text
given_text input text is =
    let own = is.allowed.gives in
    record { report = own.report; allowed = own.allowed; written = is.written ∙ own.written }

-- what `solo` told is what its gateway gives by what its subscribers hold
given : (ending : Status) (before after : ℕ) (octets left text : List ℕ) → TellsAll ending
    → Reports IsSoloReport false ending (Rises before after) octets left text
    → Reports (Gives 64 no_subscribers) false ending (Rises before after) octets left text
given status.Ok before after octets left text tells report =
    (report.0, report.1, given_text (input_of octets) text report.2)
given status.Usage before after octets left text tells report = absurd tells
given status.ReadFault before after octets left text tells report = absurd tells
given status.WriteFault before after octets left text tells report = absurd tells
given status.NoMemory before after octets left text tells report = absurd tells
given status.BadLine before after octets left text tells report = (report.0, given_text (input_of octets) text report.1)
given status.LineLong before after octets left text tells report = (report.0, given_text (input_of octets) text report.1)
given status.TooLong before after octets left text tells report = (report.0, given_text (input_of octets) text report.1)
given status.Refuted before after octets left text tells report = absurd tells
given status.BadCapture before after octets left text tells report = absurd tells
given status.BadState before after octets left text tells report = absurd tells
given status.BadReport before after octets left text tells report = absurd tells

pub cut_runs : ResumedRunsGoOn → CutRunsGoOn
cut_runs go_on octets behind saved first whole resumed ending resumed_ending runs =
    let told = given_text (input_of octets) first runs.first_run.reports.2 in
    let state = runs.save_run.saves.2 in
    let all = runs.whole_run in
    let later = runs.resumed_run in
    let both = go_on octets behind saved state.file told.report ending resumed_ending all.faults all.later later.faults
    later.later whole all.left resumed later.left runs.fenced runs.short runs.saved_short state.left state.octets
    state.written told.allowed runs.tells
    (given ending all.faults all.later (octets ++ behind) all.left whole runs.tells all.reports) runs.resumed_tells
    later.resumes in
    record {
      report = told.report;
      has = told.allowed;
      first_is = told.written
          ∙ texts_split (flat_map epoch_entries told.report.epochs) (map entry.Charge told.report.opens);
      whole_is = both.1;
      one_status = both.0;
    }
