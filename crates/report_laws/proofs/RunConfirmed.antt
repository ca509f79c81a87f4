-- The same of runs of the program.
use Rattle.std.proofs.Common.{◌≡◌, ℕ, List, None, Some, refl}
use Rattle.trace_lines.specs.Input.{Input, input_of}
use Rattle.lawful_run.specs.Report.{Report}
use Rattle.lawful_run.specs.Setup.{Setup, solo}
use Rattle.lawful_run.specs.Trace.{IsReport}
use Rattle.drive_command.specs.Driven.{IsDrivenReport}
use Rattle.pepc.specs.Drive.{schedule_asked}
use Rattle.pepc.specs.Replay.{setup_asked}
use Rattle.solo_command.specs.Report.{IsSoloReport}
use Rattle.pepc.specs.Audit.{audit_setup}
use Rattle.report_laws.specs.Confirming.{IsOwnText, audited_octets}
use Rattle.report_laws.specs.Running.{AreLawful, EachIsLawful, IsOwnRun, OwnRunIsConfirmed, OwnRunIsNeverRefuted}
use Rattle.report_laws.specs.Running.{RunIsConfirmed, RunIsNeverRefuted}
use Rattle.report_laws.proofs.OctetsConfirmed.{own_text_confirmed, own_text_never_refuted}

own_text : (under : Setup) (may_have : Input → Report → Type 0) → AreLawful under may_have → (octets text : List ℕ)
    → IsOwnRun may_have octets text → IsOwnText under octets text
own_text under may_have are octets text own = record {
  prefix = own.prefix;
  whole = own.whole;
  ends = own.wrote.0;
  report = own.wrote.2.report;
  lawful = are (input_of octets) own.wrote.2.report own.wrote.2.allowed;
  written = own.wrote.2.written;
}

confirmed : (under : Setup) (may_have : Input → Report → Type 0) → AreLawful under may_have
    → RunIsConfirmed under may_have
confirmed under may_have are octets text alone why slices room lane ending held own completes =
    completes (audited_octets octets text) refl own.read None
    (own_text_confirmed under (audit_setup alone slices room lane) octets text held
    (own_text under may_have are octets text own) own.read)

never_refuted : (under : Setup) (may_have : Input → Report → Type 0) → AreLawful under may_have
    → RunIsNeverRefuted under may_have
never_refuted under may_have are octets text left told alone why slices room lane held own audits =
    let k : ℕ = audits.1.0 in
    let none : Some k ≡ None =
    own_text_never_refuted under (audit_setup alone slices room lane) octets text (Some k) held
    (own_text under may_have are octets text own) own.read audits.1.1.finds in cc

pub run_confirmed : EachIsLawful → OwnRunIsConfirmed
run_confirmed each = record {
  sequential = confirmed solo IsSoloReport each.sequential;
  driven = λ lanes turns. confirmed (setup_asked lanes) (IsDrivenReport (schedule_asked lanes turns))
      (each.driven lanes turns);
  replayed = λ lanes. confirmed (setup_asked lanes) (IsReport (setup_asked lanes)) (each.replayed lanes);
}

pub run_never_refuted : EachIsLawful → OwnRunIsNeverRefuted
run_never_refuted each = record {
  sequential = never_refuted solo IsSoloReport each.sequential;
  driven = λ lanes turns. never_refuted (setup_asked lanes) (IsDrivenReport (schedule_asked lanes turns))
      (each.driven lanes turns);
  replayed = λ lanes. never_refuted (setup_asked lanes) (IsReport (setup_asked lanes)) (each.replayed lanes);
}
