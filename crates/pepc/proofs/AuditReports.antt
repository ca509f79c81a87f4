-- What an audit wrote, by its status.
use Rattle.std.proofs.Common.{◌≡◌, ℕ, inl, inr, Bool, List, [], Option, None, Some, refl, sym, ◌∙◌, subst}
use Rattle.std.proofs.KnownBytes.{Appends-nil}
use Rattle.lawful_run.specs.Setup.{Setup}
use Rattle.audit_core.specs.Findings.{Finds}
use Rattle.audit_core.specs.Report.{Reports}
use Rattle.audit_core.specs.Report.{Audits as AuditsThere}
use Rattle.pc_outside.specs.Texts.{big, ended, long, texts_of}
use Rattle.audit_core.specs.declared.auditing.Audited.{Audited}
use Rattle.audit_core.specs.declared.auditing.Audited.TheVariants as audited
use Rattle.audit_core.proofs.OneFinding.{one_finding}
use Rattle.pepc.specs.Audit.{AuditReports, Audits, Settles, status_of}
use Rattle.trace_run.specs.declared.status.Status.{Status}
use Rattle.trace_run.specs.declared.status.Status.TheVariants as status
use Rattle.pc_outside.specs.WhereTold.{WhereTold}
use Rattle.pc_outside.proofs.ToldLemmas.{told_map}

reports_are : (one : Audited) (why : Bool) (setup : Setup) (octets left text : List ℕ)
    → Reports one why setup octets left text → AuditReports (status_of one) why setup octets left text
reports_are audited.Confirmed why setup octets left text reports = reports
reports_are audited.Refuted why setup octets left text reports = reports
reports_are audited.ReadFault why setup octets left text reports = reports
reports_are audited.WriteFault why setup octets left text reports = reports
reports_are audited.NoMemory why setup octets left text reports = reports
reports_are audited.LineLong why setup octets left text reports = reports
reports_are audited.TooLong why setup octets left text reports = reports

pub audits_are : (why : Bool) (setup : Setup) (one : Audited) (start left old new : Option (List ℕ))
    → AuditsThere why one setup start left old new → Audits why setup (status_of one) start left old new
audits_are why setup one start left old new audits = record {
  text = audits.text;
  written = audits.written;
  report = told_map start left (λ octets rest. Reports one why setup octets rest audits.text)
      (λ octets rest. AuditReports (status_of one) why setup octets rest audits.text)
      (λ octets rest reports. reports_are one why setup octets rest audits.text reports) audits.report;
}

-- memory ran out before anything was read
pub nothing_audited : (why : Bool) (setup : Setup) (start sink : Option (List ℕ))
    → Audits why setup status.NoMemory start start sink sink
nothing_audited why setup start sink = record { text = []; written = Appends-nil sink; report = told start }
  where
    told : (start : Option (List ℕ)) → WhereTold start start
        (λ octets rest. AuditReports status.NoMemory why setup octets rest [])
    told None = tt
    told (Some octets) = refl

pub nothing_settles : (found : Option ℕ) → Settles found status.NoMemory
nothing_settles None = inr refl
nothing_settles (Some k) = inr refl

-- Where the input ends with its last line and nothing failed, the status is that of what is found, unless memory ran
-- out.
pub audit_complete : (why : Bool) (setup : Setup) (ending : Status) (source_failed sink_failed : Type 0) (octets : List ℕ)
    (start left old new : Option (List ℕ)) (found : Option ℕ) → start ≡ Some octets
    → (texts_of octets).stop ≡ ended → (source_failed → ⊥) → (sink_failed → ⊥)
    → (ending ≡ status.ReadFault → source_failed) → (ending ≡ status.WriteFault → sink_failed)
    → Finds setup (texts_of octets).lines found
    → Audits why setup ending start left old new → Settles found ending
audit_complete why setup ending source_failed sink_failed octets start left old new found is stop no_fault no_sink
    read_fault write_fault finds runs =
    by_left left (subst (λ s. WhereTold s left (λ o l. AuditReports ending why setup o l runs.text)) is runs.report)
  where
    by_status : (s : Status) (l text : List ℕ) → AuditReports s why setup octets l text
        → (s ≡ status.ReadFault → source_failed) → (s ≡ status.WriteFault → sink_failed) → Settles found s
    by_status status.Ok l text reports read write =
        subst (λ f. Settles f status.Ok) (one_finding setup (texts_of octets).lines None found reports.1.finds finds)
        (inl refl)
    by_status status.Usage l text reports read write = absurd reports
    by_status status.ReadFault l text reports read write = absurd (no_fault (read refl))
    by_status status.WriteFault l text reports read write = absurd (no_sink (write refl))
    by_status status.NoMemory l text reports read write = nothing_settles found
    by_status status.BadLine l text reports read write = absurd reports
    by_status status.LineLong l text reports read write = let clash : ended ≡ long = sym stop ∙ reports.0 in cc
    by_status status.TooLong l text reports read write = let clash : ended ≡ big = sym stop ∙ reports.0 in cc
    by_status status.Refuted l text reports read write =
        subst (λ f. Settles f status.Refuted)
        (one_finding setup (texts_of octets).lines (Some reports.1.0) found reports.1.1.finds finds) (inl refl)
    by_status status.BadCapture l text reports read write = absurd reports
    by_status status.BadState l text reports read write = absurd reports
    by_status status.BadReport l text reports read write = absurd reports

    by_left : (l : Option (List ℕ)) → WhereTold (Some octets) l (λ o rest. AuditReports ending why setup o rest runs.text)
        → Settles found ending
    by_left None told = absurd told
    by_left (Some rest) told = by_status ending rest runs.text told read_fault write_fault
