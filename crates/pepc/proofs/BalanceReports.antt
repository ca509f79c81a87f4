-- What `balance` wrote, by its status.
use Rattle.std.proofs.Common.{◌≡◌, ℕ, inl, inr, List, [], Option, None, Some, refl, sym, ◌∙◌, subst}
use Rattle.std.proofs.KnownBytes.{Appends-nil}
use Rattle.audit_core.specs.Said.{HasNoEntry, report_texts}
use Rattle.pc_outside.specs.Texts.{big, ended, long, texts_of}
use Rattle.balance_plan.specs.Report.{Balances, Reports}
use Rattle.balance_plan.specs.Said.{IsTrace}
use Rattle.trace_lines.specs.Input as trace
use Rattle.trace_lines.specs.declared.bad.LineBad.{LineBad}
use Rattle.trace_run.specs.declared.status.Status.{Status}
use Rattle.trace_run.specs.declared.status.Status.TheVariants as status
use Rattle.trace_run.specs.Report.{IsDone}
use Rattle.pc_outside.specs.WhereTold.{WhereTold}

-- memory ran out before anything was read
pub nothing_balanced : (slices most : ℕ) (start sink : Option (List ℕ))
    → Balances status.NoMemory slices most start start sink sink
nothing_balanced slices most start sink = record { text = []; written = Appends-nil sink; report = told start }
  where
    told : (start : Option (List ℕ)) → WhereTold start start
        (λ octets rest. Reports status.NoMemory slices most octets rest [])
    told None = tt
    told (Some octets) = refl

not_bad : (number : ℕ) (why : LineBad) → trace.ended ≡ trace.bad number why → ⊥
not_bad number why same = cc

-- Where the input ends with its last line, no line of the trace is refused, each of the report is an entry's, and
-- nothing failed, the trace was written, unless memory ran out.
pub balance_complete : (slices most : ℕ) (ending : Status) (source_failed sink_failed : Type 0) (octets : List ℕ)
    (start left old new : Option (List ℕ)) → start ≡ Some octets → (texts_of octets).stop ≡ ended
    → IsTrace (texts_of octets).lines → (HasNoEntry (report_texts (texts_of octets).lines) → ⊥)
    → (source_failed → ⊥) → (sink_failed → ⊥)
    → (ending ≡ status.ReadFault → source_failed) → (ending ≡ status.WriteFault → sink_failed)
    → Balances ending slices most start left old new → IsDone ending
balance_complete slices most ending source_failed sink_failed octets start left old new is stop good each no_fault no_sink
    read_fault write_fault runs =
    by_left left
    (subst (λ s. WhereTold s left (λ o l. Reports ending slices most o l runs.text)) is runs.report)
  where
    by_status : (s : Status) (l text : List ℕ) → Reports s slices most octets l text
        → (s ≡ status.ReadFault → source_failed) → (s ≡ status.WriteFault → sink_failed) → IsDone s
    by_status status.Ok l text reports read write = inl refl
    by_status status.Usage l text reports read write = absurd reports
    by_status status.ReadFault l text reports read write = absurd (no_fault (read refl))
    by_status status.WriteFault l text reports read write = absurd (no_sink (write refl))
    by_status status.NoMemory l text reports read write = inr refl
    by_status status.BadLine l text reports read write =
        absurd (not_bad reports.0.number reports.0.why (sym good ∙ reports.0.stop))
    by_status status.LineLong l text reports read write = let clash : ended ≡ long = sym stop ∙ reports.0 in cc
    by_status status.TooLong l text reports read write = let clash : ended ≡ big = sym stop ∙ reports.0 in cc
    by_status status.Refuted l text reports read write = absurd reports
    by_status status.BadCapture l text reports read write = absurd reports
    by_status status.BadState l text reports read write = absurd reports
    by_status status.BadReport l text reports read write = absurd (each reports.2)

    by_left : (l : Option (List ℕ)) → WhereTold (Some octets) l
        (λ o rest. Reports ending slices most o rest runs.text) → IsDone ending
    by_left None told = absurd told
    by_left (Some rest) told = by_status ending rest runs.text told read_fault write_fault
