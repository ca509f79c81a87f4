use Rattle.std.proofs.Common.{rules, ◌≡◌, ◌∙◌, bytes_eq, false, refl}
use Rattle.lawful_run.specs.Trace.{epochs_told}
use Rattle.packet_steps.proofs.ResultLemmas.{on_ok}
use Rattle.audit_core.specs.Said.{marker, trace_said}
use Rattle.audit_core.proofs.EvidenceTakes.{ends_are, heard_marker_ok, heard_report, heard_trace, trace_open}
use Rattle.audit_core.proofs.evidence.Evidence.take.Goals as goal

pub returns-then-self-clause-heard : goal.returns-then-self-clause-heard
returns-then-self-clause-heard c = λ texts hears.
    on_ok c.take-entry.result
    (λ taken. heard_report c.args.self.now texts c.args.text.now hears _ refl c.if-self.true c.if-self.true refl taken)
    (c.take-entry.ensures.taken (epochs_told c.args.self.now.setup.slices (trace_said texts)) hears.report_texts
    (c.as_slice.ensures.value
    ∙ ends_are c.args.self.now texts c.args.text.now hears c.args.self.now refl c.if-self.true)
    hears.reports)

pub returns-then-eq-clause-heard : goal.returns-then-eq-clause-heard
returns-then-eq-clause-heard c = λ texts hears.
    let is : c.args.text.now ≡ marker = search rules in
    heard_marker_ok c.close.result c.args.self.now texts c.args.text.now hears _ refl c.if-self.false is refl refl
    c.close.ensures.closed

pub returns-clause-heard : goal.returns-clause-heard
returns-clause-heard c = λ texts hears.
    let other : bytes_eq c.args.text.now marker ≡ false = search rules in
    on_ok c.take-taken.result
    (λ taken. heard_trace c.args.self.now texts c.args.text.now hears _ refl c.if-self.false other c.if-self.false refl
    taken)
    (c.take-taken.ensures.taken c.args.self.now.setup.slices hears.trace_texts
    (trace_open c.args.self.now texts c.args.text.now hears c.args.self.now refl c.if-self.false))
