use Rattle.std.proofs.Common.{◌+◌, ap, ◌∙◌}
use Rattle.std.proofs.lemmas.Result.{IfOk-weaker}
use Rattle.audit_core.specs.Refuting.{at_report}
use Rattle.audit_core.specs.Said.{trace_said}
use Rattle.audit_core.specs.Setups.{setup_of}
use Rattle.audit_core.proofs.CaseLemmas.{case_so, ends_none, entries_are, heard_whole}
use Rattle.audit_core.proofs.FindingSteps.{case_of, found_at, found_yes, none_at, none_yes}
use Rattle.audit_core.proofs.evidence.finding_of.Goals as goal

pub judge_all-requires : goal.judge_all-requires
judge_all-requires c =
    let texts = c.requires.0 in
    let hears = c.requires.1 in
    let entries = hears.reports.entries in (
      case_of (setup_of c.args.heard.setup) (trace_said texts) entries,
      case_so c.args.heard texts hears c.close.new.self
          (heard_whole c.args.heard texts hears c.close.new.self c.in_ok-close.ensures.closed c.in_ok-close.ensures.again)
          c.if-report.false entries (entries_are c.args.heard texts hears c.if-report.false),
    )

pub returns-clause-no : goal.returns-clause-no
returns-clause-no c = λ texts hears.
    let entries = hears.reports.entries in
    let are = entries_are c.args.heard texts hears c.if-report.false in
    IfOk-weaker c.judge_all.result _ _
    (λ found has. found_at (setup_of c.args.heard.setup) texts entries found are has)
    (c.judge_all.ensures (case_of (setup_of c.args.heard.setup) (trace_said texts) entries)
    (case_so c.args.heard texts hears c.close.new.self
    (heard_whole c.args.heard texts hears c.close.new.self c.in_ok-close.ensures.closed c.in_ok-close.ensures.again)
    c.if-report.false entries are))

pub returns-clause-yes : goal.returns-clause-yes
returns-clause-yes c = λ texts entries hears are.
    IfOk-weaker c.judge_all.result _ _
    (λ found has. found_yes (setup_of c.args.heard.setup) (trace_said texts) entries found has)
    (c.judge_all.ensures (case_of (setup_of c.args.heard.setup) (trace_said texts) entries)
    (case_so c.args.heard texts hears c.close.new.self
    (heard_whole c.args.heard texts hears c.close.new.self c.in_ok-close.ensures.closed c.in_ok-close.ensures.again)
    c.if-report.false entries are))

pub returns-then-report-clause-no : goal.returns-then-report-clause-no
returns-then-report-clause-no c = λ texts hears.
    none_at (setup_of c.args.heard.setup) texts hears.reports.entries c.in_ok-place.place
    (ends_none c.args.heard texts hears c.if-report.true)
    (c.in_ok-place.ensures ∙ ap (λ n. at_report (n + 1)) hears.reports.count)

pub returns-then-report-clause-yes : goal.returns-then-report-clause-yes
returns-then-report-clause-yes c = λ texts entries hears are.
    none_yes (setup_of c.args.heard.setup) texts hears.reports.entries entries c.in_ok-place.place
    (ends_none c.args.heard texts hears c.if-report.true) are
