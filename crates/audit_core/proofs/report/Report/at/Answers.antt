use Rattle.std.proofs.Common.{◌<◌, ◌≤◌, ◌∙◌, List, drop, length, ap, sym, subst, arith}
use Rattle.std.proofs.lemmas.List.{take_all}
use Rattle.report_lines.specs.Ranges.{IsEntry}
use Rattle.report_lines.specs.declared.entry.Entry.{Entry}
use Rattle.audit_core.specs.Belonging.{IsRunOf, epochs_of}
use Rattle.audit_core.specs.Places.{first_of}
use Rattle.audit_core.specs.declared.report.Run.{Run}
use Rattle.audit_core.specs.declared.sharing.Keyed.{Keyed}
use Rattle.audit_core.proofs.ReadLemmas.{all_drop, none_there, passes_run, run_has, said_ranges, same_entries}
use Rattle.audit_core.proofs.report.Report.at.Goals as goal
use Rattle.audit_core.proofs.report.Report.at.Goals.{else-own-place-via-then-own-place+else-place-own, else-own-place-via-else-own-place}

pub behind-requires : goal.behind-requires
behind-requires c =
    let report = c.args.self.now in
    let taken = c.requires.2 in
    let run = c.index.result.now in
    let runs = report.runs in
    let low : c.loop-k.k < length runs.items = let a = runs.ok in omega (arith, c.loop-k-test.true, c.len-k-end.ensures) in
    let of_run : IsRunOf report.texts taken.entries run.item =
    subst (λ (r : Keyed Run). IsRunOf report.texts taken.entries r.item) (sym c.index.ensures)
    (taken.each c.loop-k.k run low) in
    let has = run_has report.texts taken.entries run.item c.args.place of_run c.if-own-place.true c.if-place-own.true in (
      drop run.item.first taken.entries,
      all_drop IsEntry run.item.first taken.entries
          (said_ranges c.requires.0 c.requires.1 report taken c.requires.3),
      has.0,
      of_run.texts,
    )

pub returns-then-place-own : goal.returns-then-place-own
returns-then-place-own c = λ made texts entries taken said.
    let report = c.args.self.now in
    let run = c.index.result.now in
    let runs = report.runs in
    let low : c.loop-k.k < length runs.items = let a = runs.ok in omega (arith, c.loop-k-test.true, c.len-k-end.ensures) in
    let of_run : IsRunOf report.texts taken.entries run.item =
    subst (λ (r : Keyed Run). IsRunOf report.texts taken.entries r.item) (sym c.index.ensures)
    (taken.each c.loop-k.k run low) in
    let has = run_has report.texts taken.entries run.item c.args.place of_run c.if-own-place.true c.if-place-own.true in
    c.in_ok-behind.ensures (drop run.item.first taken.entries)
    (all_drop IsEntry run.item.first taken.entries (said_ranges made texts report taken c.requires.3)) has.0 of_run.texts
    ∙ ap first_of has.1
    ∙ ap (λ (es : List Entry). first_of (drop c.args.place es))
    (same_entries made texts report entries taken c.requires.3 said)

pub loop-k-preserved : goal.loop-k-preserved
loop-k-preserved c = λ follow.
    let runs = c.args.self.now.runs in
    let low : c.loop-k.k < length runs.items = let a = runs.ok in omega (arith, c.loop-k-test.true, c.len-k-end.ensures) in
    passes_run runs.items c.loop-k.k c.args.place c.index.result.now low c.index.ensures follow
    (c.loop-k.invariant follow)
    (λ first. elim c.else-own-place.branch [
      | else-own-place-via-then-own-place+else-place-own w ↦ w.if-place-own.false
      | else-own-place-via-else-own-place w ↦ absurd (omega (arith, first, w.if-own-place.false))
    ])

pub returns : goal.returns
returns c = λ made texts entries taken said.
    let report = c.args.self.now in
    let runs = report.runs in
    let all : length (epochs_of runs.items) ≤ c.args.place =
    subst (λ l. length (epochs_of l) ≤ c.args.place)
    (take_all c.loop-k.k runs.items (let a = runs.ok in omega (arith, c.loop-k-test.false, c.len-k-end.ensures)))
    (c.loop-k.invariant taken.follow) in
    sym (none_there made texts report c.args.place taken all)
    ∙ ap (λ (es : List Entry). first_of (drop c.args.place es))
    (same_entries made texts report entries taken c.requires.3 said)
