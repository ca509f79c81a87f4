use Rattle.std.proofs.Common.{sym, subst, arith}
use Rattle.audit_core.proofs.ReadLemmas.{ReadsTo, are_kept, reads_none, reads_run, those_read}
use Rattle.audit_core.proofs.report.Report.entries_of.Goals as goal

pub read_run-requires : goal.read_run-requires
read_run-requires c =
    let taken = c.requires.3 in
    let kept = are_kept c.requires.0 c.requires.1 c.requires.2 c.args.self.now c.args.runs.now taken c.requires.4
    c.requires.5 in
    (taken.entries, taken.few, kept.ranges, kept.each c.loop-run.run-index _ c.loop-run-test.true)

pub loop-run-init : goal.loop-run-init
loop-run-init c =
    subst (ReadsTo c.args.self.now.texts c.args.runs.now 0) (sym c.new-all.ensures.items)
    (reads_none c.args.self.now.texts c.args.runs.now)

pub loop-run-preserved : goal.loop-run-preserved
loop-run-preserved c =
    reads_run c.args.self.now.texts c.args.runs.now c.loop-run.run-index _ c.loop-run.all.items
    c.read_run.new.all.items c.loop-run-test.true c.in_ok-read_run.ensures.entries c.in_ok-read_run.ensures.places
    c.loop-run.invariant

pub returns : goal.returns
returns c = λ made texts entries epoch taken said are.
    those_read made texts epoch c.args.self.now c.args.runs.now entries c.loop-run.all.items taken c.requires.4 said are
    (subst (λ k. ReadsTo c.args.self.now.texts c.args.runs.now k c.loop-run.all.items)
    (omega (arith, c.loop-run-test.false, c.loop-run.auto.run-index-end)) c.loop-run.invariant)
