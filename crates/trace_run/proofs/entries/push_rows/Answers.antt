use Rattle.trace_run.proofs.EntryLemmas.{rows_more}
use Rattle.trace_run.proofs.entries.push_rows.Goals as goal

pub loop-row-preserved : goal.loop-row-preserved
loop-row-preserved c = λ places.
    rows_more places c.args.slot c.args.report.now c.loop-row.report c.push_row.new.report c.args.rows.now
    c.loop-row.row-index c.row-item.result c.loop-row-test.true c.row-item.is (c.loop-row.invariant places)
    c.in_ok-push_row.ensures
