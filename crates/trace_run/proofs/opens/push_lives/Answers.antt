use Rattle.bearer_state.specs.declared.version.ActiveBearer.{ActiveBearer}
use Rattle.trace_run.specs.Entries.{open_for}
use Rattle.trace_run.proofs.EntryLemmas.{charges_more}
use Rattle.trace_run.proofs.opens.push_lives.Goals as goal

pub loop-bearer-preserved : goal.loop-bearer-preserved
loop-bearer-preserved c = λ places.
    charges_more places (λ (bearer : ActiveBearer). open_for c.args.slot c.args.counted.now bearer.life)
    c.args.report.now c.loop-bearer.report c.push_life.new.report c.args.bearers.now c.loop-bearer.bearer-index
    c.bearer-item.result c.loop-bearer-test.true c.bearer-item.is (c.loop-bearer.invariant places)
    (c.in_ok-push_life.ensures places)
