use Rattle.std.proofs.Common.{get_or, ap}
use Rattle.std.proofs.lemmas.List.Edits.{map_over_more}
use Rattle.bearer_state.specs.Changes.{rebound_bearer}
use Rattle.bearer_state.proofs.bearers.rebind.Goals as goal

pub loop-bearer-preserved : goal.loop-bearer-preserved
loop-bearer-preserved c = rw (c.or-bearer.ensures, c.enb_asked.ensures)
    (map_over_more (rebound_bearer c.args.asks.now) c.args.bearers.now c.loop-bearer.bearers
    c.loop-bearer.bearer-index (get_or c.loop-bearer.bearers c.loop-bearer.bearer-index c.bearer-item.result)
    c.loop-bearer-test.true c.loop-bearer.invariant (ap
    (λ d. get_or c.loop-bearer.bearers c.loop-bearer.bearer-index d) c.bearer-item.is))
