use Rattle.std.proofs.Common.{get_or, ap}
use Rattle.std.proofs.lemmas.List.Edits.{map_over_more}
use Rattle.bearer_state.specs.Changes.{unbound}
use Rattle.bearer_state.proofs.bearers.unbind.Goals as goal

pub loop-bearer-preserved : goal.loop-bearer-preserved
loop-bearer-preserved c = map_over_more unbound c.args.bearers.now c.loop-bearer.bearers c.loop-bearer.bearer-index
    (get_or c.loop-bearer.bearers c.loop-bearer.bearer-index c.bearer-item.result) c.loop-bearer-test.true
    c.loop-bearer.invariant (ap (λ d. get_or c.loop-bearer.bearers c.loop-bearer.bearer-index d) c.bearer-item.is)
