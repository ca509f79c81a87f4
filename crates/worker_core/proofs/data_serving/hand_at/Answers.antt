use Rattle.std.proofs.Common.{rules}
use Rattle.std.proofs.lemmas.Result.{IfOk-weaker}
use Rattle.worker_core.proofs.data_serving.hand_at.Goals as goal

pub returns-clause-changed : goal.returns-clause-changed
returns-clause-changed g c = IfOk-weaker c.hand.result _ _
    (λ tried did. (c.index_mut.result.now, c.hand.new.half, search rules, did.0, c.hand.ensures.here, did.1))
    c.hand.ensures.handed
