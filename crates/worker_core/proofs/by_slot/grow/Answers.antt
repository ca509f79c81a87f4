use Rattle.std.proofs.Common.{rules, arith}
use Rattle.worker_core.proofs.Growing.{grown_none, grown_more, grown_same}
use Rattle.worker_core.proofs.by_slot.grow.Goals as goal

pub loop-places-init : goal.loop-places-init
loop-places-init g c = (grown_none _, λ most long old. old)

pub loop-places-preserved : goal.loop-places-preserved
loop-places-preserved g c = (
  grown_more _ _ _ c.loop-places.invariant.0 (search rules),
  λ most long old.
      let e = c.loop-places.invariant.1 most long old in search (rules, arith),
)

pub returns-in_err-push-clause-grown : goal.returns-in_err-push-clause-grown
returns-in_err-push-clause-grown g c = grown_same _ _ _ c.loop-places.invariant.0 (search rules)
