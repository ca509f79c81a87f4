use Rattle.std.proofs.Common.{sym}
use Rattle.bearer_state.specs.declared.bearer.Bearer.{Bearer}
use Rattle.bearer_state.specs.Version.{active_in}
use Rattle.bearer_state.proofs.ListLemmas.{filter_map_skipped, filter_map_pushed}
use Rattle.bearer_state.proofs.version.actives_of.Goals as goal
use Rattle.bearer_state.proofs.version.actives_of.Goals.{in-Some+in_ok-push-in-Some, in-None}

pub loop-bearer-preserved : goal.loop-bearer-preserved
loop-bearer-preserved c =
    elim c.match-active.branch [
      | in-Some+in_ok-push-in-Some w ↦
          let pushed = filter_map_pushed (λ (b : Bearer). active_in b b.phase) c.args.bearers.now
          c.loop-bearer.bearer-index c.bearer-item.result _ _ c.loop-bearer-test.true c.bearer-item.is
          (sym w.in-Some.ensures) c.loop-bearer.invariant in
          cc (w.in_ok-push-in-Some.ensures.items)
      | in-None w ↦
          let kept = filter_map_skipped (λ (b : Bearer). active_in b b.phase) c.args.bearers.now
          c.loop-bearer.bearer-index c.bearer-item.result _ c.loop-bearer-test.true c.bearer-item.is
          (sym w.in-None.ensures) c.loop-bearer.invariant in
          cc
    ]
