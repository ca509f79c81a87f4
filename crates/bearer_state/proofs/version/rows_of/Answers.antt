use Rattle.std.proofs.Common.{ap}
use Rattle.bearer_state.specs.declared.bearer.Bearer.{Bearer}
use Rattle.bearer_state.specs.Version.{row_in}
use Rattle.bearer_state.proofs.ListLemmas.{filter_map_skipped, filter_map_pushed}
use Rattle.bearer_state.proofs.version.rows_of.Goals as goal
use Rattle.bearer_state.proofs.version.rows_of.Goals.{in-Asked, in-Active+in_ok-try_clone-in-Active+in_ok-push-in-Active}

pub loop-bearer-preserved : goal.loop-bearer-preserved
loop-bearer-preserved c =
    elim c.match-bearer.branch [
      | in-Asked w ↦
          let kept = filter_map_skipped (λ (b : Bearer). row_in b b.phase) c.args.bearers.now
          c.loop-bearer.bearer-index c.bearer-item.result _ c.loop-bearer-test.true c.bearer-item.is
          (ap (row_in c.bearer-item.result) w.in-Asked.is) c.loop-bearer.invariant in
          cc
      | in-Active+in_ok-try_clone-in-Active+in_ok-push-in-Active w ↦
          let pushed = filter_map_pushed (λ (b : Bearer). row_in b b.phase) c.args.bearers.now
          c.loop-bearer.bearer-index c.bearer-item.result _ _ c.loop-bearer-test.true c.bearer-item.is
          (ap (row_in c.bearer-item.result) w.in-Active.is) c.loop-bearer.invariant in
          cc (w.in_ok-push-in-Active.ensures.items, w.in_ok-try_clone-in-Active.ensures)
    ]
