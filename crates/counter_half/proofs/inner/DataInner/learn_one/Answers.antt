use Rattle.std.proofs.Common.{◌≤◌, ◌^◌, length, arith}
use Rattle.lane_core.specs.Ends.{taken}
use Rattle.control_half.specs.Published.{in_kept}
use Rattle.counter_half.specs.Learnt.{learnt_in}
use Rattle.counter_half.proofs.Few.{few_learnt}
use Rattle.counter_half.proofs.inner.DataInner.learn_one.Goals as goal

pub learn_first-requires-clause-few : goal.learn_first-requires-clause-few
learn_first-requires-clause-few c =
    let old = c.args.self.now in
    let few : length (learnt_in old.state.learnt.items) ≤ 2 ^ 54 =
    few_learnt (taken old.versions) (learnt_in old.state.learnt.items)
    (in_kept old.batch) old.in_order old.versions.few in
    omega (arith, few, old.state.handles.met_is, old.few.0)
