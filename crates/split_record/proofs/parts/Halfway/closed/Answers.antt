use Rattle.std.proofs.Common.{◌≤◌, ◌^◌, List, subst}
use Rattle.lane_core.specs.Ends.{sent, taken}
use Rattle.subscriber.specs.Standing.{SubscriberState}
use Rattle.control_half.specs.Published.{Published, in_batch, in_batches, in_kept}
use Rattle.counter_half.specs.State.{learnt_by}
use Rattle.split_record.specs.Closing.{HasLeft}
use Rattle.split_record.specs.Origin.{start_in, commands_in, waiting_in}
use Rattle.split_record.proofs.Lanes.{batches_closed}
use Rattle.split_record.proofs.Stages.{versions_closed, none_behind}
use Rattle.split_record.proofs.parts.Halfway.closed.Goals as goal

pub returns-in-Ok-clause-ok : goal.returns-in-Ok-clause-ok
returns-in-Ok-clause-ok g c =
    let origin = c.args.origin.now in
    let half = c.args.self in
    let done = half.control.controller in
    let rest = half.data_half in
    let is = c.requires.at in
    record {
      left_to_do = subst (λ (l : List Published). HasLeft (start_in origin) (commands_in origin) done.session
          done.number done.notes.items half.control.due (waiting_in half.control 0) l)
          (versions_closed (in_batches (sent half.versions)) (learnt_by rest.state) (in_kept rest.batch)
          (in_batches c.in-Ok.batches.items) (in_kept half.control.kept)
          (batches_closed in_batch (sent half.versions) (taken rest.versions) c.in-Ok.batches.items
          (learnt_by rest.state) (in_kept rest.batch) c.in-Ok.ensures.rest rest.in_order)) is.left_to_do;
      roomy = is.roomy;
      few = subst (λ (s : SubscriberState). s.packets ≤ 2 ^ 60) is.started rest.few.1;
      started = is.started;
      items = is.items;
      places = is.places;
      met = none_behind _ _ (commands_in origin) rest.state.handled.items is.early;
    }
