use Rattle.std.proofs.Common.{◌++◌, List, ap, sym, ◌∙◌, subst}
use Rattle.subscriber.specs.Standing.{SubscriberState, commands_met}
use Rattle.split_record.specs.Finishing.{AllMeetBehind}
use Rattle.control_half.specs.Published.{Published, in_batch, in_batches, in_kept}
use Rattle.counter_half.specs.Handled.{Handled, items_in, places_in}
use Rattle.counter_half.specs.State.{learnt_by}
use Rattle.counter_half.specs.declared.items.PacketDone.{PacketDone}
use Rattle.split_record.specs.Closing.{HasLeft}
use Rattle.split_record.specs.Origin.{start_in, commands_in, commands_left, items_left, handled_early}
use Rattle.split_record.specs.Places.{at_closing}
use Rattle.split_record.proofs.Leaving.{few_met}
use Rattle.split_record.proofs.Stages.{learnt_of}
use Rattle.split_record.proofs.closing.Closing.learn_first.Goals as goal

pub returns-clause-at : goal.returns-clause-at
returns-clause-at c =
    let old = c.args.self.now in
    let origin = c.args.origin.now in
    let is = c.requires.at in
    let done = old.control.controller in
    let learnt = c.learn_first.ensures in
    let rest = in_batches old.batches.items ++ in_kept old.control.kept in
    record {
      left_to_do = subst (λ (l : List Published). HasLeft (start_in origin) (commands_in origin) done.session
          done.number done.notes.items old.control.due (commands_left old) l)
          ((λ i. learnt_by old.state ++ (in_kept (c.in-Some.is i) ++ rest))
          ∙ learnt_of (learnt_by old.state) (learnt_by c.learn_first.new.self) (in_batch c.in-Some.batch)
          (in_batch c.learn_first.new.batch) rest learnt.whole) is.left_to_do;
      roomy = is.roomy;
      few = is.few;
      started = learnt.started ∙ is.started;
      items = is.items ∙ ap (λ (h : List Handled). items_in h ++ items_left old) (sym learnt.handled);
      places = ap (λ (notes : List PacketDone). places_in notes ++ at_closing (items_left old)) learnt.notes
          ∙ is.places;
      met = subst (AllMeetBehind (handled_early origin) (commands_met (start_in origin)) (commands_in origin))
          (sym learnt.handled) is.met;
    }

pub returns-in_err-learn_first-clause-at : goal.returns-in_err-learn_first-clause-at
returns-in_err-learn_first-clause-at c =
    let old = c.args.self.now in
    let origin = c.args.origin.now in
    let is = c.requires.at in
    let done = old.control.controller in
    let learnt = c.learn_first.ensures in
    let rest = in_batches old.batches.items ++ in_kept old.control.kept in
    record {
      left_to_do = subst (λ (l : List Published). HasLeft (start_in origin) (commands_in origin) done.session
          done.number done.notes.items old.control.due (commands_left old) l)
          ((λ i. learnt_by old.state ++ (in_kept (c.in-Some.is i) ++ rest))
          ∙ learnt_of (learnt_by old.state) (learnt_by c.learn_first.new.self) (in_batch c.in-Some.batch)
          (in_batch c.learn_first.new.batch) rest learnt.whole) is.left_to_do;
      roomy = is.roomy;
      few = is.few;
      started = learnt.started ∙ is.started;
      items = is.items ∙ ap (λ (h : List Handled). items_in h ++ items_left old) (sym learnt.handled);
      places = ap (λ (notes : List PacketDone). places_in notes ++ at_closing (items_left old)) learnt.notes
          ∙ is.places;
      met = subst (AllMeetBehind (handled_early origin) (commands_met (start_in origin)) (commands_in origin))
          (sym learnt.handled) is.met;
    }

pub learn_first-requires-clause-few : goal.learn_first-requires-clause-few
learn_first-requires-clause-few c =
    let old = c.args.self.now in
    let origin = c.args.origin.now in
    let is = c.requires.at in
    let done = old.control.controller in
    few_met (start_in origin) (commands_in origin) done.session done.number done.notes.items old.control.due
    (commands_left old) (learnt_by old.state) _ old.state.met old.state.started.version.number is.left_to_do is.roomy
    origin.front.value.lane.few old.state.handles.met_is (ap (λ (s : SubscriberState). s.version.number) is.started)
