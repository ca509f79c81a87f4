use Rattle.std.proofs.Common.{ℕ, ◌+◌, ◌≤◌, List, [], ◌∷◌, ◌++◌, length, arith, drop, ap, sym, ◌∙◌, subst, append_assoc}
use Rattle.std.proofs.Common.{drop_of_length-le}
use Rattle.std.proofs.lemmas.List.{map-append}
use Rattle.pc_base.specs.declared.packet.Place.{Place}
use Rattle.pc_base.specs.declared.packet.Place.TheVariants as at
use Rattle.bearer_state.specs.Version.{VersionState}
use Rattle.subscriber.specs.Standing.{commands_met}
use Rattle.control_half.specs.Published.{in_kept, in_batches}
use Rattle.counter_half.specs.Handled.{Handled, items_in, places_in}
use Rattle.counter_half.specs.Learnt.{learnt_in}
use Rattle.counter_half.specs.declared.items.PacketDone.{PacketDone}
use Rattle.counter_half.specs.declared.items.DataItem.{DataItem}
use Rattle.split_record.specs.Closing.{HasLeft}
use Rattle.split_record.specs.Finishing.{AllMeetBehind}
use Rattle.split_record.specs.Origin.{start_in, commands_in, commands_left, items_left, handled_early}
use Rattle.split_record.specs.Places.{at_closing}
use Rattle.split_record.proofs.Handling.{applied_same, floor_is_met, next_met, all_done}
use Rattle.split_record.proofs.Leaving.{next_at}
use Rattle.split_record.proofs.closing.Closing.handle_next.Goals as goal

pub returns-in_default-clause-done : goal.returns-in_default-clause-done
returns-in_default-clause-done c =
    let now = c.learn_met.new.self in
    let origin = c.args.origin.now in
    let beyond : length now.left.items ≤ now.handled = omega (
      arith,
      c.in_default.ensures.lookup.3,
      ap (λ (l : List DataItem). length l) c.deref.ensures.value,
    ) in
    λ _. all_done origin now c.learn_met.ensures.at c.requires.accepted
    (applied_same origin c.args.self.now now c.learn_met.ensures.control c.requires.applied)
    (drop_of_length-le now.left.items {i = now.handled} beyond) c.in_ok-learn_met.ensures.met

pub meet-requires-clause-floor : goal.meet-requires-clause-floor
meet-requires-clause-floor c =
    let now = c.learn_met.new.self in
    let origin = c.args.origin.now in
    let item = c.in-Some.item.now in
    floor_is_met origin now c.learn_met.ensures.at c.requires.accepted
    (applied_same origin c.args.self.now now c.learn_met.ensures.control c.requires.applied) item
    (drop (now.handled + 1) now.left.items)
    (next_at now.left.items c.deref.result.now now.handled item c.deref.ensures.value c.in-Some.ensures.lookup.1
    c.in-Some.ensures.lookup.3.0) c.in_ok-learn_met.ensures.met

pub returns-in_err-meet-clause-at : goal.returns-in_err-meet-clause-at
returns-in_err-meet-clause-at c =
    let now = c.learn_met.new.self in
    let origin = c.args.origin.now in
    let is = c.learn_met.ensures.at in
    let done = now.control.controller in
    let kept = c.in_err-meet.ensures.kept in
    record {
      left_to_do = subst (λ (l : List (VersionState × ℕ)). HasLeft (start_in origin) (commands_in origin) done.session
          done.number done.notes.items now.control.due (commands_left now)
          (learnt_in l ++ (in_kept now.taken ++ (in_batches now.batches.items ++ in_kept now.control.kept))))
          (sym c.meet.ensures.learnt) is.left_to_do;
      roomy = is.roomy;
      few = is.few;
      started = c.meet.ensures.started ∙ is.started;
      items = is.items ∙ ap (λ (h : List Handled). items_in h ++ items_left now) (sym kept.0);
      places = ap (λ (notes : List PacketDone). places_in notes ++ at_closing (items_left now)) kept.2 ∙ is.places;
      met = subst (AllMeetBehind (handled_early origin) (commands_met (start_in origin)) (commands_in origin))
          (sym kept.0) is.met;
    }

pub returns-clause-at : goal.returns-clause-at
returns-clause-at c =
    let now = c.learn_met.new.self in
    let origin = c.args.origin.now in
    let is = c.learn_met.ensures.at in
    let done = now.control.controller in
    let item = c.in-Some.item.now in
    let rest = drop (now.handled + 1) now.left.items in
    let one : Handled = (item, now.state.met) in
    let before = now.state.handled.items in
    let more = c.in_ok-meet.ensures.handled in
    let next = next_at now.left.items c.deref.result.now now.handled item c.deref.ensures.value
    c.in-Some.ensures.lookup.1 c.in-Some.ensures.lookup.3.0 in
    record {
      left_to_do = subst (λ (l : List (VersionState × ℕ)). HasLeft (start_in origin) (commands_in origin) done.session
          done.number done.notes.items now.control.due (commands_left now)
          (learnt_in l ++ (in_kept now.taken ++ (in_batches now.batches.items ++ in_kept now.control.kept))))
          (sym c.meet.ensures.learnt) is.left_to_do;
      roomy = is.roomy;
      few = is.few;
      started = c.meet.ensures.started ∙ is.started;
      items = is.items ∙ ap (λ (l : List DataItem). items_in before ++ l) next
          ∙ sym (append_assoc (items_in before) (item ∷ []) rest)
          ∙ ap (λ (l : List DataItem). l ++ rest) (sym (map-append (λ (h : Handled). h.0) before (one ∷ [])))
          ∙ ap (λ (h : List Handled). items_in h ++ rest) (sym more);
      places = ap (λ (l : List Place). l ++ at_closing rest) c.in_ok-meet.ensures.place
          ∙ append_assoc (places_in now.state.notes.items) (at.Closing ∷ []) (at_closing rest)
          ∙ ap (λ (l : List DataItem). places_in now.state.notes.items ++ at_closing l) (sym next) ∙ is.places;
      met = next_met origin now is c.requires.accepted
          (applied_same origin c.args.self.now now c.learn_met.ensures.control c.requires.applied) item rest
          c.meet.new.self.handled.items next c.in_ok-learn_met.ensures.met more;
    }
