use Rattle.std.proofs.Common.{◌++◌, List, refl, ap, sym, ◌∙◌, subst, append-nil}
use Rattle.subscriber.specs.Standing.{SubscriberState, commands_met}
use Rattle.control_half.specs.Published.{in_kept, in_batches}
use Rattle.counter_half.specs.Handled.{HasHandled, items_in, places_in}
use Rattle.counter_half.specs.State.{learnt_by}
use Rattle.counter_half.specs.Tells.{TellsLawfully}
use Rattle.counter_half.specs.declared.items.DataItem.{DataItem}
use Rattle.split_record.specs.Origin.{start_in, commands_in, items_in_all, commands_left, handled_early}
use Rattle.split_record.specs.Places.{at_closing}
use Rattle.split_record.proofs.Leaving.{all_applied}
use Rattle.split_record.specs.Finishing.{AllMeetBehind}
use Rattle.split_record.proofs.Together.{notes_told, comes, handled_told}
use Rattle.split_record.proofs.closing.Closing.finished.Goals as goal

pub returns-clause-finished : goal.returns-clause-finished
returns-clause-finished c =
    let self = c.args.self in
    let origin = c.args.origin.now in
    let is = c.requires.at in
    let none = c.requires.done in
    let accepted = c.requires.accepted in
    let start = start_in origin in
    let commands = commands_in origin in
    let items = items_in_all origin in
    let control = self.control.controller in
    let state = self.state in
    let learnt = learnt_by state in
    let handled = state.handled.items in
    let applied = all_applied start commands control.session control.number control.notes.items self.control.due
    (commands_left self) _ learnt is.left_to_do none.applied.number none.applied.none_due
    ((λ i. learnt ++ (in_kept (none.learnt.0 i) ++ (in_batches (none.learnt.1 i)
    ++ in_kept (none.applied.none_kept i)))) ∙ append-nil learnt) in
    let has : HasHandled (commands_met start) start.packets learnt handled state.met state.done state.notes.items =
    subst (λ (s : SubscriberState). HasHandled s.version.number s.packets learnt handled state.met state.done
    state.notes.items) is.started state.handles in
    let tells : TellsLawfully start learnt handled state.version state.counters state.notes.items state.effects.items =
    subst (λ (s : SubscriberState). TellsLawfully s learnt handled state.version state.counters state.notes.items
    state.effects.items) is.started state.tells in
    let are = is.items ∙ ap (λ (l : List DataItem). items_in handled ++ l) none.handled
    ∙ append-nil (items_in handled) in
    record {
      notes = notes_told start commands items control.session control.number control.notes.items learnt handled
          state.met state.done state.notes.items applied has are origin.front.value.slot accepted.numbered;
      comes = λ slot before taken stood few. comes start commands items control.session control.number
          control.notes.items learnt handled state.met state.done state.notes.items applied has are state.version
          state.counters state.effects.items tells accepted.late slot before taken stood few
          c.known_pasts.ensures.sessions c.known_pasts.ensures.versions c.known_pasts.ensures.opened
          c.known_pasts.ensures.learnt c.known_pasts.ensures.judged _ c.take_closed-rows.result.items refl refl refl
          c.take_closed-rows.ensures.rows c.take_closed-rows.ensures.stands;
      destination_is = refl;
    }

pub returns-clause-met : goal.returns-clause-met
returns-clause-met c =
    let self = c.args.self in
    let origin = c.args.origin.now in
    let is = c.requires.at in
    let state = self.state in
    let handled = state.handled.items in
    let are = is.items ∙ ap (λ (l : List DataItem). items_in handled ++ l) c.requires.done.handled
    ∙ append-nil (items_in handled) in
    let has : HasHandled (commands_met (start_in origin)) (start_in origin).packets (learnt_by state) handled state.met
    state.done state.notes.items =
    subst (λ (s : SubscriberState). HasHandled s.version.number s.packets (learnt_by state) handled state.met state.done
    state.notes.items) is.started state.handles in
    subst (AllMeetBehind (handled_early origin) (commands_met (start_in origin)) (commands_in origin))
    (sym (handled_told (commands_met (start_in origin)) (start_in origin).packets (items_in_all origin)
    (learnt_by state) handled state.met state.done state.notes.items has are)) is.met

pub returns-clause-placed : goal.returns-clause-placed
returns-clause-placed c =
    let is = c.requires.at in
    sym (append-nil (places_in c.args.self.state.notes.items))
    ∙ ap (λ (l : List DataItem). places_in c.args.self.state.notes.items ++ at_closing l) (sym c.requires.done.handled)
    ∙ is.places
