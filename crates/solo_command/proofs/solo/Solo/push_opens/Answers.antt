use Rattle.std.proofs.Common.{◌++◌, ◌<◌, ℕ, false, List, flat_map, get_or, length, ap, sym, subst, ◌∙◌}
use Rattle.subscriber.specs.Standing.{SubscriberState, Represents}
use Rattle.lawful_run.specs.Outcomes.{opens}
use Rattle.lawful_run.specs.Run.{by_slot}
use Rattle.packet_steps.proofs.ResultLemmas.{on_ok}
use Rattle.solo_command.specs.Gathering.{charges_text}
use Rattle.solo_command.specs.Standing.{events_of}
use Rattle.trace_run.specs.Entries.{opens_held}
use Rattle.solo_command.proofs.HoldLemmas.{opens_same}
use Rattle.solo_command.proofs.StoryLemmas.{stands_each}
use Rattle.solo_command.proofs.solo.Solo.push_opens.Goals as goal

pub returns-clause-after : goal.returns-clause-after
returns-clause-after c = λ story stands.
    let lent = c.as_slice.ensures.value in
    on_ok c.push_opens.result
    (λ told. told ∙ ap (λ (items : List SubscriberState). c.args.report.now
    ++ charges_text (by_slot (length items) (λ slot. opens slot (events_of story slot)))) lent
    ∙ ap (λ n. c.args.report.now ++ charges_text (by_slot n (λ slot. opens slot (events_of story slot)))) stands.places)
    (c.push_opens.ensures.after false (events_of story)
    (subst (λ (items : List SubscriberState). (slot : ℕ) (none : SubscriberState) → slot < length items
    → Represents (get_or items slot none) slot (events_of story slot)) (sym lent)
    (stands_each c.args.self.now story stands)))

pub returns-clause-own : goal.returns-clause-own
returns-clause-own c = λ lines latest holds.
    on_ok c.push_opens.result
    (λ told. told ∙ ap (λ (items : List SubscriberState). c.args.report.now ++ charges_text (flat_map opens_held items))
    c.as_slice.ensures.value
    ∙ ap (λ entries. c.args.report.now ++ charges_text entries)
    (opens_same lines latest 0 c.args.self.now.subscribers.items holds.each))
    (c.push_opens.ensures.own false)
