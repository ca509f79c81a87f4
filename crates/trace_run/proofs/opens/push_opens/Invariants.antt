use Rattle.std.proofs.Common.{◌≡◌, ◌++◌, ◌<◌, ℕ, Bool, flat_map, get_or, length, take}
use Rattle.lawful_run.specs.Merging.{Histories}
use Rattle.lawful_run.specs.Outcomes.{opens}
use Rattle.lawful_run.specs.Run.{by_slot}
use Rattle.subscriber.specs.Standing.{SubscriberState, Represents}
use Rattle.trace_run.specs.Entries.{charges_text, opens_held}
use Rattle.trace_run.proofs.opens.push_opens.Given as goal

abbrev pub invariant-loop-subscriber : goal.invariant-loop-subscriber
invariant-loop-subscriber l = ((places : Bool) (events : Histories)
    → ((slot : ℕ) (none : SubscriberState) → slot < length l.subscribers
    → Represents (get_or l.subscribers slot none) slot (events slot))
    → l.report ≡ l.initial.report ++ charges_text places (by_slot l.subscriber-index (λ slot. opens slot (events slot))))
    × ((places : Bool) → l.report ≡ l.initial.report ++ charges_text places
    (flat_map opens_held (take l.subscriber-index l.subscribers)))
