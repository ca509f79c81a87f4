use Rattle.std.proofs.Common.{◌≡◌}
use Rattle.lawful_run.specs.Merging.{Histories}
use Rattle.lawful_run.specs.Outcomes.{opens}
use Rattle.lawful_run.specs.Run.{by_slot}
use Rattle.at_rest.specs.Meant.{AreStanding}
use Rattle.audit_core.proofs.opens.opens_due.Given as goal

abbrev pub invariant-loop-subscriber : goal.invariant-loop-subscriber
invariant-loop-subscriber l = (histories : Histories) → AreStanding l.subscribers histories
    → l.all.items ≡ by_slot l.subscriber-index (λ slot. opens slot (histories slot))
