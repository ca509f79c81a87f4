use Rattle.std.proofs.Common.{◌≤◌, Some, IfSome, sym, subst}
use Rattle.packet_steps.specs.Standing.{CountersState}
use Rattle.packet_steps.proofs.OrderLemmas.{held_by}
use Rattle.packet_steps.proofs.StandingLemmas.{stays_stand}
use Rattle.packet_steps.proofs.counters.Counters.stay.Goals as goal

pub returns-clause-stands : goal.returns-clause-stands
returns-clause-stands c = λ past taken stands late.
    stays_stand c.args.self.now _ past taken c.args.moment stands late
    (λ i. record (c.self.view_is i) { last = Some c.args.moment })

pub invariant_of-self : goal.invariant_of-self
invariant_of-self c = held_by c.self.inside.last c.args.moment c.self.inside.held.items
    (subst (λ (s : CountersState). IfSome s.last (λ last. last ≤ c.args.moment)) (sym c.self.view_is) c.requires)
    c.self.invariant
