use Rattle.std.proofs.Common.{◌≤◌, IfSome, Some, ◌∙◌, ap, sym, subst}
use Rattle.packet_steps.specs.Meters.{put_bucket}
use Rattle.packet_steps.specs.Standing.{CountersState}
use Rattle.packet_steps.proofs.OrderLemmas.{held_by}
use Rattle.packet_steps.proofs.StandingLemmas.{refuses_stand}
use Rattle.packet_steps.proofs.counters.Counters.refuse.Goals as goal

pub returns-clause-stands : goal.returns-clause-stands
returns-clause-stands c = λ past taken stands late there still.
    let old = c.args.self.now in
    let put = c.in_ok-try_put.ensures.put ∙ ap (λ meters. put_bucket meters c.args.bearer.now c.args.up c.args.bucket)
    (ap (λ (s : CountersState). s.meters) c.self.view_is) in
    refuses_stand old _ past taken c.args.moment c.args.bearer.now c.args.up c.args.bucket stands late there still
    (λ i. record {
      meters = put i;
      book = (c.self.view_is i).book;
      held = (c.self.view_is i).held;
      last = Some c.args.moment;
    })

pub invariant_of-self-2 : goal.invariant_of-self-2
invariant_of-self-2 c = held_by c.self.inside.last c.args.moment c.self.inside.held.items
    (subst (λ (s : CountersState). IfSome s.last (λ last. last ≤ c.args.moment)) (sym c.self.view_is) c.requires)
    c.self.invariant
