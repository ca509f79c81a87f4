use Rattle.std.proofs.Common.{◌≡◌, ap, sym, ◌∙◌, subst, IfOk}
use Rattle.pc_base.specs.declared.packet.Packet.{Packet}
use Rattle.bearer_state.specs.Version.{VersionState}
use Rattle.packet_steps.specs.Verdicts.{at_moment}
use Rattle.packet_steps.specs.Plans.{Plans}
use Rattle.packet_steps.specs.declared.plan.Plan.{Plan}
use Rattle.packet_steps.proofs.PacketLemmas.{judged_going_up, judged_going_down}
use Rattle.packet_steps.proofs.RunningLemmas.{planned_going_up, planned_going_down}
use Rattle.packet_steps.proofs.counters.Counters.plan.Goals as goal

pub returns-in-Up-clause-plans : goal.returns-in-Up-clause-plans
returns-in-Up-clause-plans c = λ past taken packet stands same is.
    let octets = ap (λ (p : Packet). p.octets) is in
    subst (λ outcome. Plans (at_moment past c.args.moment) packet outcome c.plan_up.result)
    (judged_going_up (at_moment past c.args.moment) packet c.args.version.now c.in-Up.index c.args.ip.now same
    (ap (λ (v : VersionState). v.live) (sym c.version.view_is) ∙ c.if-not-version.false) c.requires.packet octets
    (ap (λ (p : Packet). p.way) is ∙ c.in-Up.is))
    (c.plan_up.ensures.plans past taken packet stands same octets)

pub returns-in-Down-clause-plans : goal.returns-in-Down-clause-plans
returns-in-Down-clause-plans c = λ past taken packet stands same is.
    let octets = ap (λ (p : Packet). p.octets) is in
    subst (λ outcome. IfOk c.plan_down.result (Plans (at_moment past c.args.moment) packet outcome))
    (judged_going_down (at_moment past c.args.moment) packet c.args.version.now c.args.ip.now same
    (ap (λ (v : VersionState). v.live) (sym c.version.view_is) ∙ c.if-not-version.false) c.requires.packet octets
    (ap (λ (p : Packet). p.way) is ∙ c.in-Down.is))
    (c.plan_down.ensures.plans past taken packet stands same octets (ap (λ (p : Packet). p.number) is))

pub returns-in-Up-clause-planned : goal.returns-in-Up-clause-planned
returns-in-Up-clause-planned c = λ packet is.
    c.plan_up.ensures.planned
    ∙ planned_going_up c.args.version.now c.args.self.now packet c.in-Up.index c.args.moment c.args.ip.now
    (ap (λ (v : VersionState). v.live) (sym c.version.view_is) ∙ c.if-not-version.false) c.requires.packet
    (ap (λ (p : Packet). p.octets) is) (ap (λ (p : Packet). p.moment) is)
    (ap (λ (p : Packet). p.way) is ∙ c.in-Up.is)

pub returns-in-Down-clause-planned : goal.returns-in-Down-clause-planned
returns-in-Down-clause-planned c = λ packet is.
    let octets = ap (λ (p : Packet). p.octets) is in
    subst (λ (outcome : Plan). IfOk c.plan_down.result (λ (plan : Plan). plan ≡ outcome))
    (planned_going_down c.args.version.now c.args.self.now packet c.args.ip.now
    (ap (λ (v : VersionState). v.live) (sym c.version.view_is) ∙ c.if-not-version.false) c.requires.packet octets
    (ap (λ (p : Packet). p.way) is ∙ c.in-Down.is))
    (c.plan_down.ensures.planned packet octets (ap (λ (p : Packet). p.number) is) (ap (λ (p : Packet). p.moment) is))
