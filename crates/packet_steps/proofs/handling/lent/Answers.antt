use Rattle.std.proofs.Common.{List, ℕ, sym, ◌∙◌, ap, subst}
use Rattle.pc_base.specs.declared.packet.Packet.{Packet}
use Rattle.packet_steps.specs.Verdicts.{at_moment, judged_now, judged}
use Rattle.packet_steps.specs.Plans.{Does}
use Rattle.packet_steps.specs.declared.plan.Plan.{Plan}
use Rattle.packet_steps.specs.Running.{GoesOn}
use Rattle.packet_steps.proofs.StandingLemmas.{late_by}
use Rattle.packet_steps.proofs.handling.lent.Goals as goal

pub returns-clause-stands : goal.returns-clause-stands
returns-clause-stands c = λ past taken packet stands same few is.
    let late = late_by c.args.counters.now past taken c.args.moment stands c.requires in
    let with : List ℕ → Packet = λ octets. record { number = c.args.number; moment = c.args.moment; way = c.args.way; octets = octets } in
    let plans = c.in_ok-plan.ensures.plans past taken packet stands same is in
    c.in_ok-carry_out.ensures.stands past (judged past packet).0 taken packet stands late few
    (is ∙ ap with (sym c.octets-octets.ensures.octets))
    (subst (λ at. Does c.in_ok-plan.plan (at_moment past c.args.moment) packet
    (judged_now (at_moment past at) packet).0)
    (sym (ap (λ (p : Packet). p.moment) is)) plans.does)

pub returns-clause-goes_on : goal.returns-clause-goes_on
returns-clause-goes_on c = λ packet is.
    let with : List ℕ → Packet = λ octets. record { number = c.args.number; moment = c.args.moment; way = c.args.way; octets = octets } in
    subst (λ (p : Plan). GoesOn p packet c.args.counters.now c.carry_out.new.self)
    (c.in_ok-plan.ensures.planned packet is)
    (c.in_ok-carry_out.ensures.goes_on packet (is ∙ ap with (sym c.octets-octets.ensures.octets)))
