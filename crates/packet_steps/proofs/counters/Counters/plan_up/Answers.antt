use Rattle.std.proofs.Common.{◌≡◌, ◌==◌, true, sym, ◌∙◌, ap, subst, eq-eqb}
use Rattle.std.specs.List.{Contains}
use Rattle.pc_base.specs.Addresses.{addr_of}
use Rattle.ipv4_packet.specs.Fields.{source_of}
use Rattle.bearer_state.specs.Version.{VersionState}
use Rattle.packet_steps.specs.Verdicts.{at_moment}
use Rattle.packet_steps.specs.Meters.{MetersStand}
use Rattle.packet_steps.specs.Standing.{CountersState}
use Rattle.packet_steps.proofs.StandingLemmas.{late_by}
use Rattle.packet_steps.proofs.PlanLemmas.{planned_refused_up, planned_through_up}
use Rattle.packet_steps.proofs.counters.Counters.plan_up.Goals as goal

pub returns-then-passes-clause-plans : goal.returns-then-passes-clause-plans
returns-then-passes-clause-plans c = λ past taken packet stands same octets.
    let here = at_moment past c.args.moment in
    let bearer = c.in-Some.bearer.now in
    let there : Contains past.version.bearers bearer =
    subst (λ (v : VersionState). Contains v.bearers bearer) (sym same) c.in-Some.ensures.there in
    let slot = ap (λ (v : VersionState). v.slot) (c.version.view_is ∙ sym same) in
    let own : (source_of c.args.ip.now == addr_of here.version.slot) ≡ true =
    eq-eqb (source_of c.args.ip.now) (addr_of here.version.slot)
    (sym c.source.ensures ∙ c.if-source-addr_of.false ∙ c.addr_of-2.view_is ∙ c.addr_of.ensures ∙ ap addr_of slot) in
    planned_through_up here packet c.args.ip.now bearer c.tried-passes.result c.from-len.result _
    (sym c.in-Some.ensures.value) own (c.from-len.ensures ∙ c.total_len.ensures.len) octets there
    (c.tried-passes.ensures.tries past
    (subst (λ (s : CountersState). MetersStand s.meters past) (sym c.self.view_is) stands.meters) there
    (late_by c.args.self.now past taken c.args.moment stands c.requires)) c.if-passes.true

pub returns-else-passes-clause-plans : goal.returns-else-passes-clause-plans
returns-else-passes-clause-plans c = λ past taken packet stands same octets.
    let here = at_moment past c.args.moment in
    let bearer = c.in-Some.bearer.now in
    let there : Contains past.version.bearers bearer =
    subst (λ (v : VersionState). Contains v.bearers bearer) (sym same) c.in-Some.ensures.there in
    let slot = ap (λ (v : VersionState). v.slot) (c.version.view_is ∙ sym same) in
    let own : (source_of c.args.ip.now == addr_of here.version.slot) ≡ true =
    eq-eqb (source_of c.args.ip.now) (addr_of here.version.slot)
    (sym c.source.ensures ∙ c.if-source-addr_of.false ∙ c.addr_of-2.view_is ∙ c.addr_of.ensures ∙ ap addr_of slot) in
    planned_refused_up here packet c.args.ip.now bearer c.tried-passes.result c.from-len.result _
    (sym c.in-Some.ensures.value) own (c.from-len.ensures ∙ c.total_len.ensures.len) there
    (c.tried-passes.ensures.tries past
    (subst (λ (s : CountersState). MetersStand s.meters past) (sym c.self.view_is) stands.meters) there
    (late_by c.args.self.now past taken c.args.moment stands c.requires)) c.if-passes.false
