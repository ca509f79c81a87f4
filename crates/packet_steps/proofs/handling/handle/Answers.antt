use Rattle.std.proofs.Common.{◌≡◌, false, List, ℕ, IfOk, sym, subst, ◌∙◌, ap}
use Rattle.pc_base.specs.declared.packet.Packet.{Packet}
use Rattle.pc_base.specs.declared.packet.Verdict.{Verdict}
use Rattle.pc_base.specs.declared.packet.Way.{Way}
use Rattle.packet_steps.specs.Past.{Past}
use Rattle.packet_steps.specs.Standing.{StandsFor}
use Rattle.packet_steps.specs.Verdicts.{is_packet}
use Rattle.packet_steps.specs.declared.plan.Plan.{Plan}
use Rattle.packet_steps.specs.Plans.{verdict_by}
use Rattle.packet_steps.specs.Running.{planned, GoesOn}
use Rattle.packet_steps.proofs.RunningLemmas.{not_planned, stays_on}
use Rattle.packet_steps.proofs.PacketLemmas.{not_whole, not_judged}
use Rattle.packet_steps.proofs.StandingLemmas.{late_by}
use Rattle.packet_steps.proofs.handling.handle.Goals as goal

abbrev with : Packet → Way → List ℕ → Packet
with packet way octets = record { number = packet.number; moment = packet.moment; way = way; octets = octets }

pub returns-in_default-clause-stands : goal.returns-in_default-clause-stands
returns-in_default-clause-stands c = λ past taken stands same few.
    let packet = c.args.packet.now in
    let fails : is_packet packet.octets ≡ false =
    ap is_packet (sym c.as_slice-octets.ensures)
    ∙ not_whole c.as_slice-octets.result.now c.whole.result c.in_default.is c.whole.ensures.found in
    subst (λ (outcome : Past × Verdict). StandsFor c.stay.new.self outcome.0 taken) (sym (not_judged past packet fails))
    (c.stay.ensures.stands past taken stands
    (late_by c.args.counters.now past taken packet.moment stands c.requires))

pub returns-in-Up-clause-verdict : goal.returns-in-Up-clause-verdict
returns-in-Up-clause-verdict c = λ past taken stands same few.
    let packet = c.args.packet.now in
    c.owned.ensures.verdict past taken packet stands same few
    (ap (with packet packet.way) (sym c.as_slice-octets.ensures ∙ sym c.in-Some.ensures.packet.0)
    ∙ ap (λ way. with packet way c.in-Some.ip) c.in-Up.is)

pub returns-in-Up-clause-stands : goal.returns-in-Up-clause-stands
returns-in-Up-clause-stands c = λ past taken stands same few.
    let packet = c.args.packet.now in
    c.owned.ensures.stands past taken packet stands same few
    (ap (with packet packet.way) (sym c.as_slice-octets.ensures ∙ sym c.in-Some.ensures.packet.0)
    ∙ ap (λ way. with packet way c.in-Some.ip) c.in-Up.is)

pub returns-in-Down-clause-verdict : goal.returns-in-Down-clause-verdict
returns-in-Down-clause-verdict c = λ past taken stands same few.
    let packet = c.args.packet.now in
    c.owned-in-Down.ensures.verdict past taken packet stands same few
    (ap (with packet packet.way) (sym c.as_slice-octets.ensures ∙ sym c.in-Some.ensures.packet.0)
    ∙ ap (λ way. with packet way c.in-Some.ip) c.in-Down.is)

pub returns-in-Down-clause-stands : goal.returns-in-Down-clause-stands
returns-in-Down-clause-stands c = λ past taken stands same few.
    let packet = c.args.packet.now in
    c.owned-in-Down.ensures.stands past taken packet stands same few
    (ap (with packet packet.way) (sym c.as_slice-octets.ensures ∙ sym c.in-Some.ensures.packet.0)
    ∙ ap (λ way. with packet way c.in-Some.ip) c.in-Down.is)

pub returns-in_default-clause-planned : goal.returns-in_default-clause-planned
returns-in_default-clause-planned c =
    let packet = c.args.packet.now in
    let fails : is_packet packet.octets ≡ false =
    ap is_packet (sym c.as_slice-octets.ensures)
    ∙ not_whole c.as_slice-octets.result.now c.whole.result c.in_default.is c.whole.ensures.found in
    ap (λ (p : Plan). verdict_by p packet.octets)
    (sym (not_planned c.args.version.now c.args.counters.now packet fails))

pub returns-in_default-clause-goes_on : goal.returns-in_default-clause-goes_on
returns-in_default-clause-goes_on c =
    let packet = c.args.packet.now in
    let fails : is_packet packet.octets ≡ false =
    ap is_packet (sym c.as_slice-octets.ensures)
    ∙ not_whole c.as_slice-octets.result.now c.whole.result c.in_default.is c.whole.ensures.found in
    subst (λ (p : Plan). GoesOn p packet c.args.counters.now c.stay.new.self)
    (sym (not_planned c.args.version.now c.args.counters.now packet fails))
    (stays_on packet c.args.counters.now c.stay.new.self c.stay.ensures.same)

pub returns-in-Up-clause-planned : goal.returns-in-Up-clause-planned
returns-in-Up-clause-planned c =
    let packet = c.args.packet.now in
    let same = ap (with packet packet.way) (sym c.as_slice-octets.ensures ∙ sym c.in-Some.ensures.packet.0)
    ∙ ap (λ way. with packet way c.in-Some.ip) c.in-Up.is in
    subst (λ (octets : List ℕ). IfOk c.owned.result
    (λ (v : Verdict). v ≡ verdict_by (planned c.args.version.now c.args.counters.now packet) octets))
    (c.in-Some.ensures.packet.0 ∙ c.as_slice-octets.ensures) (c.owned.ensures.planned packet same)

pub returns-in-Up-clause-goes_on : goal.returns-in-Up-clause-goes_on
returns-in-Up-clause-goes_on c =
    let packet = c.args.packet.now in
    c.owned.ensures.goes_on packet
    (ap (with packet packet.way) (sym c.as_slice-octets.ensures ∙ sym c.in-Some.ensures.packet.0)
    ∙ ap (λ way. with packet way c.in-Some.ip) c.in-Up.is)

pub returns-in-Down-clause-planned : goal.returns-in-Down-clause-planned
returns-in-Down-clause-planned c =
    let packet = c.args.packet.now in
    let same = ap (with packet packet.way) (sym c.as_slice-octets.ensures ∙ sym c.in-Some.ensures.packet.0)
    ∙ ap (λ way. with packet way c.in-Some.ip) c.in-Down.is in
    subst (λ (octets : List ℕ). IfOk c.owned-in-Down.result
    (λ (v : Verdict). v ≡ verdict_by (planned c.args.version.now c.args.counters.now packet) octets))
    (c.in-Some.ensures.packet.0 ∙ c.as_slice-octets.ensures) (c.owned-in-Down.ensures.planned packet same)

pub returns-in-Down-clause-goes_on : goal.returns-in-Down-clause-goes_on
returns-in-Down-clause-goes_on c =
    let packet = c.args.packet.now in
    c.owned-in-Down.ensures.goes_on packet
    (ap (with packet packet.way) (sym c.as_slice-octets.ensures ∙ sym c.in-Some.ensures.packet.0)
    ∙ ap (λ way. with packet way c.in-Some.ip) c.in-Down.is)
