-- A packet that is held came as an event.
use Rattle.std.proofs.Common.{◌≡◌, Bool, List, [], ◌∷◌, fold, ap, subst, inl, inr, ◌⊎◌}
use Rattle.std.specs.List.{filter}
use Rattle.pc_base.specs.declared.packet.Packet.{Packet}
use Rattle.pc_base.specs.declared.packet.Verdict.{Verdict}
use Rattle.bearer_state.specs.Version.{VersionState}
use Rattle.packet_steps.specs.Change.{learnt, marked, markers, waits}
use Rattle.packet_steps.specs.Past.{Past}
use Rattle.packet_steps.specs.Rows.{HeldRow}
use Rattle.packet_steps.specs.Verdicts.{at_moment, judged}
use Rattle.packet_steps.proofs.FoldLemmas.{held_all}
use Rattle.gate_model.specs.SlotPast.{SlotPast, behind, commanded, happens, met, new_slot, next_version}
use Rattle.gate_model.specs.declared.event.Event.{Event}
use Rattle.gate_model.specs.declared.event.Event.TheVariants as event
use Rattle.gate_model.proofs.Members.{In, contains_in, in_append, in_contains, of_filter}
use Rattle.gate_model.proofs.Outcomes.{JudgedAs, judged_as}
use Rattle.lawful_run.specs.RangeLaws.{HeldPacketsCame}

outcome_came : (past : Past) (packet : Packet) (outcome : Past × Verdict) → JudgedAs past packet outcome
    → (row : HeldRow) → In row outcome.0.held → In row past.held ⊎ (packet ≡ row.packet)
outcome_came past packet outcome (JudgedAs.nothing same not_held shown) row there =
    inl (subst (λ (p : Past). In row p.held) same there)
outcome_came past packet outcome (JudgedAs.passed b way within fits same not_held shown) row there =
    inl (subst (λ (p : Past). In row p.held) same there)
outcome_came past packet outcome (JudgedAs.waits b within few same is_held shown) row there =
    elim (in_append row past.held (record { packet = packet; life = b.life } ∷ [])
    (subst (λ (p : Past). In row p.held) same there)) [
      | inl before ↦ inl before
      | inr now ↦ elim now [
        | inl here ↦ inr (ap (λ (r : HeldRow). r.packet) here)
        | inr none ↦ absurd none
      ]
    ]

judged_came : (past : Past) (packet : Packet) (row : HeldRow) → In row (judged past packet).0.held
    → In row past.held ⊎ (packet ≡ row.packet)
judged_came past packet row there =
    outcome_came (at_moment past packet.moment) packet (judged past packet) (judged_as past packet) row there

learnt_came : (past : Past) (after : VersionState) (row : HeldRow) → In row (learnt past after).0.held
    → In row past.held
learnt_came past after row there =
    let test : HeldRow → Bool = λ r. waits after.bearers r.life in
    let held : (learnt past after).0.held ≡ filter test past.held =
    held_all (marked past after, markers past.version after) past.held in
    (of_filter test row past.held (subst (In row) held there)).0

came : (past : SlotPast) (events : List Event) (row : HeldRow) → In row (fold behind past events).packets.held
    → In row past.packets.held ⊎ In (event.Packet row.packet) events
unfolding happens
came past [] row there = inl there
came past (event.Command command ∷ later) row there =
    elim (came (commanded past command) later row there) [
      | inl before ↦ inl (learnt_came past.packets (next_version past command) row before)
      | inr behind ↦ inr (inr behind)
    ]
came past (event.Packet packet ∷ later) row there =
    elim (came (met past packet) later row there) [
      | inl before ↦ elim (judged_came past.packets packet row before) [
        | inl earlier ↦ inl earlier
        | inr now ↦ inr (inl (ap event.Packet now))
      ]
      | inr behind ↦ inr (inr behind)
    ]

pub held_came : HeldPacketsCame
held_came slot events row there =
    elim (came (new_slot slot) events row (in_contains row (fold behind (new_slot slot) events).packets.held there)) [
      | inl none ↦ absurd none
      | inr among ↦ contains_in (event.Packet row.packet) events among
    ]
