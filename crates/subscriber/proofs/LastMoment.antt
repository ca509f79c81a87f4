-- A packet's moment is that of the last packet, whatever its verdict.
use Rattle.std.proofs.Common.{◌≡◌, ℕ, nat_le, Bool, true, false, if◌then◌else◌, List, length, Option, Some, None, refl}
use Rattle.pc_base.specs.declared.packet.Packet.{Packet}
use Rattle.pc_base.specs.declared.packet.Peer.{Peer}
use Rattle.pc_base.specs.declared.packet.Way.{Way}
use Rattle.pc_base.specs.declared.packet.Way.TheVariants.{Up, Down}
use Rattle.pc_base.specs.declared.packet.Verdict.{Verdict}
use Rattle.pc_base.specs.declared.packet.Verdict.TheVariants as verdict
use Rattle.bearer_state.specs.declared.version.ActiveBearer.{ActiveBearer}
use Rattle.bearer_state.specs.Version.{bearer_at}
use Rattle.packet_steps.specs.Past.{Past, row_for, with_row, with_held}
use Rattle.packet_steps.specs.Policing.{passes}
use Rattle.packet_steps.specs.Verdicts.{tried, judged_up, notice, judged_waiting, judged_to, judged_down, bearer_for, judged_by_way, judged_now, at_moment, judged}

abbrev last_in : Past × Verdict → Option ℕ
last_in outcome = outcome.0.last

of_either : (b : Bool) (one other : Past × Verdict) (last : Option ℕ) → last_in one ≡ last → last_in other ≡ last
    → last_in (if b then one else other) ≡ last
of_either true one other last first second = first
of_either false one other last first second = second

of_tried : (past : Past) (bearer : ActiveBearer) (up : Bool) (octets : ℕ) (passed : Verdict)
    → last_in (tried past bearer up octets passed) ≡ past.last
of_tried past bearer up octets passed =
    of_either (passes past bearer up octets) (with_row past (row_for past bearer up octets), passed) (
      past,
      verdict.Policed bearer.life,
    ) past.last refl refl

of_up : (past : Past) (octets : List ℕ) (bearer : Option ActiveBearer)
    → last_in (judged_up past octets bearer) ≡ past.last
of_up past octets None = refl
of_up past octets (Some bearer) = of_either _ _ (past, verdict.Spoof) past.last
    (of_tried past bearer true (length octets) (verdict.Up bearer.life octets)) refl

of_waiting : (past : Past) (packet : Packet) (bearer : ActiveBearer)
    → last_in (judged_waiting past packet bearer) ≡ past.last
of_waiting past packet bearer =
    of_either (nat_le 16 (length past.held)) (past, verdict.Idle bearer.life) (
      with_held past (record { packet = packet; life = bearer.life }),
      verdict.Held bearer.life (notice past packet.number bearer.ebi),
    ) past.last refl refl

of_to : (past : Past) (packet : Packet) (bearer : ActiveBearer) (enb : Option Peer)
    → last_in (judged_to past packet bearer enb) ≡ past.last
of_to past packet bearer None = of_waiting past packet bearer
of_to past packet bearer (Some peer) = of_tried past bearer false (length packet.octets) _

of_down : (past : Past) (packet : Packet) (bearer : Option ActiveBearer)
    → last_in (judged_down past packet bearer) ≡ past.last
of_down past packet None = refl
of_down past packet (Some bearer) = of_to past packet bearer bearer.enb

of_way : (past : Past) (packet : Packet) (way : Way) → last_in (judged_by_way past packet way) ≡ past.last
of_way past packet (Up index) = of_up past packet.octets (bearer_at past.version.bearers index)
of_way past packet Down = of_down past packet (bearer_for past.version packet.octets)

of_now : (past : Past) (packet : Packet) → last_in (judged_now past packet) ≡ past.last
of_now past packet = of_either _ _ (past, verdict.NoBearer) past.last (of_way past packet packet.way) refl

pub judged_last : (past : Past) (packet : Packet) → (judged past packet).0.last ≡ Some packet.moment
judged_last past packet = of_now (at_moment past packet.moment) packet
