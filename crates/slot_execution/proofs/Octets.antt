-- A verdict has the octets of its packet, or none.
use Rattle.std.proofs.Common.{◌≡◌, ℕ, Bool, true, false, cond, Option, Some, None, List, ◌==◌, ◌&&◌, nat_le, length, refl, sym, subst}
use Rattle.pc_base.specs.declared.packet.Packet.{Packet}
use Rattle.pc_base.specs.declared.packet.Peer.{Peer}
use Rattle.pc_base.specs.declared.packet.Way.{Way}
use Rattle.pc_base.specs.declared.packet.Way.TheVariants.{Up, Down}
use Rattle.pc_base.specs.declared.packet.Verdict.{Verdict}
use Rattle.pc_base.specs.declared.packet.Verdict.TheVariants as verdict
use Rattle.bearer_state.specs.declared.version.ActiveBearer.{ActiveBearer}
use Rattle.bearer_state.specs.Version.{bearer_at}
use Rattle.ipv4_packet.specs.Fields.{source_of}
use Rattle.pc_base.specs.Addresses.{addr_of}
use Rattle.packet_steps.specs.Lent.{verdict_of}
use Rattle.packet_steps.specs.Messages.{gpdu}
use Rattle.packet_steps.specs.Past.{Past, row_for, with_row, with_held}
use Rattle.packet_steps.specs.Policing.{passes}
use Rattle.packet_steps.specs.Verdicts as given
use Rattle.packet_steps.specs.declared.lent.LentVerdict.{LentVerdict}
use Rattle.slot_execution.specs.Lending.{HasOctets}
use Rattle.slot_execution.proofs.LentOctets.{OfPacket, behind_header, has_lent}

either : (octets : List ℕ) (test : Bool) (one other : Past × Verdict) → OfPacket octets one.1
    → OfPacket octets other.1 → OfPacket octets (cond test one other).1
either octets true one other own its = own
either octets false one other own its = its

tried : (octets : List ℕ) (past : Past) (bearer : ActiveBearer) (way : Bool) (size : ℕ) (passed : Verdict)
    → OfPacket octets passed → OfPacket octets (given.tried past bearer way size passed).1
tried octets past bearer way size passed own =
    either octets (passes past bearer way size) (with_row past (row_for past bearer way size), passed)
    (past, verdict.Policed bearer.life) own tt

up : (past : Past) (octets : List ℕ) (bearer : Option ActiveBearer)
    → OfPacket octets (given.judged_up past octets bearer).1
up past octets None = tt
up past octets (Some bearer) =
    let own : OfPacket octets (verdict.Up bearer.life octets) = refl in
    either octets (source_of octets == addr_of past.version.slot)
    (given.tried past bearer true (length octets) (verdict.Up bearer.life octets)) (past, verdict.Spoof)
    (tried octets past bearer true (length octets) (verdict.Up bearer.life octets) own) tt

to : (past : Past) (packet : Packet) (bearer : ActiveBearer) (peer : Option Peer)
    → OfPacket packet.octets (given.judged_to past packet bearer peer).1
to past packet bearer None =
    either packet.octets (nat_le 16 (length past.held)) (past, verdict.Idle bearer.life) (
      with_held past (record { packet = packet; life = bearer.life }),
      verdict.Held bearer.life (given.notice past packet.number bearer.ebi),
    ) tt tt
to past packet bearer (Some peer) =
    tried packet.octets past bearer false (length packet.octets)
    (verdict.Down bearer.life peer.addr (gpdu peer packet.octets)) (behind_header peer packet.octets)

down : (past : Past) (packet : Packet) (bearer : Option ActiveBearer)
    → OfPacket packet.octets (given.judged_down past packet bearer).1
down past packet None = tt
down past packet (Some bearer) = to past packet bearer bearer.enb

by_way : (past : Past) (packet : Packet) (way : Way)
    → OfPacket packet.octets (given.judged_by_way past packet way).1
by_way past packet (Up index) = up past packet.octets (bearer_at past.version.bearers index)
by_way past packet Down = down past packet (given.bearer_for past.version packet.octets)

of_packet : (past : Past) (packet : Packet) → OfPacket packet.octets (given.judged past packet).1
of_packet past packet =
    let later : Past = given.at_moment past packet.moment in
    either packet.octets (later.version.live && given.is_packet packet.octets)
    (given.judged_by_way later packet packet.way) (later, verdict.NoBearer) (by_way later packet packet.way) tt

pub lent_octets : (past : Past) (packet : Packet) (lent : LentVerdict)
    → verdict_of lent ≡ (given.judged past packet).1 → HasOctets lent packet.octets
lent_octets past packet lent is =
    has_lent packet.octets lent (subst (OfPacket packet.octets) (sym is) (of_packet past packet))
