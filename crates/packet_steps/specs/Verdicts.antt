-- What becomes of a packet, by its subscriber's past.
use Rattle.std.specs.Prelude.{ℕ, ◌==◌, ◌&&◌, nat_le, Bool, true, false, if◌then◌else◌, List, length, Option}
use Rattle.std.specs.Prelude.{Some, None, is_none}
use Rattle.std.specs.Option.{option_map, option_and_then}
use Rattle.pc_base.specs.Addresses.{addr_of}
use Rattle.pc_base.specs.declared.packet.Packet.{Packet}
use Rattle.pc_base.specs.declared.packet.Peer.{Peer}
use Rattle.pc_base.specs.declared.packet.Way.{Way}
use Rattle.pc_base.specs.declared.packet.Way.TheVariants.{Up, Down}
use Rattle.pc_base.specs.declared.packet.Verdict.{Verdict}
use Rattle.pc_base.specs.declared.packet.Verdict.TheVariants as verdict
use Rattle.ipv4_packet.specs.Fields.{source_of, total_length}
use Rattle.ipv4_packet.specs.Refusal.{first_fault}
use Rattle.tft_match.specs.Chosen.{chosen}
use Rattle.bearer_state.specs.declared.version.ActiveBearer.{ActiveBearer}
use Rattle.bearer_state.specs.Version.{VersionState, bearer_at}
use Rattle.packet_steps.specs.Messages.{gpdu, notification}
use Rattle.packet_steps.specs.Rows.{HeldRow}
use Rattle.packet_steps.specs.Past.{Past, row_for, with_row, with_held}
use Rattle.packet_steps.specs.Policing.{passes}

-- octets of a bearer pass, are counted and get this verdict, or its rate is used up
abbrev pub tried : Past → ActiveBearer → Bool → ℕ → Verdict → Past × Verdict
tried past bearer up octets passed =
    if passes past bearer up octets then (with_row past (row_for past bearer up octets), passed)
    else (past, verdict.Policed bearer.life)

-- up: the active bearer of the index takes what comes from the subscriber's own address
abbrev pub judged_up : Past → List ℕ → Option ActiveBearer → Past × Verdict
judged_up past octets None = (past, verdict.NoBearer)
judged_up past octets (Some bearer) =
    if source_of octets == addr_of past.version.slot
    then tried past bearer true (length octets) (verdict.Up bearer.life octets)
    else (past, verdict.Spoof)

-- the message for a packet that is held: it goes where none is held yet, and an MME is known
abbrev pub message_for : VersionState → List HeldRow → ℕ → ℕ → Option (List ℕ)
message_for version held number ebi =
    if length held == 0 then option_map (λ mme. notification mme number ebi) version.mme else None

abbrev pub notice : Past → ℕ → ℕ → Option (List ℕ)
notice past number ebi = message_for past.version past.held number ebi

-- down: a packet waits for its bearer's eNodeB, but at most sixteen wait
abbrev pub judged_waiting : Past → Packet → ActiveBearer → Past × Verdict
judged_waiting past packet bearer =
    if nat_le 16 (length past.held) then (past, verdict.Idle bearer.life)
    else (
      with_held past (record { packet = packet; life = bearer.life }),
      verdict.Held bearer.life (notice past packet.number bearer.ebi),
    )

abbrev pub judged_to : Past → Packet → ActiveBearer → Option Peer → Past × Verdict
judged_to past packet bearer None = judged_waiting past packet bearer
judged_to past packet bearer (Some peer) =
    tried past bearer false (length packet.octets) (verdict.Down bearer.life peer.addr (gpdu peer packet.octets))

abbrev pub judged_down : Past → Packet → Option ActiveBearer → Past × Verdict
judged_down past packet None = (past, verdict.NoBearer)
judged_down past packet (Some bearer) = judged_to past packet bearer bearer.enb

-- the bearer that a downlink packet takes
abbrev pub bearer_for : VersionState → List ℕ → Option ActiveBearer
bearer_for version octets = option_and_then (bearer_at version.bearers) (chosen version.rows octets)

abbrev pub judged_by_way : Past → Packet → Way → Past × Verdict
judged_by_way past packet (Up index) = judged_up past packet.octets (bearer_at past.version.bearers index)
judged_by_way past packet Down = judged_down past packet (bearer_for past.version packet.octets)

-- octets are one IPv4 packet, whole
abbrev pub is_packet : List ℕ → Bool
is_packet octets = is_none (first_fault octets) && (total_length octets == length octets)

-- a subscriber that isn't attached has no bearer, and octets that are no packet take none
abbrev pub judged_now : Past → Packet → Past × Verdict
judged_now past packet =
    if past.version.live && is_packet packet.octets then judged_by_way past packet packet.way
    else (past, verdict.NoBearer)

-- the packet's moment is that of the last packet from now on
abbrev pub at_moment : Past → ℕ → Past
at_moment past at = record past { last = Some at }

-- the past behind a packet, and its verdict
abbrev pub judged : Past → Packet → Past × Verdict
judged past packet = judged_now (at_moment past packet.moment) packet
