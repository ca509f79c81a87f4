-- The capture of lines: a header, and a record for each line that is kept.
use Rattle.std.specs.Prelude.{ℕ, ◌+◌, ◌-◌, ◌/◌, ◌%◌, ◌==◌, ◌&&◌, Bool, List, [], ◌∷◌}
use Rattle.std.specs.Prelude.{◌++◌, length, flat_map, is_none, nat_le, if◌then◌else◌, Option, None, Some}
use Rattle.wire_octets.specs.Numbers.{be16_octets, be32_octets}
use Rattle.ipv4_packet.specs.Fields.{total_length}
use Rattle.ipv4_packet.specs.Refusal.{first_fault}
use Rattle.trace_lines.specs.Kind.{LineKind}
use Rattle.trace_lines.specs.Kind as kind
use Rattle.trace_lines.specs.Line.{Line}
use Rattle.pcap_form.specs.Packet.{control_port, user_port, is_for_user}
use Rattle.pcap_form.specs.Trace.{Stamped}

-- magic of microseconds, version 2.4, two words of 0, a snapshot length of 262,144, and packets without a link header
abbrev pub header : List ℕ
header =
    0xa1 ∷ 0xb2 ∷ 0xc3 ∷ 0xd4 ∷ 0 ∷ 2 ∷ 0 ∷ 4 ∷ 0 ∷ 0 ∷ 0 ∷ 0 ∷ 0 ∷ 0 ∷ 0 ∷ 0 ∷ 0 ∷ 4 ∷
    0 ∷ 0 ∷ 0 ∷ 0 ∷ 0 ∷ 0x65 ∷ []

-- the most octets of a message that go into one packet
abbrev pub message_max : ℕ
message_max = 65507

-- a message in UDP from 192.0.2.2 to 192.0.2.1, with one port for both; no checksums, time to live 64
unfoldable pub wrapped_head : ℕ → ℕ → List ℕ
wrapped_head port len =
    0x45 ∷ 0 ∷ be16_octets (28 + len) ++ 0 ∷ 0 ∷ 0 ∷ 0 ∷ 0x40 ∷ 17 ∷ 0 ∷ 0 ∷ 192 ∷ 0 ∷ 2 ∷ 2 ∷
    192 ∷ 0 ∷ 2 ∷ 1 ∷ []
    ++ be16_octets port ++ be16_octets port ++ be16_octets (8 + len) ++ 0 ∷ 0 ∷ []

abbrev pub wrapped : ℕ → List ℕ → List ℕ
wrapped port message = wrapped_head port (length message) ++ message

abbrev pub message_in : ℕ → List ℕ → Option (List ℕ)
message_in port message = if nat_le (length message) message_max then Some (wrapped port message) else None

-- a packet of just its total length
abbrev pub is_packet : List ℕ → Bool
is_packet octets = is_none (first_fault octets) && (total_length octets == length octets)

abbrev pub packet_in : List ℕ → Option (List ℕ)
packet_in octets = if is_packet octets && is_for_user octets then Some octets else None

-- the captured octets of what a line says, if it is kept: a message that goes into a packet, or a packet to a user
abbrev pub captured : LineKind → Option (List ℕ)
captured (kind.S11 message) = message_in control_port message
captured (kind.S1u message) = message_in user_port message
captured (kind.Sgi octets) = packet_in octets
captured (kind.Attach imsi enb up down) = None
captured (kind.Bearer imsi qci mbr_up mbr_down gbr_up gbr_down tft) = None
captured (kind.Filters imsi ebi tft) = None
captured (kind.Drop imsi ebi) = None
captured (kind.Ambr imsi up down) = None
captured (kind.Move imsi slice) = None
captured kind.Fence = None

-- seconds and microseconds of the moment, and the number of octets twice
unfoldable pub record_head : ℕ → ℕ → List ℕ
record_head moment len =
    be32_octets (moment / 1000000) ++ be32_octets (moment % 1000000) ++ be32_octets len ++ be32_octets len

abbrev pub framed : ℕ → Option (List ℕ) → List ℕ
framed moment None = []
framed moment (Some octets) = record_head moment (length octets) ++ octets

-- the octets that a line gives
abbrev pub record_of : Line → List ℕ
record_of line = framed line.moment (captured line.kind)

-- the capture of lines
abbrev pub export_of : List Line → List ℕ
export_of lines = header ++ flat_map record_of lines

-- the lines that are kept, without their numbers
abbrev pub kept_as : Line → Option (List ℕ) → List Stamped
kept_as line None = []
kept_as line (Some octets) = record { moment = line.moment; kind = line.kind } ∷ []

abbrev pub kept : List Line → List Stamped
kept lines = flat_map (λ line. kept_as line (captured line.kind)) lines

-- a moment taken off each
abbrev pub taken_off : ℕ → List Stamped → List Stamped
taken_off first [] = []
taken_off first (line ∷ lines) = record { moment = line.moment - first; kind = line.kind } ∷ taken_off first lines

abbrev pub first_moment : List Stamped → ℕ
first_moment [] = 0
first_moment (line ∷ lines) = line.moment

-- the kept lines as import gives them back
abbrev pub from_first : List Stamped → List Stamped
from_first lines = taken_off (first_moment lines) lines
