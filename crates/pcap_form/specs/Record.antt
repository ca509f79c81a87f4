-- The records behind a header: each a head of 16 octets, and the captured octets.
-- 0-3: seconds   4-7: fraction of a second   8-11: captured length   12-15: original length, which is ignored
use Rattle.std.specs.Prelude.{ℕ, ◌+◌, ◌*◌, ◌/◌, List, drop, take, length, nat_lt, if◌then◌else◌, Option}
use Rattle.trace_lines.specs.Kind.{LineKind}
use Rattle.pcap_form.specs.declared.head.CaptureHead.{CaptureHead}
use Rattle.pcap_form.specs.Numbers.{number32_at}
use Rattle.pcap_form.specs.Packet.{kind_in}

-- the octets of a record's head
abbrev pub record_len : ℕ
record_len = 16

-- the most octets that a record may hold
abbrev pub snapshot_max : ℕ
snapshot_max = 262144

-- what a record says: its time in microseconds, and the line that it carries
pub record Record : Type 0 where
  pub time : ℕ
  pub said : Option LineKind

-- microseconds, rounded down
abbrev pub time_of : CaptureHead → List ℕ → ℕ
time_of head octets = 1000000 * number32_at head.little octets 0
    + (if head.nanos then number32_at head.little octets 4 / 1000 else number32_at head.little octets 4)

abbrev pub captured_of : CaptureHead → List ℕ → ℕ
captured_of head octets = number32_at head.little octets 8

-- the captured octets
abbrev pub captured_in : CaptureHead → List ℕ → List ℕ
captured_in head octets = take (captured_of head octets) (drop record_len octets)

abbrev pub record_in : CaptureHead → List ℕ → Record
record_in head octets = record { time = time_of head octets; said = kind_in head.ethernet (captured_in head octets) }

-- what octets begin with: nothing is left · they end within a record · its captured length is above the most · a
-- record, and the octets behind it
pub data FirstRecord : Type 0 where
  nothing : FirstRecord
  part : FirstRecord
  wrong : FirstRecord
  whole : Record → List ℕ → FirstRecord

abbrev pub first_of : CaptureHead → List ℕ → FirstRecord
first_of head octets =
    if nat_lt (length octets) record_len then (if nat_lt 0 (length octets) then part else nothing)
    else if nat_lt snapshot_max (captured_of head octets) then wrong
    else if nat_lt (length octets) (record_len + captured_of head octets) then part
    else whole (record_in head octets) (drop (record_len + captured_of head octets) octets)
