-- What a block holds when the next record was looked for.
use Rattle.std.specs.Prelude.{◌≡◌, ℕ, ◌+◌, ◌<◌, ◌≤◌, List, [], length, Option}
use Rattle.std.specs.Io.KnownBytes.{IsAtEnd}
use Rattle.pcap_form.specs.declared.head.CaptureHead.{CaptureHead}
use Rattle.pcap_form.specs.declared.record.RecordHead.{RecordHead}
use Rattle.pcap_form.specs.Record.{FirstRecord, nothing, part, wrong, whole, first_of}
use Rattle.pcap_form.specs.Record.{captured_of, record_len, time_of}
use Rattle.pcap_form.specs.Record.{snapshot_max}
use Rattle.pcap_form.specs.Ahead.{Ahead}
use Rattle.pcap_form.specs.declared.reading.NextRecord.{NextRecord}
use Rattle.pcap_form.specs.declared.reading.NextRecord.TheVariants as next

-- the record with this head is held whole
pub record IsThere (one : RecordHead) (head : CaptureHead) (held : List ℕ) : Type 0 where
  pub time : one.time ≡ time_of head held
  pub captured : one.captured ≡ captured_of head held
  pub fits : one.captured ≤ snapshot_max
  pub all : record_len + one.captured ≤ length held

-- more octets are needed to know the next record
abbrev pub Waits : FirstRecord → Type 0
Waits nothing = Unit {0}
Waits part = Unit {0}
Waits wrong = ⊥
Waits (whole one rest) = ⊥

abbrev pub Finds : NextRecord → CaptureHead → Ahead → Option (List ℕ) → Type 0
Finds (next.Record one) head now left = IsThere one head now.held × (length now.held ≤ now.room)
Finds next.Broken head now left = (record_len ≤ length now.held) × (snapshot_max < captured_of head now.held)
    × (length now.held ≤ now.room)
Finds next.Cut head now left = (first_of head now.held ≡ part) × (length now.held < now.room) × IsAtEnd left
Finds next.End head now left = (now.held ≡ []) × (0 < now.room) × IsAtEnd left
Finds next.Full head now left = Waits (first_of head now.held) × (length now.held ≡ now.room)
Finds next.Fault head now left = Waits (first_of head now.held) × (length now.held < now.room)
