-- A capture as a function of its octets: its records, and how it ends.
use Rattle.std.specs.Prelude.{ℕ, suc, zero, ◌^◌, Bool, true, false, List, [], ◌∷◌, ◌++◌, length, take, drop}
use Rattle.std.specs.Prelude.{nat_lt, nat_le, if◌then◌else◌, Option, None, Some}
use Rattle.pcap_form.specs.declared.head.CaptureHead.{CaptureHead}
use Rattle.pcap_form.specs.Head.{head_len, head_of}
use Rattle.pcap_form.specs.Record.{Record, FirstRecord, nothing, part, wrong, whole, first_of}

-- the octets end behind a record, or behind the header · within a record, or the header · a length is above the most,
-- or the header is none
pub data Tail : Type 0 where
  clean : Tail
  cut : Tail
  broken : Tail

pub record Capture : Type 0 where
  pub records : List Record
  pub tail : Tail

abbrev pub only : Tail → Capture
only tail = record { records = []; tail = tail }

-- records, and then what a capture has behind them
abbrev pub after_records : List Record → Capture → Capture
after_records records capture = record { records = records ++ capture.records; tail = capture.tail }

abbrev pub from_record : FirstRecord → (List ℕ → Capture) → Capture
from_record nothing behind = only clean
from_record part behind = only cut
from_record wrong behind = only broken
from_record (whole one rest) behind = after_records (one ∷ []) (behind rest)

-- the records of octets, of which there are fewer than the first number
abbrev pub records_below : ℕ → CaptureHead → List ℕ → Capture
records_below zero head octets = only clean
records_below (suc most) head octets = from_record (first_of head octets) (records_below most head)

-- a record has an octet at least, so there are no more records than octets
unfoldable pub records_of : CaptureHead → List ℕ → Capture
records_of head octets = records_below (suc (length octets)) head octets

abbrev pub behind_head : Option CaptureHead → List ℕ → Capture
behind_head None octets = only broken
behind_head (Some head) octets = records_of head octets

abbrev pub capture_of : List ℕ → Capture
capture_of octets =
    if nat_lt (length octets) head_len then only cut
    else behind_head (head_of (take head_len octets)) (drop head_len octets)

-- how many octets of an input are looked at
abbrev pub looked_at : List ℕ → List ℕ
looked_at octets = take (2 ^ 40) octets

-- The capture that an input is, and why it stops: a header or a record is none, or the input ends within it · the input
-- has more octets than are looked at · none of these.
pub data Stop : Type 0 where
  bad : Stop
  big : Stop
  ended : Stop

abbrev pub stop_at : Bool → Tail → Stop
stop_at full broken = bad
stop_at true _ = big
stop_at false cut = bad
stop_at false clean = ended

abbrev pub input_capture : List ℕ → Capture
input_capture octets = capture_of (looked_at octets)

abbrev pub stop_of : List ℕ → Stop
stop_of octets = stop_at (nat_le (2 ^ 40) (length octets)) (input_capture octets).tail
