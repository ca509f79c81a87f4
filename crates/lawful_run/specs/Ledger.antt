-- The exact ledger of a report: what was forwarded is what is charged.
use Rattle.std.specs.Prelude.{◌≡◌, ℕ, ◌+◌, ◌<◌, ◌==◌, Bool, not, Option, Some, None, List, [], ◌++◌}
use Rattle.std.specs.Prelude.{map, filter, sum_by, count_by, if◌then◌else◌, filter_map, flat_map, IsPermutation}
use Rattle.charging_book.specs.Ledger.{rows_for, opens_for, TellPieces, TellLast, charged_octets, open_octets}
use Rattle.charging_book.specs.Ledger.{charged_packets, open_packets}
use Rattle.charging_book.specs.Pieces.{Forwarded, Finished}
use Rattle.charging_book.specs.Rows.{Counters, Charged}
use Rattle.demux.specs.Trace.{Meaning}
use Rattle.gate_model.specs.Ledger.{Sent, sent_by_verdict, sent_by_effect}
use Rattle.report_lines.specs.Records.{Effected}
use Rattle.report_lines.specs.declared.entry.ChargeEntry.{ChargeEntry}
use Rattle.report_lines.specs.declared.entry.ChargeEntry.TheVariants.{R, O}
use Rattle.report_lines.specs.declared.entry.LineEntry.{LineEntry}
use Rattle.report_lines.specs.declared.entry.LineEntry.TheVariants as line
use Rattle.lawful_run.specs.Setup.{Setup}
use Rattle.lawful_run.specs.Report.{EpochReport, Report}
use Rattle.lawful_run.specs.Run.{IsRun}

-- the packets that entries tell as forwarded for a slot: by verdicts up and down, and by fates down (a G-PDU has eight
-- octets more than its packet)
abbrev pub sent_by_line : ℕ → LineEntry → List Sent
sent_by_line slot (line.N noted) = []
sent_by_line slot (line.C answered) = []
sent_by_line slot (line.P judged) = if judged.slot == slot then sent_by_verdict judged.verdict else []
sent_by_line slot (line.F refused) = []

abbrev pub sent_by_effected : ℕ → Effected → List Sent
sent_by_effected slot effected = if effected.slot == slot then sent_by_effect effected.effect else []

abbrev pub lines_sent : ℕ → List EpochReport → List Sent
lines_sent slot epochs = flat_map (λ told. flat_map (sent_by_line slot) told.lines) epochs

abbrev pub effects_sent : ℕ → List EpochReport → List Sent
effects_sent slot epochs = flat_map (λ told. flat_map (sent_by_effected slot) told.effects) epochs

-- those of one life of a bearer
abbrev pub is_of_life : ℕ → Sent → Bool
is_of_life life sent = sent.life == life

abbrev pub packets_told : ℕ → ℕ → Report → List Sent
packets_told slot life report =
    filter (is_of_life life) (lines_sent slot report.epochs ++ effects_sent slot report.epochs)

-- the charging records of a slot · its open counters
abbrev pub row_by : ℕ → ChargeEntry → Option Charged
row_by slot (R own row) = if own == slot then Some row else None
row_by slot (O own counters) = None

abbrev pub counters_by : ℕ → ChargeEntry → Option Counters
counters_by slot (R own row) = None
counters_by slot (O own counters) = if own == slot then Some counters else None

abbrev pub rows_told : ℕ → Report → List Charged
rows_told slot report = flat_map (λ told. filter_map (row_by slot) told.rows) report.epochs

abbrev pub opens_told : ℕ → Report → List Counters
opens_told slot report = filter_map (counters_by slot) report.opens

-- a packet of a life's piece, without its moment, which entries of packets don't tell
abbrev pub sent_for : ℕ → Forwarded → Sent
sent_for life packet = record { life = life; up = packet.up; octets = packet.octets }

-- The charging records of a life tell its pieces and its open counters the last one, and the pieces have just the
-- packets that entries tell as forwarded for it: each of them stands in one piece, once.
pub record IsPartition (slot life : ℕ) (report : Report) : Type 0 where
  pub pieces : List Finished
  pub last : List Forwarded
  pub records : TellPieces (rows_for life (rows_told slot report)) pieces
  pub counters : TellLast (opens_for life (opens_told slot report)) last
  pub packets : IsPermutation (map (sent_for life) (flat_map (λ done. done.piece) pieces ++ last))
      (packets_told slot life report)

abbrev pub ReportsArePartitions : Type 0
ReportsArePartitions = (setup : Setup) (slots : ℕ) (made : List (List Meaning)) (report : Report) (slot life : ℕ)
    → IsRun setup slots made report → slot < slots → IsPartition slot life report

-- the octets of packets one way · how many go one way
abbrev pub octets_sent : Bool → List Sent → ℕ
octets_sent up packets =
    sum_by (λ sent. if up then if sent.up then sent.octets else 0 else if sent.up then 0 else sent.octets) packets

abbrev pub packets_sent : Bool → List Sent → ℕ
packets_sent up packets = count_by (λ sent. if up then sent.up else not sent.up) packets

-- so records and open counters have the octets of the forwarded packets, for each slot, life and direction
abbrev pub EachOctetCharged : Type 0
EachOctetCharged =
    (setup : Setup) (slots : ℕ) (made : List (List Meaning)) (report : Report) (slot life : ℕ) (up : Bool)
    → IsRun setup slots made report → slot < slots
    → charged_octets up life (rows_told slot report) + open_octets up life (opens_told slot report)
    ≡ octets_sent up (packets_told slot life report)

-- and these packets themselves
abbrev pub EachPacketCharged : Type 0
EachPacketCharged =
    (setup : Setup) (slots : ℕ) (made : List (List Meaning)) (report : Report) (slot life : ℕ) (up : Bool)
    → IsRun setup slots made report → slot < slots
    → charged_packets up life (rows_told slot report) + open_packets up life (opens_told slot report)
    ≡ packets_sent up (packets_told slot life report)
