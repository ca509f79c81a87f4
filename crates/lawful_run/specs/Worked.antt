-- Small traces, and reports that they may and may not have.
use Rattle.std.specs.Prelude.{ℕ, Bool, true, false, Some, None, List, [], ◌∷◌, codes}
use Rattle.pc_base.specs.declared.packet.Place.TheVariants.{Closing}
use Rattle.pc_base.specs.declared.packet.Verdict.TheVariants as verdict
use Rattle.pc_base.specs.declared.packet.Way.TheVariants as way
use Rattle.pc_base.specs.declared.reply.Outcome.TheVariants.{Done}
use Rattle.charging_book.specs.declared.records.Why.TheVariants.{Gone}
use Rattle.tft_codec.specs.declared.component.Component.TheVariants.{Protocol}
use Rattle.tft_codec.specs.declared.tft.Tft.{Tft}
use Rattle.tft_codec.specs.declared.tft.Tft.TheVariants.{Create}
use Rattle.control_steps.specs.declared.command.CommandKind.TheVariants as commands
use Rattle.demux.specs.Trace.{Meaning, command, packet, move}
use Rattle.trace_lines.specs.Line.{Line}
use Rattle.trace_lines.specs.Kind.{LineKind}
use Rattle.trace_lines.specs.Kind as kind
use Rattle.report_lines.specs.declared.entry.LineEntry.{LineEntry}
use Rattle.report_lines.specs.declared.entry.LineEntry.TheVariants as line
use Rattle.report_lines.specs.declared.entry.ChargeEntry.{ChargeEntry}
use Rattle.report_lines.specs.declared.entry.ChargeEntry.TheVariants.{R, O}
use Rattle.lawful_run.specs.Report.{EpochReport, Report}

-- an instruction to attach, and 20 octets from 10.45.0.2 to 203.0.113.9
abbrev pub attach : ℕ → Meaning
attach slot = command slot (commands.Attach (record { teid = 0xa01; addr = 0xc633_6407 }) 1000 1000)

abbrev pub octets : List ℕ
octets =
    0x45 ∷ 0 ∷ 0 ∷ 20 ∷ 0 ∷ 0 ∷ 0 ∷ 0 ∷ 0x40 ∷ 0xfd ∷ 0 ∷ 0 ∷ 10 ∷ 45 ∷ 0 ∷ 2 ∷ 203 ∷
    0 ∷ 113 ∷ 9 ∷ []

abbrev pub uplink_of : ℕ → Meaning
uplink_of slot = packet slot (record { moment = 5; way = way.Up 0; ip = octets })

abbrev pub uplink : Meaning
uplink = uplink_of 0

abbrev pub moved : Meaning
moved = move 0 1 (109 ∷ [])

-- other rates
abbrev pub rerate : Meaning
rerate = command 0 (commands.Ambr 1 500 500)

-- the entry of an order that was done
abbrev pub attached : ℕ → ℕ → ℕ → LineEntry
attached n slot number =
    line.C (record { line = n; slot = slot; number = number; reply = record { outcome = Done; message = None } })

-- of the packet of this number behind so many commands, parked or not
abbrev pub judged : Bool → ℕ → ℕ → ℕ → LineEntry
judged parked n number commands = line.P (record {
  line = n;
  slot = 0;
  number = number;
  commands = commands;
  verdict = verdict.Up 0 octets;
  place = Some Closing;
  parked = parked;
})

abbrev pub forwarded : ℕ → ℕ → ℕ → LineEntry
forwarded = judged false

abbrev pub forwarded_parked : ℕ → ℕ → ℕ → LineEntry
forwarded_parked = judged true

-- of a move
abbrev pub moved_entry : ℕ → LineEntry
moved_entry n = line.N (record { line = n; note = 109 ∷ [] })

-- of what was refused
abbrev pub refused_command : ℕ → LineEntry
refused_command n = line.F (record { line = n; slot = 0; packet = false })

abbrev pub refused_packet_of : ℕ → ℕ → LineEntry
refused_packet_of slot n = line.F (record { line = n; slot = slot; packet = true })

abbrev pub refused_packet : ℕ → LineEntry
refused_packet = refused_packet_of 0

-- the open counters of a first life, and the record of one that is gone
abbrev pub open_with : ℕ → ℕ → ChargeEntry
open_with octets_up packets = O 0 (record {
  life = 0;
  ebi = 5;
  qci = 9;
  seq = 0;
  up_octets = octets_up;
  down_octets = 0;
  up_packets = packets;
  down_packets = 0;
})

abbrev pub open_again : ℕ → ChargeEntry
open_again slot = O slot (record {
  life = 1;
  ebi = 5;
  qci = 9;
  seq = 0;
  up_octets = 0;
  down_octets = 0;
  up_packets = 0;
  down_packets = 0;
})

abbrev pub gone_row : ℕ → ChargeEntry
gone_row slot = R slot (record {
  life = 0;
  ebi = 5;
  qci = 9;
  seq = 0;
  up_octets = 0;
  down_octets = 0;
  up_packets = 0;
  down_packets = 0;
  first = None;
  last = None;
  why = Gone;
})

-- an epoch of these lines and records, and a report
abbrev pub epoch_with : List LineEntry → List ChargeEntry → EpochReport
epoch_with lines rows = record { lines = lines; effects = []; rows = rows }

abbrev pub epoch_of : List LineEntry → EpochReport
epoch_of lines = epoch_with lines []

abbrev pub report_of : List EpochReport → List ChargeEntry → Report
report_of epochs opens = record { epochs = epochs; opens = opens }

-- Two bearers are asked for, and the second one's answer comes first: the open counters stand by index all the same.
abbrev pub filter_of : ℕ → Tft
filter_of precedence =
    Create (record { id = 0; direction = 3; precedence = precedence; components = Protocol 17 ∷ [] } ∷ [])

abbrev pub answered_late : List Meaning
answered_late =
    command 0 (commands.Create 1 (record { teid = 0x1000; addr = 0xc633_6401 }) 3 5
    (record { arp = 0x24; qci = 9; mbr_up = 0; mbr_down = 0; gbr_up = 0; gbr_down = 0 }) None 1000 1000)
    ∷ command 0 (commands.AddBearer 2 9 0 0 0 0 (filter_of 1))
    ∷ command 0 (commands.AddBearer 3 9 0 0 0 0 (filter_of 2))
    ∷ command 0 (commands.CreateAns 3 16 7 16 (Some (record { teid = 0xa03; addr = 0xc633_6407 })))
    ∷ command 0 (commands.CreateAns 2 16 6 16 (Some (record { teid = 0xa02; addr = 0xc633_6407 })))
    ∷ []

abbrev pub nothing_counted : ℕ → ℕ → ChargeEntry
nothing_counted life ebi = O 0 (record {
  life = life;
  ebi = ebi;
  qci = 9;
  seq = 0;
  up_octets = 0;
  down_octets = 0;
  up_packets = 0;
  down_packets = 0;
})

-- lines of a trace: an instruction to attach, and moves of this subscriber
abbrev pub imsi : List ℕ
imsi = codes "001010123456789"

abbrev pub line_of : ℕ → LineKind → Line
line_of n says = record { number = n; moment = n; kind = says }

abbrev pub attach_line : Line
attach_line = line_of 1 (kind.Attach imsi (record { teid = 0xa01; addr = 0xc633_6407 }) 1000 1000)

abbrev pub move_line : ℕ → ℕ → Line
move_line n slice = line_of n (kind.Move imsi slice)
