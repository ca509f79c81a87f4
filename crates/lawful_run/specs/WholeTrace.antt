-- A whole trace: a session by signalling and one by instruction, a second bearer, packets both ways, moves,
-- and the session's end
-- over four epochs; and its report.
use Rattle.std.specs.Prelude.{ℕ, false, Option, Some, None, List, [], ◌∷◌, ◌++◌, codes}
use Rattle.pc_base.specs.declared.packet.Place.TheVariants.{Closing}
use Rattle.pc_base.specs.declared.packet.Verdict.{Verdict}
use Rattle.pc_base.specs.declared.packet.Verdict.TheVariants as verdict
use Rattle.pc_base.specs.declared.reply.Outcome.TheVariants.{Done}
use Rattle.charging_book.specs.declared.records.Why.TheVariants.{Gone}
use Rattle.pc_base.specs.declared.packet.Peer.{Peer}
use Rattle.pc_base.specs.declared.packet.Way.TheVariants as way
use Rattle.tft_codec.specs.declared.component.Component.TheVariants.{Protocol}
use Rattle.tft_codec.specs.declared.tft.Tft.{Tft}
use Rattle.tft_codec.specs.declared.tft.Tft.TheVariants.{Create}
use Rattle.control_steps.specs.declared.command.CommandKind.TheVariants as commands
use Rattle.demux.specs.Trace.{Meaning, command, packet, move, note}
use Rattle.report_lines.specs.declared.entry.LineEntry.{LineEntry}
use Rattle.report_lines.specs.declared.entry.LineEntry.TheVariants as line
use Rattle.report_lines.specs.declared.entry.ChargeEntry.{ChargeEntry}
use Rattle.report_lines.specs.declared.entry.ChargeEntry.TheVariants.{R, O}
use Rattle.lawful_run.specs.Report.{EpochReport, Report}

-- what the gateway answers and asks
abbrev pub session_created : List ℕ
session_created =
    72 ∷ 33 ∷ 0 ∷ 64 ∷ 0 ∷ 0 ∷ 16 ∷ 0 ∷ 0 ∷ 0 ∷ 1 ∷ 0 ∷ 2 ∷ 0 ∷ 2 ∷ 0 ∷ 18 ∷ 0 ∷ 87 ∷
    0 ∷ 9 ∷ 0 ∷ 139 ∷ 0 ∷ 0 ∷
    0 ∷ 16 ∷ 192 ∷ 0 ∷ 2 ∷ 1 ∷ 79 ∷ 0 ∷ 5 ∷ 0 ∷ 1 ∷ 10 ∷ 45 ∷ 0 ∷ 2 ∷ 93 ∷ 0 ∷ 24 ∷
    0 ∷ 73 ∷ 0 ∷ 1 ∷ 0 ∷ 5 ∷ 2 ∷
    0 ∷ 2 ∷ 0 ∷ 16 ∷ 0 ∷ 87 ∷ 0 ∷ 9 ∷ 0 ∷ 129 ∷ 0 ∷ 0 ∷ 0 ∷ 17 ∷ 192 ∷ 0 ∷ 2 ∷ 1 ∷ []

abbrev pub bearer_modified : List ℕ
bearer_modified =
    72 ∷ 35 ∷ 0 ∷ 42 ∷ 0 ∷ 0 ∷ 16 ∷ 0 ∷ 0 ∷ 0 ∷ 2 ∷ 0 ∷ 2 ∷ 0 ∷ 2 ∷ 0 ∷ 16 ∷ 0 ∷ 93 ∷
    0 ∷ 24 ∷ 0 ∷ 73 ∷ 0 ∷ 1 ∷
    0 ∷ 5 ∷ 2 ∷ 0 ∷ 2 ∷ 0 ∷ 16 ∷ 0 ∷ 87 ∷ 0 ∷ 9 ∷ 0 ∷ 129 ∷ 0 ∷ 0 ∷ 0 ∷ 17 ∷ 192 ∷ 0 ∷ 2 ∷ 1 ∷ []

abbrev pub create_bearer : List ℕ
create_bearer =
    72 ∷ 95 ∷ 0 ∷ 71 ∷ 0 ∷ 0 ∷ 16 ∷ 0 ∷ 0 ∷ 0 ∷ 5 ∷ 0 ∷ 73 ∷ 0 ∷ 1 ∷ 0 ∷ 5 ∷ 93 ∷ 0 ∷
    54 ∷ 0 ∷ 73 ∷ 0 ∷ 1 ∷ 0 ∷
    0 ∷ 84 ∷ 0 ∷ 6 ∷ 0 ∷ 33 ∷ 48 ∷ 9 ∷ 2 ∷ 48 ∷ 17 ∷ 87 ∷ 0 ∷ 9 ∷ 0 ∷ 129 ∷ 0 ∷ 0 ∷
    0 ∷ 18 ∷ 192 ∷ 0 ∷ 2 ∷ 1 ∷
    80 ∷ 0 ∷ 22 ∷ 0 ∷ 36 ∷ 1 ∷ 0 ∷ 0 ∷ 0 ∷ 0 ∷ 128 ∷ 0 ∷ 0 ∷ 0 ∷ 0 ∷ 128 ∷ 0 ∷ 0 ∷ 0 ∷
    0 ∷ 64 ∷ 0 ∷ 0 ∷ 0 ∷ 0 ∷
    64 ∷ []

abbrev pub update_bearer : List ℕ
update_bearer =
    72 ∷ 97 ∷ 0 ∷ 39 ∷ 0 ∷ 0 ∷ 16 ∷ 0 ∷ 0 ∷ 0 ∷ 7 ∷ 0 ∷ 93 ∷ 0 ∷ 15 ∷ 0 ∷ 73 ∷ 0 ∷ 1 ∷
    0 ∷ 5 ∷ 84 ∷ 0 ∷ 6 ∷ 0 ∷
    33 ∷ 48 ∷ 10 ∷ 2 ∷ 48 ∷ 17 ∷ 72 ∷ 0 ∷ 8 ∷ 0 ∷ 0 ∷ 0 ∷ 195 ∷ 80 ∷ 0 ∷ 1 ∷ 134 ∷ 160 ∷ []

abbrev pub session_deleted : List ℕ
session_deleted =
    72 ∷ 37 ∷ 0 ∷ 14 ∷ 0 ∷ 0 ∷ 16 ∷ 0 ∷ 0 ∷ 0 ∷ 3 ∷ 0 ∷ 2 ∷ 0 ∷ 2 ∷ 0 ∷ 16 ∷ 0 ∷ []

-- packets of the two subscribers: up of each, and down to each
abbrev pub from_first : List ℕ
from_first =
    69 ∷ 0 ∷ 0 ∷ 20 ∷ 0 ∷ 0 ∷ 0 ∷ 0 ∷ 64 ∷ 253 ∷ 0 ∷ 0 ∷ 10 ∷ 45 ∷ 0 ∷ 2 ∷ 203 ∷ 0 ∷ 113 ∷ 9 ∷ []

abbrev pub from_second : List ℕ
from_second =
    69 ∷ 0 ∷ 0 ∷ 20 ∷ 0 ∷ 0 ∷ 0 ∷ 0 ∷ 64 ∷ 253 ∷ 0 ∷ 0 ∷ 10 ∷ 45 ∷ 0 ∷ 3 ∷ 203 ∷ 0 ∷ 113 ∷ 9 ∷ []

abbrev pub to_first : List ℕ
to_first =
    69 ∷ 0 ∷ 0 ∷ 28 ∷ 0 ∷ 0 ∷ 0 ∷ 0 ∷ 64 ∷ 17 ∷ 0 ∷ 0 ∷ 203 ∷ 0 ∷ 113 ∷ 9 ∷ 10 ∷ 45 ∷
    0 ∷ 2 ∷ 19 ∷ 196 ∷ 39 ∷
    16 ∷ 0 ∷ 8 ∷ 0 ∷ 0 ∷ []

abbrev pub to_second : List ℕ
to_second =
    69 ∷ 0 ∷ 0 ∷ 20 ∷ 0 ∷ 0 ∷ 0 ∷ 0 ∷ 64 ∷ 253 ∷ 0 ∷ 0 ∷ 203 ∷ 0 ∷ 113 ∷ 9 ∷ 10 ∷ 45 ∷ 0 ∷ 3 ∷ []

-- a G-PDU under a TEID of four octets
abbrev pub tunnelled : List ℕ → List ℕ → ℕ → List ℕ
tunnelled teid octets size = 48 ∷ 255 ∷ 0 ∷ size ∷ teid ++ octets

-- a template with one filter of this precedence: UDP, both ways
abbrev pub udp : ℕ → Tft
udp precedence = Create (record { id = 0; direction = 3; precedence = precedence; components = Protocol 17 ∷ [] } ∷ [])

abbrev pub enb : ℕ → Option Peer
enb teid = Some (record { teid = teid; addr = 0xc633_6407 })

-- a session by signalling, and one by instruction
abbrev pub first_meant : List Meaning
first_meant =
    command 0 (commands.Create 0x1 (record { teid = 0x1000; addr = 0xc633_6401 }) 3 5
    (record { arp = 0x24; qci = 9; mbr_up = 0; mbr_down = 0; gbr_up = 0; gbr_down = 0 }) None 50000 100000)
    ∷ command 1 (commands.Attach (record { teid = 0xb01; addr = 0xc633_6408 }) 1000 1000)
    ∷ note (codes "fence")
    ∷ []

-- an eNodeB, a second bearer, and other filters
abbrev pub second_meant : List Meaning
second_meant =
    command 0 (commands.Modify 0x2 None (record { ebi = 5; enb = enb 0xa01 } ∷ []))
    ∷ command 0 (commands.AddBearer 0x5 1 128 128 64 64 (udp 9))
    ∷ command 0 (commands.CreateAns 0x5 16 6 16 (enb 0xa02))
    ∷ command 0 (commands.Filters 0x7 5 (udp 10))
    ∷ note (codes "fence")
    ∷ []

-- packets and moves
abbrev pub third_meant : List Meaning
third_meant =
    packet 0 (record { moment = 70; way = way.Up 0; ip = from_first })
    ∷ packet 1 (record { moment = 70; way = way.Up 0; ip = from_second })
    ∷ packet 0 (record { moment = 80; way = way.Down; ip = to_first })
    ∷ move 0 1 (codes "move 0 1")
    ∷ move 1 0 (codes "move 1 0")
    ∷ packet 0 (record { moment = 100; way = way.Up 0; ip = from_first })
    ∷ packet 1 (record { moment = 110; way = way.Down; ip = to_second })
    ∷ note (codes "fence")
    ∷ []

-- the end of the first session
abbrev pub fourth_meant : List Meaning
fourth_meant = command 0 (commands.Delete 0x3) ∷ []

abbrev pub whole_meant : List (List Meaning)
whole_meant = first_meant ∷ second_meant ∷ third_meant ∷ fourth_meant ∷ []

-- entries
abbrev pub noted : ℕ → List ℕ → LineEntry
noted n text = line.N (record { line = n; note = text })

abbrev pub answered : ℕ → ℕ → ℕ → Option (List ℕ) → LineEntry
answered n slot number message =
    line.C (record { line = n; slot = slot; number = number; reply = record { outcome = Done; message = message } })

abbrev pub judged : ℕ → ℕ → ℕ → ℕ → Verdict → LineEntry
judged n slot number commands v = line.P (record {
  line = n;
  slot = slot;
  number = number;
  commands = commands;
  verdict = v;
  place = Some Closing;
  parked = false;
})

abbrev pub gone : ℕ → ℕ → ℕ → ℕ → ℕ → ℕ → ℕ → ℕ → ℕ → ChargeEntry
gone life ebi qci up down ups downs first last = R 0 (record {
  life = life;
  ebi = ebi;
  qci = qci;
  seq = 0;
  up_octets = up;
  down_octets = down;
  up_packets = ups;
  down_packets = downs;
  first = Some first;
  last = Some last;
  why = Gone;
})

abbrev pub epoch : List LineEntry → List ChargeEntry → EpochReport
epoch lines rows = record { lines = lines; effects = []; rows = rows }

abbrev pub first_epoch : EpochReport
first_epoch = epoch (answered 1 0 0 (Some session_created) ∷ answered 2 1 0 None ∷ noted 3 (codes "fence") ∷ []) []

abbrev pub second_epoch : EpochReport
second_epoch = epoch
    (answered 4 0 1 (Some bearer_modified) ∷ answered 5 0 2 (Some create_bearer) ∷ answered 6 0 3 None
    ∷ answered 7 0 4 (Some update_bearer) ∷ noted 8 (codes "fence") ∷ []) []

abbrev pub third_epoch : EpochReport
third_epoch = epoch
    (judged 9 0 0 5 (verdict.Up 0 from_first) ∷ judged 10 1 0 1 (verdict.Up 0 from_second)
    ∷ judged 11 0 1 5 (verdict.Down 1 0xc633_6407 (tunnelled (0 ∷ 0 ∷ 10 ∷ 2 ∷ []) to_first 28))
    ∷ noted 12 (codes "move 0 1") ∷ noted 13 (codes "move 1 0") ∷ judged 14 0 2 5 (verdict.Up 0 from_first)
    ∷ judged 15 1 1 1 (verdict.Down 0 0xc633_6408 (tunnelled (0 ∷ 0 ∷ 11 ∷ 1 ∷ []) to_second 20))
    ∷ noted 16 (codes "fence") ∷ []) []

abbrev pub fourth_epoch : EpochReport
fourth_epoch = epoch (answered 17 0 5 (Some session_deleted) ∷ []) (gone 0 5 9 40 0 2 0 70 100
    ∷ gone 1 6 1 0 28 0 1 80 80 ∷ [])

abbrev pub left_open : List ChargeEntry
left_open = O 1 (record {
  life = 0;
  ebi = 5;
  qci = 9;
  seq = 0;
  up_octets = 20;
  down_octets = 20;
  up_packets = 1;
  down_packets = 1;
}) ∷ []

abbrev pub whole_report : Report
whole_report = record { epochs = first_epoch ∷ second_epoch ∷ third_epoch ∷ fourth_epoch ∷ []; opens = left_open }
