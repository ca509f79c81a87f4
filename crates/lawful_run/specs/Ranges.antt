-- The ranges of what is remembered of a slot, where its events are in theirs.
use Rattle.std.specs.Prelude.{ℕ, ◌<◌, ◌≤◌, ◌^◌, List, length, map, IfSome, nat_eq}
use Rattle.std.specs.List.{AllByRecursion, IsDistinct}
use Rattle.pc_base.specs.declared.packet.Packet.{Packet}
use Rattle.charging_book.specs.Happenings.{Happening, started, forwarded, closed}
use Rattle.charging_book.specs.Rows.{Counters, Moments}
use Rattle.bearer_state.specs.declared.ask.Ask.{Ask}
use Rattle.bearer_state.specs.declared.bearer.Bearer.{Bearer}
use Rattle.bearer_state.specs.declared.bearer.Phase.{Phase}
use Rattle.bearer_state.specs.declared.bearer.Phase.TheVariants.{Asked, Active}
use Rattle.bearer_state.specs.declared.kept.Kept.{Kept}
use Rattle.bearer_state.specs.declared.version.ActiveBearer.{ActiveBearer}
use Rattle.bearer_state.specs.Session.{SessionState}
use Rattle.control_steps.specs.declared.command.CommandKind.{CommandKind}
use Rattle.control_steps.specs.declared.command.CommandKind.TheVariants.{Modify}
use Rattle.packet_steps.specs.Past.{Past}
use Rattle.packet_steps.specs.Rows.{HeldRow}
use Rattle.gate_model.specs.SlotPast.{SlotPast}
use Rattle.gate_model.specs.declared.event.Event.{Event}
use Rattle.gate_model.specs.declared.event.Event.TheVariants as event
use Rattle.demux.specs.Ranges.{HasAddress, IsCommandInRange, IsOctet}
use Rattle.demux.specs.Trace.{Meaning, command, packet, move, note}

-- a bearer and a session: numbers that a message or a report has in one octet, and addresses
abbrev pub PhaseIn : Phase → Type 0
PhaseIn (Asked seq) = Unit {0}
PhaseIn (Active ebi) = IsOctet ebi

pub record BearerIn (bearer : Bearer) : Type 0 where
  pub phase : PhaseIn bearer.phase
  pub arp : IsOctet bearer.qos.arp
  pub qci : IsOctet bearer.qos.qci
  pub enb : IfSome bearer.enb HasAddress

pub record SessionIn (session : SessionState) : Type 0 where
  pub bearers : AllByRecursion BearerIn session.bearers
  pub last : IfSome session.last (λ (kept : Kept). AllByRecursion IsOctet kept.reply)

-- an active bearer, a packet, and one that is held
pub record ActiveIn (bearer : ActiveBearer) : Type 0 where
  pub life : bearer.life < 2 ^ 40
  pub ebi : IsOctet bearer.ebi
  pub qci : IsOctet bearer.qos.qci
  pub enb : IfSome bearer.enb HasAddress

pub record PacketIn (packet : Packet) : Type 0 where
  pub octets : AllByRecursion IsOctet packet.octets
  pub short : length packet.octets < 2 ^ 16
  pub moment : packet.moment < 2 ^ 50
  pub number : packet.number < 2 ^ 40

pub record HeldIn (row : HeldRow) : Type 0 where
  pub packet : PacketIn row.packet
  pub some : 0 < length row.packet.octets
  pub life : row.life < 2 ^ 40

-- what the charging book heard
abbrev pub HappeningIn : Happening → Type 0
HappeningIn (started life ebi qci) = (life < 2 ^ 40) × IsOctet ebi × IsOctet qci
HappeningIn (forwarded life p) = (life < 2 ^ 40) × (p.octets < 2 ^ 16) × (p.at < 2 ^ 50)
HappeningIn (closed life why) = life < 2 ^ 40

-- the past of packets, and that of the slot
pub record PacketsIn (past : Past) : Type 0 where
  pub bearers : AllByRecursion ActiveIn past.version.bearers
  pub held : AllByRecursion HeldIn past.held
  pub last : IfSome past.last (λ at. at < 2 ^ 50)
  pub charged : AllByRecursion HappeningIn past.charged

pub record PastIn (past : SlotPast) : Type 0 where
  pub session : SessionIn past.session
  pub packets : PacketsIn past.packets

-- an event in its ranges
abbrev pub EventIn : Event → Type 0
EventIn (event.Command c) = IsCommandInRange c
EventIn (event.Packet p) = PacketIn p

-- A request asks of each bearer once, as a message is read; so it asks of few.
abbrev pub ebis : List Ask → List ℕ
ebis asks = map (λ (ask : Ask). ask.ebi) asks

abbrev pub AsksOnce : CommandKind → Type 0
AsksOnce (Modify seq mme asks) = IsDistinct nat_eq (ebis asks)
AsksOnce other = Unit {0}

abbrev pub EventAsksOnce : Event → Type 0
EventAsksOnce (event.Command c) = AsksOnce c
EventAsksOnce (event.Packet p) = Unit {0}

abbrev pub MeaningAsksOnce : Meaning → Type 0
MeaningAsksOnce (command slot c) = AsksOnce c
MeaningAsksOnce (packet slot p) = Unit {0}
MeaningAsksOnce (move slot slice text) = Unit {0}
MeaningAsksOnce (note text) = Unit {0}

-- the length of a kept answer has two octets, and more than that
abbrev pub IsShortAnswer : Kept → Type 0
IsShortAnswer kept = length kept.reply < 2 ^ 16

-- no count of a life's last piece is above a number, and its moments are those of a trace
pub record OpenIn (most : ℕ) (counts : Counters) (span : Moments) : Type 0 where
  pub seq : counts.seq ≤ most
  pub up_packets : counts.up_packets ≤ most
  pub down_packets : counts.down_packets ≤ most
  pub first : IfSome span.first (λ at. at < 2 ^ 50)
  pub last : IfSome span.last (λ at. at < 2 ^ 50)
