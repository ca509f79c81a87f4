-- Whole subscribers that are alike, and what an event leaves of them.
use Rattle.std.specs.Prelude.{◌≡◌, ◌+◌, ◌++◌, List}
use Rattle.pc_base.specs.declared.packet.Packet.{Packet}
use Rattle.charging_book.specs.declared.records.Piece.{Piece}
use Rattle.charging_book.specs.Happenings.{Happening}
use Rattle.charging_book.specs.Posted.{pieces_after, rows_after, AllMayBePosted}
use Rattle.bearer_state.specs.Bearer.{AreBearers}
use Rattle.bearer_state.specs.Session.{IsSession}
use Rattle.bearer_state.specs.Version.{IsVersion, version_of}
use Rattle.control_steps.specs.declared.command.CommandKind.{CommandKind}
use Rattle.control_steps.specs.Table.{controlled}
use Rattle.packet_steps.specs.Running.{planned, charged_by, GoesOn, brought, Advances}
use Rattle.subscriber.specs.Standing.{SubscriberState, commands_met}
use Rattle.subscriber.specs.Alike.{AreAlike}

-- they differ in nothing but the order of pieces and buckets that no bearer uses
pub record AreSubscribersAlike (one other : SubscriberState) (pieces others : List Piece) : Type 0 where
  pub session : one.session ≡ other.session
  pub version : one.version ≡ other.version
  pub packets : one.packets ≡ other.packets
  pub destination : one.destination ≡ other.destination
  pub counters : AreAlike one.version one.counters other.counters pieces others

-- what a command leaves of a subscriber · what a packet leaves, as the clauses of these calls say
pub record IsCommanded (old new : SubscriberState) (command : CommandKind) : Type 0 where
  pub session : new.session ≡ (controlled old.session command).0
  pub version : new.version ≡ version_of new.session (commands_met old + 1)
  pub counters : Advances old.version new.version old.counters new.counters
  pub packets : new.packets ≡ old.packets
  pub destination : new.destination ≡ old.destination

pub record IsMet (old new : SubscriberState) (packet : Packet) : Type 0 where
  pub counters : GoesOn (planned old.version old.counters packet) packet old.counters new.counters
  pub others : new ≡ record old { counters = new.counters; packets = old.packets + 1 }

-- behind what both were charged they are alike, and it made the same rows
pub record StaySubscribersAlike (one other new next : SubscriberState) (pieces others : List Piece)
    (happened : List Happening) : Type 0 where
  pub alike : AreSubscribersAlike new next (pieces_after pieces happened) (pieces_after others happened)
  pub rows : new.counters.book.rows ≡ one.counters.book.rows ++ rows_after pieces happened
  pub others_rows : next.counters.book.rows ≡ other.counters.book.rows ++ rows_after pieces happened

-- a command has the same effects, and leaves them alike
pub record CommandIsAlike (one other new next : SubscriberState) (pieces others : List Piece) : Type 0 where
  pub effects : (brought one.version new.version one.counters).effects
      ≡ (brought other.version next.version other.counters).effects
  pub stay : StaySubscribersAlike one other new next pieces others
      (brought one.version new.version one.counters).charged

abbrev pub CommandsStayAlike : Type 0
CommandsStayAlike = (one other new next : SubscriberState) (pieces others : List Piece) (command : CommandKind)
    → AreSubscribersAlike one other pieces others → one.version ≡ version_of one.session (commands_met one)
    → IsSession one.session → AreBearers one.session.bearers → IsVersion new.version
    → AllMayBePosted pieces (brought one.version new.version one.counters).charged
    → IsCommanded one new command → IsCommanded other next command
    → CommandIsAlike one other new next pieces others

-- a packet is planned alike, and leaves them alike
pub record PacketIsAlike (one other new next : SubscriberState) (pieces others : List Piece)
    (packet : Packet) : Type 0 where
  pub plan_ : planned one.version one.counters packet ≡ planned other.version other.counters packet
  pub stay : StaySubscribersAlike one other new next pieces others
      (charged_by (planned one.version one.counters packet) packet.moment)

abbrev pub PacketsStayAlike : Type 0
PacketsStayAlike = (one other new next : SubscriberState) (pieces others : List Piece) (packet : Packet)
    → AreSubscribersAlike one other pieces others → IsVersion one.version
    → AllMayBePosted pieces (charged_by (planned one.version one.counters packet) packet.moment)
    → IsMet one new packet → IsMet other next packet
    → PacketIsAlike one other new next pieces others packet
