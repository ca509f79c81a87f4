-- What a subscriber answers by what it holds alone, and what it leaves: also one that was read from a state. Its
-- charging records are taken out behind each event.
use Rattle.std.specs.Prelude.{◌≡◌, List, []}
use Rattle.pc_base.specs.declared.effect.Effect.{Effect}
use Rattle.pc_base.specs.declared.packet.Packet.{Packet}
use Rattle.pc_base.specs.declared.packet.Verdict.{Verdict}
use Rattle.pc_base.specs.declared.reply.Reply.{Reply}
use Rattle.charging_book.specs.Rows.{Charged}
use Rattle.bearer_state.specs.Bearer.{AreBearers}
use Rattle.bearer_state.specs.Session.{IsSession}
use Rattle.bearer_state.specs.Version.{IsVersion}
use Rattle.control_steps.specs.declared.command.CommandKind.{CommandKind}
use Rattle.control_steps.specs.Table.{controlled}
use Rattle.packet_steps.specs.Plans.{verdict_by}
use Rattle.packet_steps.specs.Running.{planned, brought}
use Rattle.subscriber.specs.Standing.{SubscriberState}
use Rattle.subscriber.specs.Subscribers.{IsCommanded, IsMet}

-- a subscriber whose charging records were taken out
abbrev pub without_rows : SubscriberState → SubscriberState
without_rows one = record one { counters = record one.counters { book = record one.counters.book { rows = [] } } }

-- the ranges that its session, its bearers and its version keep
pub record IsValid (one : SubscriberState) : Type 0 where
  pub session : IsSession one.session
  pub bearers : AreBearers one.session.bearers
  pub version : IsVersion one.version

-- a command: its reply, its effects, and the charging records that it makes
pub record Answers (old : SubscriberState) (command : CommandKind) (reply : Reply) (effects : List Effect)
    (rows : List Charged) (new : SubscriberState) : Type 0 where
  pub left : SubscriberState
  pub commanded : IsCommanded old left command
  pub valid : IsValid left
  pub reply_is : reply ≡ (controlled old.session command).1
  pub effects_are : effects ≡ (brought old.version left.version old.counters).effects
  pub rows_are : rows ≡ left.counters.book.rows
  pub taken : new ≡ without_rows left

-- a packet: its verdict, and the charging records that it makes
pub record Judges (old : SubscriberState) (packet : Packet) (verdict : Verdict) (rows : List Charged)
    (new : SubscriberState) : Type 0 where
  pub left : SubscriberState
  pub met : IsMet old left packet
  pub verdict_is : verdict ≡ verdict_by (planned old.version old.counters packet) packet.octets
  pub rows_are : rows ≡ left.counters.book.rows
  pub taken : new ≡ without_rows left
