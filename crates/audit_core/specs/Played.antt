-- What the lines of an epoch lead to, slot by slot.
use Rattle.std.specs.Prelude.{◌≡◌, ℕ, ◌<◌, ◌≤◌, All, IfSome, IfNone, Option, Some, None, List, [], ◌∷◌, map}
use Rattle.std.specs.Prelude.{get_or, length}
use Rattle.std.specs.Global.{Vec}
use Rattle.std.specs.Option.{option_map}
use Rattle.pc_base.specs.declared.packet.Verdict.{Verdict}
use Rattle.pc_base.specs.declared.reply.Reply.{Reply}
use Rattle.packet_steps.specs.Lent.{verdict_of}
use Rattle.report_lines.specs.Lent.{IsShort}
use Rattle.demux.specs.Trace.{Meaning, command, packet, move, note}
use Rattle.gate_model.specs.declared.event.Event.{Event}
use Rattle.demux.specs.declared.packet.LentPacket.{LentPacket}
use Rattle.lawful_run.specs.Accepted.{Placed, commands_before}
use Rattle.lawful_run.specs.LinesTold.{LineTold}
use Rattle.lawful_run.specs.Merging.{Histories, events_in}
use Rattle.lawful_run.specs.Outcomes as made_of
use Rattle.lawful_run.specs.Run.{by_slot}
use Rattle.lawful_run.specs.Telling.{counted}
use Rattle.report_lines.specs.declared.entry.ChargeEntry.TheVariants.{R}
use Rattle.slot_execution.specs.Replaying.{IsLedTo, effects_told, rows_told}
use Rattle.slot_execution.specs.declared.replayed.Replayed.{Replayed}
use Rattle.slot_execution.specs.declared.replayed.NumberedReply.{NumberedReply}
use Rattle.slot_execution.specs.declared.replayed.NumberedVerdict.{NumberedVerdict}
use Rattle.subscriber.specs.Standing.{SubscriberState}
use Rattle.audit_core.specs.Bounds.{IsCountBreak}
use Rattle.audit_core.specs.Gateway.{AnswersOf, IsGatewayBreak}
use Rattle.audit_core.specs.Meant.{StandsTold, lines_of, packet_taken, share}
use Rattle.audit_core.specs.OfSlot.{CountsRise}
use Rattle.audit_core.specs.Sentences.{AreOfTheGateway, CountsAreLawful}
use Rattle.lawful_run.specs.Bounds.{count_before}
use Rattle.audit_core.specs.declared.sharing.Keyed.{Keyed}
use Rattle.audit_core.specs.declared.slots.Played.{Played}
use Rattle.audit_core.specs.declared.telling.Break.{Break}
use Rattle.audit_core.specs.declared.told_line.ToldLine.{ToldLine}

-- the next reply, and the next verdict
abbrev pub reply_made : Option NumberedReply → Option Reply
reply_made made = option_map (λ (r : NumberedReply). r.reply) made

abbrev pub verdict_made : Option NumberedVerdict → Option Verdict
verdict_made made = option_map (λ (j : NumberedVerdict). verdict_of j.verdict) made

abbrev pub IfShort : Option NumberedVerdict → Type 0
IfShort made = IfSome made (λ (j : NumberedVerdict). IsShort j.verdict)

-- a line under the slot that it is about
abbrev pub keyed_by : Option ℕ → ToldLine → List (Keyed ToldLine)
keyed_by None told = []
keyed_by (Some slot) told = record { key = slot; item = told } ∷ []

-- the lines of each slot
abbrev pub AreShares : List (Vec ToldLine) → ℕ → List LineTold → Type 0
AreShares shares slots all =
    map (λ (v : Vec ToldLine). lines_of v.items) shares ≡ map (λ slot. share slot all) (counted 0 slots)

-- their packets stand among the octets
abbrev pub StandInEach : List (Vec ToldLine) → Type 0
StandInEach shares = All (λ (v : Vec ToldLine). All StandsTold v.items) shares

-- no packet is earlier than this moment, nor than the one before it
abbrev pub moment_behind : ℕ → Meaning → ℕ
moment_behind latest (command slot c) = latest
moment_behind latest (packet slot p) = p.moment
moment_behind latest (move slot slice text) = latest
moment_behind latest (note text) = latest

abbrev pub AreLate : ℕ → List LineTold → Type 0
AreLate latest [] = Unit {0}
AreLate latest (now ∷ later) =
    (latest ≤ moment_behind latest now.meaning) × AreLate (moment_behind latest now.meaning) later

abbrev pub latest_of : ℕ → List LineTold → ℕ
latest_of latest [] = latest
latest_of latest (now ∷ later) = latest_of (moment_behind latest now.meaning) later

-- the packet of an accepted line, and how many commands stand before it
abbrev pub placed_in : LineTold → Option Placed
placed_in told =
    option_map (λ (p : LentPacket). record { commands = commands_before told.entry; packet = p }) (packet_taken told)

-- what the lines of a slot lead to behind events before
pub record LeadsTo (replayed : Replayed) (slot : ℕ) (before : List Event) (all : List LineTold) : Type 0 where
  pub led : IsLedTo replayed slot before (events_in before all slot)
  pub rows : map (R slot) replayed.rows.items ≡ made_of.rows slot before (events_in before all slot)

-- something holds of each slot below so many
abbrev pub Below : ℕ → (ℕ → Type 0) → Type 0
Below done P = (slot : ℕ) → slot < done → P slot

-- the first break of the counts in the slots below so many, the one of the lowest slot; None where they are lawful
pub record CountsBelow (done : ℕ) (histories : Histories) (all : List LineTold) (found : Option Break) : Type 0 where
  pub some : IfSome found (IsCountBreak histories all)
  pub none : IfNone found (Below done (λ slot. CountsRise slot (count_before histories slot) all))

-- the same of replies and verdicts
pub record AnswersBelow (done : ℕ) (histories : Histories) (all : List LineTold) (found : Option Break) : Type 0 where
  pub some : IfSome found (IsGatewayBreak histories all)
  pub none : IfNone found (Below done (λ slot. AnswersOf slot (histories slot) all))

-- The lines of an epoch were played for the slots below so many: their first breaks, and what they lead to, by slot.
pub record PlaysBelow (done : ℕ) (histories : Histories) (all : List LineTold) (played : Played) : Type 0 where
  pub counts : CountsBelow done histories all played.counts
  pub gateway : AnswersBelow done histories all played.gateway
  pub effects : effects_told played.effects.items
      ≡ by_slot done (λ slot. made_of.effects slot (histories slot) (events_in (histories slot) all slot))
  pub rows : rows_told played.rows.items
      ≡ by_slot done (λ slot. made_of.rows slot (histories slot) (events_in (histories slot) all slot))

-- They were played for all slots.
pub record HasPlayed (slots : ℕ) (histories : Histories) (all : List LineTold) (played : Played) : Type 0 where
  pub counts_some : IfSome played.counts (IsCountBreak histories all)
  pub counts_none : IfNone played.counts (CountsAreLawful histories all)
  pub gateway_some : IfSome played.gateway (IsGatewayBreak histories all)
  pub gateway_none : IfNone played.gateway (AreOfTheGateway histories all)
  pub effects : effects_told played.effects.items
      ≡ by_slot slots (λ slot. made_of.effects slot (histories slot) (events_in (histories slot) all slot))
  pub rows : rows_told played.rows.items
      ≡ by_slot slots (λ slot. made_of.rows slot (histories slot) (events_in (histories slot) all slot))

-- each subscriber is bound for the slice that it was bound for
abbrev pub AreBoundAs : List SubscriberState → List SubscriberState → Type 0
AreBoundAs old new = (slot : ℕ) (none : SubscriberState) → slot < length old
    → (get_or new slot none).destination ≡ (get_or old slot none).destination
