-- A subscriber that replays events of its slot.
use Rattle.std.specs.Prelude.{◌≡◌, ℕ, ◌+◌, ◌≤◌, List, [], ◌∷◌, ◌++◌, All, length, map, flat_map, unwrap_or}
use Rattle.pc_base.specs.declared.packet.Place.{Place}
use Rattle.pc_base.specs.declared.packet.Verdict.{Verdict}
use Rattle.pc_base.specs.declared.reply.Reply.{Reply}
use Rattle.report_lines.specs.Lent.{IsShort}
use Rattle.report_lines.specs.Records.{Effected}
use Rattle.report_lines.specs.declared.entry.ChargeEntry.{ChargeEntry}
use Rattle.report_lines.specs.declared.entry.ChargeEntry.TheVariants.{R}
use Rattle.packet_steps.specs.Lent.{verdict_of}
use Rattle.gate_model.specs.Events.{FewEvents, commands_of, packets_of}
use Rattle.gate_model.specs.SlotPast.{records_after}
use Rattle.gate_model.specs.declared.event.Event.{Event}
use Rattle.subscriber.specs.Standing.{SubscriberState, StandsFor, last_of, Represents}
use Rattle.lawful_run.specs.Accepted as accepted
use Rattle.lawful_run.specs.Merging.{CanGo}
pub use Rattle.lawful_run.specs.Merging.{commands_lent, events_of}
use Rattle.lawful_run.specs.Outcomes as made_of
use Rattle.lawful_run.specs.Telling.{counted}
use Rattle.slot_execution.specs.declared.placed.Placed.{Placed}
use Rattle.slot_execution.specs.declared.replayed.Caused.{Caused}
use Rattle.slot_execution.specs.declared.replayed.Closed.{Closed}
use Rattle.slot_execution.specs.declared.replayed.NumberedVerdict.{NumberedVerdict}
use Rattle.slot_execution.specs.declared.replayed.Replayed.{Replayed}
use Rattle.slot_execution.specs.declared.replayed.NumberedReply.{NumberedReply}

-- the packets, each with the count of commands before it
abbrev pub placed_so : Placed → accepted.Placed
placed_so placed = record { commands = placed.commands; packet = placed.packet }

abbrev pub placed_lent : List Placed → List accepted.Placed
placed_lent packets = map placed_so packets

abbrev pub counts_of : List Placed → List ℕ
counts_of packets = map (λ (placed : Placed). placed.commands) packets

abbrev pub places_of : List Placed → List Place
places_of packets = map (λ (placed : Placed). placed.place) packets

-- packets come one after another, and none before this moment
abbrev pub AreLate : ℕ → List Placed → Type 0
AreLate least [] = Unit {0}
AreLate least (first ∷ packets) =
    (least ≤ first.packet.moment) × AreLate first.packet.moment packets

-- the moment of the last of them, or this one
abbrev pub latest_of : ℕ → List Placed → ℕ
latest_of latest [] = latest
latest_of latest (first ∷ packets) = latest_of first.packet.moment packets

-- the moment of a subscriber's last packet, or 0
abbrev pub moment_of : SubscriberState → ℕ
moment_of subscriber = unwrap_or (last_of subscriber) 0

-- effects, as entries tell them
abbrev pub effects_caused : Caused → List Effected
effects_caused caused = map (made_of.effect_entry caused.slot caused.command) caused.effects

abbrev pub effects_told : List Caused → List Effected
effects_told effects = flat_map effects_caused effects

-- charging records, the same
abbrev pub rows_closed : Closed → List ChargeEntry
rows_closed closed = map (R closed.slot) closed.rows.items

abbrev pub rows_told : List Closed → List ChargeEntry
rows_told rows = flat_map rows_closed rows

-- what is told of commands, and of packets
abbrev pub replies_in : List NumberedReply → List Reply
replies_in replies = map (λ (r : NumberedReply). r.reply) replies

abbrev pub numbers_in : List NumberedReply → List ℕ
numbers_in replies = map (λ (r : NumberedReply). r.number) replies

abbrev pub verdicts_in : List NumberedVerdict → List Verdict
verdicts_in packets = map (λ (j : NumberedVerdict). verdict_of j.verdict) packets

abbrev pub packet_numbers_in : List NumberedVerdict → List ℕ
packet_numbers_in packets = map (λ (j : NumberedVerdict). j.number) packets

abbrev pub counts_in : List NumberedVerdict → List ℕ
counts_in packets = map (λ (j : NumberedVerdict). j.commands) packets

abbrev pub places_in : List NumberedVerdict → List Place
places_in packets = map (λ (j : NumberedVerdict). j.place) packets

-- each verdict can be written: what goes down is no longer than IPv4 allows
abbrev pub AreShort : List NumberedVerdict → Type 0
AreShort packets = All (λ (judged : NumberedVerdict). IsShort judged.verdict) packets

-- What was replayed is what these events lead to behind those before.
pub record IsLedTo (replayed : Replayed) (slot : ℕ) (before now : List Event) : Type 0 where
  -- the reply to each command, the verdict on each packet, and the effects, as of the one-thread gateway
  pub replies : replies_in replayed.replies.items ≡ made_of.replies slot before now
  pub verdicts : verdicts_in replayed.packets.items ≡ made_of.verdicts slot before now
  pub effects : effects_told replayed.effects.items ≡ made_of.effects slot before now
  -- commands and packets are numbered on
  pub numbers : numbers_in replayed.replies.items
      ≡ counted (length (commands_of before)) (length (commands_of now))
  pub packet_numbers : packet_numbers_in replayed.packets.items
      ≡ counted (length (packets_of before)) (length (packets_of now))

-- within an epoch: the subscriber has done these of its events, and no records were taken since the epoch began
pub record Plays (subscriber : SubscriberState) (replayed : Replayed) (slot : ℕ) (before now : List Event) :
    Type 0 where
  pub stands : StandsFor subscriber slot (before ++ now) (length (records_after slot before))
  pub led : IsLedTo replayed slot before now

-- so few events, with so many more, that every count may rise
abbrev pub CanPlay : SubscriberState → Replayed → ℕ → Type 0
CanPlay subscriber replayed more = CanGo (Plays subscriber replayed) more

pub record CanReplay (subscriber : SubscriberState) (more : ℕ) : Type 0 where
  pub slot : ℕ
  pub before : List Event
  pub represents : Represents subscriber slot before
  pub few : FewEvents (length before + more)

-- what is told of packets is as it was
abbrev pub KeepsPackets : Replayed → Replayed → Type 0
KeepsPackets old new = new.packets.items ≡ old.packets.items
