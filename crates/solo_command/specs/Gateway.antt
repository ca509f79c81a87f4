-- What the gateway on one thread answers, line by line, by its book and what its subscribers hold.
use Rattle.std.specs.Prelude.{◌≡◌, ℕ, ◌+◌, false, Some, List, [], ◌∷◌, ◌++◌, length, map, set, slice_get}
use Rattle.pc_base.specs.declared.effect.Effect.{Effect}
use Rattle.pc_base.specs.declared.packet.Place.TheVariants.{Closing}
use Rattle.pc_base.specs.declared.packet.Verdict.{Verdict}
use Rattle.pc_base.specs.declared.reply.Reply.{Reply}
use Rattle.charging_book.specs.Rows.{Charged}
use Rattle.control_steps.specs.declared.command.CommandKind.{CommandKind}
use Rattle.trace_lines.specs.Line.{Line}
use Rattle.demux.specs.declared.decision.Decision.{Decision}
use Rattle.demux.specs.declared.decision.Decision.TheVariants as decision
use Rattle.demux.specs.declared.decision.Whose.{Whose}
use Rattle.demux.specs.declared.decision.Whose.TheVariants.{Known, New}
use Rattle.demux.specs.declared.packet.LentPacket.{LentPacket}
use Rattle.demux.specs.Destinations.{start_slice}
use Rattle.demux.specs.Packets.{numbered}
use Rattle.demux.specs.Resolved.{decided, slot_of}
use Rattle.demux.specs.Texts.{move_note}
use Rattle.report_lines.specs.Records.{Effected}
use Rattle.report_lines.specs.declared.entry.ChargeEntry.{ChargeEntry}
use Rattle.report_lines.specs.declared.entry.ChargeEntry.TheVariants.{R}
use Rattle.report_lines.specs.declared.entry.LineEntry.{LineEntry}
use Rattle.report_lines.specs.declared.entry.LineEntry.TheVariants as line
use Rattle.lawful_run.specs.Outcomes.{effect_entry}
use Rattle.subscriber.specs.Standing.{SubscriberState, commands_met, new_subscriber}
use Rattle.solo_command.specs.Answering.{Answers, Judges}

-- the IMSIs and the subscribers, by slot
pub record Gateway : Type 0 where
  pub book : List (List ℕ)
  pub subscribers : List SubscriberState

-- before the first line
abbrev pub no_subscribers : Gateway
no_subscribers = record { book = []; subscribers = [] }

-- what is told of a line: its entry, and the effects and charging records that follow at the end of its epoch
pub record Told : Type 0 where
  pub entry : LineEntry
  pub effects : List Effected
  pub rows : List ChargeEntry

-- a note · a reply · a verdict
abbrev pub noted : (n : ℕ) → (text : List ℕ) → Told
noted n text = record { entry = line.N (record { line = n; note = text }); effects = []; rows = [] }

abbrev pub answered : (n slot : ℕ) → SubscriberState → Reply → List Effect → List Charged → Told
answered n slot one reply effects rows = record {
  entry = line.C (record { line = n; slot = slot; number = commands_met one; reply = reply });
  effects = map (effect_entry slot (commands_met one)) effects;
  rows = map (R slot) rows;
}

abbrev pub judged : (n slot : ℕ) → SubscriberState → Verdict → List Charged → Told
judged n slot one verdict rows = record {
  entry = line.P (record {
    line = n;
    slot = slot;
    number = one.packets;
    commands = commands_met one;
    verdict = verdict;
    place = Some Closing;
    parked = false;
  });
  effects = [];
  rows = map (R slot) rows;
}

-- the subscriber of a slot answers a command, and the others stay
pub record Commanded (n slot : ℕ) (command : CommandKind) (old : List SubscriberState) (told : Told)
    (new : List SubscriberState) : Type 0 where
  pub one : SubscriberState
  pub found : slice_get old slot ≡ Some one
  pub reply : Reply
  pub effects : List Effect
  pub rows : List Charged
  pub next : SubscriberState
  pub answers : Answers one command reply effects rows next
  pub told_is : told ≡ answered n slot one reply effects rows
  pub put : new ≡ set old slot next

-- it judges a packet, which has the next number
pub record Carried (n slot : ℕ) (packet : LentPacket) (old : List SubscriberState) (told : Told)
    (new : List SubscriberState) : Type 0 where
  pub one : SubscriberState
  pub found : slice_get old slot ≡ Some one
  pub verdict : Verdict
  pub rows : List Charged
  pub next : SubscriberState
  pub judges : Judges one (numbered one.packets packet) verdict rows next
  pub told_is : told ≡ judged n slot one verdict rows
  pub put : new ≡ set old slot next

-- it is bound for a slice
pub record Bound (n slot slice : ℕ) (old : List SubscriberState) (told : Told) (new : List SubscriberState) :
    Type 0 where
  pub one : SubscriberState
  pub found : slice_get old slot ≡ Some one
  pub told_is : told ≡ noted n (move_note one.destination slot slice)
  pub put : new ≡ set old slot (record one { destination = slice })

-- a new IMSI takes the next slot, with a subscriber before its first event, bound for its start slice
abbrev pub admitting : (slices : ℕ) → Whose → Gateway → Gateway
admitting slices (Known slot) old = old
admitting slices (New imsi) old = record {
  book = old.book ++ imsi ∷ [];
  subscribers = old.subscribers ++ new_subscriber (length old.book) (start_slice slices (length old.book)) ∷ [];
}

-- what is told where the line of a number was decided so, and what it leaves
abbrev pub AnswersAs : (slices n : ℕ) → Decision → Gateway → Told → Gateway → Type 0
AnswersAs slices n (decision.Command whose command) old told new =
    (new.book ≡ (admitting slices whose old).book)
    × Commanded n (slot_of old.book whose) command (admitting slices whose old).subscribers told new.subscribers
AnswersAs slices n (decision.Packet slot packet) old told new =
    (new.book ≡ old.book) × Carried n slot packet old.subscribers told new.subscribers
AnswersAs slices n (decision.Move slot slice) old told new =
    (new.book ≡ old.book) × Bound n slot slice old.subscribers told new.subscribers
AnswersAs slices n (decision.Note text) old told new = (told ≡ noted n text) × (new ≡ old)

abbrev pub AnswersLine : (slices : ℕ) → Line → Gateway → Told → Gateway → Type 0
AnswersLine slices line old told new = AnswersAs slices line.number (decided slices old.book line) old told new

-- lines, one behind another
abbrev pub AnswersLines : (slices : ℕ) → List Line → Gateway → List Told → Gateway → Type 0
AnswersLines slices [] old [] new = new ≡ old
AnswersLines slices [] old (told ∷ others) new = ⊥
AnswersLines slices (line ∷ lines) old [] new = ⊥
AnswersLines slices (line ∷ lines) old (told ∷ others) new =
    (next : Gateway) × AnswersLine slices line old told next × AnswersLines slices lines next others new
