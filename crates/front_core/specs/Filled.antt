-- What is told of each slot's commands and packets, as entries are filled with it.
use Rattle.std.specs.Prelude.{◌≡◌, ℕ, ◌<◌, Bool, true, false, Option, Some, None, option_to_list}
use Rattle.std.specs.Prelude.{List, [], ◌∷◌, ◌++◌, length, map, get_or, set, reverse}
use Rattle.control_half.specs.declared.items.CommandDone.{CommandDone}
use Rattle.counter_half.specs.declared.items.PacketDone.{PacketDone}
use Rattle.report_lines.specs.declared.entry.LineEntry.{LineEntry}
use Rattle.report_lines.specs.declared.entry.LineEntry.TheVariants as line_entry
use Rattle.lawful_run.specs.Report.{EpochReport}
use Rattle.pc_base.specs.declared.packet.Verdict.{Verdict}
use Rattle.slot_execution.specs.Replaying.{effects_told, rows_told}
use Rattle.slot_execution.specs.declared.told.ToldEntry.{ToldEntry}
use Rattle.slot_execution.specs.declared.told.ToldEntry.TheVariants as entry
use Rattle.slot_execution.specs.declared.told.ToldEpoch.{ToldEpoch}
use Rattle.lawful_run.specs.Opened.{open_command, open_packet}
use Rattle.lawful_run.specs.Filling.{Met, Mets, Replied, Replies, fill, met_slot, others_of, replied_slot}
use Rattle.front_core.specs.Entries.{open_of}
use Rattle.front_core.specs.declared.taken.OpenEntry.{OpenEntry}
use Rattle.front_core.specs.declared.taken.OpenEntry.TheVariants as open_entry
use Rattle.front_core.specs.declared.taken.Taken.{Taken}
use Rattle.front_core.specs.declared.took.Took.{Took}
use Rattle.front_core.specs.declared.took.Took.TheVariants as took
use Rattle.front_core.specs.declared.answers.SlotAnswers.{SlotAnswers}

-- what the front tells of a line
abbrev pub FrontTold : Type 0
FrontTold = ToldEntry (List ℕ) Verdict

abbrev pub entry_told : ToldEntry (List ℕ) Verdict → LineEntry
entry_told (entry.Note n text) = line_entry.N (record { line = n; note = text })
entry_told (entry.Answer n slot number reply) =
    line_entry.C (record { line = n; slot = slot; number = number; reply = reply })
entry_told (entry.Judgement n slot number commands verdict place parked) = line_entry.P (record {
  line = n;
  slot = slot;
  number = number;
  commands = commands;
  verdict = verdict;
  place = place;
  parked = parked;
})
entry_told (entry.Refusal n slot packet) = line_entry.F (record { line = n; slot = slot; packet = packet })

-- the report of an epoch
abbrev pub told_by : ToldEpoch (List ℕ) Verdict → EpochReport
told_by epoch = record {
  lines = map entry_told epoch.lines.items;
  effects = effects_told epoch.effects.items;
  rows = rows_told epoch.rows.items;
}

abbrev pub replied_so : CommandDone → Replied
replied_so done = record { number = done.number; reply = done.reply }

abbrev pub met_so : PacketDone → Met
met_so done = record {
  number = done.number;
  commands = done.commands;
  verdict = done.verdict;
  place = Some done.place;
}

-- by slot, the next one first, and none beyond
abbrev pub replies_of : SlotAnswers → List Replied
replies_of answers = map replied_so (reverse answers.replies.items)

abbrev pub mets_of : SlotAnswers → List Met
mets_of answers = map met_so (reverse answers.packets.items)

abbrev pub replies_at : List SlotAnswers → Replies
replies_at answers slot = get_or (map replies_of answers) slot []

abbrev pub mets_at : List SlotAnswers → Mets
mets_at answers slot = get_or (map mets_of answers) slot []

-- a command or packet is of one of so many slots
abbrev pub IsWithin : ℕ → OpenEntry → Type 0
IsWithin slots (open_entry.Note text) = Unit {0}
IsWithin slots (open_entry.Command slot) = slot < slots
IsWithin slots (open_entry.Packet slot parked) = slot < slots
IsWithin slots (open_entry.Full slot packet) = Unit {0}

-- an open entry is filled with what is told next of its slot, which is taken
pub record FillsNext (old new : List SlotAnswers) (open_ : LineEntry) (told : FrontTold) : Type 0 where
  pub filled_so : entry_told told ≡ fill open_ (replies_at old) (mets_at old)
  pub many : length new ≡ length old
  pub replies : (slot : ℕ) → replies_at new slot ≡ others_of (replied_slot open_) (replies_at old) slot
  pub mets : (slot : ℕ) → mets_at new slot ≡ others_of (met_slot open_) (mets_at old) slot

-- the last of a list was taken, if there was one
pub record Pops {X : Type 0} (before after : List X) (next : Option X) : Type 0 where
  pub items : before ≡ after ++ option_to_list next
  pub none : next ≡ None → before ≡ []

-- the next reply of a slot is taken, and the next verdict
pub record TakesReply (old new : List SlotAnswers) (slot : ℕ) (next : Option CommandDone) : Type 0 where
  pub before : SlotAnswers
  pub after : SlotAnswers
  pub found : before ≡ get_or old slot before
  pub is : new ≡ set old slot after
  pub pops : Pops before.replies.items after.replies.items next
  pub same : after.packets.items ≡ before.packets.items

pub record TakesPacket (old new : List SlotAnswers) (slot : ℕ) (next : Option PacketDone) : Type 0 where
  pub before : SlotAnswers
  pub after : SlotAnswers
  pub found : before ≡ get_or old slot before
  pub is : new ≡ set old slot after
  pub pops : Pops before.packets.items after.packets.items next
  pub same : after.replies.items ≡ before.replies.items

-- the entry of a command or packet that was taken, with what is told next of its slot
abbrev pub told_of_command : (n slot : ℕ) → Option CommandDone → LineEntry
told_of_command n slot None = open_command n slot true
told_of_command n slot (Some done) =
    line_entry.C (record { line = n; slot = slot; number = done.number; reply = done.reply })

abbrev pub told_of_packet : (n slot : ℕ) → Bool → Option PacketDone → LineEntry
told_of_packet n slot parked None = open_packet n slot true parked
told_of_packet n slot parked (Some done) = line_entry.P (record {
  line = n;
  slot = slot;
  number = done.number;
  commands = done.commands;
  verdict = done.verdict;
  place = Some done.place;
  parked = parked;
})

-- the first of the lines that are left, which are in the order from the last, is filled
pub record FillsFirst (line : ℕ) (old new : List Taken) (before after : List SlotAnswers) (told : FrontTold) :
    Type 0 where
  pub taken : Taken
  pub first : reverse old ≡ taken ∷ reverse new
  pub fills : FillsNext before after (open_of line taken.open) told

-- what an entry says that was answered when its line was taken
abbrev pub took_told : LineEntry → Took
took_told (line_entry.N noted) = took.Answered
took_told (line_entry.C answered) = took.Accepted false
took_told (line_entry.P judged) = took.Accepted judged.parked
took_told (line_entry.F refused) = took.Full
