-- What is told of each slot's commands and packets, as entries are filled with it.
use Rattle.std.specs.Prelude.{◌≡◌, ℕ, Bool, true, Option, Some, None, option_to_list}
use Rattle.std.specs.Prelude.{List, [], ◌∷◌, ◌++◌, All, length, map, drop, get_or, set}
use Rattle.packet_steps.specs.Lent.{verdict_of}
use Rattle.report_lines.specs.declared.entry.LineEntry.{LineEntry}
use Rattle.lawful_run.specs.Filling.{Met, Mets, Replied, Replies, fill, met_slot, others_of, replied_slot}
use Rattle.slot_execution.specs.declared.replayed.NumberedVerdict.{NumberedVerdict}
use Rattle.slot_execution.specs.declared.replayed.NumberedReply as told
use Rattle.lawful_run.specs.Opened.{open_command, open_packet}
use Rattle.epoch_drive.specs.Replays.{AreShortAnswers}
use Rattle.epoch_drive.specs.Telling.{DrivenTold, IsShortEntry, line_told}
use Rattle.epoch_drive.specs.declared.replays.SlotReplays.{SlotReplays}

abbrev pub replied_so : told.NumberedReply → Replied
replied_so replied = record { number = replied.number; reply = replied.reply }

abbrev pub met_so : NumberedVerdict → Met
met_so judged = record {
  number = judged.number;
  commands = judged.commands;
  verdict = verdict_of judged.verdict;
  place = Some judged.place;
}

-- by slot, and none beyond
abbrev pub replies_of : SlotReplays → List Replied
replies_of answers = map replied_so answers.replies.items

abbrev pub mets_of : SlotReplays → List Met
mets_of answers = map met_so answers.packets.items

abbrev pub replies_at : List SlotReplays → Replies
replies_at answers slot = get_or (map replies_of answers) slot []

abbrev pub mets_at : List SlotReplays → Mets
mets_at answers slot = get_or (map mets_of answers) slot []

-- each verdict can be written
abbrev pub AllShort : List SlotReplays → Type 0
AllShort answers = All AreShortAnswers answers

-- the entry of a command or packet that was taken, with what comes next of its slot
abbrev pub next_reply : Option told.NumberedReply → List Replied
next_reply None = []
next_reply (Some replied) = replied_so replied ∷ []

abbrev pub next_met : Option NumberedVerdict → List Met
next_met None = []
next_met (Some judged) = met_so judged ∷ []

abbrev pub told_of_command : (n slot : ℕ) → Option told.NumberedReply → LineEntry
told_of_command n slot next = fill (open_command n slot true) (λ own. next_reply next) (λ own. [])

abbrev pub told_of_packet : (n slot : ℕ) → Bool → Option NumberedVerdict → LineEntry
told_of_packet n slot parked next = fill (open_packet n slot true parked) (λ own. []) (λ own. next_met next)

-- the next reply of a slot is taken, and the next verdict
pub record TakesReply (old new : List SlotReplays) (slot : ℕ) (next : Option told.NumberedReply) : Type 0 where
  pub before : SlotReplays
  pub after : SlotReplays
  pub found : before ≡ get_or old slot before
  pub is : new ≡ set old slot after
  pub first : before.replies.items ≡ option_to_list next ++ after.replies.items
  pub rest : after.replies.items ≡ drop 1 before.replies.items
  pub same : after.packets.items ≡ before.packets.items

pub record TakesPacket (old new : List SlotReplays) (slot : ℕ) (next : Option NumberedVerdict) : Type 0 where
  pub before : SlotReplays
  pub after : SlotReplays
  pub found : before ≡ get_or old slot before
  pub is : new ≡ set old slot after
  pub first : before.packets.items ≡ option_to_list next ++ after.packets.items
  pub rest : after.packets.items ≡ drop 1 before.packets.items
  pub same : after.replies.items ≡ before.replies.items

-- an open entry is filled with what is told next of its slot, which is taken
pub record FillsNext (old new : List SlotReplays) (open_ : LineEntry) (entry : DrivenTold) : Type 0 where
  pub filled_so : line_told entry ≡ fill open_ (replies_at old) (mets_at old)
  pub many : length new ≡ length old
  pub replies : (slot : ℕ) → replies_at new slot ≡ others_of (replied_slot open_) (replies_at old) slot
  pub mets : (slot : ℕ) → mets_at new slot ≡ others_of (met_slot open_) (mets_at old) slot
  pub short : AllShort old → IsShortEntry entry
  pub still : AllShort old → AllShort new
