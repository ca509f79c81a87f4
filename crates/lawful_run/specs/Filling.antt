-- Entries of commands and packets that are left open when their lines are taken, and what fills them in the end.
use Rattle.std.specs.Prelude.{ℕ, ◌==◌, if◌then◌else◌, Option, Some, None, List, [], ◌∷◌, drop}
use Rattle.pc_base.specs.declared.packet.Place.{Place}
use Rattle.pc_base.specs.declared.packet.Verdict.{Verdict}
use Rattle.pc_base.specs.declared.reply.Reply.{Reply}
use Rattle.report_lines.specs.Records.{Answered, PacketTold}
use Rattle.report_lines.specs.declared.entry.LineEntry.{LineEntry}
use Rattle.report_lines.specs.declared.entry.LineEntry.TheVariants as line

-- what became of a command: its number among those of its slot, and the reply
pub record Replied : Type 0 where
  pub number : ℕ
  pub reply : Reply

-- what became of a packet: its number, how many commands stand before it, the verdict, and where it was handled
pub record Met : Type 0 where
  pub number : ℕ
  pub commands : ℕ
  pub verdict : Verdict
  pub place : Option Place

-- Of an open entry the line, the slot and the mark of parking stand. The first of its slot's list fills in the rest,
-- and where that list is empty it stays as it is.
abbrev pub answered_with : Answered → List Replied → Answered
answered_with answered [] = answered
answered_with answered (first ∷ others) = record answered { number = first.number; reply = first.reply }

abbrev pub judged_with : PacketTold → List Met → PacketTold
judged_with judged [] = judged
judged_with judged (first ∷ others) = record judged {
  number = first.number;
  commands = first.commands;
  verdict = first.verdict;
  place = first.place;
}

-- what is told of commands and of packets, by slot
abbrev pub Replies : Type 0
Replies = ℕ → List Replied

abbrev pub Mets : Type 0
Mets = ℕ → List Met

abbrev pub fill : LineEntry → Replies → Mets → LineEntry
fill (line.N noted) replies mets = line.N noted
fill (line.C answered) replies mets = line.C (answered_with answered (replies answered.slot))
fill (line.P judged) replies mets = line.P (judged_with judged (mets judged.slot))
fill (line.F refused) replies mets = line.F refused

-- the slot whose list of replies an entry takes from, and that of packets
abbrev pub replied_slot : LineEntry → Option ℕ
replied_slot (line.N noted) = None
replied_slot (line.C answered) = Some answered.slot
replied_slot (line.P judged) = None
replied_slot (line.F refused) = None

abbrev pub met_slot : LineEntry → Option ℕ
met_slot (line.N noted) = None
met_slot (line.C answered) = None
met_slot (line.P judged) = Some judged.slot
met_slot (line.F refused) = None

-- the lists of all slots, where the first was taken from the list of one
abbrev pub others_of : {X : Type 0} → Option ℕ → (ℕ → List X) → ℕ → List X
others_of None lists slot = lists slot
others_of (Some own) lists slot = if own == slot then drop 1 (lists slot) else lists slot

-- the entries of an epoch's lines, filled in line order
abbrev pub filled : List LineEntry → Replies → Mets → List LineEntry
filled [] replies mets = []
filled (entry ∷ entries) replies mets =
    fill entry replies mets
    ∷ filled entries (others_of (replied_slot entry) replies) (others_of (met_slot entry) mets)
