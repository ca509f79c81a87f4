-- What is told of a break: the line, the slot, the entry as it stands, and what was due there.
use Rattle.std.specs.Prelude.{ℕ, false, Option, Some, None, List, [], ◌∷◌, ◌++◌, codes, decimal}
use Rattle.pc_base.specs.declared.packet.Verdict.{Verdict}
use Rattle.pc_base.specs.declared.reply.Reply.{Reply}
use Rattle.report_lines.specs.Text.{entry_text}
use Rattle.report_lines.specs.declared.entry.Entry.{Entry}
use Rattle.report_lines.specs.declared.entry.Entry.TheVariants as entry
use Rattle.report_lines.specs.declared.entry.LineEntry.{LineEntry}
use Rattle.report_lines.specs.declared.entry.LineEntry.TheVariants as line
use Rattle.report_lines.specs.Records.{Answered, PacketTold}
use Rattle.audit_core.specs.Entries.{line_of, slot_charged}
use Rattle.audit_core.specs.declared.telling.Break.{Break}
use Rattle.audit_core.specs.declared.telling.SaidEntry.{SaidEntry}

abbrev pub dash : List ℕ
dash = codes "-"

-- the text of an entry, where there is one
abbrev pub text_of : Option Entry → List ℕ
text_of None = dash
text_of (Some told) = entry_text told

-- the line that an entry answers, and the slot that it names
abbrev pub line_in : Entry → Option ℕ
line_in (entry.Line of_line) = Some (line_of of_line)
line_in (entry.Effect effect) = None
line_in (entry.Charge charge) = None

abbrev pub slot_in : LineEntry → Option ℕ
slot_in (line.N noted) = None
slot_in (line.C answered) = Some answered.slot
slot_in (line.P judged) = Some judged.slot
slot_in (line.F refused) = Some refused.slot

abbrev pub slot_of : Entry → Option ℕ
slot_of (entry.Line of_line) = slot_in of_line
slot_of (entry.Effect effect) = Some effect.slot
slot_of (entry.Charge charge) = Some (slot_charged charge)

-- an entry and the one that was due in its place, of which one may be missing
abbrev pub tells : Option Entry → Option Entry → Break
tells (Some told) due =
    record { line = line_in told; slot = slot_of told; entry = entry_text told; due = text_of due }
tells None (Some due) = record { line = line_in due; slot = slot_of due; entry = dash; due = entry_text due }
tells None None = record { line = None; slot = None; entry = dash; due = dash }

-- so it is of entries as they are said: by their line, slot and text
abbrev pub said_of : Entry → SaidEntry
said_of told = record { line = line_in told; slot = slot_of told; text = entry_text told }

abbrev pub text_said : Option SaidEntry → List ℕ
text_said None = dash
text_said (Some said) = said.text

abbrev pub stands_said : SaidEntry → Option SaidEntry → Break
stands_said told due = record { line = told.line; slot = told.slot; entry = told.text; due = text_said due }

abbrev pub misses_said : Option SaidEntry → Break
misses_said (Some due) = record { line = due.line; slot = due.slot; entry = dash; due = due.text }
misses_said None = record { line = None; slot = None; entry = dash; due = dash }

abbrev pub tells_said : Option SaidEntry → Option SaidEntry → Break
tells_said (Some told) due = stands_said told due
tells_said None due = misses_said due

-- the entry of a line, where this was due
abbrev pub at_line : LineEntry → List ℕ → Break
at_line told due = record {
  line = Some (line_of told);
  slot = slot_in told;
  entry = entry_text (entry.Line told);
  due = due;
}

-- the entry of a command or packet with another reply or verdict, without a place
abbrev pub with_reply : Answered → Reply → Entry
with_reply answered reply = entry.Line (line.C (record answered { reply = reply }))

abbrev pub with_verdict : PacketTold → Verdict → Entry
with_verdict judged verdict =
    entry.Line (line.P (record judged { verdict = verdict; place = None; parked = false }))

-- the line that tells a break: `at LINE slot SLOT: ENTRY; due DUE`
abbrev pub field : Option ℕ → List ℕ
field None = codes " -"
field (Some number) = 32 ∷ decimal number

abbrev pub place_text : Option ℕ → Option ℕ → List ℕ
place_text line slot = codes "at" ++ (field line ++ (codes " slot" ++ field slot))

abbrev pub break_text : Break → List ℕ
break_text told =
    place_text told.line told.slot
    ++ ((codes ": " ++ told.entry) ++ (codes "; due " ++ (told.due ++ 10 ∷ [])))
