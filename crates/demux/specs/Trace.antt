-- What the lines of a trace mean, each behind those before it.
use Rattle.std.specs.Prelude.{ℕ, List, [], ◌∷◌, ◌++◌, fold}
use Rattle.trace_lines.specs.Line.{Line}
use Rattle.control_steps.specs.declared.command.CommandKind.{CommandKind}
use Rattle.demux.specs.declared.decision.Decision.{Decision}
use Rattle.demux.specs.declared.decision.Decision.TheVariants.{Command, Packet, Move, Note}
use Rattle.demux.specs.declared.packet.LentPacket.{LentPacket}
use Rattle.demux.specs.Texts.{move_note}
use Rattle.demux.specs.Resolved.{decided, book_after, slot_of}
use Rattle.demux.specs.Destinations.{destination}

-- the book behind lines
abbrev pub book_of : List Line → List (List ℕ)
book_of lines = fold book_after [] lines

-- the decisions on lines
abbrev pub decisions_from : ℕ → List (List ℕ) → List Line → List Decision
decisions_from slices book [] = []
decisions_from slices book (line ∷ lines) =
    decided slices book line ∷ decisions_from slices (book_after book line) lines

abbrev pub decisions : ℕ → List Line → List Decision
decisions slices lines = decisions_from slices [] lines

-- where a slot is bound for behind lines
abbrev pub destination_after : ℕ → ℕ → List Line → ℕ
destination_after slices slot lines = destination slices slot (decisions slices lines)

-- What a line means with all that stands before it: a command of a slot, a packet of a slot, a move of a slot to a
-- slice with its note, or a note alone.
pub data Meaning : Type 0 where
  command : (slot : ℕ) → CommandKind → Meaning
  packet : (slot : ℕ) → LentPacket → Meaning
  move : (slot slice : ℕ) → (text : List ℕ) → Meaning
  note : (text : List ℕ) → Meaning

-- a decision by the book and the decisions before it
abbrev pub meant : ℕ → List (List ℕ) → List Decision → Decision → Meaning
meant slices book before (Command whose asks) = command (slot_of book whose) asks
meant slices book before (Packet slot lent) = packet slot lent
meant slices book before (Move slot slice) = move slot slice (move_note (destination slices slot before) slot slice)
meant slices book before (Note text) = note text

-- what a line means behind lines
abbrev pub meaning : ℕ → List Line → Line → Meaning
meaning slices before line =
    meant slices (book_of before) (decisions slices before) (decided slices (book_of before) line)

-- what lines mean, each behind those before it
abbrev pub meanings_from : ℕ → List Line → List Line → List Meaning
meanings_from slices before [] = []
meanings_from slices before (line ∷ lines) =
    meaning slices before line ∷ meanings_from slices (before ++ line ∷ []) lines

abbrev pub meanings : ℕ → List Line → List Meaning
meanings slices lines = meanings_from slices [] lines
