-- An input in pieces: the lines of one epoch of a trace, `REPORT`, the entries of that epoch, `TRACE`, the lines of the
-- next, and so on; the open counters stand in the last piece. What is said of it.
use Rattle.std.specs.Prelude.{◌≡◌, ◌≢◌, ℕ, ◌+◌, ◌⊎◌, ◌==◌, Bool, true, false, if◌then◌else◌, Option, Some, None}
use Rattle.std.specs.Prelude.{List, [], ◌∷◌, ◌++◌, bytes_eq, codes, decimal, flat_map, length}
use Rattle.std.specs.Io.KnownBytes.{Appends}
use Rattle.std.specs.List.{slice_split}
use Rattle.demux.specs.Trace.{book_of}
use Rattle.pc_outside.specs.InputRead.{FailsBehind, IsReadWhole}
use Rattle.pc_outside.specs.Limits.{newline}
use Rattle.pc_outside.specs.Texts.{Text, big, long, texts_of}
use Rattle.pc_outside.specs.WhereTold.{WhereTold}
use Rattle.report_lines.specs.declared.entry.Entry.{Entry}
use Rattle.trace_lines.specs.Epochs.{IsEpoch, NoneEnds}
use Rattle.trace_lines.specs.Input.{Input, ended}
use Rattle.trace_lines.specs.Line.{Line}
use Rattle.at_rest.specs.Coming.{latest_behind}
use Rattle.lawful_run.specs.Merging.{Histories}
use Rattle.lawful_run.specs.Run.{no_events}
use Rattle.lawful_run.specs.Setup.{Setup, slices_of}
use Rattle.lawful_run.specs.Trace.{meant_from, stop_noted}
use Rattle.audit_core.specs.Findings.{Confirmed, finding_text}
use Rattle.audit_core.specs.Pieces.{BreaksFirst, IsLawfulPiece, Piece, events_behind}
use Rattle.audit_core.specs.Ranks.{number_of}
use Rattle.audit_core.specs.Refuting.{NoEntryAt}
use Rattle.audit_core.specs.Said.{AreEntries, marker, report_texts, trace_from, trace_texts}
use Rattle.audit_core.specs.Telling.{break_text, dash}
use Rattle.audit_core.specs.declared.auditing.Audited.{Audited}
use Rattle.audit_core.specs.declared.auditing.Audited.TheVariants as audited
use Rattle.audit_core.specs.declared.sentence.Refutation.{Refutation}
use Rattle.audit_core.specs.declared.telling.Break.{Break}

-- the line between two pieces · the pieces of an input, each with the lines of its trace and, behind `REPORT`, of its
-- report
abbrev pub turn : Text
turn = codes "TRACE"

abbrev pub pieces_of : List Text → List (List Text)
pieces_of texts = slice_split (λ text. bytes_eq text turn) texts

-- What is kept of lawful pieces: how many epochs they are, their lines, and the events of each slot.
pub record Behind : Type 0 where
  pub epochs : ℕ
  pub lines : List Line
  pub events : Histories

abbrev pub none_behind : Behind
none_behind = record { epochs = 0; lines = []; events = no_events }

-- what the next piece says of its trace, behind these
abbrev pub said_in : Behind → List Text → Input
said_in known piece = trace_from (length known.lines + 1) (latest_behind 0 known.lines) (trace_texts piece)

-- what is asked of it, with entries
abbrev pub piece_of : Setup → Behind → Bool → List Text → List Entry → Piece
piece_of setup known last piece entries =
    let said = said_in known piece in record {
      setup = setup;
      slots = length (book_of (known.lines ++ said.lines));
      lines = length known.lines;
      before = known.events;
      made = meant_from (slices_of setup) known.lines said.lines ++ stop_noted said.stop;
      entries = entries;
      last = last;
    }

-- Its lines are those of one epoch: of a whole one, with no bad line; the last piece may stop before its epoch ends, or
-- have no lines.
abbrev pub IsWholeEpoch : Input → Type 0
IsWholeEpoch said = IsEpoch said.lines × (said.stop ≡ ended)

abbrev pub IsOneEpoch : Bool → Input → Type 0
IsOneEpoch false said = IsWholeEpoch said
IsOneEpoch true said = IsWholeEpoch said ⊎ NoneEnds [] said.lines

-- They aren't: a line stands behind the one that ends the epoch, or `TRACE` before that.
abbrev pub line_behind : ℕ → (entry due : List ℕ) → Break
line_behind number entry due = record { line = Some number; slot = None; entry = entry; due = due }

pub record HasTwoEpochs (known : Behind) (said : Input) (told : Break) : Type 0 where
  pub first : List Line
  pub later : List Line
  pub parts : said.lines ≡ first ++ later
  pub whole : IsEpoch first
  pub more : (later ≢ []) ⊎ (said.stop ≢ ended)
  pub is : told ≡ line_behind (length known.lines + length first + 1) dash marker

pub record StopsEarly (known : Behind) (said : Input) (told : Break) : Type 0 where
  pub open_ : NoneEnds [] said.lines
  pub is : told ≡ line_behind (length known.lines + length said.lines + length (stop_noted said.stop) + 1) turn dash

abbrev pub IsMisfit : Bool → Behind → Input → Break → Type 0
IsMisfit false known said told = HasTwoEpochs known said told ⊎ StopsEarly known said told
IsMisfit true known said told = HasTwoEpochs known said told

-- It is lawful behind those before.
pub record IsLawfulNext (setup : Setup) (known : Behind) (last : Bool) (piece : List Text) (entries : List Entry) :
    Type 0 where
  pub are : AreEntries (report_texts piece) entries
  pub one : IsOneEpoch last (said_in known piece)
  pub holds : IsLawfulPiece (piece_of setup known last piece entries)

-- Or it isn't: a line of its report is no entry, its lines aren't those of one epoch, or a sentence is broken first.
pub record BreaksNext (setup : Setup) (known : Behind) (last : Bool) (piece : List Text) (k : ℕ) (told : Break) :
    Type 0 where
  pub entries : List Entry
  pub are : AreEntries (report_texts piece) entries
  pub one : IsOneEpoch last (said_in known piece)
  pub found : Refutation
  pub breaks : BreaksFirst (piece_of setup known last piece entries) found
  pub number : k ≡ number_of found.sentence
  pub is : told ≡ found.place

pub record MisfitNext (known : Behind) (last : Bool) (piece : List Text) (k : ℕ) (told : Break) : Type 0 where
  pub entries : List Entry
  pub are : AreEntries (report_texts piece) entries
  pub misfit : IsMisfit last known (said_in known piece) told
  pub number : k ≡ 1

abbrev pub RefutesNext : Setup → Behind → Bool → List Text → ℕ → Break → Type 0
RefutesNext setup known last piece k told =
    ((k ≡ 0) × NoEntryAt piece told) ⊎ MisfitNext known last piece k told ⊎ BreaksNext setup known last piece k told

-- what is kept behind it
abbrev pub behind_next : Setup → Behind → Bool → List Text → List Entry → Behind
behind_next setup known last piece entries = record {
  epochs = known.epochs + 1;
  lines = known.lines ++ (said_in known piece).lines;
  events = events_behind (piece_of setup known last piece entries);
}

-- the number of an epoch and of its last line
abbrev pub lawful_text : ℕ → ℕ → List ℕ
lawful_text epoch line = codes "lawful" ++ (32 ∷ decimal epoch) ++ (32 ∷ decimal line) ++ newline ∷ []

-- The first pieces are lawful, one after another, each but the first behind `TRACE`, and this is said of them.
pub data AreLawfulSoFar (setup : Setup) : List (List Text) → Behind → List ℕ → Type 0 where
  begins : AreLawfulSoFar setup [] none_behind []
  goes_on : (prefix : List (List Text)) (known : Behind) (text : List ℕ) (piece : List Text) (entries : List Entry)
      → AreLawfulSoFar setup prefix known text → IsLawfulNext setup known false piece entries
      → AreLawfulSoFar setup (prefix ++ piece ∷ []) (behind_next setup known false piece entries)
      (text ++ lawful_text (known.epochs + 1) (length known.lines + length (said_in known piece).lines))

-- What is said of the last one, where it is lawful: it may have no lines.
abbrev pub last_lawful : (epochs before lines : ℕ) → List ℕ
last_lawful epochs before lines = if lines == 0 then [] else lawful_text (epochs + 1) (before + lines)

abbrev pub last_text : Behind → Input → List ℕ
last_text known said =
    last_lawful known.epochs (length known.lines) (length said.lines + length (stop_noted said.stop))
    ++ finding_text None

abbrev pub refuted_text : Bool → ℕ → Break → List ℕ
refuted_text false k told = finding_text (Some k)
refuted_text true k told = finding_text (Some k) ++ break_text told

-- All pieces but the last one are lawful · so are some first ones.
pub record SaysLawful (setup : Setup) (texts : List Text) (text : List ℕ) : Type 0 where
  pub prefix : List (List Text)
  pub piece : List Text
  pub known : Behind
  pub parts : pieces_of texts ≡ prefix ++ piece ∷ []
  pub so : AreLawfulSoFar setup prefix known text

pub record SaysSome (setup : Setup) (texts : List Text) (text : List ℕ) : Type 0 where
  pub prefix : List (List Text)
  pub later : List (List Text)
  pub known : Behind
  pub parts : pieces_of texts ≡ prefix ++ later
  pub so : AreLawfulSoFar setup prefix known text

-- All are lawful · one isn't, and those before it are.
pub record SaysYes (setup : Setup) (texts : List Text) (text : List ℕ) : Type 0 where
  pub prefix : List (List Text)
  pub piece : List Text
  pub known : Behind
  pub said : List ℕ
  pub entries : List Entry
  pub parts : pieces_of texts ≡ prefix ++ piece ∷ []
  pub so : AreLawfulSoFar setup prefix known said
  pub lawful : IsLawfulNext setup known true piece entries
  pub is : text ≡ said ++ last_text known (said_in known piece)

abbrev pub is_last : List (List Text) → Bool
is_last [] = true
is_last (next ∷ later) = false

pub record SaysNo (why : Bool) (setup : Setup) (texts : List Text) (text : List ℕ) : Type 0 where
  pub prefix : List (List Text)
  pub piece : List Text
  pub later : List (List Text)
  pub known : Behind
  pub said : List ℕ
  pub k : ℕ
  pub told : Break
  pub parts : pieces_of texts ≡ prefix ++ piece ∷ later
  pub so : AreLawfulSoFar setup prefix known said
  pub refuted : RefutesNext setup known (is_last later) piece k told
  pub is : text ≡ said ++ refuted_text why k told

-- What was written, by how an audit that goes along ended. Of what was said before nothing is kept back.
abbrev pub SaysAny : Bool → Setup → List Text → List ℕ → Type 0
SaysAny why setup texts text =
    SaysSome setup texts text ⊎ SaysYes setup texts text ⊎ SaysNo why setup texts text

abbrev pub Tells : Audited → Bool → Setup → List ℕ → List ℕ → List ℕ → Type 0
Tells audited.Confirmed why setup octets left text =
    IsReadWhole octets left × SaysYes setup (texts_of octets).lines text
Tells audited.Refuted why setup octets left text = SaysNo why setup (texts_of octets).lines text
Tells audited.ReadFault why setup octets left text =
    (done : List Text) × FailsBehind octets left done × SaysLawful setup done text
Tells audited.WriteFault why setup octets left text =
    (more : List ℕ) × SaysAny why setup (texts_of octets).lines (text ++ more)
Tells audited.NoMemory why setup octets left text = SaysSome setup (texts_of octets).lines text
Tells audited.LineLong why setup octets left text =
    ((texts_of octets).stop ≡ long) × SaysLawful setup (texts_of octets).lines text
Tells audited.TooLong why setup octets left text =
    ((texts_of octets).stop ≡ big) × SaysLawful setup (texts_of octets).lines text

-- octets were appended to what a sink tells, and they say this of those that a source told
pub record GoesAlong (why : Bool) (ending : Audited) (setup : Setup) (start left old new : Option (List ℕ)) :
    Type 0 where
  pub text : List ℕ
  pub written : Appends old new text
  pub report : WhereTold start left (λ octets rest. Tells ending why setup octets rest text)

-- The pieces joined: one trace, and one report of it.
abbrev pub joined : List (List Text) → List Text
joined pieces = flat_map trace_texts pieces ++ marker ∷ flat_map report_texts pieces

-- Where all pieces are lawful, the joined report is a lawful one of the joined trace.
abbrev pub PiecesAreTheRun : Type 0
PiecesAreTheRun =
    (setup : Setup) (prefix : List (List Text)) (known : Behind) (text : List ℕ) (piece : List Text)
    (entries : List Entry) → AreLawfulSoFar setup prefix known text
    → IsLawfulNext setup known true piece entries
    → Confirmed setup (joined (prefix ++ piece ∷ []))
