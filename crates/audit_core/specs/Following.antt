-- What is held of an input in pieces, as it is heard line by line.
use Rattle.std.specs.Prelude.{◌≡◌, ◌≢◌, ℕ, ◌+◌, ◌*◌, ◌-◌, if◌then◌else◌, ◌<◌, ◌≤◌, ◌^◌, Bool, true, false, Option}
use Rattle.std.specs.Prelude.{Some, None, List, [], ◌∷◌, ◌++◌, All, bytes_eq, flat_map, length, Result, Ok, Err}
use Rattle.std.specs.Io.KnownBytes.{Appends}
use Rattle.pc_outside.specs.InputRead.{HasRead}
use Rattle.pc_outside.specs.Texts.{Text}
use Rattle.pc_outside.specs.WhereTold.{WhereTold}
use Rattle.pc_outside.specs.declared.writing.WriteFault.{WriteFault}
use Rattle.trace_lines.specs.Epochs.{IsEpoch, NoneEnds, octets_in}
use Rattle.report_lines.specs.declared.entry.Entry.{Entry}
use Rattle.trace_lines.specs.Input.{after_lines}
use Rattle.trace_lines.specs.Line.{Line}
use Rattle.at_rest.specs.Coming.{AreLater, latest_behind}
use Rattle.at_rest.specs.Meant.{AreStanding, Stand}
use Rattle.at_rest.specs.Rest.{AreAtRest}
use Rattle.lawful_run.specs.Setup.{Setup}
use Rattle.lawful_run.specs.Trace.{meant_from, stop_noted}
use Rattle.audit_core.specs.Along.{AreLawfulSoFar, Behind, IsLawfulNext, IsOneEpoch, RefutesNext, SaysAny, SaysNo}
use Rattle.audit_core.specs.Along.{SaysSome, SaysYes, behind_next, last_text, lawful_text, refuted_text, said_in, turn}
use Rattle.audit_core.specs.Heard.{SaysReport, with_report}
use Rattle.audit_core.specs.Kept.{ArePlaced, meanings_in}
use Rattle.audit_core.specs.Matched.{entries_stood}
use Rattle.audit_core.specs.Ranks.{number_of}
use Rattle.audit_core.specs.Said.{AreEntries, marker, report_texts, trace_from}
use Rattle.audit_core.specs.Setups.{IsSetup, input_with, setup_of, stop_of}
use Rattle.audit_core.specs.TraceTaken.{has_stopped}
use Rattle.audit_core.specs.declared.auditing.Audited.{Audited}
use Rattle.audit_core.specs.declared.auditing.Audited.TheVariants as audited
use Rattle.audit_core.specs.declared.pieces.Pieces.{Pieces}
use Rattle.audit_core.specs.declared.sentence.Refutation.{Refutation}
use Rattle.audit_core.specs.declared.setup.BadAt.{BadAt}
use Rattle.audit_core.specs.declared.telling.Break.{Break}

-- what lines of the trace say behind others, and those that come still; or they stop at a bad one
abbrev pub SaysLines : Behind → List Line → Option BadAt → ℕ → List Text → Type 0
SaysLines known lines None least texts =
    (later : List Text) → trace_from (length known.lines + 1) (latest_behind 0 known.lines) (texts ++ later)
    ≡ after_lines lines (trace_from (length known.lines + length lines + 1) least later)
SaysLines known lines (Some at) least texts =
    (later : List Text) → trace_from (length known.lines + 1) (latest_behind 0 known.lines) (texts ++ later)
    ≡ input_with lines (Some at)

-- behind the end of the epoch no more is looked at
pub record SaysMore (known : Behind) (lines : List Line) (least : ℕ) (texts : List Text) : Type 0 where
  pub prefix : List Text
  pub next : Text
  pub later : List Text
  pub parts : texts ≡ prefix ++ next ∷ later
  pub says : SaysLines known lines None least prefix

abbrev pub SaysPart : Bool → Behind → List Line → Option BadAt → ℕ → List Text → Type 0
SaysPart false known lines stop least texts = SaysLines known lines stop least texts
SaysPart true known lines stop least texts = SaysMore known lines least texts

-- a line of the piece has ended its epoch, or none
abbrev pub EndsAs : Bool → List Line → Type 0
EndsAs false lines = NoneEnds [] lines
EndsAs true lines = IsEpoch lines

-- The lines of a piece that were taken behind those of the pieces before, up to a bad one if there is one: what they
-- mean is kept, and the book and the subscribers are what all lines leave behind the events before the piece.
pub record TakesLines (own : Pieces) (known : Behind) (lines : List Line) (stop : Option BadAt) : Type 0 where
  pub ends : EndsAs own.ended lines
  pub stand : Stand own.setup.slices own.book own.subscribers.items (known.lines ++ lines)
  pub many : length own.subscribers.items ≡ length own.book
  pub rest : AreAtRest own.setup.slices (length known.lines) (latest_behind 0 known.lines) own.subscribers.items
  pub standing : AreStanding own.subscribers.items known.events
  pub later : AreLater (latest_behind 0 known.lines) lines
  pub latest : own.least ≡ latest_behind (latest_behind 0 known.lines) lines
  pub mean : meanings_in own.octets.items own.kept.items
      ≡ meant_from own.setup.slices known.lines lines ++ stop_noted (stop_of stop)
  pub placed : ArePlaced own.octets.items own.kept.items
  pub open_octets : own.ended ≡ false → own.open_octets ≡ octets_in lines

-- so it is with the texts of its trace
pub record TakesPiece (own : Pieces) (known : Behind) (texts : List Text) : Type 0 where
  pub lines : List Line
  pub stop : Option BadAt
  pub stopped : own.stopped ≡ has_stopped stop
  pub says : SaysPart own.over known lines stop own.least texts
  pub takes : TakesLines own known lines stop
  pub more : own.over ≡ true → own.ended ≡ true
  pub going : own.ended ≡ true → stop ≡ None

-- These lines of a piece were heard, behind pieces that leave this.
pub record HearsPiece (own : Pieces) (known : Behind) (piece : List Text) : Type 0 where
  pub setup_is : IsSetup own.setup
  pub epochs : own.epochs ≡ known.epochs
  pub lines : own.lines ≡ length known.lines
  pub few : own.lines + length own.kept.items < 2 ^ 40
  pub few_epochs : own.epochs ≤ own.lines
  pub trace : List Text
  pub report : List Text
  pub parts : piece ≡ trace ++ with_report own.in_report report
  pub before : All (λ text. bytes_eq text marker ≡ false) trace
  pub unopened : own.in_report ≡ false → report ≡ []
  pub takes : TakesPiece own known trace
  pub reports : SaysReport own.none report (entries_stood own.entries.items)

-- A line that was taken, unless the trace stopped at it, has an octet at least, and its newline: so twice the lines are
-- few, where octets are.
abbrev pub weight_of : Pieces → ℕ
weight_of own = 2 * (own.lines + length own.kept.items) - (if own.stopped then 1 else 0)

-- the lines of pieces, each with the `TRACE` behind it
abbrev pub with_turns : List (List Text) → List Text
with_turns prefix = flat_map (λ (piece : List Text). piece ++ turn ∷ []) prefix

abbrev pub HasNoTurn : List Text → Type 0
HasNoTurn piece = All (λ text. bytes_eq text turn ≡ false) piece

-- So far an input was read: lawful pieces, of which this was said, and the lines of the next one.
pub record Follows (setup : Setup) (own : Pieces) (texts : List Text) (said : List ℕ) : Type 0 where
  pub prefix : List (List Text)
  pub known : Behind
  pub piece : List Text
  pub setup_is : setup_of own.setup ≡ setup
  pub parts : texts ≡ with_turns prefix ++ piece
  pub turned : All HasNoTurn prefix
  pub unturned : HasNoTurn piece
  pub so : AreLawfulSoFar setup prefix known said
  pub hears : HearsPiece own known piece

pub record Reads (setup : Setup) (own : Pieces) (start ahead : Option (List ℕ)) (room : ℕ)
    (old now : Option (List ℕ)) : Type 0 where
  pub done : List Text
  pub said : List ℕ
  pub read : WhereTold start ahead (λ octets rest. HasRead octets rest room done)
  pub follows : Follows setup own done said
  pub written : Appends old now said
  pub roomy : weight_of own + room ≤ 2 ^ 40

-- A line of the trace changes nothing else · the piece begins anew · and leaves what all pieces share.
pub record LeavesAs (old new : Pieces) : Type 0 where
  pub setup : new.setup ≡ old.setup
  pub epochs : new.epochs ≡ old.epochs
  pub lines : new.lines ≡ old.lines
  pub in_report : new.in_report ≡ old.in_report
  pub over : new.over ≡ old.over
  pub entries : new.entries ≡ old.entries
  pub none : new.none ≡ old.none

pub record IsFresh (own : Pieces) : Type 0 where
  pub in_report : own.in_report ≡ false
  pub kept : own.kept.items ≡ []
  pub octets : own.octets.items ≡ []
  pub open_octets : own.open_octets ≡ 0
  pub ended : own.ended ≡ false
  pub over : own.over ≡ false
  pub stopped : own.stopped ≡ false
  pub entries : own.entries.items ≡ []
  pub none : own.none ≡ false

pub record KeepsRest (old new : Pieces) : Type 0 where
  pub setup : new.setup ≡ old.setup
  pub least : new.least ≡ old.least
  pub book : new.book ≡ old.book
  pub subscribers : new.subscribers ≡ old.subscribers

-- its lines are those of one epoch, and the lines of its report are entries
pub record IsFit (known : Behind) (last : Bool) (piece : List Text) (own : Pieces) : Type 0 where
  pub are : AreEntries (report_texts piece) (entries_stood own.entries.items)
  pub one : IsOneEpoch last (said_in known piece)
  pub over : own.over ≡ false

abbrev pub MisfitOrNone : Setup → Behind → Bool → List Text → Pieces → Option Refutation → Type 0
MisfitOrNone setup known last piece own None = IsFit known last piece own
MisfitOrNone setup known last piece own (Some found) =
    RefutesNext setup known last piece (number_of found.sentence) found.place

-- A lawful piece was let go; behind all but the last one the next begins.
pub record IsLetGo (last : Bool) (setup : Setup) (known : Behind) (piece : List Text) (new : Pieces) : Type 0 where
  pub entries : List Entry
  pub lawful : IsLawfulNext setup known last piece entries
  pub epochs : new.epochs ≡ known.epochs + 1
  pub lines : new.lines ≡ length known.lines + length (said_in known piece).lines
      + length (stop_noted (said_in known piece).stop)
  pub hears : last ≡ false → HearsPiece new (behind_next setup known last piece entries) []

-- What is told at its end.
pub record TellsLawful (setup : Setup) (known : Behind) (piece : List Text) (text : List ℕ) (new : Pieces) :
    Type 0 where
  pub entries : List Entry
  pub lawful : IsLawfulNext setup known false piece entries
  pub hears : HearsPiece new (behind_next setup known false piece entries) []
  pub is : text ≡ lawful_text (known.epochs + 1) (length known.lines + length (said_in known piece).lines)

pub record TellsYes (setup : Setup) (known : Behind) (piece : List Text) (text : List ℕ) : Type 0 where
  pub entries : List Entry
  pub lawful : IsLawfulNext setup known true piece entries
  pub is : text ≡ last_text known (said_in known piece)

pub record TellsNo (last why : Bool) (setup : Setup) (known : Behind) (piece : List Text) (text : List ℕ) :
    Type 0 where
  pub k : ℕ
  pub told : Break
  pub refuted : RefutesNext setup known last piece k told
  pub is : text ≡ refuted_text why k told

abbrev pub TellsEnd : Bool → Bool → Setup → Behind → List Text → Bool → List ℕ → Pieces → Type 0
TellsEnd false why setup known piece true text new = TellsLawful setup known piece text new
TellsEnd true why setup known piece true text new = TellsYes setup known piece text
TellsEnd last why setup known piece false text new = TellsNo last why setup known piece text

-- what all that was said comes to, where these are the lines of the input
abbrev pub EndsSaying : Audited → Bool → Setup → List Text → List ℕ → Type 0
EndsSaying audited.Confirmed why setup texts text = SaysYes setup texts text
EndsSaying audited.Refuted why setup texts text = SaysNo why setup texts text
EndsSaying audited.ReadFault why setup texts text = ⊥
EndsSaying audited.WriteFault why setup texts text = (more : List ℕ) × SaysAny why setup texts (text ++ more)
EndsSaying audited.NoMemory why setup texts text = SaysSome setup texts text
EndsSaying audited.LineLong why setup texts text = ⊥
EndsSaying audited.TooLong why setup texts text = ⊥

-- One line more: this was written, and all goes on · or ends, whatever lines come.
pub record GoesOnSo (setup : Setup) (own : Pieces) (texts : List Text) (said : List ℕ) (old now : Option (List ℕ)) :
    Type 0 where
  pub more : List ℕ
  pub written : Appends old now more
  pub follows : Follows setup own texts (said ++ more)

pub record StopsSo (ending : Audited) (why : Bool) (setup : Setup) (texts : List Text) (said : List ℕ)
    (old now : Option (List ℕ)) : Type 0 where
  pub unread : ending ≢ audited.Confirmed
  pub more : List ℕ
  pub written : Appends old now more
  pub ends : (later : List Text) → EndsSaying ending why setup (texts ++ later) (said ++ more)

-- What was written at the end of the lines.
pub record EndsSo (ending : Audited) (why : Bool) (setup : Setup) (texts : List Text) (said : List ℕ)
    (old now : Option (List ℕ)) : Type 0 where
  pub more : List ℕ
  pub written : Appends old now more
  pub ends : EndsSaying ending why setup texts (said ++ more)

-- how all ends behind a piece, if it does, by whether it is lawful and whether that was written · and behind the last
abbrev pub goes_as : Bool → Result Unit WriteFault → Option Audited
goes_as lawful (Err fault) = Some audited.WriteFault
goes_as true (Ok written) = None
goes_as false (Ok written) = Some audited.Refuted

abbrev pub ends_as : Bool → Result Unit WriteFault → Audited
ends_as lawful (Err fault) = audited.WriteFault
ends_as true (Ok written) = audited.Confirmed
ends_as false (Ok written) = audited.Refuted
