-- What a line means by the book behind the lines before it: which IMSI has which slot, in the order of admission.
use Rattle.std.specs.Prelude.{◌≡◌, ℕ, ◌<◌, ◌≤◌, nat_lt, if◌then◌else◌, Option, Some, None, option_map}
use Rattle.std.specs.Prelude.{option_and_then, List, [], ◌∷◌, ◌++◌, length, codes, All, Result, Ok, Err}
use Rattle.address_book.specs.Book.{slot_in, admitted}
use Rattle.tft_codec.specs.declared.tft.Tft.{Tft}
use Rattle.trace_lines.specs.Line.{Line}
use Rattle.control_steps.specs.declared.command.CommandKind.{CommandKind}
use Rattle.demux.specs.declared.decision.Decision.{Decision}
use Rattle.demux.specs.declared.decision.Decision.TheVariants.{Command, Packet, Move, Note}
use Rattle.demux.specs.declared.decision.Whose.{Whose}
use Rattle.demux.specs.declared.decision.Whose.TheVariants.{Known, New}
use Rattle.demux.specs.Asked.{Asked, Whom, Wish, imsi, slot, command, packet, move, noted, note, admission, of}
use Rattle.demux.specs.Ends.{control_slot, bearer_end, addressee}
use Rattle.demux.specs.Line.{asked}

-- the slot of a subscriber of the book
abbrev pub found_in : List (List ℕ) → Whom → Option ℕ
found_in book (imsi digits) = slot_in book digits
found_in book (slot number) = if nat_lt number (length book) then Some number else None

-- the slot whose control TEID, whose bearer TEID with its index, and whose address it is
abbrev pub controller_in : List (List ℕ) → Option ℕ → Option ℕ
controller_in book teid = option_and_then (λ number. found_in book (slot number)) (option_and_then control_slot teid)

abbrev pub bearer_in : List (List ℕ) → ℕ → Option (ℕ × ℕ)
bearer_in book teid = option_and_then (λ (end : ℕ × ℕ).
    option_map (λ number. (number, end.1)) (found_in book (slot end.0))) (bearer_end teid)

abbrev pub addressee_in : List (List ℕ) → ℕ → Option ℕ
addressee_in book addr = option_and_then (λ number. found_in book (slot number)) (addressee addr)

-- a wish of the subscriber of a slot: a slice that the gateway doesn't have is noted
abbrev pub granted : ℕ → ℕ → Wish → Decision
granted slices at (command asks) = Command (Known at) asks
granted slices at (packet lent) = Packet at lent
granted slices at (move slice) = if nat_lt slice slices then Move at slice else Note (codes "noslice")
granted slices at (noted text) = Note text

abbrev pub wished_by : ℕ → Option ℕ → Wish → List ℕ → Decision
wished_by slices (Some at) wish missing = granted slices at wish
wished_by slices None wish missing = Note missing

-- one of the 65,533 slots is left
abbrev pub HasRoom : List (List ℕ) → Type 0
HasRoom book = length book < 65533

-- whose a command of an IMSI is: a known one's, or a new one's, while a slot is left
abbrev pub whose_where : List (List ℕ) → List ℕ → Option ℕ → Option Whose
whose_where book digits (Some at) = Some (Known at)
whose_where book digits None = if nat_lt (length book) 65533 then Some (New digits) else None

abbrev pub whose_in : List (List ℕ) → List ℕ → Option Whose
whose_in book digits = whose_where book digits (slot_in book digits)

abbrev pub admitting : Option Whose → CommandKind → List ℕ → Decision
admitting (Some whose) asks full = Command whose asks
admitting None asks full = Note full

unfoldable pub resolved : ℕ → List (List ℕ) → Asked → Decision
resolved slices book (note text) = Note text
resolved slices book (admission digits asks full) = admitting (whose_in book digits) asks full
resolved slices book (of whom wish missing) = wished_by slices (found_in book whom) wish missing

-- an instruction with a template for a slot, or a note
abbrev pub command_or_note : (Tft → CommandKind) → Result (ℕ × Tft) (List ℕ) → Decision
command_or_note command_of (Ok (at, tft)) = Command (Known at) (command_of tft)
command_or_note command_of (Err text) = Note text

-- the book with an IMSI, where a slot is left for it
abbrev pub with_imsi : List (List ℕ) → List ℕ → List (List ℕ)
with_imsi book digits = if nat_lt (length book) 65533 then admitted book digits else book

-- the book behind what was asked
abbrev pub booked : List (List ℕ) → Asked → List (List ℕ)
booked book (note text) = book
booked book (admission digits asks full) = with_imsi book digits
booked book (of whom wish missing) = book

-- what a line means by the book before it, and the book behind it
abbrev pub decided : ℕ → List (List ℕ) → Line → Decision
decided slices book line = resolved slices book (asked line)

abbrev pub book_after : List (List ℕ) → Line → List (List ℕ)
book_after book line = booked book (asked line)

-- The slot that a decision is for: a new IMSI takes the next one.
abbrev pub slot_of : List (List ℕ) → Whose → ℕ
slot_of book (Known at) = at
slot_of book (New digits) = length book

-- .. and the book with it
abbrev pub book_with : List (List ℕ) → Whose → List (List ℕ)
book_with book (Known at) = book
book_with book (New digits) = book ++ digits ∷ []

-- the book behind a decision by it
abbrev pub book_behind : List (List ℕ) → Decision → List (List ℕ)
book_behind book (Command whose asks) = book_with book whose
book_behind book (Packet at lent) = book
book_behind book (Move at slice) = book
book_behind book (Note text) = book

-- whom a command can be for: a slot of the book, or a new IMSI while a slot is left
abbrev pub IsDue : List (List ℕ) → Whose → Type 0
IsDue book (Known at) = at < length book
IsDue book (New digits) = (slot_in book digits ≡ None) × HasRoom book

-- one or more octets of printable ASCII
abbrev pub IsNote : List ℕ → Type 0
IsNote text = (0 < length text) × All (λ octet. (0x20 ≤ octet) × (octet ≤ 0x7e)) text

-- What a decision keeps, by the book and so many slices: slots are those of the book, slices those of the gateway.
abbrev pub IsDecision : ℕ → List (List ℕ) → Decision → Type 0
IsDecision slices book (Command whose asks) = IsDue book whose
IsDecision slices book (Packet at lent) = at < length book
IsDecision slices book (Move at slice) = (at < length book) × (slice < slices)
IsDecision slices book (Note text) = Unit {0}

-- a packet has this moment
abbrev pub HasMoment : ℕ → Decision → Type 0
HasMoment moment (Command whose asks) = Unit {0}
HasMoment moment (Packet at lent) = lent.moment ≡ moment
HasMoment moment (Move at slice) = Unit {0}
HasMoment moment (Note text) = Unit {0}
