-- What the text of a report counts: its entries by their kinds, an entry a line, and the octets of packets forwarded.
use Rattle.std.specs.Prelude.{ℕ, ◌+◌, ◌-◌, ◌/◌, ◌^◌, List, [], ◌∷◌, codes, length, min, if◌then◌else◌}
use Rattle.std.specs.Str.{bytes_eq}
use Rattle.text_fields.specs.Fields.{fields_of, pieces}
use Rattle.report_lines.specs.declared.counts.EntryCounts.{EntryCounts}

-- entries of each kind, and the octets of packets that went up, and down
abbrev pub Counts : Type 0
Counts = EntryCounts

abbrev pub nothing : Counts
nothing = record { notes = 0; commands = 0; packets = 0; refusals = 0; records = 0; opens = 0; up = 0; down = 0 }

abbrev pub plus : Counts → Counts → Counts
plus a b = record {
  notes = a.notes + b.notes;
  commands = a.commands + b.commands;
  packets = a.packets + b.packets;
  refusals = a.refusals + b.refusals;
  records = a.records + b.records;
  opens = a.opens + b.opens;
  up = a.up + b.up;
  down = a.down + b.down;
}

-- The octets that a verdict tells in hexadecimal: of a packet that went up, and of one that went down, where the 8
-- octets of the tunnel's header don't count.
abbrev pub up_octets : List (List ℕ) → ℕ
up_octets (word ∷ life ∷ octets ∷ behind) = if bytes_eq word (codes "up") then length octets / 2 else 0
up_octets _ = 0

abbrev pub down_octets : List (List ℕ) → ℕ
down_octets (word ∷ life ∷ peer ∷ octets ∷ behind) =
    if bytes_eq word (codes "down") then length octets / 2 - 8 else 0
down_octets _ = 0

-- a packet's entry tells its line, slot, number and commands in front of its verdict
abbrev pub packet_counts : List (List ℕ) → Counts
packet_counts (line ∷ slot ∷ number ∷ commands ∷ verdict) =
    record nothing { packets = 1; up = up_octets verdict; down = down_octets verdict }
packet_counts _ = record nothing { packets = 1 }

-- an entry by its first field; effects of commands aren't counted
abbrev pub fields_counts : List (List ℕ) → Counts
fields_counts [] = nothing
fields_counts (kind ∷ fields) =
    if bytes_eq kind (codes "N") then record nothing { notes = 1 }
    else if bytes_eq kind (codes "C") then record nothing { commands = 1 }
    else if bytes_eq kind (codes "P") then packet_counts fields
    else if bytes_eq kind (codes "F") then record nothing { refusals = 1 }
    else if bytes_eq kind (codes "R") then record nothing { records = 1 }
    else if bytes_eq kind (codes "O") then record nothing { opens = 1 }
    else nothing

abbrev pub line_counts : List ℕ → Counts
line_counts line = fields_counts (fields_of line)

abbrev pub lines_counts : List (List ℕ) → Counts
lines_counts [] = nothing
lines_counts (line ∷ lines) = plus (line_counts line) (lines_counts lines)

-- of all lines of a text
abbrev pub counts_of : List ℕ → Counts
counts_of text = lines_counts (pieces 10 text)

-- a count stays at the end of its 64 bits
abbrev pub held : ℕ → ℕ
held count = min count (2 ^ 64 - 1)

abbrev pub all_held : Counts → Counts
all_held a = record {
  notes = held a.notes;
  commands = held a.commands;
  packets = held a.packets;
  refusals = held a.refusals;
  records = held a.records;
  opens = held a.opens;
  up = held a.up;
  down = held a.down;
}
