-- The lines of an epoch with the entries that belong to it.
use Rattle.std.specs.Prelude.{◌≡◌, ℕ, ◌+◌, ◌<◌, ◌==◌, Option, Some, None, List, [], ◌++◌}
use Rattle.std.specs.Prelude.{All, length, map, drop, filter, flat_map, get_or}
use Rattle.std.specs.Borrow.{Bor}
use Rattle.std.specs.Option.{option_map}
use Rattle.demux.specs.Trace.{Meaning}
use Rattle.report_lines.specs.declared.entry.Entry.{Entry}
use Rattle.report_lines.specs.declared.entry.LineEntry.{LineEntry}
use Rattle.lawful_run.specs.Answers.{AnswersAll}
use Rattle.lawful_run.specs.LinesTold.{lines_told}
use Rattle.lawful_run.specs.Telling.{counted}
use Rattle.audit_core.specs.AnswerPlaces.{Stops, unanswered}
use Rattle.audit_core.specs.Entries.{line_of}
use Rattle.audit_core.specs.Meant.{StandsTold, lines_of}
use Rattle.audit_core.specs.OfSlot.{AreAnswered}
use Rattle.audit_core.specs.Places.{first_of}
use Rattle.audit_core.specs.Telling.{at_line, dash, tells}
use Rattle.audit_core.specs.declared.matching.FoundEntry.{FoundEntry}
use Rattle.audit_core.specs.declared.matching.Matched.{Matched}
use Rattle.audit_core.specs.declared.matching.Matched.TheVariants as matched
use Rattle.audit_core.specs.declared.report.Stood.{Stood}
use Rattle.audit_core.specs.declared.telling.Break.{Break}
use Rattle.audit_core.specs.declared.told_line.ToldLine.{ToldLine}

-- entries, as they were read
abbrev pub entries_stood : List Stood → List Entry
entries_stood stood = map (λ (s : Stood). s.entry) stood

-- and how many stand before each
abbrev pub places_stood : List Stood → List ℕ
places_stood stood = map (λ (s : Stood). s.place) stood

-- the entries of the line of a number, and those of so many lines from one on, in line order
abbrev pub of_number : ℕ → List LineEntry → List LineEntry
of_number n entries = filter (λ (entry : LineEntry). line_of entry == n) entries

abbrev pub in_range : (first count : ℕ) → List LineEntry → List LineEntry
in_range first count entries = flat_map (λ n. of_number n entries) (counted first count)

-- the first two entries of a line
abbrev pub lent_entry : Option (Bor LineEntry) → Option LineEntry
lent_entry found = option_map (λ (entry : Bor LineEntry). entry.now) found

pub record IsFound (n : ℕ) (entries : List LineEntry) (found : FoundEntry) : Type 0 where
  pub first : lent_entry found.first ≡ first_of (of_number n entries)
  pub second : lent_entry found.second ≡ first_of (drop 1 (of_number n entries))

pub record AreFound (first : ℕ) (entries : List LineEntry) (found : List FoundEntry) (count : ℕ) : Type 0 where
  pub many : length found ≡ count
  pub each : (i : ℕ) (none : FoundEntry) → i < count → IsFound (first + i) entries (get_or found i none)

-- What is told where lines and entries in line order come to this: a line that isn't answered, or an entry behind all
-- lines, which answers the last one again.
abbrev pub break_in : ℕ → Option Meaning → Option LineEntry → Break
break_in n (Some now) told = unanswered n now told
break_in n None (Some told) = at_line told dash
break_in n None None = tells None None

-- The lines before are answered, one by one, and what is left isn't.
pub record UnansweredIn (first : ℕ) (made : List Meaning) (entries : List LineEntry) (found : Break) : Type 0 where
  pub answered : List Meaning
  pub left : List Meaning
  pub answers : List LineEntry
  pub rest : List LineEntry
  pub lines : made ≡ answered ++ left
  pub in_order : entries ≡ answers ++ rest
  pub each : AnswersAll first answered answers
  pub stops : Stops (first + length answered) left rest
  pub more : left ≡ [] → rest ≡ [] → ⊥
  pub is : found ≡ break_in (first + length answered) (first_of left) (first_of rest)

-- Each line has one entry.
pub record MatchesAll (first : ℕ) (made : List Meaning) (entries : List LineEntry) (lines : List ToldLine) :
    Type 0 where
  pub told : lines_of lines ≡ lines_told made entries
  pub many : length entries ≡ length made
  pub answered : AreAnswered first (lines_of lines)
  pub stand : All StandsTold lines

-- the lines from one of this number on, of which this is made, with these entries
abbrev pub Matches : ℕ → List Meaning → List LineEntry → Matched → Type 0
Matches first made entries (matched.All lines) =
    MatchesAll first made (in_range first (length made) entries) lines.items
Matches first made entries (matched.Broken found) =
    UnansweredIn first made (in_range first (length made) entries) found
