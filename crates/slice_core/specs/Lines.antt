-- What a front did with the lines of an epoch.
use Rattle.std.specs.Prelude.{◌≡◌, ℕ, ◌+◌, ◌*◌, ◌≤◌, Bool, true, false, List, ◌++◌, length, count_by}
use Rattle.trace_lines.specs.Line.{Line}
use Rattle.report_lines.specs.declared.entry.LineEntry.{LineEntry}
use Rattle.report_lines.specs.declared.entry.LineEntry.TheVariants as line
use Rattle.at_rest.specs.Coming.{latest_behind}
use Rattle.front_core.specs.Tries.{RisesBy}
use Rattle.front_core.specs.declared.front.Front.{Front}
use Rattle.front_core.specs.declared.taken.Taken.{Taken}
use Rattle.front_core.specs.declared.taken.OpenEntry.TheVariants as entry
use Rattle.front_core.specs.declared.taken.OpenEntry.{OpenEntry}
use Rattle.front_core.specs.Words.{IsWhole, opened_of, entries_in, taken_by, lines_in, latest_in, fulls_in}
use Rattle.front_core.specs.Words.{control_lanes, data_lanes}

-- whether each try of a line was answered Full
abbrev pub is_full : OpenEntry → Bool
is_full (entry.Note text) = false
is_full (entry.Command slot) = false
is_full (entry.Packet slot parked) = false
is_full (entry.Full slot packet) = true

abbrev pub fulls_among : List Taken → ℕ
fulls_among entries = count_by (λ (taken : Taken). is_full taken.open) entries

-- whether a line's command or packet was accepted, by what is kept of it, and by what is told of it
abbrev pub is_in : OpenEntry → Bool
is_in (entry.Note text) = false
is_in (entry.Command slot) = true
is_in (entry.Packet slot parked) = true
is_in (entry.Full slot packet) = false

abbrev pub is_answered : LineEntry → Bool
is_answered (line.N noted) = false
is_answered (line.C answered) = true
is_answered (line.P judged) = true
is_answered (line.F refused) = false

abbrev pub in_among : List Taken → ℕ
in_among entries = count_by (λ (taken : Taken). is_in taken.open) entries

-- How a count of full answers rose with lines of so many tries each, by how many of them were refused and how many
-- accepted: by each try of those refused, and by the failed tries of those accepted, which have an accepted one each.
pub record Counted (tries refused accepted old new : ℕ) : Type 0 where
  pub failed : ℕ
  pub few : failed + accepted ≤ tries * accepted
  pub rises : RisesBy (tries * refused + failed) old new

-- All lines were taken, each with so many tries, since the front was the old one.
pub record TakesAll (tries : ℕ) (lines : List Line) (old new : Front) : Type 0 where
  pub whole : IsWhole new
  pub opened : opened_of new ≡ opened_of old
  pub taken : taken_by new ≡ taken_by old ++ lines
  pub count : lines_in new ≡ lines_in old + length lines
  pub latest : latest_in new ≡ latest_behind (latest_in old) lines
  pub control : control_lanes new ≡ control_lanes old
  pub data_half : data_lanes new ≡ data_lanes old
  pub entries : List Taken
  pub entries_are : entries_in new ≡ entries_in old ++ entries
  pub fulls : Counted tries (fulls_among entries) (in_among entries) (fulls_in old) (fulls_in new)

-- It was pumped.
pub record Pumps (old new : Front) : Type 0 where
  pub whole : IsWhole old → IsWhole new
  pub opened : opened_of new ≡ opened_of old
  pub entries : entries_in new ≡ entries_in old
  pub count : lines_in new ≡ lines_in old
  pub latest : latest_in new ≡ latest_in old
  pub fulls : fulls_in new ≡ fulls_in old
  pub control : control_lanes new ≡ control_lanes old
  pub data_half : data_lanes new ≡ data_lanes old
