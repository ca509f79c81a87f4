-- The job that words ask for.
use Rattle.std.specs.Prelude.{◌≡◌, ℕ, ◌<◌, ◌≤◌, ◌*◌, Bool, true, false, IsTrue, List, [], ◌∷◌, length, All, find}
use Rattle.std.specs.Prelude.{Option, Some, None, is_some, ◌||◌, option_and_then, option_map, if◌then◌else◌, codes}
use Rattle.std.specs.Option.{option_map_or}
use Rattle.std.specs.Str.{bytes_eq}
use Rattle.text_fields.specs.Number.{number_in}
use Rattle.command_words.specs.Options.{Form, Given, given_once, has_flag, value_of, with_value, without_value}
use Rattle.command_words.specs.Turns.{turns_asked}
use Rattle.command_words.specs.Words.{Text}
use Rattle.command_words.specs.declared.turns.AskedTurns.{AskedTurns}
use Rattle.command_words.specs.declared.turns.AskedTurns.TheVariants as asked
use Rattle.command_words.specs.declared.jobs.Lanes.{Lanes}
use Rattle.command_words.specs.declared.jobs.Job.{Job}
use Rattle.command_words.specs.declared.jobs.Job.TheVariants as job

-- A command: its name, its options, and the job that they make of it.
pub record Command : Type 0 where
  pub name : Text
  pub forms : List Form
  pub job : List Given → Option Job

-- the number of an option, from `least` to `last`; what it is where the option isn't given
abbrev pub number_of : Text → ℕ → ℕ → ℕ → List Given → Option ℕ
number_of name least last default given = option_map_or (number_in least last) (value_of name given) (Some default)

-- the number that a text is, from `least` to `last`; what it is where there is no text
abbrev pub number_or : ℕ → ℕ → ℕ → Option Text → Option ℕ
number_or least last default text = option_map_or (number_in least last) text (Some default)

-- lanes, by the texts of `slices`, `room` and `lane`
abbrev pub lanes_by : Option Text → Option Text → Option Text → Option Lanes
lanes_by slices room lane =
    option_and_then (λ slices. option_and_then (λ room. option_map (λ lane.
    record { slices = slices; room = room; lane = lane })
    (number_or 1 16384 1024 lane))
    (number_or 1 256 64 room))
    (number_or 1 64 2 slices)

abbrev pub lanes_of : List Given → Option Lanes
lanes_of given = lanes_by (value_of (codes "slices") given) (value_of (codes "room") given)
    (value_of (codes "lane") given)

-- the turns of `drive`
abbrev pub turns_of : ℕ → List Given → Option AskedTurns
turns_of slices given = turns_asked slices (value_of (codes "turns") given) (value_of (codes "seed") given)
    (value_of (codes "per") given)

-- the lanes of `drive` and its turns, and whether places are told
abbrev pub drive_job : List Given → Option Job
drive_job given =
    option_and_then (λ (lanes : Lanes). option_map (λ turns. job.Drive lanes turns (has_flag (codes "places") given))
    (turns_of lanes.slices given))
    (lanes_of given)

-- the lanes of `replay`, how often a line is tried again, how often the front pumps at last, and whether places are
-- told
abbrev pub replay_job : List Given → Option Job
replay_job given =
    option_and_then (λ (lanes : Lanes). option_and_then (λ patience. option_map (λ linger.
    job.Replay lanes patience linger (has_flag (codes "places") given))
    (number_of (codes "linger") 0 1000000 1000 given))
    (number_of (codes "patience") 0 1000000 10000 given))
    (lanes_of given)

-- each number of `make`, and whether it sums up
abbrev pub make_job : List Given → Option Job
make_job given =
    option_and_then (λ seed. option_and_then (λ subs. option_map (λ lines.
    job.Make seed subs lines (has_flag (codes "summary") given))
    (number_of (codes "lines") 0 100000 1000 given))
    (number_of (codes "subs") 1 65533 10 given))
    (number_of (codes "seed") 0 18446744073709551615 1 given)

-- a lane's number is given, of slices, of a room or of a lane
abbrev pub has_number : List Given → Bool
has_number given = is_some (value_of (codes "slices") given) || is_some (value_of (codes "room") given)
    || is_some (value_of (codes "lane") given)

-- an audit of a whole report, or one that goes along with it; both tell where a report is refuted, if that is asked for
abbrev pub audit_of : List Given → Bool → Lanes → Job
audit_of given solo lanes =
    if has_flag (codes "along") given
    then job.Along solo lanes.slices lanes.room lanes.lane (has_flag (codes "why") given)
    else job.Audit solo lanes.slices lanes.room lanes.lane (has_flag (codes "why") given)

-- `audit --solo` is of 64 slices, and has no numbers
abbrev pub solo_lanes : Lanes
solo_lanes = record { slices = 64; room = 64; lane = 1024 }

abbrev pub solo_audit : List Given → Option Job
solo_audit given = if has_number given then None else Some (audit_of given true solo_lanes)

abbrev pub lanes_audit : List Given → Option Job
lanes_audit given = option_map (audit_of given false) (lanes_of given)

abbrev pub audit_job : List Given → Option Job
audit_job given = if has_flag (codes "solo") given then solo_audit given else lanes_audit given

-- the slices of `balance`, and the most moves behind a FENCE
abbrev pub balance_job : List Given → Option Job
balance_job given =
    option_and_then (λ slices. option_map (λ most. job.Balance slices most) (number_of (codes "most") 1 16 4 given))
    (number_of (codes "slices") 1 64 2 given)

-- a command without options
abbrev pub bare : Text → Job → Command
bare name is = record { name = name; forms = []; job = λ given. Some is }

abbrev pub drive_forms : List Form
drive_forms = with_value (codes "slices") ∷ with_value (codes "room") ∷ with_value (codes "lane")
    ∷ with_value (codes "turns") ∷ with_value (codes "seed") ∷ with_value (codes "per")
    ∷ without_value (codes "places") ∷ []

abbrev pub replay_forms : List Form
replay_forms = with_value (codes "slices") ∷ with_value (codes "room") ∷ with_value (codes "lane")
    ∷ with_value (codes "patience") ∷ with_value (codes "linger") ∷ without_value (codes "places") ∷ []

abbrev pub make_forms : List Form
make_forms = with_value (codes "seed") ∷ with_value (codes "subs") ∷ with_value (codes "lines") ∷ without_value
    (codes "summary") ∷ []

abbrev pub audit_forms : List Form
audit_forms = without_value (codes "solo") ∷ with_value (codes "slices") ∷ with_value (codes "room")
    ∷ with_value (codes "lane") ∷ without_value (codes "along") ∷ without_value (codes "why") ∷ []

abbrev pub balance_forms : List Form
balance_forms = with_value (codes "slices") ∷ with_value (codes "most") ∷ []

abbrev pub drive_command : Command
drive_command = record { name = codes "drive"; forms = drive_forms; job = drive_job }

abbrev pub replay_command : Command
replay_command = record { name = codes "replay"; forms = replay_forms; job = replay_job }

abbrev pub make_command : Command
make_command = record { name = codes "make"; forms = make_forms; job = make_job }

abbrev pub audit_command : Command
audit_command = record { name = codes "audit"; forms = audit_forms; job = audit_job }

abbrev pub balance_command : Command
balance_command = record { name = codes "balance"; forms = balance_forms; job = balance_job }

-- The commands of the program.
abbrev pub commands : List Command
commands = bare (codes "solo") job.Solo
    ∷ drive_command
    ∷ replay_command
    ∷ make_command
    ∷ bare (codes "import") job.Import
    ∷ bare (codes "export") job.Export
    ∷ audit_command
    ∷ balance_command
    ∷ bare (codes "save") job.Save
    ∷ bare (codes "resume") job.Resume
    ∷ []

-- the command of the first word, with the options that the others give
abbrev pub asked_of : List Command → List Text → Option (Command × List Given)
asked_of of [] = None
asked_of of (name ∷ rest) = option_and_then (λ (command : Command). option_map (λ given. (command, given))
    (given_once command.forms rest))
    (find (λ (command : Command). bytes_eq command.name name) of)

-- The job that words ask for, without the program's name; nothing where they are none of the program's.
abbrev pub job_of : List Text → Option Job
job_of words = option_and_then (λ asking. asking.0.job asking.1) (asked_of commands words)

-- listed turns are some workers', and not too many; few are drawn behind each line
abbrev pub TurnsInRange : ℕ → AskedTurns → Type 0
TurnsInRange slices asked.NoTurns = Unit {0}
TurnsInRange slices (asked.Listed turns) = (length turns ≤ 1024) × All (λ turn. turn < 2 * slices) turns
TurnsInRange slices (asked.Drawn seed per) = per ≤ 64

abbrev pub LanesInRange : Lanes → Type 0
LanesInRange lanes =
    (1 ≤ lanes.slices) × (lanes.slices ≤ 64) × (1 ≤ lanes.room) × (lanes.room ≤ 256) × (1 ≤ lanes.lane)
    × (lanes.lane ≤ 16384)

-- the numbers of a job are in the ranges of its options
abbrev pub IsInRange : Job → Type 0
IsInRange job.Solo = Unit {0}
IsInRange (job.Drive lanes turns places) = LanesInRange lanes × TurnsInRange lanes.slices turns
IsInRange (job.Replay lanes patience linger places) =
    LanesInRange lanes × (patience ≤ 1000000) × (linger ≤ 1000000)
IsInRange (job.Make seed subs lines summary) = (1 ≤ subs) × (subs ≤ 65533) × (lines ≤ 100000)
IsInRange job.Import = Unit {0}
IsInRange job.Export = Unit {0}
IsInRange (job.Audit solo slices room lane why) =
    (1 ≤ slices) × (slices ≤ 64) × (IsTrue solo → slices ≡ 64) × (1 ≤ room) × (room ≤ 256) × (1 ≤ lane)
    × (lane ≤ 16384)
IsInRange (job.Along solo slices room lane why) =
    (1 ≤ slices) × (slices ≤ 64) × (IsTrue solo → slices ≡ 64) × (1 ≤ room) × (room ≤ 256) × (1 ≤ lane)
    × (lane ≤ 16384)
IsInRange (job.Balance slices most) = (1 ≤ slices) × (slices ≤ 64) × (1 ≤ most) × (most ≤ 16)
IsInRange job.Save = Unit {0}
IsInRange job.Resume = Unit {0}
