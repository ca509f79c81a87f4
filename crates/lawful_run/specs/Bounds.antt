-- How many commands of its slot a packet has before it.
use Rattle.std.specs.Prelude.{◌≡◌, ℕ, ◌+◌, ◌≤◌, List, [], ◌∷◌, ◌++◌, length}
use Rattle.gate_model.specs.Events.{commands_of}
use Rattle.report_lines.specs.declared.entry.LineEntry.{LineEntry}
use Rattle.report_lines.specs.declared.entry.LineEntry.TheVariants as line
use Rattle.lawful_run.specs.Accepted.{command_count}
use Rattle.lawful_run.specs.Setup.{Setup, solo, sliced}
use Rattle.lawful_run.specs.LinesTold.{LineTold}
use Rattle.lawful_run.specs.Moves.{before_last_move, before_next_move}
use Rattle.lawful_run.specs.Merging.{Histories}

-- the commands of a slot that were accepted before the epoch
abbrev pub count_before : Histories → ℕ → ℕ
count_before histories slot = length (commands_of (histories slot))

-- At least those that were accepted before the later of the epoch's start and the slot's last move; at most those that
-- were accepted before the earlier of its next move and the epoch's end.
abbrev pub least_count : Histories → ℕ → List LineTold → ℕ
least_count histories slot before = count_before histories slot + command_count slot (before_last_move slot before)

abbrev pub most_count : Histories → ℕ → List LineTold → List LineTold → ℕ
most_count histories slot before later =
    count_before histories slot + command_count slot (before ++ before_next_move slot later)

-- those that were accepted before the line
abbrev pub count_in_sequence : Histories → ℕ → List LineTold → ℕ
count_in_sequence histories slot before = count_before histories slot + command_count slot before

-- a packet meets a count within the bounds, and on one thread just the commands before it
abbrev pub MayMeet : Setup → Histories → ℕ → List LineTold → List LineTold → ℕ → Type 0
MayMeet solo histories slot before later commands = commands ≡ count_in_sequence histories slot before
MayMeet (sliced slices room lane) histories slot before later commands =
    (least_count histories slot before ≤ commands) × (commands ≤ most_count histories slot before later)

abbrev pub MeetsAs : Setup → Histories → List LineTold → LineEntry → List LineTold → Type 0
MeetsAs setup histories before (line.N noted) later = Unit {0}
MeetsAs setup histories before (line.C answered) later = Unit {0}
MeetsAs setup histories before (line.P judged) later = MayMeet setup histories judged.slot before later judged.commands
MeetsAs setup histories before (line.F refused) later = Unit {0}

abbrev pub MeetsBounds : Setup → Histories → List LineTold → LineTold → List LineTold → Type 0
MeetsBounds setup histories before now later = MeetsAs setup histories before now.entry later

-- counts don't fall, and begin from the least
abbrev pub Rises : ℕ → List ℕ → Type 0
Rises least [] = Unit {0}
Rises least (count ∷ counts) = (least ≤ count) × Rises count counts
