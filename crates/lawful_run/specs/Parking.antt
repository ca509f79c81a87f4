-- Where a packet may be parked: behind a move of its slot, and before those that aren't.
use Rattle.std.specs.Prelude.{ℕ, ◌==◌, Bool, true, false, if◌then◌else◌, IsTrue, Option, Some, None, List}
use Rattle.std.specs.Prelude.{filter_map, All}
use Rattle.report_lines.specs.declared.entry.LineEntry.{LineEntry}
use Rattle.report_lines.specs.declared.entry.LineEntry.TheVariants as line
use Rattle.lawful_run.specs.LinesTold.{LineTold}
use Rattle.lawful_run.specs.Moves.{is_moved, behind_last_move}

-- whether a packet of a slot was parked
abbrev pub parked_by : ℕ → LineEntry → Option Bool
parked_by slot (line.N noted) = None
parked_by slot (line.C answered) = None
parked_by slot (line.P judged) = if judged.slot == slot then Some judged.parked else None
parked_by slot (line.F refused) = None

abbrev pub parked_told : ℕ → LineTold → Option Bool
parked_told slot told = parked_by slot told.entry

-- a parked packet stands behind a move, and all packets of its slot since the last one were parked too
abbrev pub MayPark : Bool → ℕ → List LineTold → Type 0
MayPark false slot before = Unit {0}
MayPark true slot before =
    IsTrue (is_moved slot before) × All (λ parked. IsTrue parked)
    (filter_map (parked_told slot) (behind_last_move slot before))

abbrev pub ParkedAs : List LineTold → LineEntry → Type 0
ParkedAs before (line.N noted) = Unit {0}
ParkedAs before (line.C answered) = Unit {0}
ParkedAs before (line.P judged) = MayPark judged.parked judged.slot before
ParkedAs before (line.F refused) = Unit {0}

abbrev pub ParkedBehindMoves : List LineTold → LineTold → List LineTold → Type 0
ParkedBehindMoves before now later = ParkedAs before now.entry
