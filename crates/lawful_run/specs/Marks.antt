-- Which of a slot's packets were parked since its last move.
use Rattle.std.specs.Prelude.{ℕ, Bool, IsTrue, List, All, filter_map}
use Rattle.lawful_run.specs.LinesTold.{LineTold}
use Rattle.lawful_run.specs.Moves.{behind_last_move}
use Rattle.lawful_run.specs.Parking.{parked_told}

abbrev pub AllParked : List Bool → Type 0
AllParked marks = All (λ parked. IsTrue parked) marks

abbrev pub marks_since : ℕ → List LineTold → List Bool
marks_since slot lines = filter_map (parked_told slot) (behind_last_move slot lines)
