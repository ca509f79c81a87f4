-- The lines of an epoch with their open entries.
use Rattle.std.specs.Prelude.{ℕ, ◌+◌, List, [], ◌∷◌}
use Rattle.demux.specs.Trace.{Meaning}
use Rattle.lawful_run.specs.LinesTold.{LineTold}
use Rattle.epoch_schedule.specs.Front.{Outcome}
use Rattle.epoch_drive.specs.DrivenOpened.{open_entry}

abbrev pub opened : ℕ → List Meaning → List Outcome → List LineTold
opened n [] outcomes = []
opened n (now ∷ made) [] = []
opened n (now ∷ made) (outcome ∷ outcomes) =
    record { meaning = now; entry = open_entry n now outcome } ∷ opened (n + 1) made outcomes
