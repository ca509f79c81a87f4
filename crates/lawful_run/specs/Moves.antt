-- Moves of a subscriber within an epoch.
use Rattle.std.specs.Prelude.{ℕ, ◌==◌, Bool, false, if◌then◌else◌, List, [], ◌∷◌}
use Rattle.std.specs.List.{list_any}
use Rattle.demux.specs.Trace.{Meaning, command, packet, move, note}
use Rattle.lawful_run.specs.LinesTold.{LineTold}

-- whether a line moves a slot, or any
abbrev pub moves_by : ℕ → Meaning → Bool
moves_by slot (command own c) = false
moves_by slot (packet own p) = false
moves_by slot (move own slice text) = own == slot
moves_by slot (note text) = false

abbrev pub moves : ℕ → LineTold → Bool
moves slot told = moves_by slot told.meaning

abbrev pub is_moved : ℕ → List LineTold → Bool
is_moved slot lines = list_any (moves slot) lines

-- the lines before the last move of a slot, none where it isn't moved; and those behind it, all where it isn't
abbrev pub before_last_move : ℕ → List LineTold → List LineTold
before_last_move slot [] = []
before_last_move slot (now ∷ later) = if is_moved slot later then now ∷ before_last_move slot later else []

abbrev pub behind_last_move : ℕ → List LineTold → List LineTold
behind_last_move slot [] = []
behind_last_move slot (now ∷ later) = if is_moved slot (now ∷ later) then behind_last_move slot later else now ∷ later

-- the lines before the first move of a slot, all where it isn't moved
abbrev pub before_next_move : ℕ → List LineTold → List LineTold
before_next_move slot [] = []
before_next_move slot (now ∷ later) = if moves slot now then [] else now ∷ before_next_move slot later
