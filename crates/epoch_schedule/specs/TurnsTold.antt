-- The turns behind each line of an epoch.
use Rattle.std.specs.Prelude.{ℕ, zero, suc, ◌*◌, ◌<◌, List, [], ◌∷◌, replicate, All, map, length}
use Rattle.epoch_schedule.specs.Turns.{draws, state_behind}
use Rattle.epoch_schedule.specs.Schedule.{Driven}
use Rattle.epoch_schedule.specs.Lines.{asked, driven_by}
use Rattle.epoch_schedule.specs.declared.ask.LineAsk.{LineAsk}
use Rattle.epoch_schedule.specs.declared.turns.Turns.{Turns}
use Rattle.epoch_schedule.specs.declared.turns.Turns.TheVariants as turns

-- so many drawn turns behind each line, one list a line, and the state behind them
abbrev pub drawn_told : (limit per state lines : ℕ) → List (List ℕ)
drawn_told limit per state zero = []
drawn_told limit per state (suc n) = draws limit state per ∷ drawn_told limit per (state_behind state per) n

abbrev pub state_after : (per state lines : ℕ) → ℕ
state_after per state zero = state
state_after per state (suc n) = state_after per (state_behind state per) n

-- the turns behind so many lines, one list a line; drawn ones are workers of the slices
abbrev pub turns_told : Turns → (slices lines : ℕ) → List (List ℕ)
turns_told (turns.List listed) slices lines = replicate lines listed.items
turns_told (turns.Drawn state per) slices lines = drawn_told (2 * slices) per state lines

-- and how they go on behind these lines
abbrev pub turns_behind : Turns → (lines : ℕ) → Turns
turns_behind (turns.List listed) lines = turns.List listed
turns_behind (turns.Drawn state per) lines = turns.Drawn (state_after per state lines) per

-- listed turns are workers of the slices
abbrev pub AreWorkers : (slices : ℕ) → Turns → Type 0
AreWorkers slices (turns.List listed) = All (λ worker. worker < 2 * slices) listed.items
AreWorkers slices (turns.Drawn state per) = Unit {0}

-- the turns behind the next line, and how they go on behind it
abbrev pub told_first : Turns → (slices : ℕ) → List ℕ
told_first (turns.List listed) slices = listed.items
told_first (turns.Drawn state per) slices = draws (2 * slices) state per

abbrev pub turns_after : Turns → Turns
turns_after (turns.List listed) = turns.List listed
turns_after (turns.Drawn state per) = turns.Drawn (state_behind state per) per

-- the lines of an epoch with their turns
abbrev pub lines_of : Turns → (slices : ℕ) → List LineAsk → List Driven
lines_of turns slices asks = driven_by (map asked asks) (turns_told turns slices (length asks))
