-- Drawn turns: a generator draws so many behind each line, and its state goes on from epoch to epoch.
use Rattle.std.specs.Prelude.{ℕ, zero, suc, ◌+◌, ◌*◌, ◌/◌, ◌%◌, ◌^◌, List, [], ◌∷◌}

abbrev pub next_state : ℕ → ℕ
next_state state = (state * 6364136223846793005 + 1442695040888963407) % 2 ^ 64

-- a number below the limit, out of the state behind it
abbrev pub drawn_of : (limit state : ℕ) → ℕ
drawn_of limit state = state / 2 ^ 33 % limit

-- so many draws, and the state behind them
abbrev pub draws : (limit state count : ℕ) → List ℕ
draws limit state zero = []
draws limit state (suc n) = drawn_of limit (next_state state) ∷ draws limit (next_state state) n

abbrev pub state_behind : (state count : ℕ) → ℕ
state_behind state zero = state
state_behind state (suc n) = state_behind (next_state state) n
