-- The numbers of a generator: a state below 2^64, which each draw moves on.
use Rattle.std.specs.Prelude.{ℕ, ◌+◌, ◌*◌, ◌/◌, ◌%◌, ◌^◌}

-- the state behind a draw: a linear congruence
abbrev pub moved : ℕ → ℕ
moved state = (state * 6364136223846793005 + 1442695040888963407) % 2 ^ 64

-- the number below `end` that is drawn at a state: its high bits, since the low ones repeat soon
abbrev pub number_at : ℕ → ℕ → ℕ
number_at end state = state / 2 ^ 33 % end

-- what a draw below `end` answers from a state
abbrev pub drawn : ℕ → ℕ → ℕ
drawn end state = number_at end (moved state)
