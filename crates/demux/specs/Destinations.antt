-- Where a subscriber is bound for.
use Rattle.std.specs.Prelude.{ℕ, ◌%◌, ◌==◌, if◌then◌else◌, List, fold}
use Rattle.demux.specs.declared.decision.Decision.{Decision}
use Rattle.demux.specs.declared.decision.Decision.TheVariants.{Command, Packet, Move, Note}

-- a slot's start slice, of so many
abbrev pub start_slice : ℕ → ℕ → ℕ
start_slice slices slot = slot % slices

-- the destination of a slot behind a decision: a move of it changes that, and nothing else does
abbrev pub bound_for : ℕ → ℕ → Decision → ℕ
bound_for slot before (Move at slice) = if at == slot then slice else before
bound_for slot before (Command whose command) = before
bound_for slot before (Packet at packet) = before
bound_for slot before (Note text) = before

-- the destination of a slot behind decisions: that of its last move, or its start slice
abbrev pub destination : ℕ → ℕ → List Decision → ℕ
destination slices slot before = fold (bound_for slot) (start_slice slices slot) before
