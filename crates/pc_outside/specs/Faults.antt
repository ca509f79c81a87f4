-- The count of faults of a source or a sink.
use Rattle.std.specs.Prelude.{ℕ, ◌-◌, ◌^◌, ◌<◌, ◌≤◌, ◌⊎◌}

-- a count of faults rose, or stands at the end of its type, where it stays
abbrev pub Rises : ℕ → ℕ → Type 0
Rises before now = (before < now) ⊎ (2 ^ 64 - 1 ≤ now)
