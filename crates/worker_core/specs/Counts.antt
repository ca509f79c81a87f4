-- Counts that rise.
use Rattle.std.specs.Prelude.{◌≡◌, ℕ, ◌-◌, ◌^◌, ◌<◌, ◌≤◌, ◌⊎◌}

-- a count rose, or stands at the last u64
abbrev pub Rises : ℕ → ℕ → Type 0
Rises old new = (old < new) ⊎ (2 ^ 64 - 1 ≤ new)

-- a count is as it was, or rose
abbrev pub Lasts : ℕ → ℕ → Type 0
Lasts old new = (new ≡ old) ⊎ Rises old new
