-- Lines that may come behind those of the gateway at rest.
use Rattle.std.specs.Prelude.{ℕ, ◌≤◌, List, [], ◌∷◌}
use Rattle.trace_lines.specs.Line.{Line}

-- no line is earlier than the one before it, nor than this moment
abbrev pub AreLater : ℕ → List Line → Type 0
AreLater latest [] = Unit {0}
AreLater latest (line ∷ lines) = (latest ≤ line.moment) × AreLater line.moment lines

-- the moment of the last line, or this one
abbrev pub latest_behind : ℕ → List Line → ℕ
latest_behind latest [] = latest
latest_behind latest (line ∷ lines) = latest_behind line.moment lines
