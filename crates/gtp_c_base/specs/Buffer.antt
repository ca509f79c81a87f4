-- Octets that are written into a caller's buffer.
use Rattle.std.specs.Prelude.{◌≡◌, ℕ, ◌==◌, ◌++◌, nat_lt, List, length, drop, if◌then◌else◌}

-- 21 where the buffer is too short
abbrev pub room_code : ℕ → ℕ → ℕ
room_code len room = if nat_lt room len then 21 else 0

-- the octets stand at the start of the buffer if they fit, and else the buffer is as it was; in both cases it is told
-- how many they are
abbrev pub Writes : List ℕ → ℕ → List ℕ → List ℕ → ℕ → Type 0
Writes octets code old new needed =
    (code ≡ room_code (length octets) (length old)) × (needed ≡ length octets)
    × (new ≡ (if code == 0 then octets ++ drop (length octets) old else old))

-- nothing is written
abbrev pub WritesNothing : ℕ → ℕ → List ℕ → List ℕ → ℕ → Type 0
WritesNothing refused code old new needed = (code ≡ refused) × (needed ≡ 0) × (new ≡ old)
