-- A line at the start of octets, by the octets alone. A room is how many octets may still be given.
use Rattle.std.specs.Prelude.{◌≡◌, ◌≢◌, ℕ, ◌+◌, ◌<◌, ◌≤◌, Bool, true, false, List, [], ◌∷◌, ◌++◌, length, All}
use Rattle.pc_outside.specs.Limits.{newline, line_max}

-- none of the octets ends a line
abbrev pub NoNewline : List ℕ → Type 0
NoNewline octets = All (λ octet. octet ≢ newline) octets

-- the octets are the line with its newline, and then the rest
pub record IsWholeLine (room after : ℕ) (octets rest line : List ℕ) : Type 0 where
  pub parts : octets ≡ line ++ newline ∷ rest
  pub given : room ≡ length line + 1 + after

-- the octets are a last line without newline, which isn't empty, and more could have come
pub record IsLastLine (room after : ℕ) (octets rest line : List ℕ) : Type 0 where
  pub whole : octets ≡ line
  pub some : 0 < length line
  pub none_left : rest ≡ []
  pub given : room ≡ length line + after
  pub more : 0 < after

-- the line is the last one, or its newline is there
abbrev pub EndsLine : Bool → ℕ → ℕ → List ℕ → List ℕ → List ℕ → Type 0
EndsLine false room after octets rest line = IsWholeLine room after octets rest line
EndsLine true room after octets rest line = IsLastLine room after octets rest line

-- with this room the octets begin with the line, and then come the rest and its room
pub record HoldsLine (room after : ℕ) (octets rest line : List ℕ) (last : Bool) : Type 0 where
  pub no_newline : NoNewline line
  pub short : length line ≤ line_max
  pub form : EndsLine last room after octets rest line

-- within the room the octets begin with more than a line may have
pub record BeginsLong (room : ℕ) (octets : List ℕ) : Type 0 where
  pub prefix : List ℕ
  pub rest : List ℕ
  pub parts : octets ≡ prefix ++ rest
  pub no_newline : NoNewline prefix
  pub long : line_max < length prefix
  pub within : length prefix ≤ room

-- the octets fill the room with an unfinished line that isn't too long
pub record FillsRoom (room : ℕ) (octets : List ℕ) : Type 0 where
  pub prefix : List ℕ
  pub rest : List ℕ
  pub parts : octets ≡ prefix ++ rest
  pub no_newline : NoNewline prefix
  pub short : length prefix ≤ line_max
  pub full : length prefix ≡ room
