-- Numbers as octets, the most significant octet first (network byte order: RFC 791, appendix B).
use Rattle.std.specs.Prelude.{ℕ, ◌+◌, ◌*◌, ◌/◌, ◌%◌, ◌<◌, List, [], ◌∷◌, slice_index}

-- each number of the list is one of an octet
abbrev pub AreOctets : List ℕ → Type 0
AreOctets octets = (at : ℕ) → slice_index octets at < 0x100

-- the number of the two octets from place `at`
abbrev pub be16_at : List ℕ → ℕ → ℕ
be16_at octets at = 0x100 * slice_index octets at + slice_index octets (at + 1)

-- of three octets
abbrev pub be24_at : List ℕ → ℕ → ℕ
be24_at octets at = 0x1_0000 * slice_index octets at + be16_at octets (at + 1)

-- of four octets
abbrev pub be32_at : List ℕ → ℕ → ℕ
be32_at octets at = 0x100_0000 * slice_index octets at + be24_at octets (at + 1)

-- of five octets
abbrev pub be40_at : List ℕ → ℕ → ℕ
be40_at octets at = 0x1_0000_0000 * slice_index octets at + be32_at octets (at + 1)

-- the two octets of a number, of which bits above the sixteenth don't count
abbrev pub be16_octets : ℕ → List ℕ
be16_octets n = n / 0x100 % 0x100 ∷ n % 0x100 ∷ []

-- three octets
abbrev pub be24_octets : ℕ → List ℕ
be24_octets n = n / 0x1_0000 % 0x100 ∷ be16_octets n

-- four octets
abbrev pub be32_octets : ℕ → List ℕ
be32_octets n = n / 0x100_0000 % 0x100 ∷ be24_octets n

-- five octets
abbrev pub be40_octets : ℕ → List ℕ
be40_octets n = n / 0x1_0000_0000 % 0x100 ∷ be32_octets n
