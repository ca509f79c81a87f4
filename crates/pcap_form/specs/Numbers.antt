-- The numbers of a capture, in the byte order that its magic fixes.
use Rattle.std.specs.Prelude.{ℕ, ◌+◌, ◌*◌, Bool, List, slice_index, if◌then◌else◌}
use Rattle.wire_octets.specs.Numbers.{be16_at, be32_at}

-- the number of the two octets from place `at`, the least significant octet first · of four octets
abbrev pub le16_at : List ℕ → ℕ → ℕ
le16_at octets at = slice_index octets at + 0x100 * slice_index octets (at + 1)

abbrev pub le32_at : List ℕ → ℕ → ℕ
le32_at octets at = le16_at octets at + 0x1_0000 * le16_at octets (at + 2)

-- in little-endian order, or in network byte order
abbrev pub number16_at : Bool → List ℕ → ℕ → ℕ
number16_at little octets at = if little then le16_at octets at else be16_at octets at

abbrev pub number32_at : Bool → List ℕ → ℕ → ℕ
number32_at little octets at = if little then le32_at octets at else be32_at octets at
