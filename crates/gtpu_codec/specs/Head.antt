-- The octets of every message (TS 29.281, section 5.1), whose places count from 0 here:
-- 0: flags   1: type   2-3: length of what follows these eight   4-7: TEID
-- The flags: version (3 bits), protocol type, a spare bit, and E, S and PN. The spare bit isn't looked at.
use Rattle.std.specs.Prelude.{ℕ, ◌/◌, ◌%◌, Bool, not, ◌==◌, List, slice_index, take, drop}
use Rattle.wire_octets.specs.Numbers.{be16_at, be32_at}

abbrev pub flags_in : List ℕ → ℕ
flags_in octets = slice_index octets 0

abbrev pub type_in : List ℕ → ℕ
type_in octets = slice_index octets 1

abbrev pub length_in : List ℕ → ℕ
length_in octets = be16_at octets 2

abbrev pub teid_in : List ℕ → ℕ
teid_in octets = be32_at octets 4

-- the octets that the length counts
abbrev pub counted_in : List ℕ → List ℕ
counted_in octets = take (length_in octets) (drop 8 octets)

-- bits 8 to 6: version 1
abbrev pub has_version : ℕ → Bool
has_version flags = flags / 32 == 1

-- bit 5: GTP, and not GTP'
abbrev pub is_gtp : ℕ → Bool
is_gtp flags = flags / 16 % 2 == 1

-- bit 3, E: the next type is there
abbrev pub has_extensions : ℕ → Bool
has_extensions flags = flags / 4 % 2 == 1

-- bit 2, S: the sequence number is there
abbrev pub has_seq : ℕ → Bool
has_seq flags = flags / 2 % 2 == 1

-- bits 3 to 1: E, S or PN is set, so four octets stand before the body
abbrev pub has_options : ℕ → Bool
has_options flags = not (flags % 8 == 0)
