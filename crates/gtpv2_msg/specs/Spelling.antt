-- The one text of a message: its spare bits are 0, and T is 1 exactly where it has a TEID.
use Rattle.std.specs.Prelude.{ℕ, ◌+◌, List, [], ◌∷◌, ◌++◌, length, Option, Some, None}
use Rattle.wire_octets.specs.Numbers.{be16_octets, be24_octets, be32_octets}
use Rattle.gtpv2_ie.specs.Spelling.{spellings}
use Rattle.gtpv2_msg.specs.Message.{Message}

-- version 2 with T, and without
abbrev pub flags_with_teid : ℕ
flags_with_teid = 0x48

abbrev pub flags_without_teid : ℕ
flags_without_teid = 0x40

-- the header before elements of so many octets
abbrev pub header_octets : ℕ → Option ℕ → ℕ → ℕ → List ℕ
header_octets kind None seq len = flags_without_teid ∷ kind ∷ be16_octets (4 + len) ++ be24_octets seq ++ 0 ∷ []
header_octets kind (Some teid) seq len =
    flags_with_teid ∷ kind ∷ be16_octets (8 + len) ++ be32_octets teid ++ be24_octets seq ++ 0 ∷ []

abbrev pub spelling : Message → List ℕ
spelling message =
    let ies = spellings message.ies in
    header_octets message.kind message.teid message.seq (length ies) ++ ies
