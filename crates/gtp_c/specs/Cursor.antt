-- The element that a C caller's struct says.
use Rattle.std.specs.Prelude.{ℕ, ◌+◌, nat_le, nat_lt, List, length, if◌then◌else◌}
use Rattle.gtpv2_ie.specs.declared.raw.RawIe.{RawIe}
use Rattle.gtpv2_ie.specs.Stand.{value_len}
use Rattle.gtp_c.specs.declared.cursor.Ie.{Ie}

abbrev pub raw_said : Ie → RawIe
raw_said said = record { kind = said.kind; instance = said.instance; from = said.from; to = said.to }

-- 25 at the end, 1 where one to three octets stand in the place of a header, 4 where a value passes the end
abbrev pub ie_code : List ℕ → ℕ → ℕ
ie_code octets at =
    if nat_le (length octets) at then 25
    else if nat_lt (length octets) (at + 4) then 1
    else if nat_lt (length octets) (at + 4 + value_len octets at) then 4
    else 0
