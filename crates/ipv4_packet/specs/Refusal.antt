-- Why octets begin with no IPv4 packet.
use Rattle.std.specs.Prelude.{ℕ, Bool, ◌==◌, not, ◌||◌, nat_lt, List, length, Option, Some, None, if◌then◌else◌}
use Rattle.ipv4_packet.specs.declared.fault.IpBad.{IpBad}
use Rattle.ipv4_packet.specs.declared.fault.IpBad.TheVariants as bad
use Rattle.ipv4_packet.specs.Fields.{version_of, header_words, header_len, total_length}

-- the header is shorter than one may be, or longer than what is there
abbrev pub breaks_header : List ℕ → Bool
breaks_header octets = nat_lt (header_words octets) 5 || nat_lt (length octets) (header_len octets)

-- the packet ends inside its header, or behind what is there
abbrev pub breaks_total : List ℕ → Bool
breaks_total octets = nat_lt (total_length octets) (header_len octets) || nat_lt (length octets) (total_length octets)

-- the first of these that fits
abbrev pub first_fault : List ℕ → Option IpBad
first_fault octets =
    if nat_lt (length octets) 20 then Some bad.Short
    else if not (version_of octets == 4) then Some bad.Version
    else if breaks_header octets then Some bad.Header
    else if breaks_total octets then Some bad.Total
    else None
