-- What a C caller is told of an IPv4 packet.
use Rattle.std.specs.Prelude.{◌≡◌, ℕ, ◌==◌, List, Option, Some, None, if◌then◌else◌}
use Rattle.ipv4_packet.specs.declared.fault.IpBad.{IpBad}
use Rattle.ipv4_packet.specs.declared.fault.IpBad.TheVariants as bad
use Rattle.ipv4_packet.specs.Fields.{
  source_of,
  destination_of,
  total_length,
  protocol_of,
  tos_of,
  fragment_offset_of,
}
use Rattle.ipv4_packet.specs.Payload.{ports_of, spi_of}
use Rattle.gtp_c.specs.declared.ip4.Ip4Head.{Ip4Head}

-- the number of a refusal; 0 is none
abbrev pub bad_number : IpBad → ℕ
bad_number bad.Short = 1
bad_number bad.Version = 2
bad_number bad.Header = 8
bad_number bad.Total = 9

abbrev pub code_of : Option IpBad → ℕ
code_of None = 0
code_of (Some bad) = bad_number bad

abbrev pub ports_said : Ip4Head → Option (ℕ × ℕ)
ports_said said = if said.has_ports == 0 then None else Some (said.source_port, said.destination_port)

abbrev pub spi_said : Ip4Head → Option ℕ
spi_said said = if said.has_spi == 0 then None else Some said.spi

-- the struct says the fields of this packet
abbrev pub Says : Ip4Head → List ℕ → Type 0
Says said packet =
    (said.source ≡ source_of packet) × (said.destination ≡ destination_of packet)
    × (said.total_len ≡ total_length packet) × (said.fragment_offset ≡ fragment_offset_of packet)
    × (said.protocol ≡ protocol_of packet) × (said.tos ≡ tos_of packet)
    × (ports_said said ≡ ports_of packet) × (spi_said said ≡ spi_of packet)
