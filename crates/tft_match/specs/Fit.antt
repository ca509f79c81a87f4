-- Which packets fit a filter (TS 24.008, 10.5.6.12). Remote is the far end, local the user's.
use Rattle.std.specs.Prelude.{ℕ, ◌==◌, ◌&&◌, nat_le, List, [], ◌∷◌, Bool, false, Option, Some, None, bit_and, IsTrue}
use Rattle.std.specs.List.{All, list_all}
use Rattle.std.specs.Option.{option_map}
use Rattle.ipv4_packet.specs.Fields.{tos_of, protocol_of, source_of, destination_of}
use Rattle.ipv4_packet.specs.Payload.{ports_of, spi_of}
use Rattle.tft_codec.specs.Component.{has}
use Rattle.tft_codec.specs.declared.component.Component.{Component}
use Rattle.tft_codec.specs.declared.component.Component.TheVariants.{
  RemoteAddr,
  LocalAddr,
  Protocol,
  LocalPort,
  LocalRange,
  RemotePort,
  RemoteRange,
  Spi,
  Tos,
}
use Rattle.tft_codec.specs.declared.filter.Filter.{Filter}
use Rattle.tft_match.specs.declared.direction.Direction.{Direction}
use Rattle.tft_match.specs.declared.direction.Direction.TheVariants.{Up, Down}

-- The direction fields of the filters that count for packets of a direction: 0 is of a filter from before
-- Release 7, which counts as downlink, 1 downlink only, 2 uplink only, 3 both.
abbrev pub counted : Direction → List ℕ
counted Down = 0 ∷ 1 ∷ 3 ∷ []
counted Up = 2 ∷ 3 ∷ []

abbrev pub CountsIn : Direction → ℕ → Type 0
CountsIn direction field = IsTrue (has (counted direction) field)

-- a downlink packet comes from the far end, and an uplink packet goes there
abbrev pub remote_address : Direction → List ℕ → ℕ
remote_address Down packet = source_of packet
remote_address Up packet = destination_of packet

abbrev pub local_address : Direction → List ℕ → ℕ
local_address Down packet = destination_of packet
local_address Up packet = source_of packet

-- the ports, where the packet has any
abbrev pub source_port : List ℕ → Option ℕ
source_port packet = option_map (λ ports. ports.0) (ports_of packet)

abbrev pub destination_port : List ℕ → Option ℕ
destination_port packet = option_map (λ ports. ports.1) (ports_of packet)

abbrev pub remote_port : Direction → List ℕ → Option ℕ
remote_port Down packet = source_port packet
remote_port Up packet = destination_port packet

abbrev pub local_port : Direction → List ℕ → Option ℕ
local_port Down packet = destination_port packet
local_port Up packet = source_port packet

-- two numbers have the same bits where the mask has ones
abbrev pub agree_under : ℕ → ℕ → ℕ → Bool
agree_under mask wanted value = bit_and wanted mask == bit_and value mask

-- there is a port, from low to high
abbrev pub is_within : ℕ → ℕ → Option ℕ → Bool
is_within low high None = false
is_within low high (Some port) = nat_le low port && nat_le port high

-- there is a number, and it is the wanted one
abbrev pub is_wanted : ℕ → Option ℕ → Bool
is_wanted wanted None = false
is_wanted wanted (Some found) = found == wanted

-- the table of components: what each asks of a packet; it doesn't hold where the packet has no such field
abbrev pub holds : Direction → List ℕ → Component → Bool
holds direction packet (RemoteAddr address mask) = agree_under mask address (remote_address direction packet)
holds direction packet (LocalAddr address mask) = agree_under mask address (local_address direction packet)
holds direction packet (Protocol number) = protocol_of packet == number
holds direction packet (LocalPort port) = is_wanted port (local_port direction packet)
holds direction packet (LocalRange low high) = is_within low high (local_port direction packet)
holds direction packet (RemotePort port) = is_wanted port (remote_port direction packet)
holds direction packet (RemoteRange low high) = is_within low high (remote_port direction packet)
holds direction packet (Spi index) = is_wanted index (spi_of packet)
holds direction packet (Tos value mask) = agree_under mask value (tos_of packet)

abbrev pub Holds : Direction → List ℕ → Component → Type 0
Holds direction packet component = IsTrue (holds direction packet component)

-- a packet of that direction fits the filter
pub record Fits (direction : Direction) (packet : List ℕ) (filter : Filter) : Type 0 where
  pub counts : CountsIn direction filter.direction
  pub each : All (Holds direction packet) filter.components

-- the same as a test
abbrev pub fits : Direction → List ℕ → Filter → Bool
fits direction packet filter =
    has (counted direction) filter.direction && list_all (holds direction packet) filter.components
