-- The components of a packet filter (TS 24.008, 10.5.6.12): which octets each one is.
use Rattle.std.specs.Prelude.{ℕ, ◌<◌, ◌^◌, ◌++◌, nat_eq, List, [], ◌∷◌, map, Bool}
use Rattle.std.specs.List.{flat_map, list_any, AllByRecursion, IsDistinct}
use Rattle.wire_octets.specs.Numbers.{be16_octets, be32_octets}
use Rattle.tft_codec.specs.declared.component.Component.{Component}
use Rattle.tft_codec.specs.declared.component.Component.TheVariants.{
  RemoteAddr,
  LocalAddr,
  Protocol,
  LocalPort,
  LocalRange,
  RemotePort,
  RemoteRange,
  Spi,
  Tos,
}
use Rattle.tft_codec.specs.Types.{
  remote_address_type,
  local_address_type,
  protocol_type,
  local_port_type,
  local_range_type,
  remote_port_type,
  remote_range_type,
  spi_type,
  tos_type,
}

-- the table of components: the type octet, and the octets after it (an address and its mask, a range from low to high)
abbrev pub row : Component → ℕ × List ℕ
row (RemoteAddr address mask) = (remote_address_type, be32_octets address ++ be32_octets mask)
row (LocalAddr address mask) = (local_address_type, be32_octets address ++ be32_octets mask)
row (Protocol number) = (protocol_type, number ∷ [])
row (LocalPort port) = (local_port_type, be16_octets port)
row (LocalRange low high) = (local_range_type, be16_octets low ++ be16_octets high)
row (RemotePort port) = (remote_port_type, be16_octets port)
row (RemoteRange low high) = (remote_range_type, be16_octets low ++ be16_octets high)
row (Spi spi) = (spi_type, be32_octets spi)
row (Tos value mask) = (tos_type, value ∷ mask ∷ [])

abbrev pub type_octet : Component → ℕ
type_octet c = (row c).0

abbrev pub component_text : Component → List ℕ
component_text c = type_octet c ∷ (row c).1

-- the contents of a filter: its components, one after another
abbrev pub contents : List Component → List ℕ
contents cs = flat_map component_text cs

-- the numbers fit their octets
abbrev pub IsComponent : Component → Type 0
IsComponent (RemoteAddr address mask) = (address < 2 ^ 32) × (mask < 2 ^ 32)
IsComponent (LocalAddr address mask) = (address < 2 ^ 32) × (mask < 2 ^ 32)
IsComponent (Protocol number) = number < 256
IsComponent (LocalPort port) = port < 2 ^ 16
IsComponent (LocalRange low high) = (low < 2 ^ 16) × (high < 2 ^ 16)
IsComponent (RemotePort port) = port < 2 ^ 16
IsComponent (RemoteRange low high) = (low < 2 ^ 16) × (high < 2 ^ 16)
IsComponent (Spi spi) = spi < 2 ^ 32
IsComponent (Tos value mask) = (value < 256) × (mask < 256)

-- whether a number is in a list
abbrev pub has : List ℕ → ℕ → Bool
has xs x = list_any (nat_eq x) xs

-- what a filter holds: components of different types
pub record AreComponents (cs : List Component) : Type 0 where
  pub fit : AllByRecursion IsComponent cs
  pub differ : IsDistinct nat_eq (map type_octet cs)
