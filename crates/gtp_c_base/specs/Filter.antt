-- The filters that a C caller's structs are.
use Rattle.std.specs.Prelude.{ℕ, ◌==◌, ◌&&◌, List, map, take, min, nat_lt, Option, Some, None, if◌then◌else◌}
use Rattle.tft_codec.specs.declared.component.Component.{Component}
use Rattle.tft_codec.specs.declared.component.Component.TheVariants.{
  RemoteAddr,
  LocalAddr,
  Protocol,
  LocalPort,
  LocalRange,
  RemotePort,
  RemoteRange,
  Spi,
  Tos,
}
use Rattle.tft_codec.specs.declared.filter.Filter.{Filter}
use Rattle.tft_codec.specs.declared.tft.Tft.{Tft}
use Rattle.tft_codec.specs.declared.tft.Tft.TheVariants.{Create, Delete, Add, Replace, Remove, Nothing}
use Rattle.gtp_c_base.specs.declared.filter.TftComponent.{TftComponent}
use Rattle.gtp_c_base.specs.declared.filter.TftFilter.{TftFilter}

-- a range of no port, which no packet fits
abbrev pub never : Component
never = LocalRange 1 0

abbrev pub are_below : ℕ → ℕ → ℕ → Component → Component
are_below bound first second component =
    if nat_lt first bound && nat_lt second bound then component else never

-- one of an unknown type, or with a number that its type hasn't, is fitted by no packet
abbrev pub component_said : TftComponent → Component
component_said said =
    if said.kind == 0x10 then RemoteAddr said.first said.second
    else if said.kind == 0x11 then LocalAddr said.first said.second
    else if said.kind == 0x30 then are_below 256 said.first 0 (Protocol said.first)
    else if said.kind == 0x40 then are_below 65536 said.first 0 (LocalPort said.first)
    else if said.kind == 0x41 then are_below 65536 said.first said.second (LocalRange said.first said.second)
    else if said.kind == 0x50 then are_below 65536 said.first 0 (RemotePort said.first)
    else if said.kind == 0x51 then are_below 65536 said.first said.second (RemoteRange said.first said.second)
    else if said.kind == 0x60 then Spi said.first
    else if said.kind == 0x70 then are_below 256 said.first said.second (Tos said.first said.second)
    else never

abbrev pub filter_said : TftFilter → Filter
filter_said said = record {
  id = said.id;
  direction = said.direction;
  precedence = said.precedence;
  components = map component_said (take (min said.count 9) said.components);
}

abbrev pub ids_said : List TftFilter → List ℕ
ids_said entries = map (λ said. said.id) entries

-- The template of an operation (TS 24.008, table 10.5.162) and its entries; of a removal the identifiers alone count.
abbrev pub tft_said : ℕ → List TftFilter → Option Tft
tft_said operation entries =
    if operation == 1 then Some (Create (map filter_said entries))
    else if operation == 2 then Some Delete
    else if operation == 3 then Some (Add (map filter_said entries))
    else if operation == 4 then Some (Replace (map filter_said entries))
    else if operation == 5 then Some (Remove (ids_said entries))
    else if operation == 6 then Some Nothing
    else None
