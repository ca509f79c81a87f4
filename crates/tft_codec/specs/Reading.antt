-- What stands at the start of octets, by place.
use Rattle.std.specs.Prelude.{
  ◌≡◌,
  ℕ,
  zero,
  suc,
  ◌/◌,
  ◌%◌,
  ◌==◌,
  nat_lt,
  if◌then◌else◌,
  List,
  [],
  ◌∷◌,
  ◌++◌,
  length,
  take,
  drop,
  Option,
  Some,
  None,
  slice_index,
  unwrap_or,
  map,
}
use Rattle.wire_octets.specs.Numbers.{be16_at, be32_at}
use Rattle.tft_codec.specs.declared.component.Component.{Component}
use Rattle.tft_codec.specs.declared.component.Component.TheVariants.{
  RemoteAddr,
  LocalAddr,
  Protocol,
  LocalPort,
  LocalRange,
  RemotePort,
  RemoteRange,
  Spi,
  Tos,
}
use Rattle.tft_codec.specs.Types.{
  remote_address_type,
  local_address_type,
  protocol_type,
  local_port_type,
  local_range_type,
  remote_port_type,
  remote_range_type,
  spi_type,
  tos_type,
}
use Rattle.tft_codec.specs.declared.filter.Filter.{Filter}
use Rattle.tft_codec.specs.declared.tft.Tft.{Tft}
use Rattle.tft_codec.specs.declared.tft.Tft.TheVariants.{Create, Delete, Add, Replace, Remove, Nothing}
use Rattle.tft_codec.specs.Types.{
  create_operation,
  delete_operation,
  add_operation,
  replace_operation,
  remove_operation,
}
use Rattle.tft_codec.specs.Component.{has}

infixl 10 ◌>>=◌
abbrev pub ◌>>=◌ : {A B : Type 0} → Option A → (A → Option B) → Option B
None >>= f = None
(Some x) >>= f = f x

-- a number of so many octets, by what it is at a place, and what follows it
abbrev pub number_at : ℕ → (List ℕ → ℕ → ℕ) → List ℕ → Option (ℕ × List ℕ)
number_at len number octets = if nat_lt (length octets) len then None else Some (number octets 0, drop len octets)

abbrev pub octet_at : List ℕ → Option (ℕ × List ℕ)
octet_at [] = None
octet_at (octet ∷ rest) = Some (octet, rest)

-- what a reader found, seen by view, is what stands there
abbrev pub Finds : {X Y : Type 0} → (X → Y) → Option X → Option Y → Type 0
Finds view None there = there ≡ None
Finds view (Some x) there = there ≡ Some (view x)

-- two of them
abbrev pub pair_at : (List ℕ → Option (ℕ × List ℕ)) → List ℕ → Option (ℕ × ℕ × List ℕ)
pair_at at octets = do
  first ← at octets
  second ← at first.1
  Some (first.0, second.0, second.1)

-- the component of one number, or of two
abbrev pub one : (List ℕ → Option (ℕ × List ℕ)) → (ℕ → Component) → List ℕ → Option (Component × List ℕ)
one at make octets = do
  n ← at octets
  Some (make n.0, n.1)

abbrev pub two : (List ℕ → Option (ℕ × List ℕ)) → (ℕ → ℕ → Component) → List ℕ → Option (Component × List ℕ)
two at make octets = do
  pair ← pair_at at octets
  Some (make pair.0 pair.1, pair.2)

-- the component of a type octet, by what follows it
unfoldable pub component_of : ℕ → List ℕ → Option (Component × List ℕ)
component_of kind octets =
    if kind == remote_address_type then two (number_at 4 be32_at) RemoteAddr octets
    else if kind == local_address_type then two (number_at 4 be32_at) LocalAddr octets
    else if kind == protocol_type then one octet_at Protocol octets
    else if kind == local_port_type then one (number_at 2 be16_at) LocalPort octets
    else if kind == local_range_type then two (number_at 2 be16_at) LocalRange octets
    else if kind == remote_port_type then one (number_at 2 be16_at) RemotePort octets
    else if kind == remote_range_type then two (number_at 2 be16_at) RemoteRange octets
    else if kind == spi_type then one (number_at 4 be32_at) Spi octets
    else if kind == tos_type then two octet_at Tos octets
    else None

-- the components that octets are, of types that differ and were not seen before; the first number bounds how many
unfoldable pub components_from : ℕ → List ℕ → List ℕ → Option (List Component)
components_from bound seen [] = Some []
components_from zero seen (kind ∷ octets) = None
components_from (suc bound) seen (kind ∷ octets) = do
  first ← component_of kind octets
  others ← (if has seen kind then None else components_from bound (seen ++ kind ∷ []) first.1)
  Some (first.0 ∷ others)

-- the components that a filter's contents are; None where they are no components, or two of one type
abbrev pub components_of : List ℕ → Option (List Component)
components_of octets = components_from (length octets) [] octets

-- these, where octets are components
abbrev pub components_or_none : List ℕ → List Component
components_or_none octets = unwrap_or (components_of octets) []

-- the fields of the filter at the start
abbrev pub id_at : List ℕ → ℕ
id_at octets = slice_index octets 0 % 16

abbrev pub contents_at : List ℕ → List ℕ
contents_at octets = take (slice_index octets 2) (drop 3 octets)

abbrev pub after_filter : List ℕ → List ℕ
after_filter octets = drop (slice_index octets 2) (drop 3 octets)

unfoldable pub filter_at : List ℕ → Filter
filter_at octets =
    record {
      id = id_at octets;
      direction = slice_index octets 0 / 16 % 4;
      precedence
          = slice_index octets 1;
      components = components_or_none (contents_at octets);
    }

-- the filters at the start, that many
unfoldable pub filters_at : ℕ → List ℕ → List Filter
filters_at zero octets = []
filters_at (suc n) octets = filter_at octets ∷ filters_at n (after_filter octets)

-- the identifiers of octets
abbrev pub ids_at : List ℕ → List ℕ
ids_at octets = map (λ octet. octet % 16) octets

-- the template that octets are, where nothing is wrong with them
abbrev pub tft_at : List ℕ → Tft
tft_at [] = Nothing
tft_at (first ∷ octets) =
    if first / 32 == create_operation then Create (filters_at (first % 16) octets)
    else if first / 32 == delete_operation then Delete
    else if first / 32 == add_operation then Add (filters_at (first % 16) octets)
    else if first / 32 == replace_operation then Replace (filters_at (first % 16) octets)
    else if first / 32 == remove_operation then Remove (ids_at octets)
    else Nothing
