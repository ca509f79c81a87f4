-- Which elements stand in octets, and where (TS 29.274, 8.2.1): type, length of the value (2), spare
-- and instance, value.
use Rattle.std.specs.Prelude.{
  ◌≡◌,
  ℕ,
  zero,
  suc,
  ◌+◌,
  ◌%◌,
  ◌^◌,
  ◌<◌,
  ◌≤◌,
  List,
  [],
  ◌∷◌,
  length,
  slice_index,
  slice_range,
  Result,
  Ok,
  Err,
}
use Rattle.std.specs.Global.{Vec}
use Rattle.gtpv2_ie.specs.declared.raw.RawIe.{RawIe}
use Rattle.gtpv2_ie.specs.declared.fault.IeBad.{IeBad}
use Rattle.gtpv2_ie.specs.declared.fault.IeBad.TheVariants.{Short, Length}
use Rattle.wire_octets.specs.Numbers.{be16_at}

-- the length of the value whose header begins at a place
abbrev pub value_len : List ℕ → ℕ → ℕ
value_len octets at = be16_at octets (at + 1)

-- what a header that begins at a place says
abbrev pub raw_at : List ℕ → ℕ → RawIe
raw_at octets at = record {
  kind = slice_index octets at;
  instance = slice_index octets (at + 3) % 16;
  from = at + 4;
  to = at + 4 + value_len octets at;
}

-- an element stands at a place: its header and its whole value are there
pub record StandsAt (octets : List ℕ) (at : ℕ) (ie : RawIe) : Type 0 where
  pub header : ie ≡ raw_at octets at
  pub inside : ie.to ≤ length octets

-- elements stand one behind another from one place up to another
abbrev pub StandBetween : List ℕ → ℕ → List RawIe → ℕ → Type 0
StandBetween octets at [] end = at ≡ end
StandBetween octets at (ie ∷ ies) end = StandsAt octets at ie × StandBetween octets ie.to ies end

-- the octets are these elements, one behind another
abbrev pub Stand : List ℕ → List RawIe → Type 0
Stand octets ies = StandBetween octets 0 ies (length octets)

-- so many elements
pub record HasIes (octets : List ℕ) (count : ℕ) : Type 0 where
  pub ies : List RawIe
  pub stand : Stand octets ies
  pub few : count ≤ length octets

-- behind whole elements one to three octets stand in the place of a header
pub record EndsShort (octets : List ℕ) : Type 0 where
  pub before : List RawIe
  pub at : ℕ
  pub prefix : StandBetween octets 0 before at
  pub some_left : at < length octets
  pub too_few : length octets < at + 4

-- behind whole elements a header stands whose value passes the end
pub record PassesEnd (octets : List ℕ) : Type 0 where
  pub before : List RawIe
  pub at : ℕ
  pub prefix : StandBetween octets 0 before at
  pub header : at + 4 ≤ length octets
  pub passes : length octets < at + 4 + value_len octets at

-- a value lies inside the octets, is no longer than its length field can say, and its instance has
-- four bits
pub record IsInside (octets : List ℕ) (ie : RawIe) : Type 0 where
  pub order : ie.from ≤ ie.to
  pub inside : ie.to ≤ length octets
  pub len : ie.to < ie.from + 2 ^ 16
  pub instance : ie.instance < 16

-- the octets of an element's value
abbrev pub value_in : List ℕ → RawIe → List ℕ
value_in octets ie = slice_range octets ie.from ie.to

abbrev pub with_first : RawIe → Result (List RawIe) IeBad → Result (List RawIe) IeBad
with_first ie (Ok ies) = Ok (ie ∷ ies)
with_first ie (Err bad) = Err bad

-- the same as a function, by cases on the octets from a place on, of which the first `left` are the
-- rest of a value
unfoldable pub ies_from : ℕ → ℕ → List ℕ → Result (List RawIe) IeBad
ies_from zero at [] = Ok []
ies_from zero at (kind ∷ high ∷ low ∷ last ∷ rest) =
    let len = be16_at (high ∷ low ∷ []) 0 in
    with_first (record { kind = kind; instance = last % 16; from = at + 4; to = at + 4 + len })
    (ies_from len (at + 4) rest)
ies_from zero at (_ ∷ _) = Err Short
ies_from (suc left) at [] = Err Length
ies_from (suc left) at (_ ∷ rest) = ies_from left (at + 1) rest

-- the elements that stand in octets, or why none do
abbrev pub ies_of : List ℕ → Result (List RawIe) IeBad
ies_of octets = ies_from 0 0 octets

-- the elements that a call returned
abbrev pub items_of : Result (Vec RawIe) IeBad → Result (List RawIe) IeBad
items_of (Ok ies) = Ok ies.items
items_of (Err bad) = Err bad
