-- Why octets are no traffic flow template: the first fault from left to right.
use Rattle.std.specs.Prelude.{
  ◌≡◌,
  ℕ,
  zero,
  suc,
  ◌+◌,
  ◌/◌,
  ◌%◌,
  ◌==◌,
  ◌||◌,
  not,
  Bool,
  nat_lt,
  if◌then◌else◌,
  List,
  [],
  ◌∷◌,
  ◌++◌,
  length,
  Option,
  Some,
  None,
  is_none,
  slice_index,
  Result,
  Ok,
  Err,
}
use Rattle.std.specs.Borrow.{Bor}
use Rattle.tft_codec.specs.declared.fault.TBad.{TBad}
use Rattle.tft_codec.specs.declared.fault.TBad.TheVariants as bad
use Rattle.tft_codec.specs.Types.{
  create_operation,
  delete_operation,
  add_operation,
  replace_operation,
  remove_operation,
  no_operation,
}
use Rattle.tft_codec.specs.Component.{has}
use Rattle.tft_codec.specs.Reading.{components_of, id_at, contents_at, after_filter}

-- the first fault, or else the next
abbrev pub or_else : Option TBad → Option TBad → Option TBad
or_else None next = next
or_else (Some fault) next = Some fault

-- an error says that this is the first fault, unless memory ran out
abbrev pub Says : TBad → Option TBad → Type 0
Says bad.NoMemory fault = Unit {0}
Says bad.Short fault = fault ≡ Some bad.Short
Says bad.Parameters fault = fault ≡ Some bad.Parameters
Says bad.Operation fault = fault ≡ Some bad.Operation
Says bad.Component fault = fault ≡ Some bad.Component
Says bad.RepeatedId fault = fault ≡ Some bad.RepeatedId
Says bad.Trailing fault = fault ≡ Some bad.Trailing

-- a reader's answer, seen by view: there is no fault and this is the value, or the error says the first fault
abbrev pub Reads : {X Y : Type 0} → (X → Y) → Result X TBad → Option TBad → Y → Type 0
Reads view (Ok x) fault value = (fault ≡ None) × (view x ≡ value)
Reads view (Err e) fault value = Says e fault

-- the same of a value and the octets after it
abbrev pub ReadsFirst : {X : Type 0} → Result (X × Bor (List ℕ)) TBad → Option TBad → X → List ℕ → Type 0
ReadsFirst (Ok x) fault value after = (fault ≡ None) × (x.0 ≡ value) × (x.1.now ≡ after)
ReadsFirst (Err e) fault value after = Says e fault

-- octets behind the last entry
abbrev pub end_fault : List ℕ → Option TBad
end_fault [] = None
end_fault (octet ∷ octets) = Some bad.Trailing

-- the contents of a filter that are no components
abbrev pub contents_fault : List ℕ → Option TBad
contents_fault octets = if is_none (components_of octets) then Some bad.Component else None

-- a filter at the start, behind filters of these identifiers
unfoldable pub filter_fault : List ℕ → List ℕ → Option TBad
filter_fault seen octets =
    if nat_lt (length octets) 3 then Some bad.Short
    else if has seen (id_at octets) then Some bad.RepeatedId
    else if nat_lt (length octets) (3 + slice_index octets 2) then Some bad.Short
    else contents_fault (contents_at octets)

-- that many filters, and the end
unfoldable pub filters_fault : ℕ → List ℕ → List ℕ → Option TBad
filters_fault zero seen octets = end_fault octets
filters_fault (suc n) seen octets =
    or_else (filter_fault seen octets) (filters_fault n (seen ++ id_at octets ∷ []) (after_filter octets))

-- that many identifiers, and the end
unfoldable pub ids_fault : ℕ → List ℕ → List ℕ → Option TBad
ids_fault zero seen octets = end_fault octets
ids_fault (suc n) seen [] = Some bad.Short
ids_fault (suc n) seen (octet ∷ octets) =
    if has seen (octet % 16) then Some bad.RepeatedId else ids_fault n (seen ++ octet % 16 ∷ []) octets

-- the parts of the first octet
abbrev pub operation_of : ℕ → ℕ
operation_of first = first / 32

abbrev pub has_parameters : ℕ → Bool
has_parameters first = first / 16 % 2 == 1

abbrev pub number_of : ℕ → ℕ
number_of first = first % 16

-- what entries an operation has
abbrev pub has_filters : ℕ → Bool
has_filters operation = operation == create_operation || operation == add_operation || operation == replace_operation

abbrev pub has_ids : ℕ → Bool
has_ids operation = operation == remove_operation

abbrev pub has_nothing : ℕ → Bool
has_nothing operation = operation == delete_operation || operation == no_operation

-- an operation that there is, with entries where it has some, and with none where it has none
abbrev pub is_operation : ℕ → ℕ → Bool
is_operation operation number =
    if number == 0 then has_nothing operation else has_filters operation || has_ids operation

-- what is wrong with the first octet: no memory is needed to tell
abbrev pub first_octet_fault : List ℕ → Option TBad
first_octet_fault [] = Some bad.Short
first_octet_fault (first ∷ octets) =
    if has_parameters first then Some bad.Parameters
    else if not (is_operation (operation_of first) (number_of first)) then Some bad.Operation
    else None

-- what is wrong with the entries behind it
abbrev pub entries_fault : List ℕ → Option TBad
entries_fault [] = None
entries_fault (first ∷ octets) =
    if has_filters (operation_of first) then filters_fault (number_of first) [] octets
    else if has_ids (operation_of first) then ids_fault (number_of first) [] octets
    else end_fault octets

abbrev pub first_fault : List ℕ → Option TBad
first_fault octets = or_else (first_octet_fault octets) (entries_fault octets)
