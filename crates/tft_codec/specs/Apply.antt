-- What a template makes of the filters of a bearer.
use Rattle.std.specs.Prelude.{
  ℕ,
  ◌==◌,
  ◌++◌,
  nat_eq,
  not,
  Bool,
  if◌then◌else◌,
  List,
  [],
  ◌∷◌,
  map,
  Result,
  Ok,
  Err,
  unwrap_or,
}
use Rattle.std.specs.List.{list_any, list_all, filter, find}
use Rattle.tft_codec.specs.declared.fault.TftNo.{TftNo}
use Rattle.tft_codec.specs.declared.fault.TftNo.TheVariants as no
use Rattle.tft_codec.specs.declared.filter.Filter.{Filter}
use Rattle.tft_codec.specs.declared.tft.Tft.{Tft}
use Rattle.tft_codec.specs.declared.tft.Tft.TheVariants.{Create, Delete, Add, Replace, Remove, Nothing}
use Rattle.tft_codec.specs.Component.{has}

-- whether a filter of the list has that identifier
abbrev pub has_id : List Filter → ℕ → Bool
has_id fs x = list_any (λ f. nat_eq x f.id) fs

-- whether the list has any, or each, of the identifiers of new filters
abbrev pub has_any : List Filter → List Filter → Bool
has_any fs new = list_any (λ g. has_id fs g.id) new

abbrev pub has_each : List Filter → List Filter → Bool
has_each fs new = list_all (λ g. has_id fs g.id) new

-- the new filter of that identifier, where there is one
abbrev pub replaced : List Filter → Filter → Filter
replaced new f = unwrap_or (find (λ g. f.id == g.id) new) f

abbrev pub without : List Filter → List ℕ → List Filter
without fs gone = filter (λ f. not (has gone f.id)) fs

-- a list that may not become empty
abbrev pub left : List Filter → Result (List Filter) TftNo
left [] = Err no.Empty
left (f ∷ fs) = Ok (f ∷ fs)

-- the table of operations: the new list, or why there is none
abbrev pub applied : List Filter → Tft → Result (List Filter) TftNo
applied fs (Create new) = Ok new
applied [] Delete = Err no.Empty
applied (f ∷ fs) Delete = Ok []
applied fs (Add new) = if has_any fs new then Err no.IdTaken else Ok (fs ++ new)
applied fs (Replace new) = if has_each fs new then Ok (map (replaced new) fs) else Err no.NoSuchId
applied fs (Remove gone) = if list_all (has_id fs) gone then left (without fs gone) else Err no.NoSuchId
applied fs Nothing = Ok fs
