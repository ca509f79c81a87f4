-- Packet filters, and the lists of them that a bearer and a template hold.
use Rattle.std.specs.Prelude.{ℕ, ◌<◌, ◌≤◌, nat_eq, List, length, map}
use Rattle.std.specs.List.{AllByRecursion, IsDistinct}
use Rattle.tft_codec.specs.declared.filter.Filter.{Filter}
use Rattle.tft_codec.specs.Component.{AreComponents}

abbrev pub ids : List Filter → List ℕ
ids fs = map (λ f. f.id) fs

-- the numbers fit their bits
pub record IsFilter (f : Filter) : Type 0 where
  pub id : f.id < 16
  pub direction : f.direction < 4
  pub precedence : f.precedence < 256
  pub components : AreComponents f.components

-- the filters of a bearer: no two have one identifier
pub record AreFilters (fs : List Filter) : Type 0 where
  pub each : AllByRecursion IsFilter fs
  pub differ : IsDistinct nat_eq (ids fs)

-- the filters of a template: from 1 to 15
pub record ArePacketFilters (fs : List Filter) : Type 0 where
  pub filters : AreFilters fs
  pub some : 0 < length fs
  pub few : length fs ≤ 15

-- the identifiers that a template removes: from 1 to 15
pub record AreIds (xs : List ℕ) : Type 0 where
  pub each : AllByRecursion (λ x. x < 16) xs
  pub differ : IsDistinct nat_eq xs
  pub some : 0 < length xs
  pub few : length xs ≤ 15
