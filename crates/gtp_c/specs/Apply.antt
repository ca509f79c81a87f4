-- A template's operation on the filters that a C caller's structs are.
use Rattle.std.specs.Prelude.{
  ℕ,
  ◌+◌,
  ◌==◌,
  ◌||◌,
  nat_lt,
  List,
  length,
  map,
  Option,
  Some,
  None,
  Result,
  Ok,
  Err,
  if◌then◌else◌,
}
use Rattle.tft_codec.specs.Apply.{applied}
use Rattle.tft_codec.specs.declared.fault.TftNo.{TftNo}
use Rattle.tft_codec.specs.declared.fault.TftNo.TheVariants as no
use Rattle.tft_codec.specs.declared.filter.Filter.{Filter}
use Rattle.tft_codec.specs.declared.tft.Tft.{Tft}
use Rattle.gtp_c_base.specs.Filter.{filter_said, tft_said}
use Rattle.gtp_c_base.specs.declared.filter.TftFilter.{TftFilter}

abbrev pub filters_said : List TftFilter → List Filter
filters_said filters = map filter_said filters

abbrev pub no_code : Result (List Filter) TftNo → ℕ
no_code (Ok filters) = 0
no_code (Err no.NoSuchId) = 17
no_code (Err no.IdTaken) = 18
no_code (Err no.Empty) = 19
no_code (Err no.NoMemory) = 20

-- how many structs are written at most
abbrev pub room_for : ℕ → ℕ → ℕ → ℕ
room_for operation filters entries =
    if operation == 1 then entries
    else if operation == 2 then 0
    else if operation == 3 then filters + entries
    else filters

abbrev pub made_code : Result (List Filter) TftNo → ℕ → ℕ → ℕ
made_code (Ok filters) room needed = if nat_lt room needed then 21 else 0
made_code (Err refused) room needed = no_code (Err refused)

abbrev pub tft_code : List TftFilter → Option Tft → ℕ → ℕ → ℕ
tft_code filters None room needed = 13
tft_code filters (Some tft) room needed = made_code (applied (filters_said filters) tft) room needed

-- 27 for too many structs, 13 for no operation, 17 to 19 where it isn't applied, 21 where the buffer is too short
abbrev pub apply_code : List TftFilter → ℕ → List TftFilter → ℕ → ℕ
apply_code filters operation entries room =
    if nat_lt 16 (length filters) || nat_lt 15 (length entries) then 27
    else tft_code filters (tft_said operation entries) room (room_for operation (length filters) (length entries))
