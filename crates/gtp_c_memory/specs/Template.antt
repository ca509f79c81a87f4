-- What a C caller is told of a whole template.
use Rattle.std.specs.Prelude.{◌≡◌, ℕ, ◌<◌, List, length, IsSomeAnd}
use Rattle.tft_codec.specs.Spelling.{Spells}
use Rattle.tft_codec.specs.declared.fault.TBad.{TBad}
use Rattle.tft_codec.specs.declared.fault.TBad.TheVariants as bad
use Rattle.tft_codec.specs.declared.tft.Tft.{Tft}
use Rattle.tft_codec.specs.declared.tft.Tft.TheVariants.{Create, Delete, Add, Replace, Remove, Nothing}
use Rattle.gtp_c_base.specs.Filter.{tft_said}
use Rattle.gtp_c_base.specs.declared.filter.TftFilter.{TftFilter}

abbrev pub template_code : TBad → ℕ
template_code bad.Short = 1
template_code bad.Parameters = 12
template_code bad.Operation = 13
template_code bad.Component = 14
template_code bad.RepeatedId = 15
template_code bad.Trailing = 16
template_code bad.NoMemory = 20

-- how many entries a template has
abbrev pub entry_count : Tft → ℕ
entry_count (Create filters) = length filters
entry_count Delete = 0
entry_count (Add filters) = length filters
entry_count (Replace filters) = length filters
entry_count (Remove ids) = length ids
entry_count Nothing = 0

-- the code of its operation (TS 24.008, table 10.5.162)
abbrev pub operation_of : Tft → ℕ
operation_of (Create filters) = 1
operation_of Delete = 2
operation_of (Add filters) = 3
operation_of (Replace filters) = 4
operation_of (Remove ids) = 5
operation_of Nothing = 6

-- the octets are the template of this operation and these entries
abbrev pub Tells : List ℕ → ℕ → List TftFilter → Type 0
Tells octets operation entries = IsSomeAnd (tft_said operation entries) (Spells octets)

-- they are a template of more entries than there is room for
abbrev pub IsTooMany : List ℕ → ℕ → ℕ → Type 0
IsTooMany octets room needed = (t : Tft) × Spells octets t × (needed ≡ entry_count t) × (room < needed)
