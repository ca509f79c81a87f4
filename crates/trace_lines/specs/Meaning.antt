-- What a line of text means, going along its fields. `Text` says which lines a text means and `Refusal` which
-- refusal comes first; `lines_mean_their_texts` that this is both.
use Rattle.std.specs.Prelude.{ℕ, ◌^◌, ◌-◌, List, [], ◌∷◌, codes, nat_lt, if◌then◌else◌, Result, Ok, Err}
use Rattle.std.specs.Option.{ok_or}
use Rattle.std.specs.Str.{bytes_eq}
use Rattle.text_fields.specs.Fields.{fields_of, has_empty_field}
use Rattle.text_fields.specs.Number.{number_in}
use Rattle.text_fields.specs.Address.{address_of}
use Rattle.text_fields.specs.Hexadecimal.{octets_of}
use Rattle.trace_lines.specs.declared.bad.LineBad.{LineBad}
use Rattle.trace_lines.specs.declared.bad.LineBad.TheVariants.{Field, Number, Hex, Kind, MomentBack}
use Rattle.trace_lines.specs.Kind.{LineKind}
use Rattle.trace_lines.specs.Kind as kind
use Rattle.trace_lines.specs.Refused.{◌>>=◌}
use Rattle.trace_lines.specs.Arguments.{imsi_of, teid_of}
use Rattle.trace_lines.specs.Line.{Line}

-- a number from the first to the last
abbrev pub number_meaning : ℕ → ℕ → List ℕ → Result ℕ LineBad
number_meaning least last text = ok_or (number_in least last text) Number

abbrev pub session_rate : List ℕ → Result ℕ LineBad
session_rate text = number_meaning 0 (2 ^ 32 - 1) text

abbrev pub bearer_rate : List ℕ → Result ℕ LineBad
bearer_rate text = number_meaning 0 (2 ^ 40 - 1) text

-- The arguments of each kind. First they are counted, then looked at from left to right.
abbrev pub message_meaning : List (List ℕ) → Result (List ℕ) LineBad
message_meaning (octets ∷ []) = ok_or (octets_of octets) Hex
message_meaning _ = Err Field

abbrev pub attach_meaning : List (List ℕ) → Result LineKind LineBad
attach_meaning (imsi ∷ address ∷ teid ∷ up ∷ down ∷ []) = do
  digits ← ok_or (imsi_of imsi) Number
  enb_addr ← ok_or (address_of address) Number
  enb_teid ← ok_or (teid_of teid) Number
  up_kbps ← session_rate up
  down_kbps ← session_rate down
  Ok (kind.Attach digits (record { teid = enb_teid; addr = enb_addr }) up_kbps down_kbps)
attach_meaning _ = Err Field

abbrev pub bearer_meaning : List (List ℕ) → Result LineKind LineBad
bearer_meaning (imsi ∷ qci ∷ mbr_up ∷ mbr_down ∷ gbr_up ∷ gbr_down ∷ tft ∷ []) = do
  digits ← ok_or (imsi_of imsi) Number
  class ← number_meaning 1 255 qci
  most_up ← bearer_rate mbr_up
  most_down ← bearer_rate mbr_down
  sure_up ← bearer_rate gbr_up
  sure_down ← bearer_rate gbr_down
  template ← ok_or (octets_of tft) Hex
  Ok (kind.Bearer digits class most_up most_down sure_up sure_down template)
bearer_meaning _ = Err Field

abbrev pub filters_meaning : List (List ℕ) → Result LineKind LineBad
filters_meaning (imsi ∷ ebi ∷ tft ∷ []) = do
  digits ← ok_or (imsi_of imsi) Number
  bearer ← number_meaning 5 15 ebi
  template ← ok_or (octets_of tft) Hex
  Ok (kind.Filters digits bearer template)
filters_meaning _ = Err Field

abbrev pub drop_meaning : List (List ℕ) → Result LineKind LineBad
drop_meaning (imsi ∷ ebi ∷ []) = do
  digits ← ok_or (imsi_of imsi) Number
  bearer ← number_meaning 5 15 ebi
  Ok (kind.Drop digits bearer)
drop_meaning _ = Err Field

abbrev pub ambr_meaning : List (List ℕ) → Result LineKind LineBad
ambr_meaning (imsi ∷ up ∷ down ∷ []) = do
  digits ← ok_or (imsi_of imsi) Number
  up_kbps ← session_rate up
  down_kbps ← session_rate down
  Ok (kind.Ambr digits up_kbps down_kbps)
ambr_meaning _ = Err Field

abbrev pub move_meaning : List (List ℕ) → Result LineKind LineBad
move_meaning (imsi ∷ slice ∷ []) = do
  digits ← ok_or (imsi_of imsi) Number
  place ← number_meaning 0 63 slice
  Ok (kind.Move digits place)
move_meaning _ = Err Field

abbrev pub fence_meaning : List (List ℕ) → Result LineKind LineBad
fence_meaning [] = Ok kind.Fence
fence_meaning _ = Err Field

abbrev pub as_kind : (List ℕ → LineKind) → Result (List ℕ) LineBad → Result LineKind LineBad
as_kind kind_of message = message >>= (λ octets. Ok (kind_of octets))

-- the kinds by their words
abbrev pub kind_meaning : List ℕ → List (List ℕ) → Result LineKind LineBad
kind_meaning word arguments =
    if bytes_eq word (codes "S1U") then as_kind kind.S1u (message_meaning arguments)
    else if bytes_eq word (codes "SGI") then as_kind kind.Sgi (message_meaning arguments)
    else if bytes_eq word (codes "S11") then as_kind kind.S11 (message_meaning arguments)
    else if bytes_eq word (codes "ATTACH") then attach_meaning arguments
    else if bytes_eq word (codes "BEARER") then bearer_meaning arguments
    else if bytes_eq word (codes "FILTERS") then filters_meaning arguments
    else if bytes_eq word (codes "DROP") then drop_meaning arguments
    else if bytes_eq word (codes "AMBR") then ambr_meaning arguments
    else if bytes_eq word (codes "MOVE") then move_meaning arguments
    else if bytes_eq word (codes "FENCE") then fence_meaning arguments
    else Err Kind

-- moment and kind, then whether the moment goes back
abbrev pub moment_meaning : ℕ → ℕ → ℕ → LineKind → Result Line LineBad
moment_meaning least number moment said =
    if nat_lt moment least then Err MomentBack else Ok (record { number = number; moment = moment; kind = said })

abbrev pub line_of_fields : ℕ → ℕ → List (List ℕ) → Result Line LineBad
line_of_fields least number (moment ∷ word ∷ arguments) = do
  at ← number_meaning 0 (2 ^ 50 - 1) moment
  said ← kind_meaning word arguments
  moment_meaning least number at said
line_of_fields least number _ = Err Field

-- what the line of this number means, where no moment below the least one may come
abbrev pub line_meaning : ℕ → ℕ → List ℕ → Result Line LineBad
line_meaning least number text =
    if has_empty_field text then Err Field else line_of_fields least number (fields_of text)

-- a line's meaning, refused where its moment is below the least one
abbrev pub not_before : ℕ → Result Line LineBad → Result Line LineBad
not_before least (Ok line) = if nat_lt line.moment least then Err MomentBack else Ok line
not_before least (Err why) = Err why
