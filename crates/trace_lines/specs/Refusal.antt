-- Why a text is no line: the first reason, in the order in which they are looked for.
use Rattle.std.specs.Prelude.{ℕ, ◌^◌, ◌-◌, Bool, true, false, List, [], ◌∷◌, codes, nat_lt}
use Rattle.std.specs.Prelude.{if◌then◌else◌, Option, Some, None, is_none, is_some, unwrap_or}
use Rattle.std.specs.Str.{bytes_eq}
use Rattle.text_fields.specs.Fields.{fields_of, has_empty_field}
use Rattle.text_fields.specs.Number.{number_in}
use Rattle.text_fields.specs.Address.{address_of}
use Rattle.text_fields.specs.Hexadecimal.{octets_of}
use Rattle.trace_lines.specs.declared.bad.LineBad.{LineBad}
use Rattle.trace_lines.specs.declared.bad.LineBad.TheVariants.{Field, Number, Hex, Kind, MomentBack}
use Rattle.trace_lines.specs.Arguments.{imsi_of, teid_of}

-- what an argument has to be: a number has a least and a last one
pub data Form : Type 0 where
  an_imsi : Form
  an_address : Form
  a_teid : Form
  a_number : ℕ → ℕ → Form
  some_octets : Form

abbrev pub a_session_rate : Form
a_session_rate = a_number 0 (2 ^ 32 - 1)

abbrev pub a_bearer_rate : Form
a_bearer_rate = a_number 0 (2 ^ 40 - 1)

abbrev pub an_ebi : Form
an_ebi = a_number 5 15

-- the arguments of a kind, by its word; None where there is no such kind
abbrev pub forms_of : List ℕ → Option (List Form)
forms_of word =
    if bytes_eq word (codes "S1U") then Some (some_octets ∷ [])
    else if bytes_eq word (codes "SGI") then Some (some_octets ∷ [])
    else if bytes_eq word (codes "S11") then Some (some_octets ∷ [])
    else if bytes_eq word (codes "ATTACH") then Some (an_imsi ∷ an_address ∷ a_teid ∷ a_session_rate
    ∷ a_session_rate ∷ [])
    else if bytes_eq word (codes "BEARER")
    then Some (an_imsi ∷ a_number 1 255 ∷ a_bearer_rate ∷ a_bearer_rate ∷ a_bearer_rate ∷ a_bearer_rate
    ∷ some_octets ∷ [])
    else if bytes_eq word (codes "FILTERS") then Some (an_imsi ∷ an_ebi ∷ some_octets ∷ [])
    else if bytes_eq word (codes "DROP") then Some (an_imsi ∷ an_ebi ∷ [])
    else if bytes_eq word (codes "AMBR") then Some (an_imsi ∷ a_session_rate ∷ a_session_rate ∷ [])
    else if bytes_eq word (codes "MOVE") then Some (an_imsi ∷ a_number 0 63 ∷ [])
    else if bytes_eq word (codes "FENCE") then Some []
    else None

abbrev pub has_form : Form → List ℕ → Bool
has_form an_imsi text = is_some (imsi_of text)
has_form an_address text = is_some (address_of text)
has_form a_teid text = is_some (teid_of text)
has_form (a_number least last) text = is_some (number_in least last text)
has_form some_octets text = is_some (octets_of text)

abbrev pub refusal_of : Form → LineBad
refusal_of some_octets = Hex
refusal_of _ = Number

abbrev pub as_many : List Form → List (List ℕ) → Bool
as_many [] [] = true
as_many (form ∷ forms) (text ∷ texts) = as_many forms texts
as_many _ _ = false

-- of as many arguments as there are forms, the first that hasn't its form
abbrev pub argument_fault : List Form → List (List ℕ) → Option LineBad
argument_fault (form ∷ forms) (text ∷ texts) =
    if has_form form text then argument_fault forms texts else Some (refusal_of form)
argument_fault _ _ = None

abbrev pub kind_fault : Option (List Form) → List (List ℕ) → Option LineBad
kind_fault None texts = Some Kind
kind_fault (Some forms) texts = if as_many forms texts then argument_fault forms texts else Some Field

-- the first, else the second
abbrev pub or_else : Option LineBad → Option LineBad → Option LineBad
or_else (Some why) other = Some why
or_else None other = other

-- the moment that a text is
abbrev pub moment_of : List ℕ → Option ℕ
moment_of text = number_in 0 (2 ^ 50 - 1) text

abbrev pub fields_fault : ℕ → List (List ℕ) → Option LineBad
fields_fault least (moment ∷ word ∷ arguments) =
    if is_none (moment_of moment) then Some Number
    else or_else (kind_fault (forms_of word) arguments)
    (if nat_lt (unwrap_or (moment_of moment) 0) least then Some MomentBack else None)
fields_fault least _ = Some Field

-- where no moment below the least one may come
abbrev pub first_fault : ℕ → List ℕ → Option LineBad
first_fault least text = if has_empty_field text then Some Field else fields_fault least (fields_of text)
