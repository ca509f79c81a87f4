-- Why octets are no message, in the order of looking, and the reply to a refused request.
use Rattle.std.specs.Prelude.{
  ◌≡◌,
  ℕ,
  Bool,
  not,
  ◌||◌,
  ◌⊎◌,
  List,
  [],
  ◌∷◌,
  length,
  Option,
  Some,
  None,
  Result,
  Ok,
  Err,
  if◌then◌else◌,
  ◌==◌,
  nat_lt,
}
use Rattle.std.specs.Option.{option_or, option_map}
use Rattle.gtpv2_ie.specs.declared.fault.IeBad.{IeBad}
use Rattle.gtpv2_ie.specs.declared.raw.RawIe.{RawIe}
use Rattle.gtpv2_ie.specs.declared.value.IeValue.TheVariants as values
use Rattle.gtpv2_ie.specs.Element.{Element}
use Rattle.gtpv2_ie.specs.Stand.{ies_of}
use Rattle.gtpv2_msg.specs.declared.fault.CBad.{CBad}
use Rattle.gtpv2_msg.specs.declared.fault.CBad.TheVariants.{
  Short,
  Version,
  Piggyback,
  Length,
  Kind,
  Missing,
  Incorrect,
  NoMemory,
}
use Rattle.gtpv2_msg.specs.Elements.{read_ies, contexts_in}
use Rattle.gtpv2_msg.specs.Header.{version_of, has_piggyback, has_teid, kind_of, end_of, header_len, seq_of, body_of}
use Rattle.gtpv2_msg.specs.Kinds.{is_kind, is_request, answer_of}
use Rattle.gtpv2_msg.specs.Message.{Message}
use Rattle.gtpv2_msg.specs.Required.{required}
use Rattle.gtpv2_msg.specs.RowFault.{row_fault}
use Rattle.gtpv2_msg.specs.Spelling.{spelling}

-- the length passes the end, or doesn't reach the end of the header
abbrev pub has_wrong_length : List ℕ → Bool
has_wrong_length octets =
    nat_lt (length octets) (end_of octets) || nat_lt (end_of octets) (header_len (has_teid octets))

-- what is wrong with the header
abbrev pub header_fault : List ℕ → Option CBad
header_fault octets =
    if nat_lt (length octets) 8 then Some Short
    else if not (version_of octets == 2) then Some Version
    else if has_piggyback octets then Some Piggyback
    else if has_wrong_length octets then Some Length
    else if not (is_kind (kind_of octets)) then Some Kind
    else None

-- what is wrong with the elements of a message type
abbrev pub elements_fault : ℕ → List ℕ → Result (List RawIe) IeBad → Option CBad
elements_fault kind octets (Err bad) = Some Length
elements_fault kind octets (Ok raws) = row_fault (required kind) (read_ies octets raws) (contexts_in octets raws)

abbrev pub body_fault : ℕ → List ℕ → Option CBad
body_fault kind octets = elements_fault kind octets (ies_of octets)

-- the first fault
abbrev pub first_fault : List ℕ → Option CBad
first_fault octets = option_or (header_fault octets) (body_fault (kind_of octets) (body_of octets))

-- a call may refuse so: with this fault, or since memory ran out
abbrev pub Tells : Option CBad → CBad → Type 0
Tells fault bad = (fault ≡ Some bad) ⊎ (bad ≡ NoMemory)

-- a call may refuse octets so
abbrev pub IsRefusal : List ℕ → CBad → Type 0
IsRefusal octets bad = Tells (first_fault octets) bad

-- a fault of the header, or of the list of elements: any but that of a required element
abbrev pub IsFraming : CBad → Type 0
IsFraming (Missing kind instance) = ⊥
IsFraming (Incorrect kind instance) = ⊥
IsFraming NoMemory = ⊥
IsFraming bad = Unit {0}

-- an answer's header TEID is 0; that of an Echo Request (1) has none
abbrev pub no_teid : ℕ → Option ℕ
no_teid request = if request == 1 then None else Some 0

abbrev pub cause_element : ℕ → ℕ × ℕ → Element
cause_element cause of = record { instance = 0; value = values.Cause (record { cause = cause; offending = Some of }) }

-- the answer to a request whose element is refused for a cause
abbrev pub refusing : ℕ → ℕ → ℕ → ℕ × ℕ → Message
refusing request seq cause of = record {
  kind = answer_of request;
  teid = no_teid request;
  seq = seq;
  ies = cause_element cause of ∷ [];
}

abbrev pub if_request : List ℕ → ℕ → ℕ × ℕ → Option Message
if_request octets cause of =
    if is_request (kind_of octets) then Some (refusing (kind_of octets) (seq_of octets) cause of) else None

-- only a request with a missing or an incorrect element is answered (8.4: 70 Mandatory IE missing, 69
-- Mandatory IE incorrect)
abbrev pub refusal_message : List ℕ → CBad → Option Message
refusal_message octets (Missing kind instance) = if_request octets 70 (kind, instance)
refusal_message octets (Incorrect kind instance) = if_request octets 69 (kind, instance)
refusal_message octets bad = None

abbrev pub refusal_of : List ℕ → CBad → Option (List ℕ)
refusal_of octets bad = option_map spelling (refusal_message octets bad)
