-- The replies of GTPv2-C that are written into a caller's buffer.
use Rattle.std.specs.Prelude.{
  ℕ,
  ◌==◌,
  not,
  nat_lt,
  MatchBool,
  is_some,
  List,
  [],
  ◌∷◌,
  Option,
  Some,
  None,
  if◌then◌else◌,
}
use Rattle.gtpv2_ie.specs.declared.value.IeValue.TheVariants as values
use Rattle.gtpv2_msg.specs.Header.{kind_of}
use Rattle.gtpv2_msg.specs.Kinds.{is_request}
use Rattle.gtpv2_msg.specs.Message.{Message}
use Rattle.gtpv2_msg.specs.Refusal.{header_fault, refusal_of}
use Rattle.gtpv2_msg.specs.declared.fault.CBad.{CBad}
use Rattle.gtpv2_msg.specs.declared.fault.CBad.TheVariants as bad
use Rattle.gtp_c_base.specs.Fault.{code_of}
use Rattle.gtp_c_base.specs.Buffer.{Writes, WritesNothing}

-- the fault of a number: 10 is a missing element, 11 an incorrect one
abbrev pub fault_said : ℕ → ℕ → ℕ → Option CBad
fault_said code kind instance =
    if nat_lt 15 instance then None
    else if code == 10 then Some (bad.Missing kind instance)
    else if code == 11 then Some (bad.Incorrect kind instance)
    else None

-- no reply: the numbers are no fault, the octets are no message, or no request
abbrev pub silent_code : List ℕ → Option CBad → ℕ
silent_code octets fault =
    if not (is_some fault) then 23
    else if is_some (header_fault octets) then code_of (header_fault octets)
    else if not (is_request (kind_of octets)) then 29
    else 0

abbrev pub reply_to : List ℕ → Option CBad → Option (List ℕ)
reply_to octets None = None
reply_to octets (Some fault) = if is_some (header_fault octets) then None else refusal_of octets fault

-- the reply is written, where there is one
abbrev pub WritesReply : Option (List ℕ) → ℕ → ℕ → List ℕ → List ℕ → ℕ → Type 0
WritesReply None silent code old new needed = WritesNothing silent code old new needed
WritesReply (Some octets) silent code old new needed = Writes octets code old new needed

-- an Echo Response with this restart counter
abbrev pub echo_response : ℕ → ℕ → Message
echo_response seq counter = record {
  kind = 2;
  teid = None;
  seq = seq;
  ies = record { instance = 0; value = values.Recovery counter } ∷ [];
}

-- 23 where it is no sequence number
abbrev pub EchoAnswer : ℕ → List ℕ → ℕ → List ℕ → List ℕ → ℕ → Type 0
EchoAnswer seq octets code old new needed =
    MatchBool (nat_lt 16777215 seq) (WritesNothing 23 code old new needed) (Writes octets code old new needed)
