-- What octets of the MME ask (S11, TS 29.274).
use Rattle.std.specs.Prelude.{ℕ, ◌==◌, ◌||◌, if◌then◌else◌, Option, Some, None, option_map, option_and_then}
use Rattle.std.specs.Prelude.{List, [], ◌∷◌, codes}
use Rattle.tft_codec.specs.Reading.{◌>>=◌}
use Rattle.gtpv2_ie.specs.declared.cause_value.TheConstants.{ALL_DYNAMIC_ADDRESSES_ARE_OCCUPIED}
use Rattle.gtpv2_ie.specs.declared.value.IeValue.TheVariants as values
use Rattle.gtpv2_msg.specs.declared.fault.CBad.{CBad}
use Rattle.gtpv2_msg.specs.declared.kind.TheConstants.{ECHO_REQUEST, ECHO_RESPONSE, CREATE_SESSION_REQUEST}
use Rattle.gtpv2_msg.specs.declared.kind.TheConstants.{DOWNLINK_DATA_NOTIFICATION_ACKNOWLEDGE}
use Rattle.gtpv2_msg.specs.Kinds.{is_request}
use Rattle.gtpv2_msg.specs.Message.{Message}
use Rattle.gtpv2_msg.specs.Refusal.{first_fault, refusal_of}
use Rattle.gtpv2_msg.specs.Spelling.{spelling}
use Rattle.control_steps.specs.declared.cause.TheConstants.{CONTEXT_NOT_FOUND}
use Rattle.control_steps.specs.declared.command.CommandKind.{CommandKind}
use Rattle.control_steps.specs.Messages.{element, cause_alone}
use Rattle.demux.specs.Message.{message_in}
use Rattle.demux.specs.Ends.{control_slot}
use Rattle.demux.specs.Requests.{imsi_in, mme_in, creation, session_command}
use Rattle.demux.specs.Texts.{octets_note, reply_note, message_note}
use Rattle.demux.specs.Asked.{Asked, note, admission, of, slot, command}

-- an Echo Response (7.1.2): without a TEID, with restart counter 0
abbrev pub echo_response : ℕ → Message
echo_response seq = record { kind = ECHO_RESPONSE; teid = None; seq = seq; ies = element (values.Recovery 0) ∷ [] }

abbrev pub echo_note : ℕ → List ℕ
echo_note seq = octets_note (codes "s11 echo") (spelling (echo_response seq))

-- a Create Session Request where no slot is left, answered to its sender's TEID
abbrev pub pool_note : ℕ → ℕ → List ℕ
pool_note teid seq = octets_note (codes "s11 pool") (spelling
    (cause_alone teid CREATE_SESSION_REQUEST seq ALL_DYNAMIC_ADDRESSES_ARE_OCCUPIED))

-- a message to a TEID of no session: a request is answered, to TEID 0
abbrev pub no_context_reply : Message → Option (List ℕ)
no_context_reply message =
    if is_request message.kind then Some (spelling (cause_alone 0 message.kind message.seq CONTEXT_NOT_FOUND)) else None

abbrev pub no_context_note : Message → List ℕ
no_context_note message = reply_note (codes "s11 nocontext") (no_context_reply message)

-- A Create Session Request is for its own IMSI. One that is read has all that it takes.
abbrev pub create_asked : Message → Option Asked
create_asked message = do
  imsi ← imsi_in message.ies
  mme ← mme_in message.ies
  create ← creation message
  Some (admission imsi create (pool_note mme.teid message.seq))

-- every other message is for the slot of its TEID
abbrev pub for_slot : Option ℕ → CommandKind → List ℕ → Asked
for_slot (Some number) asked missing = of (slot number) (command asked) missing
for_slot None asked missing = note missing

abbrev pub session_asked : Message → Option Asked
session_asked message =
    option_map (λ asked. for_slot (option_and_then control_slot message.teid) asked (no_context_note message))
    (session_command message)

-- a type that an MME doesn't send is unexpected
abbrev pub or_unexpected : Option Asked → Asked
or_unexpected (Some asked) = asked
or_unexpected None = note (codes "s11 unexpected")

unfoldable pub create_or_unexpected : Message → Asked
create_or_unexpected message = or_unexpected (create_asked message)

unfoldable pub session_or_unexpected : Message → Asked
session_or_unexpected message = or_unexpected (session_asked message)

unfoldable pub message_asked : Message → Asked
message_asked message =
    if message.kind == ECHO_REQUEST then note (echo_note message.seq)
    else if message.kind == ECHO_RESPONSE || message.kind == DOWNLINK_DATA_NOTIFICATION_ACKNOWLEDGE
    then note (codes "s11 noted")
    else if message.kind == CREATE_SESSION_REQUEST then create_or_unexpected message
    else session_or_unexpected message

abbrev pub asked_where : List ℕ → Option CBad → Asked
asked_where octets (Some bad) = note (message_note bad (refusal_of octets bad))
asked_where octets None = message_asked (message_in octets)

-- octets of the MME: the first fault is noted
unfoldable pub mme_asked : List ℕ → Asked
mme_asked octets = asked_where octets (first_fault octets)
