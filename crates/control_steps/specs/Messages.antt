-- What the gateway writes to an MME (TS 29.274, 7.2), each message as a value.
use Rattle.std.specs.Prelude.{ℕ, List, [], ◌∷◌, Option, Some, None, ◌==◌, if◌then◌else◌}
use Rattle.std.specs.List.{filter_map}
use Rattle.std.specs.Option.{option_map}
use Rattle.pc_base.specs.declared.packet.TeidUse.TheVariants.{Control, Bearer as User}
use Rattle.pc_base.specs.Addresses.{addr_of, gateway_addr}
use Rattle.pc_base.specs.Teids.{teid_of}
use Rattle.gtpv2_ie.specs.declared.cause.CauseIe.{CauseIe}
use Rattle.gtpv2_ie.specs.declared.context.Context.{Context}
use Rattle.gtpv2_ie.specs.declared.fteid.Fteid.{Fteid}
use Rattle.gtpv2_ie.specs.declared.qos.QosIe.{QosIe}
use Rattle.gtpv2_ie.specs.declared.value.IeValue.{IeValue}
use Rattle.gtpv2_ie.specs.declared.value.IeValue.TheVariants as values
use Rattle.gtpv2_ie.specs.Element.{Element}
use Rattle.gtpv2_msg.specs.declared.kind.TheConstants.{CREATE_SESSION_RESPONSE, MODIFY_BEARER_RESPONSE}
use Rattle.gtpv2_msg.specs.declared.kind.TheConstants.{CREATE_BEARER_REQUEST}
use Rattle.gtpv2_msg.specs.declared.kind.TheConstants.{UPDATE_BEARER_REQUEST, DELETE_BEARER_REQUEST}
use Rattle.gtpv2_msg.specs.Kinds.{answer_of}
use Rattle.gtpv2_msg.specs.Message.{Message}
use Rattle.bearer_state.specs.declared.ask.Ask.{Ask}
use Rattle.bearer_state.specs.declared.bearer.Bearer.{Bearer}
use Rattle.bearer_state.specs.declared.qos.Qos.{Qos}
use Rattle.bearer_state.specs.Lookup.{active_index}
use Rattle.control_steps.specs.declared.cause.TheConstants.{REQUEST_ACCEPTED, NEW_PDN_TYPE}

-- interface types (8.22)
abbrev pub s1u_sgw : ℕ
s1u_sgw = 1

abbrev pub s11_sgw : ℕ
s11_sgw = 11

abbrev pub element : IeValue → Element
element value = record { instance = 0; value = value }

abbrev pub cause_of : ℕ → CauseIe
cause_of code = record { cause = code; offending = None }

abbrev pub cause_element : ℕ → Element
cause_element code = element (values.Cause (cause_of code))

-- where the gateway takes the requests of a slot, and the packets of its bearer of an index
abbrev pub control_end : ℕ → Fteid
control_end slot = record { interface = s11_sgw; teid = teid_of slot Control; addr = gateway_addr }

abbrev pub user_end : ℕ → ℕ → Fteid
user_end slot index = record { interface = s1u_sgw; teid = teid_of slot (User index); addr = gateway_addr }

-- a message to the TEID of an MME
abbrev pub message_to : ℕ → ℕ → ℕ → List Element → Message
message_to teid kind seq ies = record { kind = kind; teid = Some teid; seq = seq; ies = ies }

-- the answer to a request that is a cause alone
abbrev pub cause_alone : ℕ → ℕ → ℕ → ℕ → Message
cause_alone teid request seq code = message_to teid (answer_of request) seq (cause_element code ∷ [])

-- a bearer that is accepted
abbrev pub accepted : ℕ → ℕ → ℕ → Element
accepted slot ebi index = element (values.Context (record {
  ebi = Some ebi;
  cause = Some (cause_of REQUEST_ACCEPTED);
  tft = None;
  fteids = (0, user_end slot index) ∷ [];
  qos = None;
}))

-- of both versions of IP, or of IPv4 alone, the subscriber gets IPv4
abbrev pub pdn_cause : ℕ → ℕ
pdn_cause pdn = if pdn == 3 then NEW_PDN_TYPE else REQUEST_ACCEPTED

abbrev pub create_session_response : ℕ → ℕ → ℕ → ℕ → ℕ → Message
create_session_response slot teid seq pdn ebi =
    message_to teid CREATE_SESSION_RESPONSE seq
    (cause_element (pdn_cause pdn) ∷ element (values.Fteid (control_end slot))
    ∷ element (values.Paa (addr_of slot)) ∷ accepted slot ebi 0 ∷ [])

-- one Context for each ask, of the active bearer that it names
abbrev pub ask_accepted : ℕ → List Bearer → Ask → Option Element
ask_accepted slot bearers ask = option_map (accepted slot ask.ebi) (active_index bearers ask.ebi)

abbrev pub modify_bearer_response : ℕ → ℕ → ℕ → List Bearer → List Ask → Message
modify_bearer_response slot teid seq bearers asks =
    message_to teid MODIFY_BEARER_RESPONSE seq (cause_element REQUEST_ACCEPTED
    ∷ filter_map (ask_accepted slot bearers) asks)

-- what a bearer is to have
abbrev pub qos_ie : Qos → QosIe
qos_ie qos = record {
  arp = qos.arp;
  qci = qos.qci;
  mbr_up = qos.mbr_up;
  mbr_down = qos.mbr_down;
  gbr_up = qos.gbr_up;
  gbr_down = qos.gbr_down;
}

-- a bearer without an EBI yet, and the default bearer that it is linked to
abbrev pub new_context : ℕ → ℕ → List ℕ → Qos → Context
new_context slot index tft qos = record {
  ebi = Some 0;
  cause = None;
  tft = Some tft;
  fteids = (0, user_end slot index) ∷ [];
  qos = Some (qos_ie qos);
}

abbrev pub create_bearer_request : ℕ → ℕ → ℕ → ℕ → ℕ → List ℕ → Qos → Message
create_bearer_request slot teid seq linked index tft qos =
    message_to teid CREATE_BEARER_REQUEST seq (element (values.Ebi linked)
    ∷ element (values.Context (new_context slot index tft qos)) ∷ [])

abbrev pub changed_context : ℕ → Option (List ℕ) → Context
changed_context ebi tft = record { ebi = Some ebi; cause = None; tft = tft; fteids = []; qos = None }

abbrev pub update_bearer_request : ℕ → ℕ → ℕ → Option (List ℕ) → ℕ → ℕ → Message
update_bearer_request teid seq ebi tft up down =
    message_to teid UPDATE_BEARER_REQUEST seq (element (values.Context (changed_context ebi tft))
    ∷ element (values.Ambr up down) ∷ [])

-- the EBI of a bearer that goes has instance 1 (7.2.9.2)
abbrev pub delete_bearer_request : ℕ → ℕ → ℕ → Message
delete_bearer_request teid seq ebi =
    message_to teid DELETE_BEARER_REQUEST seq (record { instance = 1; value = values.Ebi ebi } ∷ [])
