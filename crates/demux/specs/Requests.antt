-- What a message of the MME asks, by its elements (TS 29.274, 7.2). Of those that are repeated the first counts, and
-- of a Bearer Context the first F-TEID of the eNodeB's interface.
use Rattle.std.specs.Prelude.{ℕ, ◌==◌, not, Bool, if◌then◌else◌, Option, Some, None, option_map, option_and_then}
use Rattle.std.specs.Prelude.{List, [], ◌∷◌, ◌++◌, filter, find}
use Rattle.std.specs.List.{filter_map, list_any}
use Rattle.tft_codec.specs.Reading.{◌>>=◌}
use Rattle.pc_base.specs.declared.packet.Peer.{Peer}
use Rattle.gtpv2_ie.specs.declared.context.Context.{Context}
use Rattle.gtpv2_ie.specs.declared.fteid.Fteid.{Fteid}
use Rattle.gtpv2_ie.specs.declared.kind.IeKind.TheVariants as kinds
use Rattle.gtpv2_ie.specs.declared.qos.QosIe.{QosIe}
use Rattle.gtpv2_ie.specs.declared.value.IeValue.{IeValue}
use Rattle.gtpv2_ie.specs.declared.value.IeValue.TheVariants as values
use Rattle.gtpv2_ie.specs.Element.{Element}
use Rattle.gtpv2_msg.specs.Lookup.{first_value, context_value, first_context, contexts_of}
use Rattle.gtpv2_msg.specs.Message.{Message}
use Rattle.gtpv2_msg.specs.declared.kind.TheConstants.{MODIFY_BEARER_REQUEST, DELETE_SESSION_REQUEST}
use Rattle.gtpv2_msg.specs.declared.kind.TheConstants.{RELEASE_ACCESS_BEARERS_REQUEST, CREATE_BEARER_RESPONSE}
use Rattle.gtpv2_msg.specs.declared.kind.TheConstants.{UPDATE_BEARER_RESPONSE, DELETE_BEARER_RESPONSE}
use Rattle.bearer_state.specs.declared.ask.Ask.{Ask}
use Rattle.bearer_state.specs.declared.qos.Qos.{Qos}
use Rattle.control_steps.specs.declared.command.CommandKind.{CommandKind}
use Rattle.control_steps.specs.declared.command.CommandKind.TheVariants.{Create, Modify, Release, Delete}
use Rattle.control_steps.specs.declared.command.CommandKind.TheVariants.{CreateAns, UpdateAns, DeleteAns}

-- what a value holds, where it is of the kind
abbrev pub imsi_value : IeValue → Option (List ℕ)
imsi_value (values.Imsi digits) = Some digits
imsi_value value = None

abbrev pub cause_value : IeValue → Option ℕ
cause_value (values.Cause cause) = Some cause.cause
cause_value value = None

abbrev pub rates_value : IeValue → Option (ℕ × ℕ)
rates_value (values.Ambr up down) = Some (up, down)
rates_value value = None

abbrev pub pdn_value : IeValue → Option ℕ
pdn_value (values.Pdn pdn) = Some pdn
pdn_value value = None

abbrev pub peer_of : Fteid → Peer
peer_of fteid = record { teid = fteid.teid; addr = fteid.addr }

abbrev pub peer_value : IeValue → Option Peer
peer_value (values.Fteid fteid) = Some (peer_of fteid)
peer_value value = None

-- the same of the first element of a kind and instance 0
abbrev pub imsi_in : List Element → Option (List ℕ)
imsi_in ies = option_and_then imsi_value (first_value kinds.Imsi 0 ies)

abbrev pub cause_in : List Element → Option ℕ
cause_in ies = option_and_then cause_value (first_value kinds.Cause 0 ies)

abbrev pub rates_in : List Element → Option (ℕ × ℕ)
rates_in ies = option_and_then rates_value (first_value kinds.Ambr 0 ies)

abbrev pub pdn_in : List Element → Option ℕ
pdn_in ies = option_and_then pdn_value (first_value kinds.Pdn 0 ies)

abbrev pub mme_in : List Element → Option Peer
mme_in ies = option_and_then peer_value (first_value kinds.Fteid 0 ies)

abbrev pub context_in : List Element → Option Context
context_in ies = option_and_then context_value (first_value kinds.Context 0 ies)

-- an EBI that a bearer has: 0 is that of none (8.8)
abbrev pub assigned : Option ℕ → Option ℕ
assigned ebi = option_and_then (λ number. if number == 0 then None else Some number) ebi

-- the eNodeB's end, of interface 0 (8.22)
abbrev pub enb_in : List (ℕ × Fteid) → Option Peer
enb_in fteids = option_map (λ (fteid : ℕ × Fteid). peer_of fteid.1)
    (find (λ (fteid : ℕ × Fteid). fteid.1.interface == 0) fteids)

abbrev pub qos_of : QosIe → Qos
qos_of qos = record {
  arp = qos.arp;
  qci = qos.qci;
  mbr_up = qos.mbr_up;
  mbr_down = qos.mbr_down;
  gbr_up = qos.gbr_up;
  gbr_down = qos.gbr_down;
}

-- a session with its first bearer (7.2.1)
unfoldable pub creation : Message → Option CommandKind
creation message = do
  mme ← mme_in message.ies
  pdn ← pdn_in message.ies
  rates ← rates_in message.ies
  context ← context_in message.ies
  ebi ← assigned context.ebi
  qos ← context.qos
  Some (Create message.seq mme pdn ebi (qos_of qos) (enb_in context.fteids) rates.0 rates.1)

-- what a Context asks of its bearer · of those with one EBI the first counts
abbrev pub ask_of : Context → Option Ask
ask_of context = option_map (λ ebi. record { ebi = ebi; enb = enb_in context.fteids }) (assigned context.ebi)

abbrev pub without_ebi : ℕ → List Ask → List Ask
without_ebi ebi asks = filter (λ (ask : Ask). not (ask.ebi == ebi)) asks

abbrev pub first_asks : List Ask → List Ask
first_asks [] = []
first_asks (ask ∷ asks) = ask ∷ without_ebi ask.ebi (first_asks asks)

-- the asks of a message's Contexts
unfoldable pub each_ask : List Element → List Ask
each_ask ies = filter_map ask_of (contexts_of ies)

abbrev pub asks_in : List Element → List Ask
asks_in ies = first_asks (each_ask ies)

-- the same, going along: one ask more counts where none before it has its EBI
abbrev pub has_ebi : ℕ → List Ask → Bool
has_ebi ebi asks = list_any (λ (ask : Ask). ask.ebi == ebi) asks

abbrev pub with_ask : List Ask → Option Ask → List Ask
with_ask asks None = asks
with_ask asks (Some ask) = if has_ebi ask.ebi asks then asks else asks ++ ask ∷ []

abbrev pub ask_at : Element → Option Ask
ask_at ie = option_and_then ask_of (first_context ie)

-- other ends of its bearers (7.2.7)
abbrev pub modification : Message → CommandKind
modification message = Modify message.seq (mme_in message.ies) (asks_in message.ies)

-- the answer on a bearer that was asked for (7.2.4)
unfoldable pub bearer_answer : Message → Option CommandKind
bearer_answer message = do
  cause ← cause_in message.ies
  context ← context_in message.ies
  ebi ← context.ebi
  row_cause ← context.cause
  Some (CreateAns message.seq cause ebi row_cause.cause (enb_in context.fteids))

-- The command that a message is to the session of its TEID. None of the other types, which an MME doesn't send to one.
unfoldable pub session_command : Message → Option CommandKind
session_command message =
    if message.kind == MODIFY_BEARER_REQUEST then Some (modification message)
    else if message.kind == DELETE_SESSION_REQUEST then Some (Delete message.seq)
    else if message.kind == RELEASE_ACCESS_BEARERS_REQUEST then Some (Release message.seq)
    else if message.kind == CREATE_BEARER_RESPONSE then bearer_answer message
    else if message.kind == UPDATE_BEARER_RESPONSE then Some (UpdateAns message.seq)
    else if message.kind == DELETE_BEARER_RESPONSE then Some (DeleteAns message.seq)
    else None
