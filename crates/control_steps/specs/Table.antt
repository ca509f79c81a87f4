-- The control table (TS 23.401, 5.3 to 5.5, in this profile): by its row, what a command leaves of a
-- session, and what is answered.
use Rattle.std.specs.Prelude.{ℕ, List, Option, Some, None, unwrap_or}
use Rattle.std.specs.Option.{option_map, option_or}
use Rattle.pc_base.specs.declared.packet.Peer.{Peer}
use Rattle.pc_base.specs.declared.reply.Outcome.{Outcome}
use Rattle.pc_base.specs.declared.reply.Outcome.TheVariants.{Done, No, Again}
use Rattle.pc_base.specs.declared.reply.Reply.{Reply}
use Rattle.tft_codec.specs.declared.filter.Filter.{Filter}
use Rattle.tft_codec.specs.Spelling.{spelling as tft_spelling}
use Rattle.gtpv2_msg.specs.declared.kind.TheConstants.{CREATE_SESSION_REQUEST}
use Rattle.gtpv2_msg.specs.Message.{Message}
use Rattle.gtpv2_msg.specs.Spelling.{spelling}
use Rattle.bearer_state.specs.declared.bearer.Bearer.{Bearer}
use Rattle.bearer_state.specs.declared.kept.Kept.{Kept}
use Rattle.bearer_state.specs.declared.qos.Qos.{Qos}
use Rattle.bearer_state.specs.declared.version.ActiveBearer.{ActiveBearer}
use Rattle.bearer_state.specs.Changes as changes
use Rattle.bearer_state.specs.Lookup.{least_free, default_of}
use Rattle.bearer_state.specs.Session.{SessionState}
use Rattle.control_steps.specs.declared.command.CommandKind.{CommandKind}
use Rattle.control_steps.specs.declared.command.CommandKind.TheVariants.{Attach, Create, Modify}
use Rattle.control_steps.specs.declared.command.CommandKind.TheVariants.{AddBearer}
use Rattle.control_steps.specs.declared.command.CommandKind.TheVariants.{Filters, Drop, Ambr, CreateAns}
use Rattle.control_steps.specs.declared.cause.TheConstants.{REQUEST_ACCEPTED, CONTEXT_NOT_FOUND}
use Rattle.control_steps.specs.declared.cause.TheConstants.{PREFERRED_PDN_TYPE_NOT_SUPPORTED, REQUEST_REJECTED}
use Rattle.control_steps.specs.Command.{request_of}
use Rattle.control_steps.specs.Messages.{cause_alone, create_session_response, modify_bearer_response}
use Rattle.control_steps.specs.Messages.{create_bearer_request}
use Rattle.control_steps.specs.Messages.{update_bearer_request, delete_bearer_request}
use Rattle.control_steps.specs.Row.{Row, repeated, pdn_refused, class_refused, created, attached, no_session}
use Rattle.control_steps.specs.Row.{no_bearer}
use Rattle.control_steps.specs.Row.{modified, released, deleted, not_asked, asked, not_refiltered, refiltered}
use Rattle.control_steps.specs.Row.{not_dropped}
use Rattle.control_steps.specs.Row.{dropped, not_rerated, rerated, unasked, granted, denied, noted, filters_given}
use Rattle.control_steps.specs.Row.{filters_made, row_of}

-- the default bearer of an ordered attach: EBI 5, class 9, priority level 9 with both flags of pre-emption 0
abbrev pub ordered_ebi : ℕ
ordered_ebi = 5

abbrev pub ordered_qos : Qos
ordered_qos = record { arp = 0x24; qci = 9; mbr_up = 0; mbr_down = 0; gbr_up = 0; gbr_down = 0 }

-- the EBI and the ARP octet of the default bearer, which a live session has
abbrev pub default_ebi : List Bearer → ℕ
default_ebi bearers = unwrap_or (option_map (λ (bearer : ActiveBearer). bearer.ebi) (default_of bearers)) 0

abbrev pub default_arp : List Bearer → ℕ
default_arp bearers = unwrap_or (option_map (λ (bearer : ActiveBearer). bearer.qos.arp) (default_of bearers)) 0

-- what a bearer is asked for with: the ARP is that of the default bearer
abbrev pub qos_asked : List Bearer → ℕ → ℕ → ℕ → ℕ → ℕ → Qos
qos_asked bearers qci mbr_up mbr_down gbr_up gbr_down = record {
  arp = default_arp bearers;
  qci = qci;
  mbr_up = mbr_up;
  mbr_down = mbr_down;
  gbr_up = gbr_up;
  gbr_down = gbr_down;
}

-- a bearer comes where there is an index for it, and filters
abbrev pub with_bearer : SessionState → ℕ → Qos → Option ℕ → Option (List Filter) → SessionState
with_bearer session seq qos (Some index) (Some filters) = changes.with_asked session index seq qos filters
with_bearer session seq qos index filters = session

abbrev pub with_filters : SessionState → ℕ → Option (List Filter) → SessionState
with_filters session ebi None = session
with_filters session ebi (Some filters) = changes.refiltered session ebi filters

abbrev pub with_enb : SessionState → ℕ → ℕ → Option Peer → SessionState
with_enb session seq ebi None = session
with_enb session seq ebi (Some enb) = changes.granted session seq ebi enb

-- what a command leaves of a session, but for the answer that is kept: the rows that aren't named here
-- change nothing
abbrev pub effect : Row → SessionState → CommandKind → SessionState
effect created session (Create seq mme pdn ebi qos enb up down) =
    changes.attached session (Some mme) up down ebi qos enb
effect attached session (Attach enb up down) = changes.attached session None up down ordered_ebi ordered_qos (Some enb)
effect modified session (Modify seq mme asks) = changes.rebound (changes.with_mme session mme) asks
effect released session command = changes.released session
effect deleted session command = changes.detached session
effect asked session (AddBearer seq qci mbr_up mbr_down gbr_up gbr_down tft) =
    with_bearer session seq (qos_asked session.bearers qci mbr_up mbr_down gbr_up gbr_down)
    (least_free session.bearers) (filters_given tft)
effect refiltered session (Filters seq ebi tft) = with_filters session ebi (filters_made session.bearers ebi tft)
effect dropped session (Drop seq ebi) = changes.dropped session ebi
effect rerated session (Ambr seq up down) = changes.rerated session up down
effect granted session (CreateAns seq cause ebi row_cause enb) = with_enb session seq ebi enb
effect denied session (CreateAns seq cause ebi row_cause enb) = changes.denied session seq
effect row session command = session

abbrev pub outcome : Row → Outcome
outcome repeated = Again
outcome pdn_refused = No
outcome class_refused = No
outcome created = Done
outcome attached = Done
outcome no_session = No
outcome no_bearer = No
outcome modified = Done
outcome released = Done
outcome deleted = Done
outcome not_asked = No
outcome asked = Done
outcome not_refiltered = No
outcome refiltered = Done
outcome not_dropped = No
outcome dropped = Done
outcome not_rerated = No
outcome rerated = Done
outcome unasked = No
outcome granted = Done
outcome denied = No
outcome noted = Done

-- the TEID of an MME, 0 where none is kept
abbrev pub teid_of_mme : Option Peer → ℕ
teid_of_mme None = 0
teid_of_mme (Some mme) = mme.teid

-- the answer to a request that is a cause alone, to the MME that is kept
abbrev pub cause_answer : SessionState → Option (ℕ × ℕ) → ℕ → Option Message
cause_answer session request code =
    option_map (λ (r : ℕ × ℕ). cause_alone (teid_of_mme session.mme) r.0 r.1 code) request

-- The message that a row writes, of the session before the command. What an order has for the MME is
-- sent where one is kept.
abbrev pub written : Row → SessionState → CommandKind → Option Message
written pdn_refused session (Create seq mme pdn ebi qos enb up down) =
    Some (cause_alone mme.teid CREATE_SESSION_REQUEST seq PREFERRED_PDN_TYPE_NOT_SUPPORTED)
written class_refused session (Create seq mme pdn ebi qos enb up down) =
    Some (cause_alone mme.teid CREATE_SESSION_REQUEST seq REQUEST_REJECTED)
written created session (Create seq mme pdn ebi qos enb up down) =
    Some (create_session_response session.slot mme.teid seq pdn ebi)
written no_session session command = cause_answer session (request_of command) CONTEXT_NOT_FOUND
written no_bearer session command = cause_answer session (request_of command) CONTEXT_NOT_FOUND
written modified session (Modify seq mme asks) =
    Some (modify_bearer_response session.slot (teid_of_mme (option_or mme session.mme)) seq session.bearers asks)
written released session command = cause_answer session (request_of command) REQUEST_ACCEPTED
written deleted session command = cause_answer session (request_of command) REQUEST_ACCEPTED
written asked session (AddBearer seq qci mbr_up mbr_down gbr_up gbr_down tft) =
    option_map (λ index. create_bearer_request session.slot (teid_of_mme session.mme) seq
    (default_ebi session.bearers) index (tft_spelling tft)
    (qos_asked session.bearers qci mbr_up mbr_down gbr_up gbr_down))
    (least_free session.bearers)
written refiltered session (Filters seq ebi tft) =
    option_map (λ (mme : Peer). update_bearer_request mme.teid seq ebi
    (Some (tft_spelling tft)) session.up session.down) session.mme
written dropped session (Drop seq ebi) = option_map (λ (mme : Peer). delete_bearer_request mme.teid seq ebi) session.mme
written rerated session (Ambr seq up down) =
    option_map (λ (mme : Peer). update_bearer_request mme.teid seq (default_ebi session.bearers) None up down)
    session.mme
written row session command = None

-- the octets of an answer: those that are kept, for a repeat
abbrev pub kept_reply : Option Kept → Option (List ℕ)
kept_reply last = option_map (λ (kept : Kept). kept.reply) last

abbrev pub octets : Row → SessionState → CommandKind → Option (List ℕ)
octets repeated session command = kept_reply session.last
octets row session command = option_map spelling (written row session command)

abbrev pub reply : Row → SessionState → CommandKind → Reply
reply row session command = record { outcome = outcome row; message = octets row session command }

-- an answer to a request is kept, a refusal too; that to a repeat is the one that is kept already
abbrev pub kept_answer : Option (ℕ × ℕ) → Option (List ℕ) → Option Kept
kept_answer (Some request) (Some answer) = Some (record { kind = request.0; seq = request.1; reply = answer })
kept_answer request answer = None

abbrev pub last_answer : Row → SessionState → CommandKind → Option Kept
last_answer repeated session command = session.last
last_answer row session command =
    option_or (kept_answer (request_of command) (octets row session command)) session.last

abbrev pub session_after : Row → SessionState → CommandKind → SessionState
session_after row session command = record (effect row session command) { last = last_answer row session command }

-- what a command leaves of a session, and its reply
abbrev pub controlled : SessionState → CommandKind → SessionState × Reply
controlled session command =
    let row = row_of session command in
    (session_after row session command, reply row session command)
