-- What a row writes fits, whatever the row is.
use Rattle.std.proofs.Common.{ℕ, ◌+◌, ◌<◌, ◌≤◌, ◌^◌, ◌==◌, not, Bool, true, false, cond, List, [], ◌∷◌, ◌++◌, Option, Some, None, IfSome, unwrap_or, refl, arith}
use Rattle.std.specs.List.{AllByRecursion, find, range_with_len}
use Rattle.std.specs.Option.{option_map, option_or, option_and_then}
use Rattle.pc_base.specs.declared.packet.Peer.{Peer}
use Rattle.tft_codec.specs.Spelling.{spelling as tft_spelling}
use Rattle.gtpv2_ie.specs.Validity as elements
use Rattle.gtpv2_msg.specs.declared.kind.TheConstants.{CREATE_SESSION_REQUEST, MODIFY_BEARER_REQUEST, RELEASE_ACCESS_BEARERS_REQUEST, DELETE_SESSION_REQUEST}
use Rattle.gtpv2_ie.specs.Validity.{IsElement}
use Rattle.gtpv2_msg.specs.HasRequired.{HasRequired}
use Rattle.gtpv2_msg.specs.Message.{Message}
use Rattle.gtpv2_msg.specs.Reading.{Spells}
use Rattle.gtpv2_msg.specs.Spelling.{spelling}
use Rattle.gtpv2_msg.specs.Validity.{IsMessage}
use Rattle.bearer_state.specs.declared.bearer.Phase.{Phase}
use Rattle.bearer_state.specs.declared.bearer.Phase.TheVariants.{Asked, Active}
use Rattle.bearer_state.specs.declared.bearer.Bearer.{Bearer}
use Rattle.bearer_state.specs.declared.qos.Qos.{Qos}
use Rattle.bearer_state.specs.declared.version.ActiveBearer.{ActiveBearer}
use Rattle.bearer_state.specs.Bearer.{IsBearer, IsEbi, IsPhase, AreBearers, index_of}
use Rattle.bearer_state.specs.Lookup.{at_index, has_index, least_free, default_of}
use Rattle.bearer_state.specs.Qos.{IsArp, IsQos}
use Rattle.bearer_state.specs.Session.{SessionState, IsSession}
use Rattle.bearer_state.specs.Version.{active_in}
use Rattle.control_steps.specs.declared.command.CommandKind.{CommandKind}
use Rattle.control_steps.specs.declared.command.CommandKind.TheVariants.{Create, Modify, Release, Delete, AddBearer, Filters, Drop, Ambr}
use Rattle.control_steps.specs.Command.{IsCommand, request_of}
use Rattle.control_steps.specs.Messages.{create_bearer_request}
use Rattle.control_steps.specs.ReadBack.{HasTeid, HasNumbers, AreOrderNumbers, HasOwnNumbers, ReadsBack}
use Rattle.control_steps.specs.Row.{Row, pdn_refused, class_refused, created, no_session, no_bearer, modified, released, deleted, asked, refiltered, dropped, rerated}
use Rattle.control_steps.specs.Table.{default_ebi, qos_asked, teid_of_mme, cause_answer, written}
use Rattle.control_steps.proofs.ElementLemmas.{ebi_fits, template_fits}
use Rattle.control_steps.proofs.WrittenLemmas.{Fits, create_asks, modify_asks, release_asks, delete_asks, cause_alone_is, create_session_response_is, modify_bearer_response_is, create_bearer_request_is, update_bearer_request_is, delete_bearer_request_is}

-- a session and a command in their ranges
pub record AreInRange (session : SessionState) (command : CommandKind) : Type 0 where
  pub numbers : HasNumbers session
  pub session_fits : IsSession session
  pub bearers : AreBearers session.bearers
  pub command_fits : IsCommand command
  pub own_numbers : HasOwnNumbers command

teid_fits : (mme : Option Peer) → IfSome mme HasTeid → teid_of_mme mme < 2 ^ 32
teid_fits None fits = omega arith
teid_fits (Some mme) fits = fits

either_fits : (given kept : Option Peer) → IfSome given HasTeid → IfSome kept HasTeid
    → IfSome (option_or given kept) HasTeid
either_fits None kept fits other = other
either_fits (Some mme) kept fits other = fits

sent : (message : Peer → Message) → ((mme : Peer) → HasTeid mme → Fits (message mme)) → (mme : Option Peer)
    → IfSome mme HasTeid → IfSome (option_map message mme) Fits
sent message fits None has = tt
sent message fits (Some mme) has = fits mme has

-- the default bearer, where there is one
found_if : {X : Type 0} (P : X → Type 0) (passes : Bool) (x : X) (rest : Option X) → P x → IfSome rest P
    → IfSome (cond passes (Some x) rest) P
found_if P true x rest holds other = holds
found_if P false x rest holds other = other

found : {X : Type 0} (P : X → Type 0) (test : X → Bool) (xs : List X) → AllByRecursion P xs → IfSome (find test xs) P
found P test [] each = tt
found P test (x ∷ xs) each = found_if P (test x) x (find test xs) each.0 (found P test xs each.1)

record IsDefault (bearer : ActiveBearer) : Type 0 where
  ebi : IsEbi bearer.ebi
  qos : IsQos bearer.qos

active_fits : (bearer : Bearer) (phase : Phase) → IsPhase phase → IsQos bearer.qos
    → IfSome (active_in bearer phase) IsDefault
active_fits bearer (Asked seq) fits qos = tt
active_fits bearer (Active ebi) fits qos = record { ebi = fits; qos = qos }

default_in : (bearer : Option Bearer) → IfSome bearer IsBearer
    → IfSome (option_and_then (λ (b : Bearer). active_in b b.phase) bearer) IsDefault
default_in None is = tt
default_in (Some b) is = active_fits b b.phase is.phase is.qos

default_fits : (bearers : List Bearer) → AllByRecursion IsBearer bearers → IfSome (default_of bearers) IsDefault
default_fits bearers each =
    default_in (at_index bearers 0) (found IsBearer (λ (b : Bearer). index_of b == 0) bearers each)

ebi_of : (bearer : Option ActiveBearer) → IfSome bearer IsDefault
    → elements.IsEbi (unwrap_or (option_map (λ (b : ActiveBearer). b.ebi) bearer) 0)
ebi_of None is = record { four_bits = omega arith; assigned = λ more. absurd (omega arith) }
ebi_of (Some b) is = ebi_fits b.ebi is.ebi

arp_of : (bearer : Option ActiveBearer) → IfSome bearer IsDefault
    → IsArp (unwrap_or (option_map (λ (b : ActiveBearer). b.qos.arp) bearer) 0)
arp_of None is = record { bit_8 = omega arith; bit_2 = refl }
arp_of (Some b) is = is.qos.arp

asked_qos_fits : (bearers : List Bearer) (qci mbr_up mbr_down gbr_up gbr_down : ℕ) → AllByRecursion IsBearer bearers
    → AreOrderNumbers qci mbr_up mbr_down gbr_up gbr_down
    → IsQos (qos_asked bearers qci mbr_up mbr_down gbr_up gbr_down)
asked_qos_fits bearers qci mbr_up mbr_down gbr_up gbr_down each are = record {
  arp = arp_of (default_of bearers) (default_fits bearers each);
  qci = are.class_fits;
  mbr_up = are.mbr_up_fits;
  mbr_down = are.mbr_down_fits;
  gbr_up = are.gbr_up_fits;
  gbr_down = are.gbr_down_fits;
}

-- the index of a new bearer
pub few_indices : AllByRecursion (λ index. index ≤ 10) (range_with_len 0 11)
few_indices = (
  omega arith,
  (
    omega arith,
    (
      omega arith,
      (
        omega arith,
        (
          omega arith,
          (
            omega arith,
            (
              omega arith,
              (omega arith, (omega arith, (omega arith, (omega arith, tt)))),
            ),
          ),
        ),
      ),
    ),
  ),
)

index_fits : (bearers : List Bearer) → IfSome (least_free bearers) (λ index. index ≤ 10)
index_fits bearers =
    found (λ index. index ≤ 10) (λ index. not (has_index bearers index)) (range_with_len 0 11) few_indices

asked_message : (message : ℕ → Message) → ((index : ℕ) → index ≤ 10 → Fits (message index)) → (index : Option ℕ)
    → IfSome index (λ i. i ≤ 10) → IfSome (option_map message index) Fits
asked_message message fits None has = tt
asked_message message fits (Some index) has = fits index has

-- an answer that is a cause alone
cause_answer_fits : (session : SessionState) (command : CommandKind) (code : ℕ) → AreInRange session command
    → code < 2 ^ 8
    → IfSome (cause_answer session (request_of command) code) Fits
cause_answer_fits session (Create seq mme pdn ebi qos enb up down) code are code_fits =
    cause_alone_is (teid_of_mme session.mme) CREATE_SESSION_REQUEST seq code
    (teid_fits session.mme are.numbers.mme) create_asks are.command_fits.seq_fits code_fits
cause_answer_fits session (Modify seq mme asks) code are code_fits =
    cause_alone_is (teid_of_mme session.mme) MODIFY_BEARER_REQUEST seq code
    (teid_fits session.mme are.numbers.mme) modify_asks are.command_fits.0 code_fits
cause_answer_fits session (Release seq) code are code_fits =
    cause_alone_is (teid_of_mme session.mme) RELEASE_ACCESS_BEARERS_REQUEST seq code
    (teid_fits session.mme are.numbers.mme) release_asks are.command_fits code_fits
cause_answer_fits session (Delete seq) code are code_fits =
    cause_alone_is (teid_of_mme session.mme) DELETE_SESSION_REQUEST seq code
    (teid_fits session.mme are.numbers.mme) delete_asks are.command_fits code_fits
cause_answer_fits session command code are code_fits = tt

pub written_fits : (row : Row) (session : SessionState) (command : CommandKind) → AreInRange session command
    → IfSome (written row session command) Fits
written_fits pdn_refused session (Create seq mme pdn ebi qos enb up down) are =
    cause_alone_is mme.teid CREATE_SESSION_REQUEST seq 83 are.own_numbers create_asks are.command_fits.seq_fits
    (omega arith)
written_fits class_refused session (Create seq mme pdn ebi qos enb up down) are =
    cause_alone_is mme.teid CREATE_SESSION_REQUEST seq 94 are.own_numbers create_asks are.command_fits.seq_fits
    (omega arith)
written_fits created session (Create seq mme pdn ebi qos enb up down) are =
    create_session_response_is session.slot mme.teid seq pdn ebi are.numbers.slot are.own_numbers
    are.command_fits.seq_fits are.command_fits.ebi_fits
written_fits no_session session command are = cause_answer_fits session command 64 are (omega arith)
written_fits no_bearer session command are = cause_answer_fits session command 64 are (omega arith)
written_fits modified session (Modify seq mme asks) are =
    modify_bearer_response_is session.slot (teid_of_mme (option_or mme session.mme)) seq session.bearers asks
    are.numbers.slot
    (teid_fits (option_or mme session.mme) (either_fits mme session.mme are.own_numbers are.numbers.mme))
    are.command_fits.0 are.bearers.each are.command_fits.1
written_fits released session command are = cause_answer_fits session command 16 are (omega arith)
written_fits deleted session command are = cause_answer_fits session command 16 are (omega arith)
written_fits asked session (AddBearer seq qci mbr_up mbr_down gbr_up gbr_down tft) are =
    let qos : Qos = qos_asked session.bearers qci mbr_up mbr_down gbr_up gbr_down in
    asked_message (λ index. create_bearer_request session.slot (teid_of_mme session.mme) seq
    (default_ebi session.bearers) index (tft_spelling tft) qos)
    (λ index in_range. create_bearer_request_is session.slot (teid_of_mme session.mme) seq
    (default_ebi session.bearers) index (tft_spelling tft) qos are.numbers.slot
    (teid_fits session.mme are.numbers.mme) are.command_fits
    (ebi_of (default_of session.bearers) (default_fits session.bearers are.bearers.each)) in_range
    (template_fits tft are.own_numbers.1) (asked_qos_fits session.bearers qci mbr_up mbr_down gbr_up gbr_down
    are.bearers.each are.own_numbers.0))
    (least_free session.bearers) (index_fits session.bearers)
written_fits refiltered session (Filters seq ebi tft) are =
    sent _ (λ mme has. update_bearer_request_is mme.teid seq ebi
    (Some (tft_spelling tft)) session.up session.down has are.command_fits.0 (ebi_fits ebi are.command_fits.1)
    (template_fits tft are.own_numbers) are.session_fits.up are.session_fits.down) session.mme are.numbers.mme
written_fits dropped session (Drop seq ebi) are =
    sent _ (λ mme has. delete_bearer_request_is mme.teid seq ebi has are.command_fits.0 are.command_fits.1)
    session.mme are.numbers.mme
written_fits rerated session (Ambr seq up down) are =
    sent _ (λ mme has. update_bearer_request_is mme.teid seq
    (default_ebi session.bearers) None up down has are.command_fits.0
    (ebi_of (default_of session.bearers) (default_fits session.bearers are.bearers.each)) tt
    are.command_fits.1.up_fits are.command_fits.1.down_fits) session.mme are.numbers.mme
written_fits row session command are = tt

-- so it reads back
pub read_back : ((message : Message) (more : List ℕ) → IsMessage message → AllByRecursion IsElement message.ies
    → HasRequired message
    → Spells (spelling message ++ more) message) → (message : Option Message) → IfSome message Fits
    → IfSome message ReadsBack
read_back law None fits = tt
read_back law (Some message) fits = λ more. law message more fits.message_fits fits.elements_fit fits.has_required
