-- A session whose commands are in range is in range, and so are the octets of its answers.
use Rattle.std.proofs.Common.{ℕ, ◌==◌, nat_lt, Bool, true, false, if◌then◌else◌, Option, None, Some, IfSome, List, [], ◌∷◌, map, find, arith}
use Rattle.std.specs.List.{AllByRecursion, cons_option, filter_map}
use Rattle.std.specs.Option.{option_and_then, option_map, option_or, unwrap_or}
use Rattle.std.proofs.lemmas.List.Elements.{recursion_from_All}
use Rattle.bearer_state.specs.Ask.{ask_for}
use Rattle.bearer_state.specs.Bearer.{index_of, is_active, is_asked}
use Rattle.bearer_state.specs.Changes as changes
use Rattle.bearer_state.specs.Lookup.{active_index, at_index, default_of, is_dedicated, least_free}
use Rattle.bearer_state.specs.Session.{SessionState}
use Rattle.bearer_state.specs.Version.{active_in}
use Rattle.bearer_state.specs.declared.ask.Ask.{Ask}
use Rattle.bearer_state.specs.declared.bearer.Bearer.{Bearer}
use Rattle.bearer_state.specs.declared.bearer.Phase.{Phase}
use Rattle.bearer_state.specs.declared.bearer.Phase.TheVariants.{Asked, Active}
use Rattle.bearer_state.specs.declared.kept.Kept.{Kept}
use Rattle.bearer_state.specs.declared.qos.Qos.{Qos}
use Rattle.bearer_state.specs.declared.version.ActiveBearer.{ActiveBearer}
use Rattle.control_steps.specs.Command.{request_of}
use Rattle.control_steps.specs.Messages.{accepted, ask_accepted, create_bearer_request, delete_bearer_request, pdn_cause, update_bearer_request}
use Rattle.control_steps.specs.Row.{Row, repeated, pdn_refused, class_refused, created, attached, no_session, no_bearer, modified, released, deleted, asked, refiltered, dropped, rerated, granted, denied, filters_given, filters_made}
use Rattle.control_steps.specs.Table.{cause_answer, default_arp, default_ebi, effect, kept_answer, kept_reply, last_answer, octets, qos_asked, session_after, teid_of_mme, with_bearer, with_enb, with_filters, written}
use Rattle.control_steps.specs.declared.cause.TheConstants.{REQUEST_ACCEPTED, NEW_PDN_TYPE, CONTEXT_NOT_FOUND}
use Rattle.control_steps.specs.declared.command.CommandKind.{CommandKind}
use Rattle.control_steps.specs.declared.command.CommandKind.TheVariants.{Attach, Create, Modify, Release, Delete, AddBearer, Filters, Drop, Ambr, CreateAns}
use Rattle.gtpv2_msg.specs.Message.{Message}
use Rattle.gtpv2_msg.specs.Spelling.{spelling}
use Rattle.pc_base.specs.declared.packet.Peer.{Peer}
use Rattle.tft_codec.specs.declared.filter.Filter.{Filter}
use Rattle.tft_codec.specs.Spelling.{spelling as tft_spelling}
use Rattle.demux.specs.Ranges.{HasAddress, IsAskInRange, IsCommandInRange, IsOctet}
use Rattle.demux.proofs.MessagesSmall.{ElementIn, message_small}
use Rattle.lawful_run.specs.Ranges.{BearerIn, PhaseIn, SessionIn}
use Rattle.demux.proofs.Small.{Small, template_small}

-- lists of bearers
mapped : (change : Bearer → Bearer) → ((b : Bearer) → BearerIn b → BearerIn (change b)) → (bearers : List Bearer)
    → AllByRecursion BearerIn bearers → AllByRecursion BearerIn (map change bearers)
mapped change step [] all = tt
mapped change step (b ∷ bearers) all = (step b all.0, mapped change step bearers all.1)

by_test : (test : Bool) (one other : List Bearer) → AllByRecursion BearerIn one → AllByRecursion BearerIn other
    → AllByRecursion BearerIn (if test then one else other)
by_test true one other first second = first
by_test false one other first second = second

first_changed : (test : Bearer → Bool) (change : Bearer → Bearer) → ((b : Bearer) → BearerIn b → BearerIn (change b))
    → (bearers : List Bearer) → AllByRecursion BearerIn bearers
    → AllByRecursion BearerIn (changes.with_first test change bearers)
first_changed test change step [] all = tt
first_changed test change step (b ∷ bearers) all =
    by_test (test b) (change b ∷ bearers) (b ∷ changes.with_first test change bearers) (step b all.0, all.1)
    (all.0, first_changed test change step bearers all.1)

first_gone : (test : Bearer → Bool) (bearers : List Bearer) → AllByRecursion BearerIn bearers
    → AllByRecursion BearerIn (changes.without_first test bearers)
first_gone test [] all = tt
first_gone test (b ∷ bearers) all =
    by_test (test b) bearers (b ∷ changes.without_first test bearers) all.1 (all.0, first_gone test bearers all.1)

one_placed : (new : Bearer) (bearers : List Bearer) → BearerIn new → AllByRecursion BearerIn bearers
    → AllByRecursion BearerIn (changes.placed new bearers)
one_placed new [] is all = (is, tt)
one_placed new (b ∷ bearers) is all =
    by_test (nat_lt (index_of new) (index_of b)) (new ∷ b ∷ bearers) (b ∷ changes.placed new bearers) (is, all)
    (all.0, one_placed new bearers is all.1)

-- eNodeBs of asks
ask_found : (asks : List Ask) (ebi : ℕ) → AllByRecursion IsAskInRange asks
    → IfSome (option_and_then (λ (ask : Ask). ask.enb) (ask_for asks ebi)) HasAddress
ask_found [] ebi all = tt
ask_found (ask ∷ asks) ebi all = by_ask (ask.ebi == ebi) (ask_found asks ebi all.1)
  where
    by_ask : (test : Bool) → IfSome (option_and_then (λ (a : Ask). a.enb) (ask_for asks ebi)) HasAddress
        → IfSome (option_and_then (λ (a : Ask). a.enb) (if test then Some ask else ask_for asks ebi)) HasAddress
    by_ask true rest = all.0.1
    by_ask false rest = rest

or_kept : (one other : Option Peer) → IfSome one HasAddress → IfSome other HasAddress
    → IfSome (option_or one other) HasAddress
or_kept None other first second = second
or_kept (Some peer) other first second = first

enb_asked : (asks : List Ask) (phase : Phase) → AllByRecursion IsAskInRange asks
    → IfSome (changes.enb_asked asks phase) HasAddress
enb_asked asks (Asked seq) all = tt
enb_asked asks (Active ebi) all = ask_found asks ebi all

rebound_in : (asks : List Ask) → AllByRecursion IsAskInRange asks → (b : Bearer) → BearerIn b
    → BearerIn (changes.rebound_bearer asks b)
rebound_in asks all b is = record {
  phase = is.phase;
  arp = is.arp;
  qci = is.qci;
  enb = or_kept (changes.enb_asked asks b.phase) b.enb (enb_asked asks b.phase all) is.enb;
}

-- the default bearer
found_in : (test : Bearer → Bool) (bearers : List Bearer) → AllByRecursion BearerIn bearers
    → IfSome (find test bearers) BearerIn
found_in test [] all = tt
found_in test (b ∷ bearers) all = by_bearer (test b) (found_in test bearers all.1)
  where
    by_bearer : (passes : Bool) → IfSome (find test bearers) BearerIn → IfSome (if passes then Some b else find test bearers) BearerIn
    by_bearer true rest = all.0
    by_bearer false rest = rest

abbrev DefaultIn : ActiveBearer → Type 0
DefaultIn b = IsOctet b.ebi × IsOctet b.qos.arp

active_in_range : (b : Bearer) (phase : Phase) → PhaseIn phase → IsOctet b.qos.arp → IfSome (active_in b phase) DefaultIn
active_in_range b (Asked seq) is arp = tt
active_in_range b (Active ebi) is arp = (is, arp)

default_found : (found : Option Bearer) → IfSome found BearerIn
    → IfSome (option_and_then (λ (b : Bearer). active_in b b.phase) found) DefaultIn
default_found None is = tt
default_found (Some b) is = active_in_range b b.phase is.phase is.arp

default_parts : (found : Option ActiveBearer) → IfSome found DefaultIn
    → IsOctet (unwrap_or (option_map (λ (b : ActiveBearer). b.ebi) found) 0)
    × IsOctet (unwrap_or (option_map (λ (b : ActiveBearer). b.qos.arp) found) 0)
default_parts None is = (omega arith, omega arith)
default_parts (Some b) is = is

default_in : (bearers : List Bearer) → AllByRecursion BearerIn bearers
    → IsOctet (default_ebi bearers) × IsOctet (default_arp bearers)
default_in bearers all =
    default_parts (default_of bearers) (default_found (at_index bearers 0)
    (found_in (λ (bearer : Bearer). index_of bearer == 0) bearers all))

-- what a command leaves
bearer_comes : (session : SessionState) (seq : ℕ) (qos : Qos) (index : Option ℕ) (filters : Option (List Filter))
    → AllByRecursion BearerIn session.bearers → IsOctet qos.arp → IsOctet qos.qci
    → AllByRecursion BearerIn (with_bearer session seq qos index filters).bearers
bearer_comes session seq qos (Some index) (Some filters) all arp qci =
    one_placed (changes.asked_bearer session.lives index seq qos filters) session.bearers
    (record { phase = tt; arp = arp; qci = qci; enb = tt }) all
bearer_comes session seq qos (Some index) None all arp qci = all
bearer_comes session seq qos None filters all arp qci = all

filters_change : (session : SessionState) (ebi : ℕ) (filters : Option (List Filter))
    → AllByRecursion BearerIn session.bearers → AllByRecursion BearerIn (with_filters session ebi filters).bearers
filters_change session ebi None all = all
filters_change session ebi (Some filters) all =
    first_changed (is_active ebi) (changes.filtered filters)
    (λ b is. record { phase = is.phase; arp = is.arp; qci = is.qci; enb = is.enb }) session.bearers all

enb_comes : (session : SessionState) (seq ebi : ℕ) (enb : Option Peer) → AllByRecursion BearerIn session.bearers
    → IsOctet ebi → IfSome enb HasAddress → AllByRecursion BearerIn (with_enb session seq ebi enb).bearers
enb_comes session seq ebi None all own is = all
enb_comes session seq ebi (Some enb) all own is =
    first_changed (is_asked seq) (changes.granted_bearer ebi enb)
    (λ b now. record { phase = own; arp = now.arp; qci = now.qci; enb = is }) session.bearers all

effect_in : (row : Row) (session : SessionState) (command : CommandKind) → AllByRecursion BearerIn session.bearers
    → IsCommandInRange command → AllByRecursion BearerIn (effect row session command).bearers
effect_in created session (Create seq mme pdn ebi qos enb up down) all is =
    (record { phase = is.0; arp = is.1; qci = is.2; enb = is.3 }, tt)
effect_in attached session (Attach enb up down) all is =
    (record { phase = omega arith; arp = omega arith; qci = omega arith; enb = is }, tt)
effect_in modified session (Modify seq mme asks) all is =
    mapped (changes.rebound_bearer asks) (rebound_in asks (recursion_from_All IsAskInRange asks is)) session.bearers all
effect_in released session command all is =
    mapped changes.unbound (λ b now. record { phase = now.phase; arp = now.arp; qci = now.qci; enb = tt })
    session.bearers all
effect_in deleted session command all is = tt
effect_in asked session (AddBearer seq qci mbr_up mbr_down gbr_up gbr_down tft) all is =
    bearer_comes session seq (qos_asked session.bearers qci mbr_up mbr_down gbr_up gbr_down)
    (least_free session.bearers) (filters_given tft) all (default_in session.bearers all).1 is.0
effect_in refiltered session (Filters seq ebi tft) all is =
    filters_change session ebi (filters_made session.bearers ebi tft) all
effect_in dropped session (Drop seq ebi) all is = first_gone (is_dedicated ebi) session.bearers all
effect_in rerated session (Ambr seq up down) all is = all
effect_in granted session (CreateAns seq cause ebi row_cause enb) all is =
    enb_comes session seq ebi enb all is.0 is.1
effect_in denied session (CreateAns seq cause ebi row_cause enb) all is =
    first_gone (is_asked seq) session.bearers all
effect_in row session command all is = all

-- what is written
pub record MessageIn (message : Message) : Type 0 where
  pub kind : IsOctet message.kind
  pub each : AllByRecursion ElementIn message.ies

cause_in : (session : SessionState) (command : CommandKind) (code : ℕ) → IsOctet code
    → IfSome (cause_answer session (request_of command) code) MessageIn
cause_in session (Create seq mme pdn ebi qos enb up down) code is =
    record { kind = omega arith; each = ((omega arith, (is, tt)), tt) }
cause_in session (Modify seq mme asks) code is = record { kind = omega arith; each = ((omega arith, (is, tt)), tt) }
cause_in session (Release seq) code is = record { kind = omega arith; each = ((omega arith, (is, tt)), tt) }
cause_in session (Delete seq) code is = record { kind = omega arith; each = ((omega arith, (is, tt)), tt) }
cause_in session command code is = tt

accepted_in : (slot ebi index : ℕ) → IsOctet ebi → ElementIn (accepted slot ebi index)
accepted_in slot ebi index is = (
  omega arith,
  record {
    ebi = is;
    cause = (omega arith, tt);
    tft = tt;
    fteids = ((omega arith, omega arith), tt);
    qos = tt;
  },
)

pdn_in : (pdn : ℕ) → IsOctet (pdn_cause pdn)
pdn_in pdn = by_pdn (pdn == 3)
  where
    by_pdn : (test : Bool) → IsOctet (if test then NEW_PDN_TYPE else REQUEST_ACCEPTED)
    by_pdn true = omega arith
    by_pdn false = omega arith

asks_in : (slot : ℕ) (bearers : List Bearer) (asks : List Ask) → AllByRecursion IsAskInRange asks
    → AllByRecursion ElementIn (filter_map (ask_accepted slot bearers) asks)
asks_in slot bearers [] all = tt
asks_in slot bearers (ask ∷ asks) all = by_index (active_index bearers ask.ebi) (asks_in slot bearers asks all.1)
  where
    by_index : (index : Option ℕ) → AllByRecursion ElementIn (filter_map (ask_accepted slot bearers) asks)
        → AllByRecursion ElementIn
        (cons_option (option_map (accepted slot ask.ebi) index) (filter_map (ask_accepted slot bearers) asks))
    by_index None rest = rest
    by_index (Some index) rest = (accepted_in slot ask.ebi index all.0.0, rest)

written_in : (row : Row) (session : SessionState) (command : CommandKind) → AllByRecursion BearerIn session.bearers
    → IsCommandInRange command → IfSome (written row session command) MessageIn
written_in pdn_refused session (Create seq mme pdn ebi qos enb up down) all is =
    record { kind = omega arith; each = ((omega arith, (omega arith, tt)), tt) }
written_in class_refused session (Create seq mme pdn ebi qos enb up down) all is =
    record { kind = omega arith; each = ((omega arith, (omega arith, tt)), tt) }
written_in created session (Create seq mme pdn ebi qos enb up down) all is = record {
  kind = omega arith;
  each = (
    (omega arith, (pdn_in pdn, tt)),
    ((omega arith, omega arith), ((omega arith, tt), (accepted_in session.slot ebi 0 is.0, tt))),
  );
}
written_in no_session session command all is = cause_in session command CONTEXT_NOT_FOUND (omega arith)
written_in no_bearer session command all is = cause_in session command CONTEXT_NOT_FOUND (omega arith)
written_in modified session (Modify seq mme asks) all is = record {
  kind = omega arith;
  each = (
    (omega arith, (omega arith, tt)),
    asks_in session.slot session.bearers asks (recursion_from_All IsAskInRange asks is),
  );
}
written_in released session command all is = cause_in session command REQUEST_ACCEPTED (omega arith)
written_in deleted session command all is = cause_in session command REQUEST_ACCEPTED (omega arith)
written_in asked session (AddBearer seq qci mbr_up mbr_down gbr_up gbr_down tft) all is =
    by_index (least_free session.bearers)
  where
    by_index : (index : Option ℕ) → IfSome (option_map (λ i. create_bearer_request session.slot
        (teid_of_mme session.mme) seq (default_ebi session.bearers) i (tft_spelling tft)
        (qos_asked session.bearers qci mbr_up mbr_down gbr_up gbr_down)) index) MessageIn
    by_index None = tt
    by_index (Some index) = record {
      kind = omega arith;
      each = (
        (omega arith, (default_in session.bearers all).0),
        (
          (
            omega arith,
            record {
              ebi = omega arith;
              cause = tt;
              tft = template_small tft is.1;
              fteids = ((omega arith, omega arith), tt);
              qos = ((default_in session.bearers all).1, is.0);
            },
          ),
          tt,
        ),
      );
    }
written_in refiltered session (Filters seq ebi tft) all is = by_mme session.mme
  where
    by_mme : (mme : Option Peer) → IfSome (option_map (λ (m : Peer). update_bearer_request m.teid seq ebi
        (Some (tft_spelling tft)) session.up session.down) mme) MessageIn
    by_mme None = tt
    by_mme (Some mme) = record {
      kind = omega arith;
      each = (
        (omega arith, record { ebi = is.0; cause = tt; tft = template_small tft is.1; fteids = tt; qos = tt }),
        ((omega arith, tt), tt),
      );
    }
written_in dropped session (Drop seq ebi) all is = by_mme session.mme
  where
    by_mme : (mme : Option Peer)
        → IfSome (option_map (λ (m : Peer). delete_bearer_request m.teid seq ebi) mme) MessageIn
    by_mme None = tt
    by_mme (Some mme) = record { kind = omega arith; each = ((omega arith, is), tt) }
written_in rerated session (Ambr seq up down) all is = by_mme session.mme
  where
    by_mme : (mme : Option Peer) → IfSome (option_map (λ (m : Peer). update_bearer_request m.teid seq
        (default_ebi session.bearers) None up down) mme) MessageIn
    by_mme None = tt
    by_mme (Some mme) = record {
      kind = omega arith;
      each = (
        (
          omega arith,
          record { ebi = (default_in session.bearers all).0; cause = tt; tft = tt; fteids = tt; qos = tt },
        ),
        ((omega arith, tt), tt),
      );
    }
written_in row session command all is = tt

spelled : (message : Option Message) → IfSome message MessageIn → IfSome (option_map spelling message) Small
spelled None is = tt
spelled (Some message) is = message_small message is.kind is.each

kept_small : (last : Option Kept) → IfSome last (λ (kept : Kept). Small kept.reply) → IfSome (kept_reply last) Small
kept_small None is = tt
kept_small (Some kept) is = is

pub reply_small : (row : Row) (session : SessionState) (command : CommandKind) → SessionIn session
    → IsCommandInRange command → IfSome (octets row session command) Small
reply_small repeated session command is own = kept_small session.last is.last
reply_small row session command is own =
    spelled (written row session command) (written_in row session command is.bearers own)

answer_small : (request : Option (ℕ × ℕ)) (answer : Option (List ℕ)) (last : Option Kept) → IfSome answer Small
    → IfSome last (λ (kept : Kept). Small kept.reply)
    → IfSome (option_or (kept_answer request answer) last) (λ (kept : Kept). Small kept.reply)
answer_small None answer last is kept = kept
answer_small (Some request) None last is kept = kept
answer_small (Some request) (Some answer) last is kept = is

last_small : (row : Row) (session : SessionState) (command : CommandKind) → SessionIn session
    → IsCommandInRange command → IfSome (last_answer row session command) (λ (kept : Kept). Small kept.reply)
last_small repeated session command is own = is.last
last_small row session command is own =
    answer_small (request_of command) (option_map spelling (written row session command)) session.last
    (spelled (written row session command) (written_in row session command is.bearers own)) is.last

pub session_in : (row : Row) (session : SessionState) (command : CommandKind) → SessionIn session
    → IsCommandInRange command → SessionIn (session_after row session command)
session_in row session command is own = record {
  bearers = effect_in row session command is.bearers own;
  last = last_small row session command is own;
}
