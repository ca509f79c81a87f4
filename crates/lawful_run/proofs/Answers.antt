-- A kept answer is short, where requests ask of few bearers.
use Rattle.std.proofs.Common.{◌≡◌, ℕ, ◌+◌, ◌*◌, ◌<◌, ◌≤◌, ◌^◌, ◌||◌, Bool, true, false, Option, Some, None, List, [], ◌∷◌, ◌++◌, length, fold, eqb, arith, length-append}
use Rattle.std.specs.Prelude.{IfSome}
use Rattle.std.specs.List.{AllByRecursion, cons_option, filter_map, list_any, IsDistinct}
use Rattle.std.specs.Option.{option_map, option_or}
use Rattle.std.proofs.lemmas.Bool.{eqb-true}
use Rattle.std.proofs.lemmas.List.{length-map}
use Rattle.std.proofs.lemmas.List.Elements.{recursion_from_All}
use Rattle.std.proofs.lemmas.Map.Steps.{length-le_from_distinct_below}
use Rattle.gtpv2_ie.specs.Element.{Element}
use Rattle.gtpv2_ie.specs.Spelling as ie
use Rattle.gtpv2_msg.specs.Message.{Message}
use Rattle.gtpv2_msg.specs.declared.kind.TheConstants.{CREATE_SESSION_REQUEST}
use Rattle.gtpv2_msg.specs.Spelling.{header_octets, spelling}
use Rattle.bearer_state.specs.Lookup.{active_index}
use Rattle.bearer_state.specs.Session.{SessionState}
use Rattle.bearer_state.specs.declared.ask.Ask.{Ask}
use Rattle.bearer_state.specs.declared.bearer.Bearer.{Bearer}
use Rattle.bearer_state.specs.declared.kept.Kept.{Kept}
use Rattle.control_steps.specs.Command.{request_of}
use Rattle.control_steps.specs.Messages.{accepted, ask_accepted, cause_alone, create_session_response, modify_bearer_response}
use Rattle.control_steps.specs.Row.{Row, repeated, pdn_refused, class_refused, created, no_session, no_bearer, modified, released, deleted, asked, refiltered, dropped, rerated, row_of}
use Rattle.control_steps.specs.Table.{cause_answer, kept_answer, last_answer, written, teid_of_mme}
use Rattle.control_steps.specs.declared.cause.TheConstants.{REQUEST_ACCEPTED, CONTEXT_NOT_FOUND, PREFERRED_PDN_TYPE_NOT_SUPPORTED, REQUEST_REJECTED}
use Rattle.control_steps.specs.declared.command.CommandKind.{CommandKind}
use Rattle.control_steps.specs.declared.command.CommandKind.TheVariants.{AddBearer, Ambr, Create, Drop, Filters, Modify}
use Rattle.gate_model.specs.SlotPast.{SlotPast, behind, commanded, happens, met, new_slot}
use Rattle.gate_model.specs.declared.event.Event.{Event}
use Rattle.gate_model.specs.declared.event.Event.TheVariants as event
use Rattle.demux.specs.Ranges.{IsAskInRange, IsCommandInRange}
use Rattle.lawful_run.specs.RangeLaws.{AnswersAreShort}
use Rattle.lawful_run.specs.Ranges.{AsksOnce, EventAsksOnce, EventIn, IsShortAnswer, ebis}

-- bearers that are asked of once have as many EBIs as an octet has values, at most
below : (asks : List Ask) → AllByRecursion IsAskInRange asks → (q : ℕ) → list_any (eqb q) (ebis asks) ≡ true → q < 256
below [] all q is = absurd (cc is)
below (ask ∷ asks) all q is = by_first (eqb q ask.ebi) (λ same. at_first (eqb-true q ask.ebi same)) (below asks all.1 q) is
  where
    at_first : q ≡ ask.ebi → q < 256
    at_first same = let most = all.0.0 in omega (arith, same)

    by_first : (here : Bool) → (here ≡ true → q < 256) → (list_any (eqb q) (ebis asks) ≡ true → q < 256)
        → (here || list_any (eqb q) (ebis asks)) ≡ true → q < 256
    by_first true first rest now = first now
    by_first false first rest now = rest now

few_asks : (asks : List Ask) → AllByRecursion IsAskInRange asks → IsDistinct eqb (ebis asks) → length asks ≤ 256
few_asks asks all apart =
    omega (
      arith,
      length-le_from_distinct_below (ebis asks) 256 apart (below asks all),
      length-map asks (λ (ask : Ask). ask.ebi),
    )

-- how long answers are
abbrev IsShort : List ℕ → Type 0
IsShort octets = length octets < 2 ^ 16

headed : (kind : ℕ) (teid : Option ℕ) (seq len : ℕ) (ies : List ℕ)
    → length (header_octets kind teid seq len ++ ies) ≤ 12 + length ies
headed kind None seq len ies = omega arith
headed kind (Some teid) seq len ies = omega arith

spelled : (message : Message) → length (spelling message) ≤ 12 + length (ie.spellings message.ies)
spelled message = headed message.kind message.teid message.seq _ (ie.spellings message.ies)

cause_short : (teid request seq code : ℕ) → IsShort (spelling (cause_alone teid request seq code))
cause_short teid request seq code = omega (arith, spelled (cause_alone teid request seq code))

created_short : (slot teid seq pdn ebi : ℕ) → IsShort (spelling (create_session_response slot teid seq pdn ebi))
created_short slot teid seq pdn ebi = omega (arith, spelled (create_session_response slot teid seq pdn ebi))

accepted_len : (slot ebi index : ℕ) → length (ie.spelling (accepted slot ebi index)) ≤ 28
accepted_len slot ebi index = omega arith

one_more : (slot : ℕ) (ask : Ask) (index : Option ℕ) (rest : List Element)
    → length (ie.spellings (cons_option (option_map (accepted slot ask.ebi) index) rest))
    ≤ 28 + length (ie.spellings rest)
one_more slot ask None rest = omega arith
one_more slot ask (Some index) rest =
    omega (
      arith,
      length-append (ie.spelling (accepted slot ask.ebi index)) (ie.spellings rest),
      accepted_len slot ask.ebi index,
    )

contexts_len : (slot : ℕ) (bearers : List Bearer) (asks : List Ask)
    → length (ie.spellings (filter_map (ask_accepted slot bearers) asks)) ≤ 28 * length asks
contexts_len slot bearers [] = omega arith
contexts_len slot bearers (ask ∷ asks) =
    omega (
      arith,
      one_more slot ask (active_index bearers ask.ebi) (filter_map (ask_accepted slot bearers) asks),
      contexts_len slot bearers asks,
    )

modified_short : (slot teid seq : ℕ) (bearers : List Bearer) (asks : List Ask) → length asks ≤ 256
    → IsShort (spelling (modify_bearer_response slot teid seq bearers asks))
modified_short slot teid seq bearers asks few =
    omega (
      arith,
      few,
      spelled (modify_bearer_response slot teid seq bearers asks),
      contexts_len slot bearers asks,
    )

-- the answer to a request
abbrev Answered : Option (ℕ × ℕ) → Option (List ℕ) → Type 0
Answered request answer = IfSome request (λ _. IfSome answer IsShort)

caused : (session : SessionState) (request : Option (ℕ × ℕ)) (code : ℕ)
    → Answered request (option_map spelling (cause_answer session request code))
caused session None code = tt
caused session (Some request) code = cause_short (teid_of_mme session.mme) request.0 request.1 code

nothing : (request : Option (ℕ × ℕ)) → Answered request None
nothing None = tt
nothing (Some request) = tt

-- what an instruction has for the MME is kept as no answer
asks_mme : (session : SessionState) (command : CommandKind)
    → Answered (request_of command) (option_map spelling (written asked session command))
asks_mme session (AddBearer seq qci mbr_up mbr_down gbr_up gbr_down tft) = tt
asks_mme session command = nothing (request_of command)

refilters : (session : SessionState) (command : CommandKind)
    → Answered (request_of command) (option_map spelling (written refiltered session command))
refilters session (Filters seq ebi tft) = tt
refilters session command = nothing (request_of command)

drops : (session : SessionState) (command : CommandKind)
    → Answered (request_of command) (option_map spelling (written dropped session command))
drops session (Drop seq ebi) = tt
drops session command = nothing (request_of command)

rerates : (session : SessionState) (command : CommandKind)
    → Answered (request_of command) (option_map spelling (written rerated session command))
rerates session (Ambr seq up down) = tt
rerates session command = nothing (request_of command)

answered : (row : Row) (session : SessionState) (command : CommandKind) → IsCommandInRange command → AsksOnce command
    → Answered (request_of command) (option_map spelling (written row session command))
answered pdn_refused session (Create seq mme pdn ebi qos enb up down) is once =
    cause_short mme.teid CREATE_SESSION_REQUEST seq PREFERRED_PDN_TYPE_NOT_SUPPORTED
answered class_refused session (Create seq mme pdn ebi qos enb up down) is once =
    cause_short mme.teid CREATE_SESSION_REQUEST seq REQUEST_REJECTED
answered created session (Create seq mme pdn ebi qos enb up down) is once =
    created_short session.slot mme.teid seq pdn ebi
answered no_session session command is once = caused session (request_of command) CONTEXT_NOT_FOUND
answered no_bearer session command is once = caused session (request_of command) CONTEXT_NOT_FOUND
answered modified session (Modify seq mme asks) is once =
    modified_short session.slot (teid_of_mme (option_or mme session.mme)) seq session.bearers asks
    (few_asks asks (recursion_from_All IsAskInRange asks is) once)
answered released session command is once = caused session (request_of command) REQUEST_ACCEPTED
answered deleted session command is once = caused session (request_of command) REQUEST_ACCEPTED
answered asked session command is once = asks_mme session command
answered refiltered session command is once = refilters session command
answered dropped session command is once = drops session command
answered rerated session command is once = rerates session command
answered row session command is once = nothing (request_of command)

kept_short : (request : Option (ℕ × ℕ)) (answer : Option (List ℕ)) (last : Option Kept) → Answered request answer
    → IfSome last IsShortAnswer → IfSome (option_or (kept_answer request answer) last) IsShortAnswer
kept_short None answer last is kept = kept
kept_short (Some request) None last is kept = kept
kept_short (Some request) (Some answer) last is kept = is

last_short : (row : Row) (session : SessionState) (command : CommandKind) → IsCommandInRange command
    → AsksOnce command → IfSome session.last IsShortAnswer → IfSome (last_answer row session command) IsShortAnswer
last_short repeated session command is once kept = kept
last_short row session command is once kept =
    kept_short (request_of command) (option_map spelling (written row session command)) session.last
    (answered row session command is once) kept

short_from : (past : SlotPast) (events : List Event) → AllByRecursion EventIn events
    → AllByRecursion EventAsksOnce events → IfSome past.session.last IsShortAnswer
    → IfSome (fold behind past events).session.last IsShortAnswer
unfolding happens
short_from past [] all once kept = kept
short_from past (event.Command c ∷ events) all once kept =
    short_from (commanded past c) events all.1 once.1
    (last_short (row_of past.session c) past.session c all.0 once.0 kept)
short_from past (event.Packet p ∷ events) all once kept = short_from (met past p) events all.1 once.1 kept

pub answers_short : AnswersAreShort
answers_short slot events all once = short_from (new_slot slot) events all once tt
