-- A Modify Bearer Request, as it is read, asks of each bearer once.
use Rattle.std.proofs.Common.{◌≡◌, ℕ, ◌==◌, ◌||◌, nat_lt, Bool, true, false, if◌then◌else◌, Option, Some, None, List, [], ◌∷◌, eqb, refl, sym, ◌∙◌, eq-eqb}
use Rattle.std.specs.Prelude.{IfSome}
use Rattle.std.specs.List.{AllByRecursion, IsDistinct}
use Rattle.std.specs.Option.{option_and_then}
use Rattle.std.proofs.lemmas.Bool.{false≢true, ne_eqb}
use Rattle.bearer_state.specs.declared.ask.Ask.{Ask}
use Rattle.control_steps.specs.declared.command.CommandKind.{CommandKind}
use Rattle.control_steps.specs.declared.command.CommandKind.TheVariants as commands
use Rattle.gtpu_codec.specs.Message.{message_of}
use Rattle.gtpu_codec.specs.Refusal.{first_fault as tunnel_fault}
use Rattle.gtpu_codec.specs.declared.fault.UBad.{UBad}
use Rattle.gtpu_codec.specs.declared.head.GtpUHead.{GtpUHead}
use Rattle.gtpu_codec.specs.declared.kind.GtpUKind.{GtpUKind}
use Rattle.gtpu_codec.specs.declared.kind.GtpUKind.TheVariants as tunnel
use Rattle.gtpv2_msg.specs.Message.{Message}
use Rattle.gtpv2_msg.specs.Refusal.{first_fault}
use Rattle.gtpv2_msg.specs.declared.fault.CBad.{CBad}
use Rattle.gtpv2_msg.specs.declared.kind.TheConstants.{ECHO_REQUEST, ECHO_RESPONSE, CREATE_SESSION_REQUEST, DOWNLINK_DATA_NOTIFICATION_ACKNOWLEDGE}
use Rattle.gtpv2_msg.specs.declared.kind.TheConstants.{MODIFY_BEARER_REQUEST, DELETE_SESSION_REQUEST, RELEASE_ACCESS_BEARERS_REQUEST, CREATE_BEARER_RESPONSE, UPDATE_BEARER_RESPONSE, DELETE_BEARER_RESPONSE}
use Rattle.ipv4_packet.specs.Fields.{destination_of}
use Rattle.ipv4_packet.specs.Refusal.{first_fault as ip_fault}
use Rattle.ipv4_packet.specs.declared.fault.IpBad.{IpBad}
use Rattle.pc_base.specs.declared.packet.Way.TheVariants.{Down}
use Rattle.tft_codec.specs.Reading.{tft_at, ◌>>=◌}
use Rattle.tft_codec.specs.Refusal.{first_fault as template_fault}
use Rattle.tft_codec.specs.declared.fault.TBad.{TBad}
use Rattle.tft_codec.specs.declared.tft.Tft.{Tft}
use Rattle.trace_lines.specs.Line.{Line}
use Rattle.trace_lines.specs.Kind.{LineKind}
use Rattle.trace_lines.specs.Kind as kind
use Rattle.demux.specs.Asked.{Asked, Wish, command, packet, move, noted, note, admission, of}
use Rattle.demux.specs.Ends.{addressee, bearer_end, control_slot}
use Rattle.demux.specs.Instructions.{templated, templated_where}
use Rattle.demux.specs.Line.{asked, kind_asks}
use Rattle.demux.specs.Message.{message_in}
use Rattle.demux.specs.Mme.{asked_where, create_asked, create_or_unexpected, for_slot, message_asked, mme_asked, no_context_note, or_unexpected, session_asked, session_or_unexpected}
use Rattle.demux.specs.Requests.{bearer_answer, cause_in, context_in, creation, each_ask, first_asks, imsi_in, mme_in, modification, assigned, pdn_in, rates_in, session_command, without_ebi}
use Rattle.demux.specs.Resolved.{admitting, decided, found_in, resolved, whose_in, wished_by}
use Rattle.demux.specs.Trace.{book_of, decisions, meant}
use Rattle.demux.specs.Tunnel.{carried_where, delivered_to, kind_asked, lent, packet_asked, packet_where, tunnel_asked, tunnel_where, tunnelled, tunnelled_to}
use Rattle.demux.specs.declared.decision.Decision.{Decision}
use Rattle.demux.specs.declared.decision.Decision.TheVariants.{Command, Move, Note, Packet}
use Rattle.demux.specs.declared.decision.Whose.{Whose}
use Rattle.demux.specs.declared.packet.LentPacket.{LentPacket}
use Rattle.demux.proofs.ElementRanges.{map_some, test_some}
use Rattle.lawful_run.specs.RangeLaws.{LinesAskOnce}
use Rattle.lawful_run.specs.Ranges.{AsksOnce, MeaningAsksOnce, ebis}

by_bool : {P : Type 0} (b : Bool) → (b ≡ true → P) → (b ≡ false → P) → P
by_bool true if_true if_false = if_true refl
by_bool false if_true if_false = if_false refl

-- of those with one EBI the first counts
others_stay : (ebi gone : ℕ) (asks : List Ask) → AllByRecursion (λ other. eqb ebi other ≡ false) (ebis asks)
    → AllByRecursion (λ other. eqb ebi other ≡ false) (ebis (without_ebi gone asks))
others_stay ebi gone [] all = tt
others_stay ebi gone (ask ∷ asks) all = by_bool (eqb ask.ebi gone)
    (λ same. rw same (others_stay ebi gone asks all.1))
    (λ other. rw other (all.0, others_stay ebi gone asks all.1))

none_left : (ebi : ℕ) (asks : List Ask)
    → AllByRecursion (λ other. eqb ebi other ≡ false) (ebis (without_ebi ebi asks))
none_left ebi [] = tt
none_left ebi (ask ∷ asks) = by_bool (eqb ask.ebi ebi)
    (λ same. rw same (none_left ebi asks))
    (λ other. rw other (
      ne_eqb ebi ask.ebi (λ same. false≢true (sym other ∙ eq-eqb ask.ebi ebi (sym same))),
      none_left ebi asks,
    ))

distinct_stay : (gone : ℕ) (asks : List Ask) → IsDistinct eqb (ebis asks)
    → IsDistinct eqb (ebis (without_ebi gone asks))
unfolding IsDistinct
distinct_stay gone [] all = tt
distinct_stay gone (ask ∷ asks) all = by_bool (eqb ask.ebi gone)
    (λ same. rw same (distinct_stay gone asks all.1))
    (λ other. rw other (others_stay ask.ebi gone asks all.0, distinct_stay gone asks all.1))

first_distinct : (asks : List Ask) → IsDistinct eqb (ebis (first_asks asks))
unfolding IsDistinct
first_distinct [] = tt
first_distinct (ask ∷ asks) =
    (none_left ask.ebi (first_asks asks), distinct_stay ask.ebi (first_asks asks) (first_distinct asks))

-- what a message of the MME asks
any_then : {X Y : Type 0} (Q : Y → Type 0) (first : Option X) (next : X → Option Y) → ((x : X) → IfSome (next x) Q)
    → IfSome (first >>= next) Q
any_then Q None next each = tt
any_then Q (Some x) next each = each x

bind_some : {X Y : Type 0} (P : X → Type 0) (Q : Y → Type 0) (first : Option X) (next : X → Option Y)
    → ((x : X) → P x → IfSome (next x) Q) → IfSome first P → IfSome (first >>= next) Q
bind_some P Q None next each is = tt
bind_some P Q (Some x) next each is = each x is

creation_once : (message : Message) → IfSome (creation message) AsksOnce
unfolding creation
creation_once message =
    any_then AsksOnce (mme_in message.ies) _ (λ mme.
    any_then AsksOnce (pdn_in message.ies) _ (λ pdn.
    any_then AsksOnce (rates_in message.ies) _ (λ rates.
    any_then AsksOnce (context_in message.ies) _ (λ context.
    any_then AsksOnce (assigned context.ebi) _ (λ ebi.
    any_then AsksOnce context.qos _ (λ qos. tt))))))

answer_once : (message : Message) → IfSome (bearer_answer message) AsksOnce
unfolding bearer_answer
answer_once message =
    any_then AsksOnce (cause_in message.ies) _ (λ cause.
    any_then AsksOnce (context_in message.ies) _ (λ context.
    any_then AsksOnce context.ebi _ (λ ebi. any_then AsksOnce context.cause _ (λ row_cause. tt))))

session_once : (message : Message) → IfSome (session_command message) AsksOnce
unfolding session_command
session_once message =
    test_some AsksOnce (message.kind == MODIFY_BEARER_REQUEST) (Some (modification message)) _
    (first_distinct (each_ask message.ies))
    (test_some AsksOnce (message.kind == DELETE_SESSION_REQUEST) (Some (commands.Delete message.seq)) _ tt
    (test_some AsksOnce (message.kind == RELEASE_ACCESS_BEARERS_REQUEST) (Some (commands.Release message.seq)) _ tt
    (test_some AsksOnce (message.kind == CREATE_BEARER_RESPONSE) (bearer_answer message) _ (answer_once message)
    (test_some AsksOnce (message.kind == UPDATE_BEARER_RESPONSE) (Some (commands.UpdateAns message.seq)) _ tt
    (test_some AsksOnce (message.kind == DELETE_BEARER_RESPONSE) (Some (commands.DeleteAns message.seq)) None tt
    tt)))))

-- what is asked
abbrev WishesOnce : Wish → Type 0
WishesOnce (command asks) = AsksOnce asks
WishesOnce (packet given) = Unit {0}
WishesOnce (move slice) = Unit {0}
WishesOnce (noted text) = Unit {0}

abbrev AskedOnce : Asked → Type 0
AskedOnce (note text) = Unit {0}
AskedOnce (admission digits asks full) = AsksOnce asks
AskedOnce (of whom wish missing) = WishesOnce wish

created_once : (message : Message) → IfSome (create_asked message) AskedOnce
created_once message =
    any_then AskedOnce (imsi_in message.ies) _ (λ digits.
    any_then AskedOnce (mme_in message.ies) _ (λ mme.
    bind_some AsksOnce AskedOnce (creation message) _ (λ create is. is) (creation_once message)))

for_slot_once : (found : Option ℕ) (asks : CommandKind) (missing : List ℕ) → AsksOnce asks
    → AskedOnce (for_slot found asks missing)
for_slot_once (Some number) asks missing is = is
for_slot_once None asks missing is = tt

in_session : (message : Message) → IfSome (session_asked message) AskedOnce
in_session message =
    map_some AsksOnce AskedOnce
    (λ asks. for_slot (option_and_then control_slot message.teid) asks (no_context_note message))
    (session_command message)
    (λ asks is. for_slot_once (option_and_then control_slot message.teid) asks (no_context_note message) is)
    (session_once message)

expected : (one : Option Asked) → IfSome one AskedOnce → AskedOnce (or_unexpected one)
expected (Some one) is = is
expected None is = tt

by_test : (test : Bool) (one other : Asked) → AskedOnce one → AskedOnce other
    → AskedOnce (if test then one else other)
by_test true one other first second = first
by_test false one other first second = second

message_once : (message : Message) → AskedOnce (message_asked message)
unfolding message_asked create_or_unexpected session_or_unexpected
message_once message =
    by_test (message.kind == ECHO_REQUEST) _ _ tt
    (by_test (message.kind == ECHO_RESPONSE || message.kind == DOWNLINK_DATA_NOTIFICATION_ACKNOWLEDGE) _ _ tt
    (by_test (message.kind == CREATE_SESSION_REQUEST) _ _ (expected (create_asked message) (created_once message))
    (expected (session_asked message) (in_session message))))

mme_where : (octets : List ℕ) (fault : Option CBad) → AskedOnce (asked_where octets fault)
mme_where octets (Some bad) = tt
mme_where octets None = message_once (message_in octets)

mme_once : (octets : List ℕ) → AskedOnce (mme_asked octets)
unfolding mme_asked
mme_once octets = mme_where octets (first_fault octets)

-- octets of an eNodeB, and of the internet
carried_once : (moment index : ℕ) (payload : List ℕ) (fault : Option IpBad)
    → WishesOnce (carried_where moment index payload fault)
carried_once moment index payload (Some bad) = tt
carried_once moment index payload None = tt

to_once : (found : Option (ℕ × ℕ)) (moment teid : ℕ) (payload : List ℕ)
    → AskedOnce (tunnelled_to found moment teid payload)
to_once (Some (number, index)) moment teid payload = carried_once moment index payload (ip_fault payload)
to_once None moment teid payload = tt

tunnelled_once : (moment teid : ℕ) (payload : List ℕ) → AskedOnce (tunnelled moment teid payload)
unfolding tunnelled
tunnelled_once moment teid payload = to_once (bearer_end teid) moment teid payload

type_once : (moment : ℕ) (one : GtpUKind) (head : GtpUHead) (body : List ℕ)
    → AskedOnce (kind_asked moment one head body)
type_once moment tunnel.EchoRequest head body = tt
type_once moment tunnel.EchoResponse head body = tt
type_once moment tunnel.ErrorIndication head body = tt
type_once moment tunnel.EndMarker head body = tt
type_once moment tunnel.Gpdu head body = tunnelled_once moment head.teid body

tunnel_read : (moment : ℕ) (fault : Option UBad) (read : Option (GtpUHead × List ℕ))
    → AskedOnce (tunnel_where moment fault read)
tunnel_read moment fault (Some (head, body)) = type_once moment head.kind head body
tunnel_read moment (Some bad) None = tt
tunnel_read moment None None = tt

tunnel_once : (moment : ℕ) (octets : List ℕ) → AskedOnce (tunnel_asked moment octets)
unfolding tunnel_asked
tunnel_once moment octets = tunnel_read moment (tunnel_fault octets) (message_of octets)

delivered_once : (found : Option ℕ) (given : LentPacket) → AskedOnce (delivered_to found given)
delivered_once (Some number) given = tt
delivered_once None given = tt

packet_read : (moment : ℕ) (octets : List ℕ) (fault : Option IpBad) → AskedOnce (packet_where moment octets fault)
packet_read moment octets (Some bad) = tt
packet_read moment octets None =
    let given = lent moment Down octets in delivered_once (addressee (destination_of given.ip)) given

packet_once : (moment : ℕ) (octets : List ℕ) → AskedOnce (packet_asked moment octets)
unfolding packet_asked
packet_once moment octets = packet_read moment octets (ip_fault octets)

-- instructions
template_once : (command_of : Tft → CommandKind) (octets : List ℕ) (fault : Option TBad)
    → ((tft : Tft) → AsksOnce (command_of tft)) → WishesOnce (templated_where command_of octets fault)
template_once command_of octets (Some bad) each = tt
template_once command_of octets None each = each (tft_at octets)

templated_once : (command_of : Tft → CommandKind) (octets : List ℕ) → ((tft : Tft) → AsksOnce (command_of tft))
    → WishesOnce (templated command_of octets)
unfolding templated
templated_once command_of octets each = template_once command_of octets (template_fault octets) each

kind_once : (number moment : ℕ) (one : LineKind) → AskedOnce (kind_asks number moment one)
kind_once number moment (kind.S11 octets) = mme_once octets
kind_once number moment (kind.S1u octets) = tunnel_once moment octets
kind_once number moment (kind.Sgi octets) = packet_once moment octets
kind_once number moment (kind.Attach imsi enb up down) = tt
kind_once number moment (kind.Bearer imsi qci mbr_up mbr_down gbr_up gbr_down tft) =
    templated_once _ tft (λ template. tt)
kind_once number moment (kind.Filters imsi ebi tft) = templated_once _ tft (λ template. tt)
kind_once number moment (kind.Drop imsi ebi) = tt
kind_once number moment (kind.Ambr imsi up down) = tt
kind_once number moment (kind.Move imsi slice) = tt
kind_once number moment kind.Fence = tt

line_once : (line : Line) → AskedOnce (asked line)
unfolding asked
line_once line = kind_once line.number line.moment line.kind

-- what is decided, and what that means
abbrev DecidesOnce : Decision → Type 0
DecidesOnce (Command whose asks) = AsksOnce asks
DecidesOnce (Packet at given) = Unit {0}
DecidesOnce (Move at slice) = Unit {0}
DecidesOnce (Note text) = Unit {0}

by_slice : (at slice : ℕ) (text : List ℕ) (test : Bool) → DecidesOnce (if test then Move at slice else Note text)
by_slice at slice text true = tt
by_slice at slice text false = tt

by_found : (slices : ℕ) (found : Option ℕ) (wish : Wish) (missing : List ℕ) → WishesOnce wish
    → DecidesOnce (wished_by slices found wish missing)
by_found slices None wish missing is = tt
by_found slices (Some at) (command asks) missing is = is
by_found slices (Some at) (packet given) missing is = tt
by_found slices (Some at) (move slice) missing is = by_slice at slice _ (nat_lt slice slices)
by_found slices (Some at) (noted text) missing is = tt

by_whose : (whose : Option Whose) (asks : CommandKind) (full : List ℕ) → AsksOnce asks
    → DecidesOnce (admitting whose asks full)
by_whose (Some whose) asks full is = is
by_whose None asks full is = tt

decided_once : (slices : ℕ) (book : List (List ℕ)) (one : Asked) → AskedOnce one → DecidesOnce (resolved slices book one)
unfolding resolved
decided_once slices book (note text) is = tt
decided_once slices book (admission digits asks full) is = by_whose (whose_in book digits) asks full is
decided_once slices book (of whom wish missing) is = by_found slices (found_in book whom) wish missing is

meant_once : (slices : ℕ) (book : List (List ℕ)) (before : List Decision) (decision : Decision)
    → DecidesOnce decision → MeaningAsksOnce (meant slices book before decision)
meant_once slices book before (Command whose asks) is = is
meant_once slices book before (Packet at given) is = tt
meant_once slices book before (Move at slice) is = tt
meant_once slices book before (Note text) is = tt

pub lines_ask_once : LinesAskOnce
lines_ask_once slices before line =
    meant_once slices (book_of before) (decisions slices before) (decided slices (book_of before) line)
    (decided_once slices (book_of before) (asked line) (line_once line))
