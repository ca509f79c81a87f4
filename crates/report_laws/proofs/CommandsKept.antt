-- The numbers that a session keeps of a command are in its ranges, where a line of a trace asks for the command.
use Rattle.std.proofs.Common.{◌≡◌, ℕ, ◌+◌, ◌==◌, ◌||◌, nat_lt, Bool, true, false, if◌then◌else◌, List, Option, Some, None, refl, arith}
use Rattle.std.specs.Prelude.{IfSome}
use Rattle.std.specs.List.{AllByRecursion, find}
use Rattle.std.specs.Option.{option_and_then}
use Rattle.bearer_state.specs.Bearer.{IsEbi, IsSeq}
use Rattle.bearer_state.specs.Qos.{IsQos}
use Rattle.control_steps.specs.Command.{AreRates}
use Rattle.control_steps.specs.declared.command.CommandKind.{CommandKind}
use Rattle.control_steps.specs.declared.command.CommandKind.TheVariants as commands
use Rattle.gtpu_codec.specs.declared.head.GtpUHead.{GtpUHead}
use Rattle.gtpu_codec.specs.declared.kind.GtpUKind.{GtpUKind}
use Rattle.gtpu_codec.specs.declared.kind.GtpUKind.TheVariants as tunnel
use Rattle.gtpu_codec.specs.declared.fault.UBad.{UBad}
use Rattle.gtpu_codec.specs.Message.{message_of}
use Rattle.gtpu_codec.specs.Refusal.{first_fault as tunnel_fault}
use Rattle.gtpv2_ie.specs.Element.{Element}
use Rattle.gtpv2_ie.specs.declared.kind.IeKind.{IeKind}
use Rattle.gtpv2_ie.specs.declared.kind.IeKind.TheVariants as kinds
use Rattle.gtpv2_ie.specs.declared.context.Context.{Context}
use Rattle.gtpv2_ie.specs.declared.value.IeValue.{IeValue}
use Rattle.gtpv2_ie.specs.declared.value.IeValue.TheVariants as values
use Rattle.gtpv2_msg.specs.Header.{has_teid}
use Rattle.gtpv2_msg.specs.Lookup.{context_value, first_value, is_of}
use Rattle.gtpv2_msg.specs.Message.{Message}
use Rattle.gtpv2_msg.specs.Refusal.{first_fault}
use Rattle.gtpv2_msg.specs.declared.fault.CBad.{CBad}
use Rattle.gtpv2_msg.specs.declared.kind.TheConstants.{ECHO_REQUEST, ECHO_RESPONSE, CREATE_SESSION_REQUEST, DOWNLINK_DATA_NOTIFICATION_ACKNOWLEDGE}
use Rattle.gtpv2_msg.specs.declared.kind.TheConstants.{MODIFY_BEARER_REQUEST, DELETE_SESSION_REQUEST, RELEASE_ACCESS_BEARERS_REQUEST, CREATE_BEARER_RESPONSE, UPDATE_BEARER_RESPONSE, DELETE_BEARER_RESPONSE}
use Rattle.ipv4_packet.specs.Refusal.{first_fault as ip_fault}
use Rattle.ipv4_packet.specs.Fields.{destination_of}
use Rattle.ipv4_packet.specs.declared.fault.IpBad.{IpBad}
use Rattle.pc_base.specs.declared.packet.Peer.{Peer}
use Rattle.pc_base.specs.declared.packet.Way.TheVariants.{Down}
use Rattle.tft_codec.specs.Reading.{tft_at}
use Rattle.tft_codec.specs.Refusal.{first_fault as template_fault}
use Rattle.tft_codec.specs.declared.fault.TBad.{TBad}
use Rattle.tft_codec.specs.declared.tft.Tft.{Tft}
use Rattle.trace_lines.specs.Line.{IsKind, IsLine, Line}
use Rattle.trace_lines.specs.Kind.{LineKind}
use Rattle.trace_lines.specs.Kind as kind
use Rattle.wire_octets.specs.Numbers.{AreOctets, be24_at}
use Rattle.demux.specs.Asked.{Asked, Wish, command, packet, move, noted, note, admission, of}
use Rattle.demux.specs.Ends.{addressee, bearer_end, control_slot}
use Rattle.demux.specs.Instructions.{templated, templated_where}
use Rattle.demux.specs.Line.{asked, kind_asks}
use Rattle.demux.specs.Message.{message_in}
use Rattle.demux.specs.Mme.{asked_where, create_asked, create_or_unexpected, for_slot, message_asked, mme_asked, no_context_note, or_unexpected, session_asked, session_or_unexpected}
use Rattle.demux.specs.Requests.{assigned, bearer_answer, cause_in, context_in, creation, imsi_in, mme_in, modification, pdn_in, qos_of, rates_in, rates_value, session_command}
use Rattle.demux.specs.Resolved.{admitting, decided, found_in, resolved, whose_in, wished_by}
use Rattle.demux.specs.Tunnel.{carried_where, delivered_to, kind_asked, lent, packet_asked, packet_where, tunnel_asked, tunnel_where, tunnelled, tunnelled_to}
use Rattle.demux.specs.declared.decision.Decision.{Decision}
use Rattle.demux.specs.declared.decision.Decision.TheVariants.{Command, Move, Note, Packet}
use Rattle.demux.specs.declared.decision.Whose.{Whose}
use Rattle.demux.specs.declared.packet.LentPacket.{LentPacket}
use Rattle.demux.proofs.ElementRanges.{find_some, map_some, test_some, then_some}
use Rattle.demux.proofs.RangeLemmas.{any_then, bind_some}
use Rattle.demux.proofs.Small.{Small, index_small, small_octets}
use Rattle.report_laws.proofs.KeptRanges.{CommandKept}
use Rattle.report_laws.proofs.ElementsKept.{ContextKept, EbiKept, ElementKept, ValueKept, message_kept}

abbrev WishKept : Wish → Type 0
WishKept (command asks) = CommandKept asks
WishKept (packet given) = Unit {0}
WishKept (move slice) = Unit {0}
WishKept (noted text) = Unit {0}

abbrev AskedKept : Asked → Type 0
AskedKept (note text) = Unit {0}
AskedKept (admission digits asks full) = CommandKept asks
AskedKept (of whom wish missing) = WishKept wish

-- what a message of the MME asks
assigned_kept : (ebi : Option ℕ) → IfSome ebi EbiKept → IfSome (assigned ebi) IsEbi
assigned_kept ebi is =
    then_some EbiKept IsEbi (λ number. if number == 0 then None else Some number) ebi
    (λ number own. by_number number (number == 0) own) is
  where
    by_number : (number : ℕ) (none : Bool) → (none ≡ false → IsEbi number)
        → IfSome (if none then None else Some number) IsEbi
    by_number number true own = tt
    by_number number false own = own refl

context_part : (value : IeValue) → ValueKept value → IfSome (context_value value) ContextKept
context_part (values.Context context) is = is
context_part value is = tt

abbrev RatesKept : ℕ × ℕ → Type 0
RatesKept rates = AreRates rates.0 rates.1

rates_part : (value : IeValue) → ValueKept value → IfSome (rates_value value) RatesKept
rates_part (values.Ambr up down) is = is
rates_part value is = tt

first_is : (kind : IeKind) (ies : List Element) → AllByRecursion ElementKept ies
    → IfSome (first_value kind 0 ies) ValueKept
first_is kind ies all =
    map_some ElementKept ValueKept (λ (ie : Element). ie.value) (find (is_of kind 0) ies) (λ ie is. is)
    (find_some ElementKept (is_of kind 0) ies all)

context_is : (ies : List Element) → AllByRecursion ElementKept ies → IfSome (context_in ies) ContextKept
context_is ies all =
    then_some ValueKept ContextKept context_value (first_value kinds.Context 0 ies) (λ value is. context_part value is)
    (first_is kinds.Context ies all)

rates_is : (ies : List Element) → AllByRecursion ElementKept ies → IfSome (rates_in ies) RatesKept
rates_is ies all =
    then_some ValueKept RatesKept rates_value (first_value kinds.Ambr 0 ies) (λ value is. rates_part value is)
    (first_is kinds.Ambr ies all)

creation_kept : (message : Message) → IsSeq message.seq → AllByRecursion ElementKept message.ies
    → IfSome (creation message) CommandKept
unfolding creation
creation_kept message seq all =
    any_then CommandKept (mme_in message.ies) _ (λ mme.
    any_then CommandKept (pdn_in message.ies) _ (λ pdn.
    bind_some RatesKept CommandKept (rates_in message.ies) _ (λ rates own_rates.
    bind_some ContextKept CommandKept (context_in message.ies) _ (λ context kept.
    bind_some IsEbi CommandKept (assigned context.ebi) _ (λ ebi own_ebi.
    bind_some (λ qos. IsQos (qos_of qos)) CommandKept context.qos _ (λ qos own.
    (seq, own_ebi, own, own_rates)) kept.qos)
    (assigned_kept context.ebi kept.ebi)) (context_is message.ies all))
    (rates_is message.ies all)))

answer_kept : (message : Message) → IfSome (bearer_answer message) CommandKept
unfolding bearer_answer
answer_kept message =
    any_then CommandKept (cause_in message.ies) _ (λ cause.
    any_then CommandKept (context_in message.ies) _ (λ context.
    any_then CommandKept context.ebi _ (λ ebi.
    any_then CommandKept context.cause _ (λ row_cause. tt))))

session_kept : (message : Message) → IsSeq message.seq → IfSome (session_command message) CommandKept
unfolding session_command
session_kept message seq =
    test_some CommandKept (message.kind == MODIFY_BEARER_REQUEST) (Some (modification message)) _ seq
    (test_some CommandKept (message.kind == DELETE_SESSION_REQUEST) (Some (commands.Delete message.seq)) _ seq
    (test_some CommandKept (message.kind == RELEASE_ACCESS_BEARERS_REQUEST) (Some (commands.Release message.seq)) _ seq
    (test_some CommandKept (message.kind == CREATE_BEARER_RESPONSE) (bearer_answer message) _ (answer_kept message)
    (test_some CommandKept (message.kind == UPDATE_BEARER_RESPONSE) (Some (commands.UpdateAns message.seq)) _ tt
    (test_some CommandKept (message.kind == DELETE_BEARER_RESPONSE) (Some (commands.DeleteAns message.seq)) None tt
    tt)))))

created_kept : (message : Message) → IsSeq message.seq → AllByRecursion ElementKept message.ies
    → IfSome (create_asked message) AskedKept
created_kept message seq all =
    any_then AskedKept (imsi_in message.ies) _ (λ digits.
    any_then AskedKept (mme_in message.ies) _ (λ (mme : Peer).
    bind_some CommandKept AskedKept (creation message) _ (λ create is. is) (creation_kept message seq all)))

slot_kept : (found : Option ℕ) (asks : CommandKind) (missing : List ℕ) → CommandKept asks
    → AskedKept (for_slot found asks missing)
slot_kept (Some number) asks missing is = is
slot_kept None asks missing is = tt

asked_kept : (message : Message) → IsSeq message.seq → IfSome (session_asked message) AskedKept
asked_kept message seq =
    map_some CommandKept AskedKept
    (λ asks. for_slot (option_and_then control_slot message.teid) asks (no_context_note message))
    (session_command message)
    (λ asks is. slot_kept (option_and_then control_slot message.teid) asks (no_context_note message) is)
    (session_kept message seq)

unexpected_kept : (one : Option Asked) → IfSome one AskedKept → AskedKept (or_unexpected one)
unexpected_kept (Some one) is = is
unexpected_kept None is = tt

by_test : (test : Bool) (one other : Asked) → AskedKept one → AskedKept other
    → AskedKept (if test then one else other)
by_test true one other first second = first
by_test false one other first second = second

message_is : (message : Message) → IsSeq message.seq → AllByRecursion ElementKept message.ies
    → AskedKept (message_asked message)
unfolding message_asked create_or_unexpected session_or_unexpected
message_is message seq all =
    by_test (message.kind == ECHO_REQUEST) _ _ tt
    (by_test (message.kind == ECHO_RESPONSE || message.kind == DOWNLINK_DATA_NOTIFICATION_ACKNOWLEDGE) _ _ tt
    (by_test (message.kind == CREATE_SESSION_REQUEST) _ _
    (unexpected_kept (create_asked message) (created_kept message seq all))
    (unexpected_kept (session_asked message) (asked_kept message seq))))

seq_kept : (octets : List ℕ) → AreOctets octets → IsSeq (message_in octets).seq
unfolding message_in
seq_kept octets are = be24_fits octets (if has_teid octets then 8 else 4) are
  where
    be24_fits : (octets : List ℕ) (at : ℕ) → AreOctets octets → IsSeq (be24_at octets at)
    be24_fits octets at are = omega (arith, are at, are (at + 1), are (at + 1 + 1))

mme_where : (octets : List ℕ) (fault : Option CBad) → Small octets → AskedKept (asked_where octets fault)
mme_where octets (Some bad) small = tt
mme_where octets None small =
    message_is (message_in octets) (seq_kept octets (index_small octets small)) (message_kept octets small)

mme_is : (octets : List ℕ) → Small octets → AskedKept (mme_asked octets)
unfolding mme_asked
mme_is octets small = mme_where octets (first_fault octets) small

-- packets are no commands
carried_is : (moment index : ℕ) (payload : List ℕ) (fault : Option IpBad)
    → WishKept (carried_where moment index payload fault)
carried_is moment index payload (Some bad) = tt
carried_is moment index payload None = tt

to_bearer : (moment teid : ℕ) (payload : List ℕ) (end : Option (ℕ × ℕ))
    → AskedKept (tunnelled_to end moment teid payload)
to_bearer moment teid payload (Some (number, index)) = carried_is moment index payload (ip_fault payload)
to_bearer moment teid payload None = tt

tunnelled_is : (moment teid : ℕ) (payload : List ℕ) → AskedKept (tunnelled moment teid payload)
unfolding tunnelled
tunnelled_is moment teid payload = to_bearer moment teid payload (bearer_end teid)

type_is : (moment : ℕ) (one : GtpUKind) (head : GtpUHead) (body : List ℕ) → AskedKept (kind_asked moment one head body)
type_is moment tunnel.EchoRequest head body = tt
type_is moment tunnel.EchoResponse head body = tt
type_is moment tunnel.ErrorIndication head body = tt
type_is moment tunnel.EndMarker head body = tt
type_is moment tunnel.Gpdu head body = tunnelled_is moment head.teid body

tunnel_read_is : (moment : ℕ) (fault : Option UBad) (read : Option (GtpUHead × List ℕ))
    → AskedKept (tunnel_where moment fault read)
tunnel_read_is moment fault (Some (head, body)) = type_is moment head.kind head body
tunnel_read_is moment (Some bad) None = tt
tunnel_read_is moment None None = tt

tunnel_is : (moment : ℕ) (octets : List ℕ) → AskedKept (tunnel_asked moment octets)
unfolding tunnel_asked
tunnel_is moment octets = tunnel_read_is moment (tunnel_fault octets) (message_of octets)

delivered_is : (found : Option ℕ) (given : LentPacket) → AskedKept (delivered_to found given)
delivered_is (Some number) given = tt
delivered_is None given = tt

packet_where_is : (moment : ℕ) (octets : List ℕ) (fault : Option IpBad) → AskedKept (packet_where moment octets fault)
packet_where_is moment octets (Some bad) = tt
packet_where_is moment octets None =
    let given = lent moment Down octets in delivered_is (addressee (destination_of given.ip)) given

packet_is : (moment : ℕ) (octets : List ℕ) → AskedKept (packet_asked moment octets)
unfolding packet_asked
packet_is moment octets = packet_where_is moment octets (ip_fault octets)

-- instructions
template_is : (command_of : Tft → CommandKind) (octets : List ℕ) (fault : Option TBad)
    → ((tft : Tft) → CommandKept (command_of tft)) → WishKept (templated_where command_of octets fault)
template_is command_of octets (Some bad) each = tt
template_is command_of octets None each = each (tft_at octets)

templated_is : (command_of : Tft → CommandKind) (octets : List ℕ) → ((tft : Tft) → CommandKept (command_of tft))
    → WishKept (templated command_of octets)
unfolding templated
templated_is command_of octets each = template_is command_of octets (template_fault octets) each

kind_is : (number moment : ℕ) (one : LineKind) → IsKind one → AskedKept (kind_asks number moment one)
kind_is number moment (kind.S11 octets) is = mme_is octets (small_octets octets is.1)
kind_is number moment (kind.S1u octets) is = tunnel_is moment octets
kind_is number moment (kind.Sgi octets) is = packet_is moment octets
kind_is number moment (kind.Attach imsi enb up down) is = record { up_fits = is.3; down_fits = is.4 }
kind_is number moment (kind.Bearer imsi qci mbr_up mbr_down gbr_up gbr_down tft) is =
    templated_is _ tft (λ template. (
      omega arith,
      record {
        class_fits = omega (arith, is.1.1);
        mbr_up_fits = is.2;
        mbr_down_fits = is.3;
        gbr_up_fits = is.4;
        gbr_down_fits = is.5;
      },
    ))
kind_is number moment (kind.Filters imsi ebi tft) is = templated_is _ tft (λ template. tt)
kind_is number moment (kind.Drop imsi ebi) is = tt
kind_is number moment (kind.Ambr imsi up down) is = record { up_fits = is.1; down_fits = is.2 }
kind_is number moment (kind.Move imsi slice) is = tt
kind_is number moment kind.Fence is = tt

line_is : (line : Line) → IsLine line → AskedKept (asked line)
unfolding asked
line_is line is = kind_is line.number line.moment line.kind is.kind

-- what is decided
abbrev pub DecisionKept : Decision → Type 0
DecisionKept (Command whose asks) = CommandKept asks
DecisionKept (Packet at given) = Unit {0}
DecisionKept (Move at slice) = Unit {0}
DecisionKept (Note text) = Unit {0}

by_slice : (at slice : ℕ) (text : List ℕ) (test : Bool) → DecisionKept (if test then Move at slice else Note text)
by_slice at slice text true = tt
by_slice at slice text false = tt

by_found : (slices : ℕ) (found : Option ℕ) (wish : Wish) (missing : List ℕ) → WishKept wish
    → DecisionKept (wished_by slices found wish missing)
by_found slices None wish missing is = tt
by_found slices (Some at) (command asks) missing is = is
by_found slices (Some at) (packet given) missing is = tt
by_found slices (Some at) (move slice) missing is = by_slice at slice _ (nat_lt slice slices)
by_found slices (Some at) (noted text) missing is = tt

by_whose : (whose : Option Whose) (asks : CommandKind) (full : List ℕ) → CommandKept asks
    → DecisionKept (admitting whose asks full)
by_whose (Some whose) asks full is = is
by_whose None asks full is = tt

resolved_kept : (slices : ℕ) (book : List (List ℕ)) (one : Asked) → AskedKept one
    → DecisionKept (resolved slices book one)
unfolding resolved
resolved_kept slices book (note text) is = tt
resolved_kept slices book (admission digits asks full) is = by_whose (whose_in book digits) asks full is
resolved_kept slices book (of whom wish missing) is = by_found slices (found_in book whom) wish missing is

pub decision_kept : (slices : ℕ) (book : List (List ℕ)) (line : Line) → IsLine line
    → DecisionKept (decided slices book line)
decision_kept slices book line is = resolved_kept slices book (asked line) (line_is line is)
