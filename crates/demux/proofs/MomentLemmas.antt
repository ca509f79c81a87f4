-- A packet that a line lends has the line's moment.
use Rattle.std.proofs.Common.{◌≡◌, ℕ, ◌==◌, ◌||◌, nat_lt, Bool, true, false, Option, Some, None, if◌then◌else◌, option_map, List, refl, sym, subst}
use Rattle.std.specs.Prelude.{IfSome, IfOk, Result, Ok, Err, option_and_then}
use Rattle.tft_codec.specs.Reading.{◌>>=◌}
use Rattle.tft_codec.specs.Refusal.{first_fault as template_fault}
use Rattle.tft_codec.specs.declared.fault.TBad.{TBad}
use Rattle.tft_codec.specs.declared.tft.Tft.{Tft}
use Rattle.gtpu_codec.specs.Message.{message_of}
use Rattle.gtpu_codec.specs.Refusal.{first_fault as tunnel_fault}
use Rattle.gtpu_codec.specs.declared.fault.UBad.{UBad}
use Rattle.gtpu_codec.specs.declared.head.GtpUHead.{GtpUHead}
use Rattle.gtpu_codec.specs.declared.kind.GtpUKind.{GtpUKind}
use Rattle.gtpu_codec.specs.declared.kind.GtpUKind.TheVariants as tunnel
use Rattle.gtpv2_msg.specs.Message.{Message}
use Rattle.gtpv2_msg.specs.Refusal.{first_fault}
use Rattle.gtpv2_msg.specs.declared.fault.CBad.{CBad}
use Rattle.gtpv2_msg.specs.declared.kind.TheConstants.{ECHO_REQUEST, ECHO_RESPONSE, CREATE_SESSION_REQUEST, DOWNLINK_DATA_NOTIFICATION_ACKNOWLEDGE}
use Rattle.ipv4_packet.specs.Fields.{destination_of}
use Rattle.ipv4_packet.specs.Refusal.{first_fault as ip_fault}
use Rattle.ipv4_packet.specs.declared.fault.IpBad.{IpBad}
use Rattle.control_steps.specs.declared.command.CommandKind.{CommandKind}
use Rattle.trace_lines.specs.Line.{Line}
use Rattle.trace_lines.specs.Kind.{LineKind}
use Rattle.trace_lines.specs.Kind as kind
use Rattle.pc_base.specs.declared.packet.Way.TheVariants.{Down}
use Rattle.demux.specs.declared.decision.Decision.{Decision}
use Rattle.demux.specs.declared.decision.Decision.TheVariants.{Move, Note}
use Rattle.demux.specs.declared.decision.Whose.{Whose}
use Rattle.demux.specs.declared.packet.LentPacket.{LentPacket}
use Rattle.demux.specs.Asked.{Asked, Wish, command, packet, move, noted, note, admission, of}
use Rattle.demux.specs.Ends.{addressee, bearer_end, control_slot}
use Rattle.demux.specs.Line.{asked, kind_asks}
use Rattle.demux.specs.Message.{message_in}
use Rattle.demux.specs.Mme.{asked_where, create_asked, create_or_unexpected, for_slot, message_asked, mme_asked, no_context_note, or_unexpected, session_asked, session_or_unexpected}
use Rattle.demux.specs.Instructions.{templated, templated_where}
use Rattle.demux.specs.Requests.{creation, imsi_in, mme_in, session_command}
use Rattle.demux.specs.Resolved.{HasMoment, admitting, decided, found_in, resolved, whose_in, wished_by}
use Rattle.demux.specs.Tunnel.{carried_where, delivered_to, kind_asked, lent, packet_asked, packet_where, tunnel_asked, tunnel_where, tunnelled, tunnelled_to}

-- a packet that is asked for has this moment
abbrev WishedAt : ℕ → Wish → Type 0
WishedAt moment (command asks) = Unit {0}
WishedAt moment (packet given) = given.moment ≡ moment
WishedAt moment (move slice) = Unit {0}
WishedAt moment (noted text) = Unit {0}

abbrev AskedAt : ℕ → Asked → Type 0
AskedAt moment (note text) = Unit {0}
AskedAt moment (admission digits asks full) = Unit {0}
AskedAt moment (of whom wish missing) = WishedAt moment wish

-- what is decided then
by_slice : (moment at slice : ℕ) (text : List ℕ) (test : Bool)
    → HasMoment moment (if test then Move at slice else Note text)
by_slice moment at slice text true = tt
by_slice moment at slice text false = tt

by_found : (slices moment : ℕ) (found : Option ℕ) (wish : Wish) (missing : List ℕ) → WishedAt moment wish
    → HasMoment moment (wished_by slices found wish missing)
by_found slices moment None wish missing is = tt
by_found slices moment (Some at) (command asks) missing is = tt
by_found slices moment (Some at) (packet given) missing is = is
by_found slices moment (Some at) (move slice) missing is = by_slice moment at slice _ (nat_lt slice slices)
by_found slices moment (Some at) (noted text) missing is = tt

by_whose : (moment : ℕ) (whose : Option Whose) (asks : CommandKind) (full : List ℕ)
    → HasMoment moment (admitting whose asks full)
by_whose moment (Some whose) asks full = tt
by_whose moment None asks full = tt

has_moment : (slices moment : ℕ) (book : List (List ℕ)) (one : Asked) → AskedAt moment one
    → HasMoment moment (resolved slices book one)
unfolding resolved
has_moment slices moment book (note text) is = tt
has_moment slices moment book (admission digits asks full) is = by_whose moment (whose_in book digits) asks full
has_moment slices moment book (of whom wish missing) is = by_found slices moment (found_in book whom) wish missing is

-- octets of the MME lend no packet
then_at : {X : Type 0} (moment : ℕ) (first : Option X) (next : X → Option Asked)
    → ((x : X) → IfSome (next x) (AskedAt moment)) → IfSome (first >>= next) (AskedAt moment)
then_at moment (Some x) next each = each x
then_at moment None next each = tt

map_at : {X : Type 0} (moment : ℕ) (first : Option X) (next : X → Asked) → ((x : X) → AskedAt moment (next x))
    → IfSome (option_map next first) (AskedAt moment)
map_at moment (Some x) next each = each x
map_at moment None next each = tt

created_at : (moment : ℕ) (message : Message) → IfSome (create_asked message) (AskedAt moment)
created_at moment message =
    then_at moment (imsi_in message.ies) _ (λ digits. then_at moment (mme_in message.ies) _
    (λ mme. then_at moment (creation message) _ (λ create. tt)))

slot_at : (moment : ℕ) (found : Option ℕ) (asks : CommandKind) (missing : List ℕ)
    → AskedAt moment (for_slot found asks missing)
slot_at moment (Some number) asks missing = tt
slot_at moment None asks missing = tt

session_at : (moment : ℕ) (message : Message) → IfSome (session_asked message) (AskedAt moment)
session_at moment message =
    map_at moment (session_command message) _ (λ asks.
    slot_at moment (option_and_then control_slot message.teid) asks (no_context_note message))

unexpected_at : (moment : ℕ) (one : Option Asked) → IfSome one (AskedAt moment) → AskedAt moment (or_unexpected one)
unexpected_at moment (Some one) is = is
unexpected_at moment None is = tt

by_test : (moment : ℕ) (test : Bool) (one other : Asked) → AskedAt moment one → AskedAt moment other
    → AskedAt moment (if test then one else other)
by_test moment true one other first second = first
by_test moment false one other first second = second

message_at : (moment : ℕ) (message : Message) → AskedAt moment (message_asked message)
unfolding message_asked create_or_unexpected session_or_unexpected
message_at moment message =
    by_test moment (message.kind == ECHO_REQUEST) _ _ tt
    (by_test moment (message.kind == ECHO_RESPONSE || message.kind == DOWNLINK_DATA_NOTIFICATION_ACKNOWLEDGE) _ _ tt
    (by_test moment (message.kind == CREATE_SESSION_REQUEST) _ _
    (unexpected_at moment (create_asked message) (created_at moment message))
    (unexpected_at moment (session_asked message) (session_at moment message))))

where_at : (moment : ℕ) (octets : List ℕ) (fault : Option CBad) → AskedAt moment (asked_where octets fault)
where_at moment octets (Some bad) = tt
where_at moment octets None = message_at moment (message_in octets)

mme_at : (moment : ℕ) (octets : List ℕ) → AskedAt moment (mme_asked octets)
unfolding mme_asked
mme_at moment octets = where_at moment octets (first_fault octets)

-- octets of an eNodeB and of the internet lend one of their moment
carried_at : (moment index : ℕ) (payload : List ℕ) (fault : Option IpBad)
    → WishedAt moment (carried_where moment index payload fault)
carried_at moment index payload (Some bad) = tt
carried_at moment index payload None = refl

to_at : (moment teid : ℕ) (payload : List ℕ) (end : Option (ℕ × ℕ))
    → AskedAt moment (tunnelled_to end moment teid payload)
to_at moment teid payload (Some (number, index)) = carried_at moment index payload (ip_fault payload)
to_at moment teid payload None = tt

tunnelled_at : (moment teid : ℕ) (payload : List ℕ) → AskedAt moment (tunnelled moment teid payload)
unfolding tunnelled
tunnelled_at moment teid payload = to_at moment teid payload (bearer_end teid)

type_at : (moment : ℕ) (one : GtpUKind) (head : GtpUHead) (body : List ℕ)
    → AskedAt moment (kind_asked moment one head body)
type_at moment tunnel.EchoRequest head body = tt
type_at moment tunnel.EchoResponse head body = tt
type_at moment tunnel.ErrorIndication head body = tt
type_at moment tunnel.EndMarker head body = tt
type_at moment tunnel.Gpdu head body = tunnelled_at moment head.teid body

read_at : (moment : ℕ) (fault : Option UBad) (read : Option (GtpUHead × List ℕ))
    → AskedAt moment (tunnel_where moment fault read)
read_at moment fault (Some (head, body)) = type_at moment head.kind head body
read_at moment (Some bad) None = tt
read_at moment None None = tt

tunnel_at : (moment : ℕ) (octets : List ℕ) → AskedAt moment (tunnel_asked moment octets)
unfolding tunnel_asked
tunnel_at moment octets = read_at moment (tunnel_fault octets) (message_of octets)

delivered_at : (found : Option ℕ) (given : LentPacket) → AskedAt given.moment (delivered_to found given)
delivered_at (Some number) given = refl
delivered_at None given = tt

packet_where_at : (moment : ℕ) (octets : List ℕ) (fault : Option IpBad)
    → AskedAt moment (packet_where moment octets fault)
packet_where_at moment octets (Some bad) = tt
packet_where_at moment octets None =
    let given = lent moment Down octets in
    delivered_at (addressee (destination_of given.ip)) given

packet_at : (moment : ℕ) (octets : List ℕ) → AskedAt moment (packet_asked moment octets)
unfolding packet_asked
packet_at moment octets = packet_where_at moment octets (ip_fault octets)

-- instructions lend none
template_at : (moment : ℕ) (command_of : Tft → CommandKind) (octets : List ℕ) (fault : Option TBad)
    → WishedAt moment (templated_where command_of octets fault)
template_at moment command_of octets (Some bad) = tt
template_at moment command_of octets None = tt

templated_at : (moment : ℕ) (command_of : Tft → CommandKind) (octets : List ℕ) → WishedAt moment (templated command_of octets)
unfolding templated
templated_at moment command_of octets = template_at moment command_of octets (template_fault octets)

kind_at : (number moment : ℕ) (one : LineKind) → AskedAt moment (kind_asks number moment one)
kind_at number moment (kind.S11 octets) = mme_at moment octets
kind_at number moment (kind.S1u octets) = tunnel_at moment octets
kind_at number moment (kind.Sgi octets) = packet_at moment octets
kind_at number moment (kind.Attach imsi enb up down) = tt
kind_at number moment (kind.Bearer imsi qci mbr_up mbr_down gbr_up gbr_down tft) = templated_at moment _ tft
kind_at number moment (kind.Filters imsi ebi tft) = templated_at moment _ tft
kind_at number moment (kind.Drop imsi ebi) = tt
kind_at number moment (kind.Ambr imsi up down) = tt
kind_at number moment (kind.Move imsi slice) = tt
kind_at number moment kind.Fence = tt

line_at : (line : Line) → AskedAt line.moment (asked line)
unfolding asked
line_at line = kind_at line.number line.moment line.kind

pub moment_decided : (slices : ℕ) (book : List (List ℕ)) (line : Line)
    → HasMoment line.moment (decided slices book line)
moment_decided slices book line = has_moment slices line.moment book (asked line) (line_at line)

-- the same of an answer
pub moment_if_ok : {E : Type 0} (slices : ℕ) (book : List (List ℕ)) (line : Line) (answer : Result Decision E)
    → IfOk answer (λ decision. decision ≡ decided slices book line) → IfOk answer (HasMoment line.moment)
moment_if_ok slices book line (Ok decision) is =
    subst (HasMoment line.moment) (sym is) (moment_decided slices book line)
moment_if_ok slices book line (Err e) is = tt
