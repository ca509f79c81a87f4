-- What a line in its ranges means is in its ranges.
use Rattle.std.proofs.Common.{◌≡◌, ℕ, zero, suc, ◌*◌, ◌++◌, ◌+◌, ◌<◌, ◌≤◌, ◌^◌, ◌==◌, ◌||◌, nat_lt, Bool, true, false, if◌then◌else◌, List, [], ◌∷◌, length, take, drop, codes, Option, Some, None, All, refl, arith}
use Rattle.std.specs.Prelude.{IfSome, unwrap_or, slice_index}
use Rattle.std.specs.List.{AllByRecursion, filter_map, find}
use Rattle.std.specs.Option.{is_some, option_and_then, option_map}
use Rattle.std.proofs.lemmas.List.Elements.{All-from_recursion}
use Rattle.control_steps.specs.Messages.{cause_alone}
use Rattle.control_steps.specs.declared.cause.TheConstants.{CONTEXT_NOT_FOUND}
use Rattle.control_steps.specs.declared.command.CommandKind.{CommandKind}
use Rattle.control_steps.specs.declared.command.CommandKind.TheVariants as commands
use Rattle.gtpu_codec.specs.Extension.{behind_headers, body_behind}
use Rattle.gtpu_codec.specs.Head.{counted_in, flags_in, has_extensions, has_options, length_in, type_in}
use Rattle.gtpu_codec.specs.Kind.{kind_of as tunnel_kind, type_octet}
use Rattle.gtpu_codec.specs.Message.{carried as carried_by, message_of, message_with}
use Rattle.gtpu_codec.specs.Refusal.{first_fault as tunnel_fault}
use Rattle.gtpu_codec.specs.Text.{spelling as tunnel_spelling, text as tunnel_text}
use Rattle.gtpu_codec.specs.declared.fault.UBad.{UBad}
use Rattle.gtpu_codec.specs.declared.head.GtpUHead.{GtpUHead}
use Rattle.gtpu_codec.specs.declared.kind.GtpUKind.{GtpUKind}
use Rattle.gtpu_codec.specs.declared.kind.GtpUKind.TheVariants as tunnel
use Rattle.gtpu_codec.specs.declared.message.GtpU.TheVariants.{EchoResponse, ErrorIndication}
use Rattle.gtpv2_ie.specs.Element.{Element}
use Rattle.gtpv2_ie.specs.declared.cause_value.TheConstants.{ALL_DYNAMIC_ADDRESSES_ARE_OCCUPIED}
use Rattle.gtpv2_ie.specs.declared.context.Context.{Context}
use Rattle.gtpv2_ie.specs.declared.fteid.Fteid.{Fteid}
use Rattle.gtpv2_ie.specs.declared.kind.IeKind.TheVariants as kinds
use Rattle.gtpv2_ie.specs.declared.value.IeValue.{IeValue}
use Rattle.gtpv2_ie.specs.declared.value.IeValue.TheVariants as values
use Rattle.gtpv2_msg.specs.Header.{kind_of, seq_of}
use Rattle.gtpv2_msg.specs.Kinds.{is_request}
use Rattle.gtpv2_msg.specs.Lookup.{context_value, contexts_of, first_context, first_value, is_of}
use Rattle.gtpv2_msg.specs.Message.{Message}
use Rattle.gtpv2_msg.specs.Refusal.{first_fault, refusal_of, refusing}
use Rattle.gtpv2_msg.specs.Spelling.{spelling}
use Rattle.gtpv2_msg.specs.declared.fault.CBad.{CBad}
use Rattle.gtpv2_msg.specs.declared.fault.CBad.TheVariants as bads
use Rattle.gtpv2_msg.specs.declared.kind.TheConstants.{ECHO_REQUEST, ECHO_RESPONSE, CREATE_SESSION_REQUEST, DOWNLINK_DATA_NOTIFICATION_ACKNOWLEDGE}
use Rattle.gtpv2_msg.specs.declared.kind.TheConstants.{MODIFY_BEARER_REQUEST, DELETE_SESSION_REQUEST, RELEASE_ACCESS_BEARERS_REQUEST, CREATE_BEARER_RESPONSE, UPDATE_BEARER_RESPONSE, DELETE_BEARER_RESPONSE}
use Rattle.ipv4_packet.specs.Fields.{destination_of, total_length}
use Rattle.ipv4_packet.specs.Packet.{packet_of}
use Rattle.ipv4_packet.specs.Refusal.{first_fault as ip_fault}
use Rattle.ipv4_packet.specs.declared.fault.IpBad.{IpBad}
use Rattle.pc_base.specs.Addresses.{gateway_addr}
use Rattle.pc_base.specs.declared.packet.Peer.{Peer}
use Rattle.pc_base.specs.declared.packet.Way.{Way}
use Rattle.pc_base.specs.declared.packet.Way.TheVariants.{Down, Up}
use Rattle.tft_codec.specs.Reading.{tft_at, ◌>>=◌}
use Rattle.tft_codec.specs.Refusal.{first_fault as template_fault}
use Rattle.tft_codec.specs.Tft.{IsTft}
use Rattle.tft_codec.specs.declared.fault.TBad.{TBad}
use Rattle.tft_codec.specs.declared.tft.Tft.{Tft}
use Rattle.tft_codec.proofs.TftLemmas.{tft_taken}
use Rattle.trace_lines.specs.Line.{IsKind, IsLine, Line}
use Rattle.trace_lines.specs.Kind.{LineKind}
use Rattle.trace_lines.specs.Kind as kind
use Rattle.wire_octets.specs.Numbers.{AreOctets, be16_octets, be32_octets}
use Rattle.demux.specs.Asked.{Asked, Wish, command, packet, move, noted, note, admission, of}
use Rattle.demux.specs.Destinations.{destination}
use Rattle.demux.specs.Ends.{addressee, bearer_end, control_slot}
use Rattle.demux.specs.Line.{asked, kind_asks}
use Rattle.demux.specs.Message.{message_in}
use Rattle.demux.specs.Mme.{asked_where, create_asked, create_or_unexpected, echo_note, echo_response, for_slot, message_asked, mme_asked, no_context_note, no_context_reply, or_unexpected, pool_note, session_asked, session_or_unexpected}
use Rattle.demux.specs.Instructions.{templated, templated_where}
use Rattle.demux.specs.Ranges.{HasAddress, IsAskInRange, IsCommandInRange, IsInRange, IsOctet, IsPacketInRange, IsSlot}
use Rattle.demux.specs.Requests.{ask_of, asks_in, assigned, bearer_answer, cause_in, context_in, creation, each_ask, enb_in, imsi_in, mme_in, modification, pdn_in, peer_of, rates_in, session_command}
use Rattle.demux.specs.Resolved.{IsDecision, IsDue, IsNote, admitting, decided, found_in, resolved, slot_of, whose_in, wished_by}
use Rattle.demux.specs.Trace.{book_of, decisions, meaning, meant}
use Rattle.demux.specs.Tunnel.{carried_where, delivered_to, kind_asked, lent, packet_asked, packet_where, tunnel_asked, tunnel_echo_note, tunnel_where, tunnelled, tunnelled_to, unknown_note}
use Rattle.demux.specs.declared.decision.Decision.{Decision}
use Rattle.demux.specs.declared.decision.Decision.TheVariants.{Command, Move, Note, Packet}
use Rattle.demux.specs.declared.decision.Whose.{Whose}
use Rattle.demux.specs.declared.decision.Whose.TheVariants.{Known, New}
use Rattle.demux.specs.declared.packet.LentPacket.{LentPacket}
use Rattle.demux.proofs.AnswerLemmas.{request_small}
use Rattle.demux.proofs.AskLemmas.{each_first}
use Rattle.demux.proofs.BookBound.{book_most}
use Rattle.demux.proofs.ElementRanges.{ContextFits, ElementFits, HasFteidAddress, ValueFits, always, cons_all, find_some, map_some, message_fits, test_some, then_some}
use Rattle.demux.proofs.FaultRanges.{FaultFits, fault_fits}
use Rattle.demux.proofs.MessagesSmall.{QosIn, message_small}
use Rattle.demux.proofs.NotesPrint.{carried_is_note, message_is_note, move_is_note, packet_is_note, template_is_note, tunnel_is_note, words_are_note, words_replied, words_told}
use Rattle.demux.proofs.ResolvedLemmas.{is_decision}
use Rattle.demux.proofs.Small.{Small, be16_small, be32_small, both, dropped, index_small, small_octets, taken}

-- what is asked
abbrev WishIn : Wish → Type 0
WishIn (command asks) = IsCommandInRange asks
WishIn (packet given) = IsPacketInRange given
WishIn (move slice) = slice ≤ 63
WishIn (noted text) = IsNote text

abbrev AskedIn : Asked → Type 0
AskedIn (note text) = IsNote text
AskedIn (admission digits asks full) = IsCommandInRange asks × IsNote full
AskedIn (of whom wish missing) = WishIn wish × IsNote missing

pub bind_some : {X Y : Type 0} (P : X → Type 0) (Q : Y → Type 0) (first : Option X) (next : X → Option Y)
    → ((x : X) → P x → IfSome (next x) Q) → IfSome first P → IfSome (first >>= next) Q
bind_some P Q None next each is = tt
bind_some P Q (Some x) next each is = each x is

pub any_then : {X Y : Type 0} (Q : Y → Type 0) (first : Option X) (next : X → Option Y) → ((x : X) → IfSome (next x) Q)
    → IfSome (first >>= next) Q
any_then Q None next each = tt
any_then Q (Some x) next each = each x

each_some : {X Y : Type 0} (P : X → Type 0) (Q : Y → Type 0) (f : X → Option Y) → ((x : X) → P x → IfSome (f x) Q)
    → (xs : List X) → AllByRecursion P xs → AllByRecursion Q (filter_map f xs)
each_some P Q f each [] all = tt
each_some P Q f each (x ∷ xs) all = cons_all Q (f x) (filter_map f xs) (each x all.0) (each_some P Q f each xs all.1)

-- what a message of the MME asks
enb_fits : (fteids : List (ℕ × Fteid)) → AllByRecursion HasFteidAddress fteids → IfSome (enb_in fteids) HasAddress
enb_fits fteids all =
    map_some HasFteidAddress HasAddress (λ (fteid : ℕ × Fteid). peer_of fteid.1)
    (find (λ (fteid : ℕ × Fteid). fteid.1.interface == 0) fteids) (λ fteid is. is)
    (find_some HasFteidAddress (λ (fteid : ℕ × Fteid). fteid.1.interface == 0) fteids all)

assigned_fits : (ebi : Option ℕ) → IfSome ebi IsOctet → IfSome (assigned ebi) IsOctet
assigned_fits ebi is =
    then_some IsOctet IsOctet (λ number. if number == 0 then None else Some number) ebi
    (λ number own. test_some IsOctet (number == 0) None (Some number) tt own) is

context_part : (value : IeValue) → ValueFits value → IfSome (context_value value) ContextFits
context_part (values.Context context) is = is
context_part value is = tt

context_is : (ies : List Element) → AllByRecursion ElementFits ies → IfSome (context_in ies) ContextFits
context_is ies all =
    then_some ValueFits ContextFits context_value (first_value kinds.Context 0 ies) (λ value is. context_part value is)
    (map_some ElementFits ValueFits (λ (ie : Element). ie.value) (find (is_of kinds.Context 0) ies) (λ ie is. is)
    (find_some ElementFits (is_of kinds.Context 0) ies all))

creation_in : (message : Message) → AllByRecursion ElementFits message.ies
    → IfSome (creation message) IsCommandInRange
unfolding creation
creation_in message all =
    any_then IsCommandInRange (mme_in message.ies) _ (λ mme.
    any_then IsCommandInRange (pdn_in message.ies) _ (λ pdn.
    any_then IsCommandInRange (rates_in message.ies) _ (λ rates.
    bind_some ContextFits IsCommandInRange (context_in message.ies) _ (λ context fits.
    bind_some IsOctet IsCommandInRange (assigned context.ebi) _ (λ ebi small.
    bind_some QosIn IsCommandInRange context.qos _ (λ qos own.
    (small, own.0, own.1, enb_fits context.fteids fits.fteids)) fits.qos)
    (assigned_fits context.ebi fits.ebi)) (context_is message.ies all))))

answer_in : (message : Message) → AllByRecursion ElementFits message.ies
    → IfSome (bearer_answer message) IsCommandInRange
unfolding bearer_answer
answer_in message all =
    any_then IsCommandInRange (cause_in message.ies) _ (λ cause.
    bind_some ContextFits IsCommandInRange (context_in message.ies) _ (λ context fits.
    bind_some IsOctet IsCommandInRange context.ebi _ (λ ebi small.
    any_then IsCommandInRange context.cause _ (λ row_cause. (small, enb_fits context.fteids fits.fteids)))
    fits.ebi) (context_is message.ies all))

ask_fits : (context : Context) → ContextFits context → IfSome (ask_of context) IsAskInRange
ask_fits context fits =
    map_some IsOctet IsAskInRange (λ ebi. record { ebi = ebi; enb = enb_in context.fteids }) (assigned context.ebi)
    (λ ebi small. (small, enb_fits context.fteids fits.fteids)) (assigned_fits context.ebi fits.ebi)

first_context_fits : (ie : Element) → ElementFits ie → IfSome (first_context ie) ContextFits
first_context_fits ie is =
    test_some ContextFits (ie.instance == 0) (context_value ie.value) None (context_part ie.value is) tt

asks_fit : (ies : List Element) → AllByRecursion ElementFits ies → AllByRecursion IsAskInRange (asks_in ies)
unfolding each_ask
asks_fit ies all =
    each_first IsAskInRange (filter_map ask_of (contexts_of ies))
    (each_some ContextFits IsAskInRange ask_of ask_fits (contexts_of ies)
    (each_some ElementFits ContextFits first_context first_context_fits ies all))

session_in : (message : Message) → AllByRecursion ElementFits message.ies
    → IfSome (session_command message) IsCommandInRange
unfolding session_command
session_in message all =
    test_some IsCommandInRange (message.kind == MODIFY_BEARER_REQUEST) (Some (modification message)) _
    (All-from_recursion IsAskInRange (asks_in message.ies) (asks_fit message.ies all))
    (test_some IsCommandInRange (message.kind == DELETE_SESSION_REQUEST) (Some (commands.Delete message.seq)) _ tt
    (test_some IsCommandInRange (message.kind == RELEASE_ACCESS_BEARERS_REQUEST) (Some (commands.Release message.seq)) _ tt
    (test_some IsCommandInRange (message.kind == CREATE_BEARER_RESPONSE) (bearer_answer message) _
    (answer_in message all)
    (test_some IsCommandInRange (message.kind == UPDATE_BEARER_RESPONSE) (Some (commands.UpdateAns message.seq)) _ tt
    (test_some IsCommandInRange (message.kind == DELETE_BEARER_RESPONSE) (Some (commands.DeleteAns message.seq)) None tt
    tt)))))

-- the replies that notes tell
echo_small : (seq : ℕ) → Small (spelling (echo_response seq))
echo_small seq = message_small (echo_response seq) (omega arith) ((omega arith, omega arith), tt)

alone_small : (teid request seq code : ℕ) → request ≤ 176 → IsOctet code
    → Small (spelling (cause_alone teid request seq code))
alone_small teid request seq code few known =
    message_small (cause_alone teid request seq code) (omega (arith, few)) ((omega arith, (known, tt)), tt)

no_context_small : (message : Message) (test : Bool) → is_request message.kind ≡ test
    → IfSome
    (if test then Some (spelling (cause_alone 0 message.kind message.seq CONTEXT_NOT_FOUND)) else None) Small
no_context_small message true is =
    alone_small 0 message.kind message.seq CONTEXT_NOT_FOUND (request_small message.kind is) (omega arith)
no_context_small message false is = tt

refusal_small : (octets : List ℕ) (cause : ℕ) (element : ℕ × ℕ) (test : Bool) → is_request (kind_of octets) ≡ test
    → IsOctet cause → IsOctet element.0 → IsOctet element.1
    → IfSome (option_map spelling
    (if test then Some (refusing (kind_of octets) (seq_of octets) cause element) else None)) Small
refusal_small octets cause element true is known small_type small_instance =
    message_small (refusing (kind_of octets) (seq_of octets) cause element)
    (omega (arith, request_small (kind_of octets) is))
    ((omega arith, (known, (small_type, small_instance))), tt)
refusal_small octets cause element false is known small_type small_instance = tt

reply_small : (octets : List ℕ) (bad : CBad) → FaultFits bad → IfSome (refusal_of octets bad) Small
reply_small octets bads.Short fits = tt
reply_small octets bads.Version fits = tt
reply_small octets bads.Piggyback fits = tt
reply_small octets bads.Length fits = tt
reply_small octets bads.Kind fits = tt
reply_small octets (bads.Missing type instance) fits =
    refusal_small octets 70 (type, instance) (is_request (kind_of octets)) refl (omega arith) fits.0 fits.1
reply_small octets (bads.Incorrect type instance) fits =
    refusal_small octets 69 (type, instance) (is_request (kind_of octets)) refl (omega arith) fits.0 fits.1
reply_small octets bads.NoMemory fits = tt

-- octets of the MME
no_context_is_note : (message : Message) → IsNote (no_context_note message)
no_context_is_note message =
    words_replied (codes "s11 nocontext") (no_context_reply message) refl
    (no_context_small message (is_request message.kind) refl)

pool_is_note : (teid seq : ℕ) → IsNote (pool_note teid seq)
pool_is_note teid seq =
    words_told (codes "s11 pool")
    (spelling (cause_alone teid CREATE_SESSION_REQUEST seq ALL_DYNAMIC_ADDRESSES_ARE_OCCUPIED)) refl
    (alone_small teid CREATE_SESSION_REQUEST seq ALL_DYNAMIC_ADDRESSES_ARE_OCCUPIED (omega arith) (omega arith))

echo_is_note : (seq : ℕ) → IsNote (echo_note seq)
echo_is_note seq =
    words_told (codes "s11 echo") (spelling (echo_response seq)) refl (echo_small seq)

created_in : (message : Message) → AllByRecursion ElementFits message.ies → IfSome (create_asked message) AskedIn
created_in message all =
    any_then AskedIn (imsi_in message.ies) _ (λ digits.
    any_then AskedIn (mme_in message.ies) _ (λ (mme : Peer).
    bind_some IsCommandInRange AskedIn (creation message) _ (λ create is. (is, pool_is_note mme.teid message.seq))
    (creation_in message all)))

slot_in : (found : Option ℕ) (asks : CommandKind) (missing : List ℕ) → IsCommandInRange asks → IsNote missing
    → AskedIn (for_slot found asks missing)
slot_in (Some number) asks missing is note_is = (is, note_is)
slot_in None asks missing is note_is = note_is

asked_of_session : (message : Message) → AllByRecursion ElementFits message.ies
    → IfSome (session_asked message) AskedIn
asked_of_session message all =
    map_some IsCommandInRange AskedIn
    (λ asks. for_slot (option_and_then control_slot message.teid) asks (no_context_note message))
    (session_command message)
    (λ asks is. slot_in (option_and_then control_slot message.teid) asks (no_context_note message) is
    (no_context_is_note message)) (session_in message all)

unexpected_in : (one : Option Asked) → IfSome one AskedIn → AskedIn (or_unexpected one)
unexpected_in (Some one) is = is
unexpected_in None is = words_are_note (codes "s11 unexpected") refl

by_test : (test : Bool) (one other : Asked) → AskedIn one → AskedIn other → AskedIn (if test then one else other)
by_test true one other first second = first
by_test false one other first second = second

message_is : (message : Message) → AllByRecursion ElementFits message.ies → AskedIn (message_asked message)
unfolding message_asked create_or_unexpected session_or_unexpected
message_is message all =
    by_test (message.kind == ECHO_REQUEST) _ _ (echo_is_note message.seq)
    (by_test (message.kind == ECHO_RESPONSE || message.kind == DOWNLINK_DATA_NOTIFICATION_ACKNOWLEDGE) _ _
    (words_are_note (codes "s11 noted") refl)
    (by_test (message.kind == CREATE_SESSION_REQUEST) _ _
    (unexpected_in (create_asked message) (created_in message all))
    (unexpected_in (session_asked message) (asked_of_session message all))))

mme_where : (octets : List ℕ) (fault : Option CBad) → Small octets → IfSome fault FaultFits
    → AskedIn (asked_where octets fault)
mme_where octets (Some bad) small fits =
    message_is_note bad (refusal_of octets bad) fits (reply_small octets bad fits)
mme_where octets None small fits = message_is (message_in octets) (message_fits octets small)

mme_is : (octets : List ℕ) → Small octets → AskedIn (mme_asked octets)
unfolding mme_asked
mme_is octets small = mme_where octets (first_fault octets) small (fault_fits octets)

-- packets
length_taken : (n : ℕ) (xs : List ℕ) → length (take n xs) ≤ n
length_taken zero xs = omega arith
length_taken (suc n) [] = omega arith
length_taken (suc n) (x ∷ xs) = omega (arith, length_taken n xs)

total_fits : (octets : List ℕ) → AreOctets octets → total_length octets < 2 ^ 16
total_fits octets are = omega (arith, are 2, are 3)

lent_in : (moment : ℕ) (way : Way) (octets : List ℕ) → moment < 2 ^ 50 → Small octets
    → IsPacketInRange (lent moment way octets)
lent_in moment way octets known small = record {
  octets = All-from_recursion IsOctet (packet_of octets) (taken IsOctet (total_length octets) octets small);
  short = omega (
    arith,
    length_taken (total_length octets) octets,
    total_fits octets (index_small octets small),
  );
  moment = known;
}

carried_in : (moment index : ℕ) (payload : List ℕ) (fault : Option IpBad) → moment < 2 ^ 50 → Small payload
    → WishIn (carried_where moment index payload fault)
carried_in moment index payload (Some bad) known small = carried_is_note bad
carried_in moment index payload None known small = lent_in moment (Up index) payload known small

-- a message with a sequence number, of this body
numbered_small : (kind : GtpUKind) (teid seq : ℕ) (body : List ℕ) → IsOctet (type_octet kind) → Small body
    → Small (tunnel_text kind teid (Some seq) body)
numbered_small kind teid seq body known small =
    let behind : Small (be16_octets seq ++ 0 ∷ 0 ∷ body) =
    both (be16_octets seq) (0 ∷ 0 ∷ body) (be16_small seq) (omega arith, (omega arith, small)) in
    let rest : Small (be32_octets teid ++ be16_octets seq ++ 0 ∷ 0 ∷ body) =
    both (be32_octets teid) (be16_octets seq ++ 0 ∷ 0 ∷ body) (be32_small teid) behind in
    let counted : Small (be16_octets (length body + 4) ++ be32_octets teid ++ be16_octets seq ++ 0 ∷ 0 ∷ body) =
    both (be16_octets (length body + 4)) (be32_octets teid ++ be16_octets seq ++ 0 ∷ 0 ∷ body)
    (be16_small (length body + 4)) rest in
    (omega arith, (known, counted))

unknown_small : (teid : ℕ) → Small (tunnel_spelling (ErrorIndication 0 teid gateway_addr))
unknown_small teid =
    let peer : Small (be32_octets gateway_addr) = be32_small gateway_addr in
    let behind : Small (0x85 ∷ 0 ∷ 4 ∷ be32_octets gateway_addr) = (omega arith, (omega arith, (omega arith, peer))) in
    let body : Small (0x10 ∷ be32_octets teid ++ 0x85 ∷ 0 ∷ 4 ∷ be32_octets gateway_addr) =
    (omega arith, both (be32_octets teid) (0x85 ∷ 0 ∷ 4 ∷ be32_octets gateway_addr) (be32_small teid) behind) in
    numbered_small tunnel.ErrorIndication 0 0 (0x10 ∷ be32_octets teid ++ 0x85 ∷ 0 ∷ 4 ∷ be32_octets gateway_addr)
    (omega arith) body

unknown_is_note : (teid : ℕ) → IsNote (unknown_note teid)
unknown_is_note teid =
    words_told (codes "s1u unknown") (tunnel_spelling (ErrorIndication 0 teid gateway_addr)) refl
    (unknown_small teid)

tunnel_echo_small : (seq : ℕ) → Small (tunnel_spelling (EchoResponse seq))
tunnel_echo_small seq =
    numbered_small tunnel.EchoResponse 0 seq (0x0e ∷ 0 ∷ []) (omega arith) (omega arith, (omega arith, tt))

tunnel_echo_is_note : (seq : Option ℕ) → IsNote (tunnel_echo_note seq)
tunnel_echo_is_note seq =
    words_told (codes "s1u echo") (tunnel_spelling (EchoResponse (unwrap_or seq 0))) refl
    (tunnel_echo_small (unwrap_or seq 0))

to_bearer : (moment teid : ℕ) (payload : List ℕ) (end : Option (ℕ × ℕ)) → moment < 2 ^ 50 → Small payload
    → AskedIn (tunnelled_to end moment teid payload)
to_bearer moment teid payload (Some (number, index)) known small =
    (carried_in moment index payload (ip_fault payload) known small, unknown_is_note teid)
to_bearer moment teid payload None known small = unknown_is_note teid

tunnelled_is : (moment teid : ℕ) (payload : List ℕ) → moment < 2 ^ 50 → Small payload
    → AskedIn (tunnelled moment teid payload)
unfolding tunnelled
tunnelled_is moment teid payload known small = to_bearer moment teid payload (bearer_end teid) known small

type_is : (moment : ℕ) (one : GtpUKind) (head : GtpUHead) (body : List ℕ) → moment < 2 ^ 50 → Small body
    → AskedIn (kind_asked moment one head body)
type_is moment tunnel.EchoRequest head body known small = tunnel_echo_is_note head.seq
type_is moment tunnel.EchoResponse head body known small = words_are_note (codes "s1u noted") refl
type_is moment tunnel.ErrorIndication head body known small = words_are_note (codes "s1u noted") refl
type_is moment tunnel.EndMarker head body known small = words_are_note (codes "s1u noted") refl
type_is moment tunnel.Gpdu head body known small = tunnelled_is moment head.teid body known small

-- what a message of GTP-U carries
behind_small : (before : ℕ) (octets : List ℕ) → Small octets → IfSome (body_behind before octets) Small
behind_small zero [] small = tt
behind_small zero (zero ∷ body) small = small.1
behind_small zero (suc type ∷ []) small = tt
behind_small zero (suc type ∷ zero ∷ rest) small = tt
behind_small zero (suc type ∷ suc units ∷ rest) small = behind_small (4 * units + 2) rest small.1.1
behind_small (suc before) [] small = tt
behind_small (suc before) (octet ∷ rest) small = behind_small before rest small.1

unwrapped : (body : Option (List ℕ)) → IfSome body Small → Small (unwrap_or body [])
unwrapped None small = tt
unwrapped (Some body) small = small

if_small : (test : Bool) (one other : List ℕ) → Small one → Small other → Small (if test then one else other)
if_small true one other first second = first
if_small false one other first second = second

body_small : (flags : ℕ) (counted : List ℕ) → Small counted → Small (carried_by flags counted)
body_small flags counted small =
    let behind : Small (drop 4 counted) = dropped IsOctet 4 counted small in
    if_small (has_extensions flags) (unwrap_or (behind_headers counted) []) _
    (unwrapped (behind_headers counted)
    (behind_small 0 (slice_index counted 3 ∷ drop 4 counted) (index_small counted small 3, behind)))
    (if_small (has_options flags) (drop 4 counted) counted behind small)

abbrev CarriesSmall : GtpUHead × List ℕ → Type 0
CarriesSmall message = Small message.1

carries_small : (octets : List ℕ) → Small octets → IfSome (message_of octets) CarriesSmall
carries_small octets small =
    let counted : Small (counted_in octets) =
    taken IsOctet (length_in octets) (drop 8 octets) (dropped IsOctet 8 octets small) in
    test_some CarriesSmall (is_some (tunnel_fault octets)) None
    (option_map (message_with octets) (tunnel_kind (type_in octets))) tt
    (map_some (λ _. Unit {0}) CarriesSmall (message_with octets) (tunnel_kind (type_in octets))
    (λ one is. body_small (flags_in octets) (counted_in octets) counted) (always (tunnel_kind (type_in octets))))

tunnel_read_is : (moment : ℕ) (fault : Option UBad) (read : Option (GtpUHead × List ℕ)) → moment < 2 ^ 50
    → IfSome read CarriesSmall → AskedIn (tunnel_where moment fault read)
tunnel_read_is moment fault (Some (head, body)) known small = type_is moment head.kind head body known small
tunnel_read_is moment (Some bad) None known small = tunnel_is_note bad
tunnel_read_is moment None None known small = words_are_note (codes "s1u kind") refl

tunnel_is : (moment : ℕ) (octets : List ℕ) → moment < 2 ^ 50 → Small octets → AskedIn (tunnel_asked moment octets)
unfolding tunnel_asked
tunnel_is moment octets known small =
    tunnel_read_is moment (tunnel_fault octets) (message_of octets) known (carries_small octets small)

delivered_is : (found : Option ℕ) (given : LentPacket) → IsPacketInRange given → AskedIn (delivered_to found given)
delivered_is (Some number) given is = (is, words_are_note (codes "sgi unknown") refl)
delivered_is None given is = words_are_note (codes "sgi unknown") refl

packet_where_is : (moment : ℕ) (octets : List ℕ) (fault : Option IpBad) → moment < 2 ^ 50 → Small octets
    → AskedIn (packet_where moment octets fault)
packet_where_is moment octets (Some bad) known small = packet_is_note bad
packet_where_is moment octets None known small =
    let given = lent moment Down octets in
    delivered_is (addressee (destination_of given.ip)) given (lent_in moment Down octets known small)

packet_is : (moment : ℕ) (octets : List ℕ) → moment < 2 ^ 50 → Small octets → AskedIn (packet_asked moment octets)
unfolding packet_asked
packet_is moment octets known small = packet_where_is moment octets (ip_fault octets) known small

-- instructions
template_is : (command_of : Tft → CommandKind) (octets : List ℕ) (fault : Option TBad) → template_fault octets ≡ fault
    → AreOctets octets → ((tft : Tft) → IsTft tft → IsCommandInRange (command_of tft))
    → WishIn (templated_where command_of octets fault)
template_is command_of octets (Some bad) is are each = template_is_note bad
template_is command_of octets None is are each = each (tft_at octets) (tft_taken octets are is).0

templated_is : (command_of : Tft → CommandKind) (octets : List ℕ) → AreOctets octets
    → ((tft : Tft) → IsTft tft → IsCommandInRange (command_of tft)) → WishIn (templated command_of octets)
unfolding templated
templated_is command_of octets are each = template_is command_of octets (template_fault octets) refl are each

no_imsi : IsNote (codes "noimsi")
no_imsi = words_are_note (codes "noimsi") refl

octets_of_kind : (octets : List ℕ) → All (λ octet. octet < 256) octets → AreOctets octets
octets_of_kind octets all = index_small octets (small_octets octets all)

kind_is : (number moment : ℕ) (one : LineKind) → moment < 2 ^ 50 → IsKind one → AskedIn (kind_asks number moment one)
kind_is number moment (kind.S11 octets) known is = mme_is octets (small_octets octets is.1)
kind_is number moment (kind.S1u octets) known is = tunnel_is moment octets known (small_octets octets is.1)
kind_is number moment (kind.Sgi octets) known is = packet_is moment octets known (small_octets octets is.1)
kind_is number moment (kind.Attach imsi enb up down) known is =
    (is.1, words_are_note (codes "pool") refl)
kind_is number moment (kind.Bearer imsi qci mbr_up mbr_down gbr_up gbr_down tft) known is =
    let class : IsOctet qci = omega (arith, is.1.1) in
    (templated_is _ tft (octets_of_kind tft is.6.1) (λ template own. (class, own)), no_imsi)
kind_is number moment (kind.Filters imsi ebi tft) known is =
    let bearer : IsOctet ebi = omega (arith, is.1.1) in
    (templated_is _ tft (octets_of_kind tft is.2.1) (λ template own. (bearer, own)), no_imsi)
kind_is number moment (kind.Drop imsi ebi) known is = (omega (arith, is.1.1), no_imsi)
kind_is number moment (kind.Ambr imsi up down) known is = (tt, no_imsi)
kind_is number moment (kind.Move imsi slice) known is = (is.1, no_imsi)
kind_is number moment kind.Fence known is = words_are_note (codes "fence") refl

line_is : (line : Line) → IsLine line → AskedIn (asked line)
unfolding asked
line_is line is = kind_is line.number line.moment line.kind is.moment is.kind

-- what is decided, and what that means
abbrev DecisionIn : Decision → Type 0
DecisionIn (Command whose asks) = IsCommandInRange asks
DecisionIn (Packet at given) = IsPacketInRange given
DecisionIn (Move at slice) = slice ≤ 63
DecisionIn (Note text) = IsNote text

by_slice : (at slice : ℕ) (text : List ℕ) (test : Bool) → slice ≤ 63 → IsNote text
    → DecisionIn (if test then Move at slice else Note text)
by_slice at slice text true known note_is = known
by_slice at slice text false known note_is = note_is

by_found : (slices : ℕ) (found : Option ℕ) (wish : Wish) (missing : List ℕ) → WishIn wish → IsNote missing
    → DecisionIn (wished_by slices found wish missing)
by_found slices None wish missing is note_is = note_is
by_found slices (Some at) (command asks) missing is note_is = is
by_found slices (Some at) (packet given) missing is note_is = is
by_found slices (Some at) (move slice) missing is note_is =
    by_slice at slice _ (nat_lt slice slices) is (words_are_note (codes "noslice") refl)
by_found slices (Some at) (noted text) missing is note_is = is

by_whose : (whose : Option Whose) (asks : CommandKind) (full : List ℕ) → IsCommandInRange asks → IsNote full
    → DecisionIn (admitting whose asks full)
by_whose (Some whose) asks full is note_is = is
by_whose None asks full is note_is = note_is

decision_in : (slices : ℕ) (book : List (List ℕ)) (one : Asked) → AskedIn one → DecisionIn (resolved slices book one)
unfolding resolved
decision_in slices book (note text) is = is
decision_in slices book (admission digits asks full) is = by_whose (whose_in book digits) asks full is.0 is.1
decision_in slices book (of whom wish missing) is = by_found slices (found_in book whom) wish missing is.0 is.1

due_slot : (book : List (List ℕ)) (whose : Whose) → IsDue book whose → length book ≤ 65533
    → IsSlot (slot_of book whose)
due_slot book (Known at) is most = omega (arith, is)
due_slot book (New digits) is most = omega (arith, is.1)

meant_in : (slices : ℕ) (book : List (List ℕ)) (before : List Decision) (decision : Decision)
    → IsDecision slices book decision → DecisionIn decision → length book ≤ 65533
    → IsInRange (meant slices book before decision)
meant_in slices book before (Command whose asks) is own most = (due_slot book whose is most, own)
meant_in slices book before (Packet at given) is own most = (omega (arith, is), own)
meant_in slices book before (Move at slice) is own most =
    let slot : IsSlot at = omega (arith, is.0) in
    (slot, move_is_note (destination slices at before) at slice (omega (arith, slot)) (omega (arith, own)))
meant_in slices book before (Note text) is own most = own

pub meaning_in : (slices : ℕ) (before : List Line) (line : Line) → IsLine line → IsInRange (meaning slices before line)
meaning_in slices before line is =
    meant_in slices (book_of before) (decisions slices before) (decided slices (book_of before) line)
    (is_decision slices (book_of before) (asked line)) (decision_in slices (book_of before) (asked line) (line_is line is))
    (book_most before)
