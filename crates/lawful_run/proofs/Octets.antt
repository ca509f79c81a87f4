-- What the gateway answers, sends and lets wait has octets.
use Rattle.std.proofs.Common.{◌≡◌, ℕ, ◌<◌, ◌==◌, ◌&&◌, nat_le, Bool, true, false, if◌then◌else◌, Option, None, Some, IfSome, List, [], ◌∷◌, ◌++◌, length, fold, refl, arith}
use Rattle.std.specs.List.{All, flat_map}
use Rattle.std.specs.Option.{option_map, option_or}
use Rattle.std.proofs.lemmas.List.Elements.{All-append, All-cons, All-nil}
use Rattle.bearer_state.specs.Session.{SessionState}
use Rattle.bearer_state.specs.Version.{VersionState, bearer_at}
use Rattle.bearer_state.specs.declared.kept.Kept.{Kept}
use Rattle.bearer_state.specs.declared.version.ActiveBearer.{ActiveBearer}
use Rattle.control_steps.specs.Command.{request_of}
use Rattle.control_steps.specs.Row.{Row, repeated, row_of}
use Rattle.control_steps.specs.Table.{kept_answer, kept_reply, last_answer, octets, written}
use Rattle.control_steps.specs.declared.command.CommandKind.{CommandKind}
use Rattle.gate_model.specs.SlotPast.{SlotPast, behind, commanded, effects_after, happens, met, next_version, past_of, reply_after, verdict_after}
use Rattle.gate_model.specs.declared.event.Event.{Event}
use Rattle.gate_model.specs.declared.event.Event.TheVariants as event
use Rattle.gate_model.proofs.Outcomes.{length-gpdu}
use Rattle.gtpv2_msg.specs.Message.{Message}
use Rattle.gtpv2_msg.specs.Spelling.{header_octets, spelling}
use Rattle.packet_steps.specs.Change.{bearer_of, enb_of, fated, marked, marker_between, marker_for, markers, released, released_by, released_to, same_peer}
use Rattle.packet_steps.specs.Messages.{end_marker, gpdu, notification}
use Rattle.packet_steps.specs.Past.{Past, row_for, with_held, with_row}
use Rattle.packet_steps.specs.Policing.{passes}
use Rattle.packet_steps.specs.Rows.{HeldRow}
use Rattle.packet_steps.specs.Verdicts.{at_moment, bearer_for, is_packet, judged_by_way, judged_down, judged_to, judged_up, notice, tried}
use Rattle.pc_base.specs.Addresses.{addr_of}
use Rattle.pc_base.specs.declared.effect.Effect.{Effect}
use Rattle.pc_base.specs.declared.effect.Effect.TheVariants as effect
use Rattle.pc_base.specs.declared.effect.Fate.{Fate}
use Rattle.pc_base.specs.declared.effect.Fate.TheVariants as fate
use Rattle.pc_base.specs.declared.packet.Packet.{Packet}
use Rattle.pc_base.specs.declared.packet.Peer.{Peer}
use Rattle.pc_base.specs.declared.packet.Verdict.{Verdict}
use Rattle.pc_base.specs.declared.packet.Verdict.TheVariants as verdict
use Rattle.pc_base.specs.declared.packet.Way.{Way}
use Rattle.pc_base.specs.declared.packet.Way.TheVariants.{Up, Down}
use Rattle.ipv4_packet.specs.Fields.{source_of}
use Rattle.report_lines.specs.Records.{HasOctets, KeepsEffect, KeepsFate, KeepsReply, KeepsVerdict}

-- a message has a header
header_some : (kind : ℕ) (teid : Option ℕ) (seq len : ℕ) (ies : List ℕ)
    → 0 < length (header_octets kind teid seq len ++ ies)
header_some kind None seq len ies = omega arith
header_some kind (Some teid) seq len ies = omega arith

message_some : (message : Message) → 0 < length (spelling message)
message_some message = header_some message.kind message.teid message.seq _ _

written_some : (message : Option Message) → IfSome (option_map spelling message) HasOctets
written_some None = tt
written_some (Some message) = message_some message

-- answers that are kept
abbrev LastHasOctets : SessionState → Type 0
LastHasOctets session = IfSome session.last (λ (kept : Kept). HasOctets kept.reply)

kept_some : (last : Option Kept) → IfSome last (λ (kept : Kept). HasOctets kept.reply)
    → IfSome (kept_reply last) HasOctets
kept_some None has = tt
kept_some (Some kept) has = has

octets_some : (row : Row) (session : SessionState) (command : CommandKind) → LastHasOctets session
    → IfSome (octets row session command) HasOctets
octets_some repeated session command has = kept_some session.last has
octets_some row session command has = written_some (written row session command)

answer_some : (request : Option (ℕ × ℕ)) (answer : Option (List ℕ)) (last : Option Kept) → IfSome answer HasOctets
    → IfSome last (λ (kept : Kept). HasOctets kept.reply)
    → IfSome (option_or (kept_answer request answer) last) (λ (kept : Kept). HasOctets kept.reply)
answer_some None answer last has kept = kept
answer_some (Some request) None last has kept = kept
answer_some (Some request) (Some answer) last has kept = has

last_some : (row : Row) (session : SessionState) (command : CommandKind) → LastHasOctets session
    → IfSome (last_answer row session command) (λ (kept : Kept). HasOctets kept.reply)
last_some repeated session command has = has
last_some row session command has =
    answer_some (request_of command) (option_map spelling (written row session command)) session.last
    (written_some (written row session command)) has

session_some : (past : SlotPast) (events : List Event) → LastHasOctets past.session
    → LastHasOctets (fold behind past events).session
unfolding happens
session_some past [] has = has
session_some past (event.Command c ∷ events) has =
    session_some (commanded past c) events (last_some (row_of past.session c) past.session c has)
session_some past (event.Packet p ∷ events) has = session_some (met past p) events has

pub reply_some : (slot : ℕ) (before : List Event) (c : CommandKind) → KeepsReply (reply_after slot before c)
reply_some slot before c =
    let session = (past_of slot before).session in
    octets_some (row_of session c) session c (session_some _ before tt)

-- a packet has octets
pub packet_some : (packet : List ℕ) → is_packet packet ≡ true → 0 < length packet
packet_some [] is = cc
packet_some (octet ∷ packet) is = omega arith

pub gpdu_some : (peer : Peer) (packet : List ℕ) → 0 < length (gpdu peer packet)
gpdu_some peer packet = omega (arith, length-gpdu peer packet)

pub marker_some : (peer : Peer) → 0 < length (end_marker peer)
unfolding end_marker
marker_some peer = omega arith

pub notification_some : (mme : Peer) (number ebi : ℕ) → 0 < length (notification mme number ebi)
unfolding notification
notification_some mme number ebi = omega arith

-- verdicts
by_test : (test : Bool) (one other : Past × Verdict) → KeepsVerdict one.1 → KeepsVerdict other.1
    → KeepsVerdict (if test then one else other).1
by_test true one other first second = first
by_test false one other first second = second

tried_keeps : (past : Past) (bearer : ActiveBearer) (up : Bool) (many : ℕ) (passed : Verdict) → KeepsVerdict passed
    → KeepsVerdict (tried past bearer up many passed).1
tried_keeps past bearer up many passed keeps =
    by_test (passes past bearer up many) (with_row past (row_for past bearer up many), passed)
    (past, verdict.Policed bearer.life) keeps tt

up_keeps : (past : Past) (packet : List ℕ) (bearer : Option ActiveBearer) → 0 < length packet
    → KeepsVerdict (judged_up past packet bearer).1
up_keeps past packet None some = tt
up_keeps past packet (Some bearer) some =
    by_test (source_of packet == addr_of past.version.slot)
    (tried past bearer true (length packet) (verdict.Up bearer.life packet)) (past, verdict.Spoof)
    (tried_keeps past bearer true (length packet) (verdict.Up bearer.life packet) some) tt

mme_some : (mme : Option Peer) (number ebi : ℕ)
    → IfSome (option_map (λ (peer : Peer). notification peer number ebi) mme) HasOctets
mme_some None number ebi = tt
mme_some (Some peer) number ebi = notification_some peer number ebi

if_some : (test : Bool) (message : Option (List ℕ)) → IfSome message HasOctets
    → IfSome (if test then message else None) HasOctets
if_some true message has = has
if_some false message has = tt

to_keeps : (past : Past) (packet : Packet) (bearer : ActiveBearer) (peer : Option Peer)
    → KeepsVerdict (judged_to past packet bearer peer).1
to_keeps past packet bearer None =
    by_test (nat_le 16 (length past.held)) (past, verdict.Idle bearer.life) (
      with_held past (record { packet = packet; life = bearer.life }),
      verdict.Held bearer.life (notice past packet.number bearer.ebi),
    ) tt
    (if_some (length past.held == 0) (option_map (λ (mme : Peer). notification mme packet.number bearer.ebi)
    past.version.mme) (mme_some past.version.mme packet.number bearer.ebi))
to_keeps past packet bearer (Some peer) =
    tried_keeps past bearer false (length packet.octets)
    (verdict.Down bearer.life peer.addr (gpdu peer packet.octets)) (gpdu_some peer packet.octets)

down_keeps : (past : Past) (packet : Packet) (bearer : Option ActiveBearer)
    → KeepsVerdict (judged_down past packet bearer).1
down_keeps past packet None = tt
down_keeps past packet (Some bearer) = to_keeps past packet bearer bearer.enb

way_keeps : (past : Past) (packet : Packet) (way : Way) → 0 < length packet.octets
    → KeepsVerdict (judged_by_way past packet way).1
way_keeps past packet (Up index) some =
    up_keeps past packet.octets (bearer_at past.version.bearers index) some
way_keeps past packet Down some = down_keeps past packet (bearer_for past.version packet.octets)

now_keeps : (past : Past) (packet : Packet) (live is : Bool) → is_packet packet.octets ≡ is
    → KeepsVerdict (if live && is then judged_by_way past packet packet.way else (past, verdict.NoBearer)).1
now_keeps past packet true true same = way_keeps past packet packet.way (packet_some packet.octets same)
now_keeps past packet true false same = tt
now_keeps past packet false is same = tt

pub verdict_some : (slot : ℕ) (before : List Event) (packet : Packet) → KeepsVerdict (verdict_after slot before packet)
verdict_some slot before packet =
    let past = at_moment (past_of slot before).packets packet.moment in
    now_keeps past packet past.version.live (is_packet packet.octets) refl

-- effects
between_keep : (life : ℕ) (old new : Option Peer) → All KeepsEffect (marker_between life old new)
between_keep life None new = All-nil KeepsEffect
between_keep life (Some old) None = All-nil KeepsEffect
between_keep life (Some old) (Some new) = by_peer (same_peer old new)
  where
    by_peer : (same : Bool)
        → All KeepsEffect (if same then [] else effect.Marker life old.addr (end_marker old) ∷ [])
    by_peer true = All-nil KeepsEffect
    by_peer false =
        All-cons KeepsEffect (effect.Marker life old.addr (end_marker old)) [] (marker_some old) (All-nil KeepsEffect)

markers_keep : (after : VersionState) (bearers : List ActiveBearer)
    → All KeepsEffect (flat_map (marker_for after) bearers)
markers_keep after [] = All-nil KeepsEffect
markers_keep after (bearer ∷ bearers) =
    All-append KeepsEffect (marker_for after bearer) (flat_map (marker_for after) bearers)
    (between_keep bearer.life bearer.enb (enb_of after.bearers bearer.life)) (markers_keep after bearers)

fated_keep : (so_far : Past × List Effect) (row : HeldRow) (now : Fate) → KeepsFate now → All KeepsEffect so_far.1
    → All KeepsEffect (fated so_far row now).1
fated_keep so_far row now keeps all =
    All-append KeepsEffect so_far.1 (effect.Fate row.packet.number now ∷ []) all
    (All-cons KeepsEffect (effect.Fate row.packet.number now) [] keeps (All-nil KeepsEffect))

by_pass : (test : Bool) (one other : Past × List Effect) → All KeepsEffect one.1 → All KeepsEffect other.1
    → All KeepsEffect (if test then one else other).1
by_pass true one other first second = first
by_pass false one other first second = second

to_keep : (so_far : Past × List Effect) (row : HeldRow) (bearer : ActiveBearer) (peer : Option Peer)
    → All KeepsEffect so_far.1 → All KeepsEffect (released_to so_far row bearer peer).1
to_keep so_far row bearer None all = all
to_keep so_far row bearer (Some peer) all =
    by_pass (passes so_far.0 bearer false (length row.packet.octets)) _ _
    (fated_keep (with_row so_far.0 (row_for so_far.0 bearer false (length row.packet.octets)), so_far.1) row
    (fate.Down row.life peer.addr (gpdu peer row.packet.octets)) (gpdu_some peer row.packet.octets) all)
    (fated_keep so_far row (fate.Policed row.life) tt all)

by_keep : (so_far : Past × List Effect) (row : HeldRow) (found : Option ActiveBearer) → All KeepsEffect so_far.1
    → All KeepsEffect (released_by so_far row found).1
by_keep so_far row None all = fated_keep so_far row (fate.Gone row.life) tt all
by_keep so_far row (Some bearer) all = to_keep so_far row bearer bearer.enb all

all_keep : (so_far : Past × List Effect) (rows : List HeldRow) → All KeepsEffect so_far.1
    → All KeepsEffect (fold released so_far rows).1
all_keep so_far [] all = all
all_keep so_far (row ∷ rows) all =
    all_keep (released so_far row) rows (by_keep so_far row (bearer_of so_far.0.version.bearers row.life) all)

pub effects_some : (slot : ℕ) (before : List Event) (c : CommandKind) → All KeepsEffect (effects_after slot before c)
effects_some slot before c =
    let past = (past_of slot before).packets in
    let after = next_version (past_of slot before) c in
    all_keep (marked past after, markers past.version after) past.held (markers_keep after past.version.bearers)
