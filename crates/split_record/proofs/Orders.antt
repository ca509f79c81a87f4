-- The commands and the packets of an order, and the replies along it.
use Rattle.std.proofs.Common.{◌≡◌, ℕ, ◌+◌, ◌-◌, List, [], ◌∷◌, ◌++◌, map, take, drop, refl, ap, sym, ◌∙◌, length}
use Rattle.std.proofs.Common.{length-append}
use Rattle.std.proofs.lemmas.List.Sums.{fold-append}
use Rattle.std.proofs.lemmas.List.{take-append-drop}
use Rattle.std.proofs.lemmas.List.Elements.{filter_map-append}
use Rattle.pc_base.specs.declared.packet.Packet.{Packet}
use Rattle.pc_base.specs.declared.reply.Reply.{Reply}
use Rattle.bearer_state.specs.Session.{SessionState, new_session}
use Rattle.control_steps.specs.declared.command.CommandKind.{CommandKind}
use Rattle.control_steps.specs.Table.{controlled}
use Rattle.gate_model.specs.declared.event.Event.{Event}
use Rattle.gate_model.specs.declared.event.Event.TheVariants as event
use Rattle.gate_model.specs.Events.{as_command, as_packet, commands_of, packets_of}
use Rattle.gate_model.specs.SlotPast.{SlotPast, session_after}
use Rattle.gate_model.specs.Versions.{CommandsAreLearnt, PacketsAreJudged, SessionsAreOfCommands, controlled_by}
use Rattle.lawful_run.specs.Outcomes.{replies}
use Rattle.counter_half.specs.Interleaved.{Met, interleaved}

commands_alone : (commands : List CommandKind) → commands_of (map event.Command commands) ≡ commands
commands_alone [] = refl
commands_alone (c ∷ commands) = ap (λ (l : List CommandKind). c ∷ l) (commands_alone commands)

no_packets : (commands : List CommandKind) → packets_of (map event.Command commands) ≡ []
no_packets [] = refl
no_packets (c ∷ commands) = no_packets commands

-- all commands stand in an order, and all packets
pub commands_ordered : (done : ℕ) (commands : List CommandKind) (mets : List Met)
    → commands_of (interleaved done commands mets) ≡ commands
commands_ordered done commands [] = commands_alone commands
commands_ordered done commands (first ∷ mets) =
    let k = first.commands - done in
    let later = interleaved first.commands (drop k commands) mets in
    filter_map-append as_command (map event.Command (take k commands)) (event.Packet first.packet ∷ later)
    ∙ (λ i. commands_alone (take k commands) i ++ commands_ordered first.commands (drop k commands) mets i)
    ∙ take-append-drop k commands

pub packets_ordered : (done : ℕ) (commands : List CommandKind) (mets : List Met)
    → packets_of (interleaved done commands mets) ≡ map (λ (m : Met). m.packet) mets
packets_ordered done commands [] = no_packets commands
packets_ordered done commands (first ∷ mets) =
    let k = first.commands - done in
    let later = interleaved first.commands (drop k commands) mets in
    filter_map-append as_packet (map event.Command (take k commands)) (event.Packet first.packet ∷ later)
    ∙ (λ i. no_packets (take k commands) i ++ first.packet ∷ packets_ordered first.commands (drop k commands) mets i)

-- the replies to commands, one after another
abbrev pub replies_by : SessionState → List CommandKind → List Reply
replies_by session [] = []
replies_by session (c ∷ commands) = (controlled session c).1 ∷ replies_by (controlled session c).0 commands

-- along any order they are those of its commands alone
pub replies_along : CommandsAreLearnt → PacketsAreJudged → (slot : ℕ) (before now : List Event)
    → replies slot before now ≡ replies_by (session_after slot before) (commands_of now)
replies_along learnt judged slot before [] = refl
replies_along learnt judged slot before (event.Command c ∷ now) =
    ap (λ (l : List Reply). (controlled (session_after slot before) c).1 ∷ l)
    (replies_along learnt judged slot (before ++ event.Command c ∷ []) now
    ∙ ap (λ (p : SlotPast). replies_by p.session (commands_of now)) (learnt slot before c))
replies_along learnt judged slot before (event.Packet p ∷ now) =
    replies_along learnt judged slot (before ++ event.Packet p ∷ []) now
    ∙ ap (λ (s : SlotPast). replies_by s.session (commands_of now)) (judged slot before p)

-- the session and the counts behind events more
pub session_on : SessionsAreOfCommands → (slot : ℕ) (before now : List Event)
    → session_after slot (before ++ now) ≡ controlled_by (session_after slot before) (commands_of now)
session_on law slot before now =
    law slot (before ++ now)
    ∙ ap (λ (l : List CommandKind). controlled_by (new_session slot) l) (filter_map-append as_command before now)
    ∙ fold-append (λ (s : SessionState) (c : CommandKind). (controlled s c).0) (new_session slot) (commands_of before)
    (commands_of now)
    ∙ ap (λ (s : SessionState). controlled_by s (commands_of now)) (sym (law slot before))

pub packets_on : (before now : List Event)
    → length (packets_of (before ++ now)) ≡ length (packets_of before) + length (packets_of now)
packets_on before now =
    ap (λ (l : List Packet). length l) (filter_map-append as_packet before now)
    ∙ length-append (packets_of before) (packets_of now)
