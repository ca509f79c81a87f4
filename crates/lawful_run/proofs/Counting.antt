-- How the counts of a slot go on from line to line.
use Rattle.std.proofs.Common.{◌≡◌, ℕ, ◌+◌, ◌==◌, Bool, true, false, Option, Some, None, List, [], ◌∷◌, ◌++◌, length, cond, refl, ap, arith, length-append, append-nil}
use Rattle.std.specs.List.{cons_option}
use Rattle.std.proofs.lemmas.List.Elements.{filter_map-append}
use Rattle.control_steps.specs.declared.command.CommandKind.{CommandKind}
use Rattle.demux.specs.Trace.{Meaning, command, packet, move, note}
use Rattle.gate_model.specs.Events.{commands_of, packets_of}
use Rattle.gate_model.specs.declared.event.Event.{Event}
use Rattle.gate_model.specs.declared.event.Event.TheVariants as event
use Rattle.report_lines.specs.declared.entry.LineEntry.{LineEntry}
use Rattle.pc_base.specs.declared.packet.Packet.{Packet}
use Rattle.lawful_run.specs.Accepted.{accepted_command, command_count, command_for}
use Rattle.lawful_run.specs.AnsweredRun.{with_line}
use Rattle.lawful_run.specs.Bounds.{count_in_sequence}
use Rattle.lawful_run.specs.LinesTold.{LineTold}
use Rattle.demux.specs.Packets.{numbered}
use Rattle.lawful_run.specs.Merging.{Histories}

-- one command, or packet, more
pub commands-command : (before : List Event) (c : CommandKind)
    → length (commands_of (before ++ event.Command c ∷ [])) ≡ length (commands_of before) + 1
commands-command before c = simp (filter_map-append, length-append)

pub commands-packet : (before : List Event) (p : Packet)
    → length (commands_of (before ++ event.Packet p ∷ [])) ≡ length (commands_of before)
commands-packet before p = simp (filter_map-append, append-nil)

pub packets-packet : (before : List Event) (p : Packet)
    → length (packets_of (before ++ event.Packet p ∷ [])) ≡ length (packets_of before) + 1
packets-packet before p = simp (filter_map-append, length-append)

pub packets-command : (before : List Event) (c : CommandKind)
    → length (packets_of (before ++ event.Command c ∷ [])) ≡ length (packets_of before)
packets-command before c = simp (filter_map-append, append-nil)

-- how many of something there is
abbrev pub some_count : {X : Type 0} → Option X → ℕ
some_count x = length (cons_option x [])

pub command_count-push : (slot : ℕ) (prefix : List LineTold) (now : LineTold)
    → command_count slot (prefix ++ now ∷ []) ≡ command_count slot prefix + some_count (accepted_command slot now)
command_count-push slot prefix now = simp (filter_map-append, length-append)

-- the commands of a slot behind a line are those before it and its own
with_command : (test : Bool) (events : List Event) (c : CommandKind)
    → length (commands_of (cond test (events ++ event.Command c ∷ []) events)) ≡ length (commands_of events)
    + some_count (cond test (Some c) None)
with_command true events c = commands-command events c
with_command false events c = omega arith

with_packet : (test : Bool) (events : List Event) (p : Packet)
    → length (commands_of (cond test (events ++ event.Packet p ∷ []) events)) ≡ length (commands_of events)
with_packet true events p = commands-packet events p
with_packet false events p = refl

pub commands-line : (slot : ℕ) (events : List Event) (made : Meaning)
    → length (commands_of (with_line slot events made)) ≡ length (commands_of events)
    + some_count (command_for slot made)
commands-line slot events (note text) = omega arith
commands-line slot events (move own slice text) = omega arith
commands-line slot events (command own c) = with_command (own == slot) events c
commands-line slot events (packet own p) =
    omega (arith, with_packet (own == slot) events (numbered (length (packets_of events)) p))

-- the count at a line, where the line isn't refused
abbrev pub IsCounted : Histories → ℕ → List LineTold → List Event → Type 0
IsCounted start slot prefix events = length (commands_of events) ≡ count_in_sequence start slot prefix

pub counted_on : (start : Histories) (slot : ℕ) (prefix : List LineTold) (events : List Event) (made : Meaning)
    (entry : LineEntry)
    → accepted_command slot (record { meaning = made; entry = entry }) ≡ command_for slot made
    → IsCounted start slot prefix events
    → IsCounted start slot (prefix ++ record { meaning = made; entry = entry } ∷ []) (with_line slot events made)
counted_on start slot prefix events made entry taken counts =
    let more = command_count-push slot prefix (record { meaning = made; entry = entry }) in
    let brought = commands-line slot events made in
    let one : some_count (accepted_command slot (record { meaning = made; entry = entry }))
    ≡ some_count (command_for slot made) = ap some_count taken in
    omega (arith, counts, more, brought, one)
