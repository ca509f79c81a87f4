-- Packets come one after another, slot by slot too.
use Rattle.std.proofs.Common.{◌≡◌, ℕ, ◌≤◌, Bool, true, false, cond, Option, None, List, [], ◌∷◌, sym, subst, arith}
use Rattle.std.specs.List.{cons_option, filter_map}
use Rattle.std.specs.Option.{option_map}
use Rattle.demux.specs.Trace.{Meaning, command, packet, move, note}
use Rattle.demux.specs.declared.packet.LentPacket.{LentPacket}
use Rattle.lawful_run.specs.Accepted as accepted
use Rattle.lawful_run.specs.LinesTold.{LineTold}
use Rattle.slot_execution.specs.Replaying as replay
use Rattle.slot_execution.specs.Replaying.{placed_lent}
use Rattle.slot_execution.specs.declared.placed.Placed.{Placed}
use Rattle.audit_core.specs.Meant.{is_about, packet_in, share}
use Rattle.audit_core.specs.Played.{AreLate, latest_of, moment_behind, placed_in}

-- no packet is before the one before it, nor before one moment, nor behind another
abbrev pub Rises : (low high : ℕ) → List accepted.Placed → Type 0
Rises low high [] = low ≤ high
Rises low high (p ∷ packets) = (low ≤ p.packet.moment) × Rises p.packet.moment high packets

rises_sooner : (sooner low high : ℕ) (packets : List accepted.Placed) → sooner ≤ low → Rises low high packets
    → Rises sooner high packets
rises_sooner sooner low high [] le rises = omega (arith, le, rises)
rises_sooner sooner low high (p ∷ packets) le rises = (omega (arith, le, rises.0), rises.1)

late_so : (m low high : ℕ) (ps : List Placed) → m ≤ low → Rises low high (placed_lent ps)
    → replay.AreLate m ps × (replay.latest_of m ps ≤ high)
late_so m low high [] le rises = (tt, omega (arith, le, rises))
late_so m low high (p ∷ ps) le rises =
    let rest = late_so p.packet.moment p.packet.moment high ps (omega arith) rises.1 in
    ((omega (arith, le, rises.0), rest.0), rest.1)

-- what a line brings, in front of what later lines bring
abbrev brought : ℕ → Bool → Option LentPacket → Option accepted.Placed
brought count refused p =
    option_map {T = LentPacket} {U = accepted.Placed} (λ q. record { commands = count; packet = q }) (cond refused None p)

line_rises : (latest high count : ℕ) (refused : Bool) (it : Meaning) (packets : List accepted.Placed)
    → latest ≤ moment_behind latest it → Rises (moment_behind latest it) high packets
    → Rises latest high (cons_option (brought count refused (packet_in it)) packets)
line_rises latest high count true (command slot c) packets le rises = rises
line_rises latest high count false (command slot c) packets le rises = rises
line_rises latest high count true (packet slot p) packets le rises =
    rises_sooner latest p.moment high packets le rises
line_rises latest high count false (packet slot p) packets le rises = (le, rises)
line_rises latest high count true (move slot slice text) packets le rises = rises
line_rises latest high count false (move slot slice text) packets le rises = rises
line_rises latest high count true (note text) packets le rises = rises
line_rises latest high count false (note text) packets le rises = rises

packets_rise : (latest : ℕ) (lines : List LineTold) → AreLate latest lines
    → Rises latest (latest_of latest lines) (filter_map placed_in lines)
packets_rise latest [] late = omega arith
packets_rise latest (now ∷ later) late =
    line_rises latest (latest_of (moment_behind latest now.meaning) later) (accepted.commands_before now.entry)
    (accepted.is_refused now.entry) now.meaning (filter_map placed_in later) late.0
    (packets_rise (moment_behind latest now.meaning) later late.1)

-- the packets of lines may come behind those of the subscriber
pub packets_late : (m latest : ℕ) (lines : List LineTold) (packets : List Placed) → m ≤ latest → AreLate latest lines
    → placed_lent packets ≡ filter_map placed_in lines
    → replay.AreLate m packets × (replay.latest_of m packets ≤ latest_of latest lines)
packets_late m latest lines packets le late same =
    late_so m latest (latest_of latest lines) packets le
    (subst (Rises latest (latest_of latest lines)) (sym same) (packets_rise latest lines late))

pub latest_rises : (latest : ℕ) (lines : List LineTold) → AreLate latest lines → latest ≤ latest_of latest lines
latest_rises latest [] late = omega arith
latest_rises latest (now ∷ later) late =
    let rest = latest_rises (moment_behind latest now.meaning) later late.1 in omega (arith, late.0, rest)

-- so it is of the lines about a slot
moment_later : (low latest : ℕ) (it : Meaning) → low ≤ latest → latest ≤ moment_behind latest it
    → (low ≤ moment_behind low it) × (moment_behind low it ≤ moment_behind latest it)
moment_later low latest (command slot c) le late = (omega arith, le)
moment_later low latest (packet slot p) le late = (omega (arith, le, late), omega arith)
moment_later low latest (move slot slice text) le late = (omega arith, le)
moment_later low latest (note text) le late = (omega arith, le)

abbrev SharesLate : ℕ → List LineTold → Type 0
SharesLate slot lines = (low latest : ℕ) → low ≤ latest → AreLate latest lines
    → AreLate low (share slot lines) × (latest_of low (share slot lines) ≤ latest_of latest lines)

late_by : (slot : ℕ) (now : LineTold) (later : List LineTold) (test : Bool) → SharesLate slot later
    → (low latest : ℕ) → low ≤ latest → AreLate latest (now ∷ later)
    → AreLate low (cond test (now ∷ share slot later) (share slot later))
    × (latest_of low (cond test (now ∷ share slot later) (share slot later)) ≤ latest_of latest (now ∷ later))
late_by slot now later true again low latest le late =
    let moments = moment_later low latest now.meaning le late.0 in
    let rest = again (moment_behind low now.meaning) (moment_behind latest now.meaning) moments.1 late.1 in
    ((moments.0, rest.0), rest.1)
late_by slot now later false again low latest le late =
    again low (moment_behind latest now.meaning) (omega (arith, le, late.0)) late.1

pub share_late : (slot : ℕ) (lines : List LineTold) → SharesLate slot lines
share_late slot [] = λ low latest le late. (tt, le)
share_late slot (now ∷ later) = late_by slot now later (is_about slot now) (share_late slot later)
