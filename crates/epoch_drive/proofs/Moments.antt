-- Packets come one after another, slot by slot too.
use Rattle.std.proofs.Common.{◌≡◌, ℕ, ◌+◌, ◌==◌, ◌≤◌, Bool, true, false, cond, Some, None, List, [], ◌∷◌, sym, subst, arith}
use Rattle.std.specs.List.{cons_option}
use Rattle.std.specs.Option.{option_map}
use Rattle.trace_lines.specs.Line.{Line}
use Rattle.demux.specs.Trace.{Meaning, command, packet, move, note}
use Rattle.demux.specs.declared.packet.LentPacket.{LentPacket}
use Rattle.report_lines.specs.declared.entry.LineEntry.{LineEntry}
use Rattle.lawful_run.specs.Accepted as accepted
use Rattle.epoch_schedule.specs.Front.{Outcome}
use Rattle.slot_execution.specs.Replaying.{AreLate, latest_of}
use Rattle.slot_execution.specs.declared.placed.Placed.{Placed}
use Rattle.at_rest.specs.Coming.{AreLater, latest_behind}
use Rattle.at_rest.specs.Meant.{HasItsMoment}
use Rattle.epoch_drive.specs.Turned.{HaveMoments}
use Rattle.epoch_drive.specs.DrivenOpened.{open_entry}
use Rattle.epoch_drive.specs.Opened.{opened}
use Rattle.epoch_drive.specs.Shares.{packets_alone, packets_lent}

-- no packet is before the one before it, nor before one moment, nor behind another
abbrev pub Rises : (low high : ℕ) → List LentPacket → Type 0
Rises low high [] = low ≤ high
Rises low high (p ∷ packets) = (low ≤ p.moment) × Rises p.moment high packets

rises_sooner : (sooner low high : ℕ) (packets : List LentPacket) → sooner ≤ low → Rises low high packets
    → Rises sooner high packets
rises_sooner sooner low high [] le rises = omega (arith, le, rises)
rises_sooner sooner low high (p ∷ packets) le rises = (omega (arith, le, rises.0), rises.1)

pub late_so : (m low high : ℕ) (ps : List Placed) → m ≤ low → Rises low high (packets_lent ps)
    → AreLate m ps × (latest_of m ps ≤ high)
late_so m low high [] le rises = (tt, omega (arith, le, rises))
late_so m low high (p ∷ ps) le rises =
    let rest = late_so p.packet.moment p.packet.moment high ps (omega arith) rises.1 in
    ((omega (arith, le, rises.0), rest.0), rest.1)

-- what a line brings a slot, in front of what later lines bring
next_rises : (test own : Bool) (latest moment high count : ℕ) (p : LentPacket) (taken : List accepted.Placed)
    → latest ≤ moment → p.moment ≡ moment → Rises moment high (packets_alone taken)
    → Rises latest high (packets_alone (cons_option (cond test None (option_map {T = LentPacket} {U = accepted.Placed}
    (λ q. record { commands = count; packet = q }) (cond own (Some p) None))) taken))
next_rises true own latest moment high count p taken le is rises =
    rises_sooner latest moment high (packets_alone taken) le rises
next_rises false true latest moment high count p taken le is rises =
    (omega (arith, le, is), subst (λ m. Rises m high (packets_alone taken)) (sym is) rises)
next_rises false false latest moment high count p taken le is rises =
    rises_sooner latest moment high (packets_alone taken) le rises

none_rises : (test : Bool) (latest moment high : ℕ) (taken : List accepted.Placed)
    → latest ≤ moment → Rises moment high (packets_alone taken)
    → Rises latest high (packets_alone (cons_option (cond test None None) taken))
none_rises true latest moment high taken le rises = rises_sooner latest moment high (packets_alone taken) le rises
none_rises false latest moment high taken le rises = rises_sooner latest moment high (packets_alone taken) le rises

abbrev pub LineRises : ℕ → ℕ → ℕ → ℕ → Meaning → LineEntry → List accepted.Placed → Type 0
LineRises slot latest moment high it e taken =
    HasItsMoment moment it → Rises moment high (packets_alone taken)
    → Rises latest high (packets_alone
    (cons_option (accepted.accepted_packet slot (record { meaning = it; entry = e })) taken))

line_rises : (slot latest moment high : ℕ) (it : Meaning) (e : LineEntry) (taken : List accepted.Placed)
    → latest ≤ moment → LineRises slot latest moment high it e taken
line_rises slot latest moment high (command own c) e taken le = λ has rises.
    none_rises (accepted.is_refused e) latest moment high taken le rises
line_rises slot latest moment high (packet own p) e taken le = λ has rises.
    next_rises (accepted.is_refused e) (own == slot) latest moment high (accepted.commands_before e) p taken le has rises
line_rises slot latest moment high (move own slice text) e taken le = λ has rises.
    none_rises (accepted.is_refused e) latest moment high taken le rises
line_rises slot latest moment high (note text) e taken le = λ has rises.
    none_rises (accepted.is_refused e) latest moment high taken le rises

pub latest_later : (latest : ℕ) (lines : List Line) → AreLater latest lines → latest ≤ latest_behind latest lines
latest_later latest [] later = omega arith
latest_later latest (line ∷ lines) later =
    let rest = latest_later line.moment lines later.1 in omega (arith, later.0, rest)

pub taken_rise : (slot latest n : ℕ) (lines : List Line) (made : List Meaning) (outs : List Outcome)
    → AreLater latest lines → HaveMoments lines made
    → Rises latest (latest_behind latest lines)
    (packets_alone (accepted.packets_accepted slot (opened n made outs)))
taken_rise slot latest n [] [] outs later have = omega arith
taken_rise slot latest n [] (it ∷ made) outs later have = absurd have
taken_rise slot latest n (line ∷ lines) [] outs later have = absurd have
taken_rise slot latest n (line ∷ lines) (it ∷ made) [] later have =
    let rest = latest_later line.moment lines later.1 in omega (arith, later.0, rest)
taken_rise slot latest n (line ∷ lines) (it ∷ made) (o ∷ outs) later have =
    line_rises slot latest line.moment (latest_behind line.moment lines) it (open_entry n it o)
    (accepted.packets_accepted slot (opened (n + 1) made outs)) later.0 have.0
    (taken_rise slot line.moment (n + 1) lines made outs later.1 have.1)
