-- The events of a slot in lines: they are in range, and its packets are numbered from 0 on.
use Rattle.std.proofs.Common.{◌≡◌, ℕ, ◌+◌, ◌<◌, ◌≤◌, ◌^◌, ◌==◌, Bool, true, false, if◌then◌else◌, List, [], ◌∷◌, ◌++◌, length, refl, sym, subst, arith, length-append}
use Rattle.std.specs.List.{AllByRecursion}
use Rattle.std.proofs.lemmas.List.Elements.{recursion_from_All}
use Rattle.control_steps.specs.declared.command.CommandKind.{CommandKind}
use Rattle.demux.specs.Packets.{numbered}
use Rattle.demux.specs.Ranges.{IsInRange, IsOctet, IsPacketInRange}
use Rattle.demux.specs.Trace.{Meaning, command, packet, move, note, destination_after, meaning}
use Rattle.demux.specs.declared.packet.LentPacket.{LentPacket}
use Rattle.demux.proofs.RangeLemmas.{meaning_in}
use Rattle.demux.proofs.Small.{each_append}
use Rattle.gate_model.specs.Events.{packets_of}
use Rattle.gate_model.specs.declared.event.Event.{Event}
use Rattle.gate_model.specs.declared.event.Event.TheVariants as event
use Rattle.lawful_run.specs.AnsweredRun.{events_after, with_line}
use Rattle.lawful_run.specs.Trace.{meant_from, meant_next, settled_by}
use Rattle.lawful_run.specs.Ranges.{EventAsksOnce, EventIn, MeaningAsksOnce}
use Rattle.lawful_run.proofs.AsksOnce.{lines_ask_once}
use Rattle.subscriber.proofs.CountLemmas.{all_counted}
use Rattle.trace_lines.specs.Line.{IsLine, Line}

-- packets are numbered from this number on
abbrev pub AreNumbered : ℕ → List Event → Type 0
AreNumbered next [] = Unit {0}
AreNumbered next (event.Command c ∷ events) = AreNumbered next events
AreNumbered next (event.Packet p ∷ events) = (p.number ≡ next) × AreNumbered (next + 1) events

-- so that each number is below how many there are
abbrev pub NumberBelow : ℕ → Event → Type 0
NumberBelow most (event.Command c) = Unit {0}
NumberBelow most (event.Packet p) = p.number < most

pub numbers_below : (next most : ℕ) (events : List Event) → AreNumbered next events
    → next + length (packets_of events) ≤ most → AllByRecursion (NumberBelow most) events
numbers_below next most [] are within = tt
numbers_below next most (event.Command c ∷ events) are within = (tt, numbers_below next most events are within)
numbers_below next most (event.Packet p ∷ events) are within = (
  omega (arith, are.0, within),
  numbers_below (next + 1) most events are.1 (omega (arith, within)),
)

command_numbered : (next : ℕ) (events : List Event) (c : CommandKind) → AreNumbered next events
    → AreNumbered next (events ++ event.Command c ∷ [])
command_numbered next [] c are = tt
command_numbered next (event.Command d ∷ events) c are = command_numbered next events c are
command_numbered next (event.Packet p ∷ events) c are = (are.0, command_numbered (next + 1) events c are.1)

packet_numbered : (next number : ℕ) (events : List Event) (p : LentPacket) → AreNumbered next events
    → number ≡ next + length (packets_of events)
    → AreNumbered next (events ++ event.Packet (numbered number p) ∷ [])
packet_numbered next number [] p are is = (omega (arith, is), tt)
packet_numbered next number (event.Command d ∷ events) p are is = packet_numbered next number events p are is
packet_numbered next number (event.Packet q ∷ events) p are is =
    (are.0, packet_numbered (next + 1) number events p are.1 (omega (arith, is)))

-- what is known of the events of a slot
pub record AreEvents (events : List Event) : Type 0 where
  pub in_range : AllByRecursion EventIn events
  pub once : AllByRecursion EventAsksOnce events
  pub numbered_ : AreNumbered 0 events

with_command : (events : List Event) (c : CommandKind) → EventIn (event.Command c) → EventAsksOnce (event.Command c)
    → AreEvents events → AreEvents (events ++ event.Command c ∷ [])
with_command events c is once are = record {
  in_range = each_append EventIn events (event.Command c ∷ []) are.in_range (is, tt);
  once = each_append EventAsksOnce events (event.Command c ∷ []) are.once (once, tt);
  numbered_ = command_numbered 0 events c are.numbered_;
}

with_packet : (events : List Event) (p : LentPacket) → IsPacketInRange p → length events < 2 ^ 40
    → AreEvents events → AreEvents (events ++ event.Packet (numbered (length (packets_of events)) p) ∷ [])
with_packet events p is few are =
    let now : Event = event.Packet (numbered (length (packets_of events)) p) in
    let own : EventIn now = record {
      octets = recursion_from_All IsOctet p.ip is.octets;
      short = is.short;
      moment = is.moment;
      number = omega (arith, few, all_counted events);
    } in
    record {
      in_range = each_append EventIn events (now ∷ []) are.in_range (own, tt);
      once = each_append EventAsksOnce events (now ∷ []) are.once (tt, tt);
      numbered_ = packet_numbered 0 (length (packets_of events)) events p are.numbered_ (omega arith);
    }

-- one line
if_own : (own : Bool) (next events : List Event) → AreEvents next → AreEvents events
    → AreEvents (if own then next else events)
if_own true next events first second = first
if_own false next events first second = second

line_events : (slot : ℕ) (events : List Event) (now : Meaning) → IsInRange now → MeaningAsksOnce now
    → length events < 2 ^ 40 → AreEvents events → AreEvents (with_line slot events now)
line_events slot events (note text) is once few are = are
line_events slot events (move own slice text) is once few are = are
line_events slot events (command own c) is once few are =
    if_own (own == slot) (events ++ event.Command c ∷ []) events (with_command events c is.1 once are) are
line_events slot events (packet own p) is once few are =
    if_own (own == slot) (events ++ event.Packet (numbered (length (packets_of events)) p) ∷ []) events
    (with_packet events p is.1 few are) are

if_more : (own : Bool) (events : List Event) (now : Event)
    → length (if own then events ++ now ∷ [] else events) ≤ length events + 1
if_more true events now = omega (arith, length-append events (now ∷ []))
if_more false events now = omega arith

one_line_more : (slot : ℕ) (events : List Event) (now : Meaning)
    → length (with_line slot events now) ≤ length events + 1
one_line_more slot events (note text) = omega arith
one_line_more slot events (move own slice text) = omega arith
one_line_more slot events (command own c) = if_more (own == slot) events (event.Command c)
one_line_more slot events (packet own p) =
    if_more (own == slot) events (event.Packet (numbered (length (packets_of events)) p))

-- an instruction to move brings no event, whether it moves or not
stays_or_moves : (slot : ℕ) (events : List Event) (own slice : ℕ) (text : List ℕ) (stays : Bool)
    → with_line slot events (if stays then note text else move own slice text) ≡ events
stays_or_moves slot events own slice text true = refl
stays_or_moves slot events own slice text false = refl

settled_same : (slices slot : ℕ) (events : List Event) (before : List Line) (now : Meaning)
    → with_line slot events (settled_by slices before now) ≡ with_line slot events now
settled_same slices slot events before (command own c) = refl
settled_same slices slot events before (packet own p) = refl
settled_same slices slot events before (move own slice text) =
    stays_or_moves slot events own slice text (slice == destination_after slices own before)
settled_same slices slot events before (note text) = refl

-- all lines
pub events_from : (slices slot : ℕ) (before lines : List Line) (events : List Event) → AllByRecursion IsLine lines
    → length events + length lines < 2 ^ 40 → AreEvents events
    → AreEvents (events_after slot events (meant_from slices before lines))
events_from slices slot before [] events valid few are = are
events_from slices slot before (line ∷ lines) events valid few are =
    let now : Meaning = meaning slices before line in
    let same = settled_same slices slot events before now in
    let next : AreEvents (with_line slot events now) =
    line_events slot events now (meaning_in slices before line valid.0) (lines_ask_once slices before line)
    (omega (arith, few)) are in
    events_from slices slot (before ++ line ∷ []) lines (with_line slot events (meant_next slices before line)) valid.1
    (subst (λ (es : List Event). length es + length lines < 2 ^ 40) (sym same)
    (omega (arith, few, one_line_more slot events now)))
    (subst AreEvents (sym same) next)

pub line_events_are : (slices slot : ℕ) (lines : List Line) → AllByRecursion IsLine lines → length lines < 2 ^ 40
    → AreEvents (events_after slot [] (meant_from slices [] lines))
line_events_are slices slot lines valid few =
    events_from slices slot [] lines [] valid (omega (arith, few))
    (record { in_range = tt; once = tt; numbered_ = tt })
