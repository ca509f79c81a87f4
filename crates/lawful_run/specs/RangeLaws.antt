-- What events in their ranges lead to.
use Rattle.std.specs.Prelude.{ℕ, ◌*◌, ◌<◌, ◌≤◌, ◌^◌, List, length, IfSome}
use Rattle.std.specs.List.{AllByRecursion, Contains}
use Rattle.trace_lines.specs.Line.{Line}
use Rattle.charging_book.specs.Happenings.{Happening, moments_at, open_at}
use Rattle.packet_steps.specs.Rows.{HeldRow}
use Rattle.gate_model.specs.SlotPast.{past_of, session_after}
use Rattle.gate_model.specs.declared.event.Event.{Event}
use Rattle.gate_model.specs.declared.event.Event.TheVariants as event
use Rattle.demux.specs.Trace.{meaning}
use Rattle.lawful_run.specs.Ranges.{EventAsksOnce, EventIn, HappeningIn, IsShortAnswer, MeaningAsksOnce, OpenIn}
use Rattle.lawful_run.specs.Ranges.{PastIn}

-- what is remembered behind them is in range
abbrev pub EventsLeadInRange : Type 0
EventsLeadInRange = (slot : ℕ) (events : List Event) → length events < 2 ^ 40 → AllByRecursion EventIn events
    → PastIn (past_of slot events)

-- what a line means asks of each bearer once
abbrev pub LinesAskOnce : Type 0
LinesAskOnce = (slices : ℕ) (before : List Line) (line : Line) → MeaningAsksOnce (meaning slices before line)

-- so a kept answer is short
abbrev pub AnswersAreShort : Type 0
AnswersAreShort = (slot : ℕ) (events : List Event) → AllByRecursion EventIn events
    → AllByRecursion EventAsksOnce events → IfSome (session_after slot events).last IsShortAnswer

-- a packet that is held is one of the events
abbrev pub HeldPacketsCame : Type 0
HeldPacketsCame = (slot : ℕ) (events : List Event) (row : HeldRow) → Contains (past_of slot events).packets.held row
    → Contains events (event.Packet row.packet)

-- an event charges at most forty-nine things, and no count of an open piece is above their number
abbrev pub EventsChargeFew : Type 0
EventsChargeFew = (slot : ℕ) (events : List Event) → length (past_of slot events).packets.charged ≤ 49 * length events

abbrev pub OpenPiecesAreInRange : Type 0
OpenPiecesAreInRange = (happened : List Happening) (life : ℕ) → AllByRecursion HappeningIn happened
    → OpenIn (length happened) (open_at happened life) (moments_at happened life)
