-- What each slot had in the lines of an epoch, and may wait behind them, from line to line.
use Rattle.std.specs.Prelude.{◌≡◌, ℕ, ◌+◌, ◌*◌, ◌<◌, ◌≤◌, ◌==◌, ◌&&◌, ◌||◌, nat_le}
use Rattle.std.specs.Prelude.{Bool, true, false, not, if◌then◌else◌, List, length, filter_map, get_or}
use Rattle.std.specs.Prelude.{◌^◌, Option, Some, None, IfSome, IfNone}
use Rattle.std.specs.List.{list_all, list_any}
use Rattle.demux.specs.Trace.{Meaning, command, packet, move, note}
use Rattle.report_lines.specs.declared.entry.LineEntry.{LineEntry}
use Rattle.report_lines.specs.declared.entry.LineEntry.TheVariants as line
use Rattle.lawful_run.specs.Accepted.{command_count, is_refused, packets_accepted}
use Rattle.lawful_run.specs.LinesTold.{LineTold}
use Rattle.lawful_run.specs.Moves.{behind_last_move, is_moved}
use Rattle.lawful_run.specs.Refusals.{move_count, packet_count, slot_count, slot_of}
use Rattle.lawful_run.specs.Merging.{Histories}
use Rattle.lawful_run.specs.Parking.{parked_told}
use Rattle.subscriber.specs.Standing.{SubscriberState, commands_met}
use Rattle.audit_core.specs.FirstLines.{MayStand, count_due}
use Rattle.audit_core.specs.Sentences.{AreNumbered}
use Rattle.audit_core.specs.Setups.{setup_of}
use Rattle.audit_core.specs.Telling.{dash}
use Rattle.audit_core.specs.Why.{NumberBreak, WaitBreak}
use Rattle.audit_core.specs.declared.walking.Walked.{Walked}
use Rattle.audit_core.specs.declared.setup.Setup.{Setup}
use Rattle.audit_core.specs.declared.walking.AcceptedLoad.{AcceptedLoad}
use Rattle.audit_core.specs.declared.walking.Own.{Own}
use Rattle.audit_core.specs.declared.walking.Course.{Course}

-- one where a line is accepted
abbrev pub one_taken : LineEntry → ℕ
one_taken entry = if is_refused entry then 0 else 1

-- whether a packet of a slot may be parked behind an entry
abbrev pub may_behind : Bool → LineEntry → Bool
may_behind may (line.N noted) = may
may_behind may (line.C answered) = may
may_behind may (line.P judged) = may && judged.parked
may_behind may (line.F refused) = may

-- so it is behind lines: it was moved, and all its packets since then were parked
abbrev pub may_park : ℕ → List LineTold → Bool
may_park slot before =
    is_moved slot before
    && list_all (λ (parked : Bool). parked) (filter_map (parked_told slot) (behind_last_move slot before))

-- a slot with a line of its own more
abbrev pub own_by : Own → Meaning → LineEntry → Own
own_by own (command slot c) entry =
    record own { seen = true; commands = own.commands + one_taken entry }
own_by own (packet slot p) entry =
    record own { seen = true; packets = own.packets + one_taken entry; may_park = may_behind own.may_park entry }
own_by own (move slot slice text) entry = record own { moved = true; may_park = true }
own_by own (note text) entry = own

-- all slots with a line more, whose slot was seen or not
abbrev pub one_new : Bool → ℕ
one_new seen = if seen then 0 else 1

abbrev pub load_by : AcceptedLoad → Bool → Meaning → LineEntry → AcceptedLoad
load_by load seen (command slot c) entry = record load { slots = load.slots + one_new seen }
load_by load seen (packet slot p) entry =
    record load { slots = load.slots + one_new seen; packets = load.packets + one_taken entry }
load_by load seen (move slot slice text) entry = record load { moves = load.moves + 1 }
load_by load seen (note text) entry = load

-- whether a line of a slot may be refused, by what waits behind it and the lines before it
abbrev pub may_refuse : Setup → Bool → Own → AcceptedLoad → Bool
may_refuse setup of_packet own load =
    if setup.solo then false
    else if of_packet then
    nat_le setup.lane (load.packets + (load.slots + one_new own.seen) + 2 * load.moves)
    || (own.moved && nat_le setup.room own.packets)
    else nat_le setup.room own.commands

-- whether a line may stand so, where its slot had so many commands before it, from the first one ever on
abbrev pub may_stand : Setup → Own → AcceptedLoad → ℕ → LineEntry → Bool
may_stand setup own load commands (line.N noted) = true
may_stand setup own load commands (line.C answered) = true
may_stand setup own load commands (line.P judged) =
    (own.may_park || not judged.parked) && (not setup.solo || judged.commands == commands)
may_stand setup own load commands (line.F refused) = may_refuse setup refused.packet own load

-- the number that an entry has to have, where it has another; and on one thread, the count of commands
abbrev pub missed_by : (told due : ℕ) → Option ℕ
missed_by told due = if told == due then None else Some due

abbrev pub number_missed : (commands packets : ℕ) → LineEntry → Option ℕ
number_missed commands packets (line.N noted) = None
number_missed commands packets (line.C answered) = missed_by answered.number commands
number_missed commands packets (line.P judged) = missed_by judged.number packets
number_missed commands packets (line.F refused) = None

abbrev pub waits_due : Setup → ℕ → LineEntry → List ℕ
waits_due setup commands (line.N noted) = dash
waits_due setup commands (line.C answered) = dash
waits_due setup commands (line.P judged) = if setup.solo then count_due judged.commands commands else dash
waits_due setup commands (line.F refused) = dash

-- whether a slot has a command or packet among lines
abbrev pub is_seen : ℕ → List LineTold → Bool
is_seen slot lines = list_any (λ (other : ℕ). other == slot) (filter_map slot_of lines)

-- what a slot has behind these lines, and what all slots have
pub record SlotWaits (own : Own) (slot : ℕ) (before : List LineTold) : Type 0 where
  pub seen : own.seen ≡ is_seen slot before
  pub moved : own.moved ≡ is_moved slot before
  pub commands : own.commands ≡ command_count slot before
  pub packets : own.packets ≡ length (packets_accepted slot before)
  pub may : own.may_park ≡ may_park slot before
  pub few_commands : own.commands ≤ length before
  pub few_packets : own.packets ≤ length before

pub record AllWait (load : AcceptedLoad) (before : List LineTold) : Type 0 where
  pub slots : load.slots ≡ slot_count before
  pub packets : load.packets ≡ packet_count before
  pub moves : load.moves ≡ move_count before
  pub few_slots : load.slots ≤ length before
  pub few_packets : load.packets ≤ length before
  pub few_moves : load.moves ≤ length before

pub record Walks (course : Course) (slots : ℕ) (before : List LineTold) : Type 0 where
  pub places : length course.own.items ≡ slots
  pub each : (slot : ℕ) (none : Own) → slot < slots → SlotWaits (get_or course.own.items slot none) slot before
  pub all : AllWait course.load before

-- so many lines more may come to each slot
pub record FewBefore (subscribers : List SubscriberState) (more : ℕ) : Type 0 where
  pub commands : (slot : ℕ) (none : SubscriberState) → slot < length subscribers
      → commands_met (get_or subscribers slot none) + more < 2 ^ 62
  pub packets : (slot : ℕ) (none : SubscriberState) → slot < length subscribers
      → (get_or subscribers slot none).packets + more < 2 ^ 62

-- The first line of an epoch whose entry isn't numbered on, and the first that is refused, parked or, on one thread,
-- handled where it mayn't be; nothing where all lines so far are as they should be.
pub record HasWalked (setup : Setup) (histories : Histories) (lines : List LineTold) (walked : Walked) : Type 0 where
  pub numbers_some : IfSome walked.numbers (NumberBreak histories lines)
  pub numbers_none : IfNone walked.numbers (AreNumbered histories lines)
  pub waits_some : IfSome walked.waits (WaitBreak (setup_of setup) histories lines)
  pub waits_none : IfNone walked.waits (MayStand (setup_of setup) histories lines)
