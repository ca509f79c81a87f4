-- The order in which the events of a slot were handled.
use Rattle.std.specs.Prelude.{ℕ, ◌+◌, ◌-◌, List, [], ◌∷◌, ◌++◌, length, map, take, drop}
use Rattle.std.specs.Borrow.{Bor}
use Rattle.control_steps.specs.declared.command.CommandKind.{CommandKind}
use Rattle.demux.specs.Packets.{numbered}
use Rattle.gate_model.specs.Events.{FewEvents, commands_of, packets_of}
use Rattle.gate_model.specs.declared.event.Event.{Event}
use Rattle.gate_model.specs.declared.event.Event.TheVariants as event
use Rattle.lawful_run.specs.Accepted.{Placed, commands_accepted, packets_accepted}
use Rattle.lawful_run.specs.LinesTold.{LineTold}

-- A command stands before a packet exactly where its number is below the count of commands that the packet tells. The
-- next command has the number `done`, the next packet the number `next`.
abbrev pub merged : (done next : ℕ) → List CommandKind → List Placed → List Event
merged done next commands [] = map event.Command commands
merged done next commands (first ∷ packets) =
    map event.Command (take (first.commands - done) commands)
    ++ event.Packet (numbered next first.packet) ∷ merged first.commands (next + 1)
    (drop (first.commands - done) commands) packets

-- the commands that are lent
abbrev pub commands_lent : List (Bor CommandKind) → List CommandKind
commands_lent commands = map (λ (command : Bor CommandKind). command.now) commands

-- the events of accepted commands and packets behind those before
abbrev pub events_of : List Event → List CommandKind → List Placed → List Event
events_of before commands packets = merged (length (commands_of before)) (length (packets_of before)) commands packets

-- This holds of a slot behind some events and those now, which are so few, with so many more, that every count may
-- rise.
pub record CanGo (Holds : ℕ → List Event → List Event → Type 0) (more : ℕ) : Type 0 where
  pub slot : ℕ
  pub before : List Event
  pub now : List Event
  pub holds : Holds slot before now
  pub few : FewEvents (length (before ++ now) + more)

-- the events of each slot
abbrev pub Histories : Type 0
Histories = ℕ → List Event

-- those of a slot in an epoch, behind its events before
abbrev pub events_in : List Event → List LineTold → ℕ → List Event
events_in before lines slot =
    merged (length (commands_of before)) (length (packets_of before)) (commands_accepted slot lines)
    (packets_accepted slot lines)

-- the events of each slot behind an epoch
abbrev pub behind : Histories → List LineTold → Histories
behind before lines = λ slot. before slot ++ events_in (before slot) lines slot
