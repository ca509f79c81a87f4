-- How many events there are, and how many of each kind.
use Rattle.std.proofs.Common.{◌≡◌, ℕ, ◌+◌, ◌<◌, ◌^◌, List, [], ◌∷◌, ◌++◌, fold, length, refl, ap, arith}
use Rattle.pc_base.specs.declared.packet.Packet.{Packet}
use Rattle.control_steps.specs.declared.command.CommandKind.{CommandKind}
use Rattle.gate_model.specs.declared.event.Event.{Event}
use Rattle.gate_model.specs.declared.event.Event.TheVariants as event
use Rattle.gate_model.specs.Events.{commands_of, packets_of}
use Rattle.gate_model.specs.SlotPast.{SlotPast, new_slot, commanded, met, happens, behind, past_of}
use Rattle.bearer_state.specs.Session.{SessionState}
use Rattle.gate_model.specs.Room.{EventsBoundCounts}
use Rattle.subscriber.specs.Standing.{SubscriberState, StandsFor, HasRoom, FewEventsLeaveRoom}

-- each is a command or a packet
pub all_counted : (events : List Event) → length events ≡ length (commands_of events) + length (packets_of events)
all_counted [] = refl
all_counted (event.Command command ∷ later) = omega (arith, all_counted later)
all_counted (event.Packet packet ∷ later) = omega (arith, all_counted later)

-- one more at the end
pub one_more : (events : List Event) (now : Event) → length (events ++ now ∷ []) ≡ length events + 1
one_more [] now = refl
one_more (event ∷ later) now = omega (arith, one_more later now)

pub commands_more : (events : List Event) (command : CommandKind)
    → length (commands_of (events ++ event.Command command ∷ [])) ≡ length (commands_of events) + 1
commands_more [] command = refl
commands_more (event.Command first ∷ later) command = omega (arith, commands_more later command)
commands_more (event.Packet packet ∷ later) command = commands_more later command

pub packets_stay : (events : List Event) (command : CommandKind)
    → length (packets_of (events ++ event.Command command ∷ [])) ≡ length (packets_of events)
packets_stay [] command = refl
packets_stay (event.Command first ∷ later) command = packets_stay later command
packets_stay (event.Packet packet ∷ later) command = omega (arith, packets_stay later command)

pub packets_more : (events : List Event) (packet : Packet)
    → length (packets_of (events ++ event.Packet packet ∷ [])) ≡ length (packets_of events) + 1
packets_more [] packet = refl
packets_more (event.Command command ∷ later) packet = packets_more later packet
packets_more (event.Packet first ∷ later) packet = omega (arith, packets_more later packet)

-- a packet is no command
pub commands_same : (events : List Event) (packet : Packet)
    → commands_of (events ++ event.Packet packet ∷ []) ≡ commands_of events
commands_same [] packet = refl
commands_same (event.Command command ∷ later) packet =
    ap (λ (rest : List CommandKind). command ∷ rest) (commands_same later packet)
commands_same (event.Packet first ∷ later) packet = commands_same later packet

-- a past counts its commands
counts_from : (past : SlotPast) (events : List Event)
    → (fold behind past events).commands ≡ past.commands + length (commands_of events)
unfolding happens
counts_from past [] = omega arith
counts_from past (event.Command command ∷ later) = omega (arith, counts_from (commanded past command) later)
counts_from past (event.Packet packet ∷ later) = counts_from (met past packet) later

pub past_counts : (slot : ℕ) (events : List Event) → (past_of slot events).commands ≡ length (commands_of events)
past_counts slot events = omega (arith, counts_from (new_slot slot) events)

pub events_are_few : (subscriber : SubscriberState) (slot : ℕ) (events : List Event) (taken : ℕ)
    → HasRoom subscriber → StandsFor subscriber slot events taken
    → length events < 2 ^ 52
events_are_few subscriber slot events taken room stands =
    omega (arith, room.few, all_counted events, stands.commands, stands.packets)

-- and what represents few events has room
pub room_behind : EventsBoundCounts → FewEventsLeaveRoom
room_behind bound subscriber slot events taken stands few =
    let is = bound slot events in
    record {
      rates = omega (arith, is.rates, few, ap (λ (s : SessionState). s.rates) stands.session);
      lives = omega (arith, is.lives, few, ap (λ (s : SessionState). s.lives) stands.session);
      few = omega (arith, few, all_counted events, stands.commands, stands.packets);
    }
