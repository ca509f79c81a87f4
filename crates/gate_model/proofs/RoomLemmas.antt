-- The counts of a slot rise by at most one an event.
use Rattle.std.proofs.Common.{◌≡◌, ℕ, ◌+◌, ◌≤◌, List, [], ◌∷◌, fold, length, arith}
use Rattle.gate_model.specs.declared.event.Event.{Event}
use Rattle.gate_model.specs.declared.event.Event.TheVariants as event
use Rattle.gate_model.specs.SlotPast.{SlotPast, new_slot, happens, behind, past_of}
use Rattle.gate_model.specs.Room.{FewEventsLeaveRoom, EventsBoundCounts}
use Rattle.gate_model.proofs.SessionSteps.{session_goes}
use Rattle.gate_model.proofs.Sound.{IsSound, new_sound, behind_sound}

record IsWithin (most : ℕ) (past : SlotPast) : Type 0 where
  sound : IsSound past
  rates : past.session.rates ≤ most
  lives : past.session.lives ≤ most
  commands : past.commands ≤ most

within_behind : (most : ℕ) (past : SlotPast) (now : Event) → IsWithin most past → IsWithin (most + 1) (behind past now)
unfolding happens
within_behind most past (event.Command command) is =
    let goes = session_goes past.session command is.sound.lived in
    record {
      sound = behind_sound past (event.Command command) is.sound;
      rates = omega (arith, goes.rates_most, is.rates);
      lives = omega (arith, goes.lives_most, is.lives);
      commands = omega (arith, is.commands);
    }
within_behind most past (event.Packet packet) is = record {
  sound = behind_sound past (event.Packet packet) is.sound;
  rates = omega (arith, is.rates);
  lives = omega (arith, is.lives);
  commands = omega (arith, is.commands);
}

all_within : (most all : ℕ) (past : SlotPast) (events : List Event) → most + length events ≡ all
    → IsWithin most past → IsWithin all (fold behind past events)
all_within most all past [] is within = record {
  sound = within.sound;
  rates = omega (arith, within.rates);
  lives = omega (arith, within.lives);
  commands = omega (arith, within.commands);
}
all_within most all past (now ∷ later) is within =
    all_within (most + 1) all (behind past now) later (omega arith) (within_behind most past now within)

within_events : (slot : ℕ) (events : List Event) → IsWithin (length events) (past_of slot events)
within_events slot events =
    let start : IsWithin 0 (new_slot slot) = record {
      sound = new_sound slot;
      rates = omega arith;
      lives = omega arith;
      commands = omega arith;
    } in
    all_within 0 (length events) (new_slot slot) events (omega arith) start

pub counts_within : EventsBoundCounts
counts_within slot events =
    let is = within_events slot events in
    record { rates = is.rates; lives = is.lives; commands = is.commands }

pub room_left : FewEventsLeaveRoom
room_left slot events few =
    let is = within_events slot events in
    record {
      session = record { rates = omega (arith, is.rates, few); lives = omega (arith, is.lives, few) };
      commands = omega (arith, is.commands, few);
    }
