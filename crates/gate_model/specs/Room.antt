-- Where the counts of a slot may still rise.
use Rattle.std.specs.Prelude.{ℕ, ◌-◌, ◌≤◌, ◌^◌, List, length}
use Rattle.bearer_state.specs.Session as sessions
use Rattle.gate_model.specs.declared.event.Event.{Event}
use Rattle.gate_model.specs.Events.{FewEvents}
use Rattle.gate_model.specs.SlotPast.{SlotPast, past_of}

-- those of its session, and that of its commands
pub record HasRoom (past : SlotPast) : Type 0 where
  pub session : sessions.HasRoom past.session
  pub commands : past.commands ≤ 2 ^ 61 - 20

-- few events leave room
abbrev pub FewEventsLeaveRoom : Type 0
FewEventsLeaveRoom = (slot : ℕ) (events : List Event) → FewEvents (length events) → HasRoom (past_of slot events)

-- the counts of a past are at most a number
pub record CountsAreWithin (most : ℕ) (past : SlotPast) : Type 0 where
  pub rates : past.session.rates ≤ most
  pub lives : past.session.lives ≤ most
  pub commands : past.commands ≤ most

-- each event raises each count by one at most
abbrev pub EventsBoundCounts : Type 0
EventsBoundCounts = (slot : ℕ) (events : List Event) → CountsAreWithin (length events) (past_of slot events)
