-- Each event of a slot with what became of it.
use Rattle.std.specs.Prelude.{ℕ, List, [], ◌∷◌}
use Rattle.gate_model.specs.declared.event.Event.{Event}
use Rattle.gate_model.specs.declared.event.Happened.{Happened}
use Rattle.gate_model.specs.SlotPast.{SlotPast, new_slot, happens}

pub record Episode : Type 0 where
  pub event : Event
  pub happened : Happened

abbrev pub episodes_from : SlotPast → List Event → List Episode
episodes_from past [] = []
episodes_from past (now ∷ later) =
    record { event = now; happened = (happens past now).1 } ∷ episodes_from (happens past now).0 later

-- the whole story of a slot
abbrev pub story_of : ℕ → List Event → List Episode
story_of slot events = episodes_from (new_slot slot) events
