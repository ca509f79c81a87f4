-- The parts of a subscriber's counters fit its version.
use Rattle.std.specs.Prelude.{ℕ, List, IsTrue}
use Rattle.charging_book.specs.Parts.{are_parts}
use Rattle.packet_steps.specs.Rows.{held_in_order}
use Rattle.packet_steps.specs.Parts.{PartsState, ArePartsOf, fit}
use Rattle.gate_model.specs.declared.event.Event.{Event}
use Rattle.subscriber.specs.Standing.{SubscriberState, StandsFor}

-- The parts of a subscriber that represents events fit the version that its packets go by, so counters are made of them
-- again. That no two pieces are of one life, none is full and held packets are in order is so of any counters.
abbrev pub RepresentedPartsFit : Type 0
RepresentedPartsFit = (subscriber : SubscriberState) (slot : ℕ) (events : List Event) (taken : ℕ) (parts : PartsState)
    → StandsFor subscriber slot events taken → ArePartsOf subscriber.version subscriber.counters parts
    → IsTrue (are_parts parts.pieces) → IsTrue (held_in_order parts.last parts.held)
    → IsTrue (fit subscriber.version parts)
