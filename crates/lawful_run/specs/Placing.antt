-- What the order of a slot's events says: how many commands stand before each packet.
use Rattle.std.specs.Prelude.{◌≡◌, ℕ, ◌+◌, List, [], ◌∷◌, length, filter_map}
use Rattle.demux.specs.Packets.{numbered}
use Rattle.demux.specs.Trace.{Meaning}
use Rattle.gate_model.specs.Events.{commands_of, packets_of}
use Rattle.gate_model.specs.declared.event.Event.{Event}
use Rattle.gate_model.specs.declared.event.Event.TheVariants as event
use Rattle.pc_base.specs.declared.packet.Packet.{Packet}
use Rattle.lawful_run.specs.Accepted.{Placed, commands_accepted, packets_accepted}
use Rattle.lawful_run.specs.Setup.{Setup}
use Rattle.lawful_run.specs.Merging.{Histories, events_in}
use Rattle.lawful_run.specs.Report.{EpochReport}
use Rattle.lawful_run.specs.Run.{told_in, IsEpochRun}
use Rattle.lawful_run.specs.Telling.{commands_told}

-- for each packet of events the commands before it, where so many stand before the first event
abbrev pub places : ℕ → List Event → List ℕ
places done [] = []
places done (event.Command c ∷ events) = places (done + 1) events
places done (event.Packet p ∷ events) = done ∷ places done events

-- packets under their numbers, from the next one on
abbrev pub numbered_from : ℕ → List Placed → List Packet
numbered_from next [] = []
numbered_from next (first ∷ packets) = numbered next first.packet ∷ numbered_from (next + 1) packets

-- The events of a slot in an epoch are its accepted commands and packets, each in line order, and before each packet
-- stand just as many commands as its entry tells.
pub record StandAsTold (before events : List Event) (slot : ℕ) (made : List Meaning) (told : EpochReport) : Type 0 where
  pub commands : commands_of events ≡ commands_accepted slot (told_in made told)
  pub packets : packets_of events ≡ numbered_from (length (packets_of before))
      (packets_accepted slot (told_in made told))
  pub counts : places (length (commands_of before)) events ≡ filter_map (commands_told slot) told.lines

abbrev pub EventsStandAsTold : Type 0
EventsStandAsTold = (setup : Setup) (slots first : ℕ) (before : Histories) (made : List Meaning) (told : EpochReport)
    (slot : ℕ)
    → IsEpochRun setup slots first before made told
    → StandAsTold (before slot) (events_in (before slot) (told_in made told) slot) slot made told
