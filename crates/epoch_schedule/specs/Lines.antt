-- The lines of an epoch as its schedule takes them.
use Rattle.std.specs.Prelude.{ℕ, ◌<◌, ◌%◌, ◌==◌, List, [], ◌∷◌, ⊤, cond, get_or}
use Rattle.epoch_schedule.specs.Front.{Asks, nothing, command, packet, move}
use Rattle.epoch_schedule.specs.Schedule.{Driven}
use Rattle.epoch_schedule.specs.declared.ask.LineAsk.{LineAsk}
use Rattle.epoch_schedule.specs.declared.ask.LineAsk.TheVariants as ask

-- what a line asks
abbrev pub asked : LineAsk → Asks
asked ask.Nothing = nothing
asked (ask.Command slot) = command slot
asked (ask.Packet slot) = packet slot
asked (ask.Move slot slice) = move slot slice

-- each line with the turns behind it, none where none are told
abbrev pub driven_by : List Asks → List (List ℕ) → List Driven
driven_by [] turns = []
driven_by (asks ∷ others) [] = record { asks = asks; turns = [] } ∷ driven_by others []
driven_by (asks ∷ others) (first ∷ turns) = record { asks = asks; turns = first } ∷ driven_by others turns

-- where a slot is bound for as the epoch begins: by the list, and else for its start slice
abbrev pub bound_in : (slices : ℕ) → List ℕ → ℕ → ℕ
bound_in slices bounds slot = get_or bounds slot (slot % slices)

-- whether a line is a packet of this slot: one or none
abbrev pub packet_asked : (slot : ℕ) → LineAsk → ℕ
packet_asked slot ask.Nothing = 0
packet_asked slot (ask.Command own) = 0
packet_asked slot (ask.Packet own) = cond (own == slot) 1 0
packet_asked slot (ask.Move own slice) = 0

-- a packet of no slot from this number on
abbrev pub IsPacketBelow : (slots : ℕ) → LineAsk → Type 0
IsPacketBelow slots ask.Nothing = ⊤
IsPacketBelow slots (ask.Command slot) = ⊤
IsPacketBelow slots (ask.Packet slot) = slot < slots
IsPacketBelow slots (ask.Move slot slice) = ⊤
