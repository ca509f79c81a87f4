-- What is had of a slot: nothing, that its subscriber rests and moved, or its front end.
use Rattle.std.specs.Prelude.{◌≡◌, ℕ, ◌+◌, ◌≤◌, ◌<◌, ◌^◌, Bool, true, false, Option, Some, None, List}
use Rattle.std.specs.Prelude.{length, slice_index_or}
use Rattle.control_steps.specs.declared.command.CommandKind.{CommandKind}
use Rattle.pc_base.specs.declared.packet.Packet.{Packet}
use Rattle.lane_core.specs.Ends.{sender_lane, full_answers, raised}
use Rattle.subscriber.specs.Standing.{commands_met}
use Rattle.counter_half.specs.declared.items.DataItem.{DataItem}
use Rattle.split_record.specs.declared.front.FrontEnd.{FrontEnd}
use Rattle.split_record.specs.Accepted.{MayStand}
use Rattle.split_record.specs.Rejoined.{IsSameFront, IsItemOf, KeepsFloors, Sends, commands_sent}
use Rattle.front_core.specs.declared.lot.Lot.{Lot}
use Rattle.front_core.specs.declared.lot.Lot.TheVariants.{Moved, Split}

-- by its slot
abbrev pub lot_of : List (Option Lot) → ℕ → Option Lot
lot_of lots slot = slice_index_or lots slot None

abbrev pub end_of : Option Lot → Option FrontEnd
end_of None = None
end_of (Some Moved) = None
end_of (Some (Split end)) = Some end

abbrev pub lot_moved : Option Lot → Bool
lot_moved None = false
lot_moved (Some Moved) = true
lot_moved (Some (Split end)) = false

-- something holds of the front end of a split subscriber
abbrev pub OfSplit : (FrontEnd → Type 0) → Option Lot → Type 0
OfSplit P None = ⊥
OfSplit P (Some Moved) = ⊥
OfSplit P (Some (Split end)) = P end

abbrev pub IsSplit : Option Lot → Type 0
IsSplit lot = OfSplit (λ end. Unit {0}) lot

abbrev pub MaySend : Option Lot → Type 0
MaySend lot = OfSplit (λ end. length (commands_sent end) < 2 ^ 50) lot

abbrev pub MayAccept : Option Lot → Type 0
MayAccept lot = OfSplit (λ end. end.packets < end.started.value.packets + 2 ^ 50) lot

-- a front end has what it had, but for the count of its refusals
pub record EndSettles (end after : FrontEnd) : Type 0 where
  pub same : IsSameFront end after
  pub commands : (commands_sent after ≡ commands_sent end) × (after.commands ≡ end.commands)
  pub packets : after.packets ≡ end.packets
  pub hop : after.hop ≡ end.hop
  pub floors : KeepsFloors end after

abbrev pub LotSettles : Option Lot → Option Lot → Type 0
LotSettles None new = new ≡ None
LotSettles (Some Moved) new = new ≡ Some Moved
LotSettles (Some (Split end)) new = (after : FrontEnd) × (new ≡ Some (Split after)) × EndSettles end after

-- it moved
pub record EndMoved (end after : FrontEnd) : Type 0 where
  pub same : IsSameFront end after
  pub commands : (commands_sent after ≡ commands_sent end) × (after.commands ≡ end.commands)
  pub packets : after.packets ≡ end.packets
  pub hop : after.hop ≡ end.hop + 1
  pub floors : (after.packets_before ≡ end.packets) × (after.commands_before ≡ end.commands)

abbrev pub MayMoveLot : Option Lot → Type 0
MayMoveLot None = Unit {0}
MayMoveLot (Some Moved) = Unit {0}
MayMoveLot (Some (Split end)) = end.hop < 2 ^ 61

abbrev pub LotMoves : Option Lot → Option Lot → Type 0
LotMoves None new = new ≡ Some Moved
LotMoves (Some Moved) new = new ≡ Some Moved
LotMoves (Some (Split end)) new = (after : FrontEnd) × (new ≡ Some (Split after)) × EndMoved end after

-- how many of its commands were accepted in all, and so of a lot of a split subscriber
abbrev pub commands_of : FrontEnd → ℕ
commands_of end = commands_met end.started.value + length (commands_sent end)

abbrev pub commands_at : Option Lot → Option ℕ
commands_at None = None
commands_at (Some Moved) = None
commands_at (Some (Split end)) = Some (commands_of end)

-- it sent a command; or its lane was full
pub record EndSends (line : ℕ) (c : CommandKind) (end after : FrontEnd) : Type 0 where
  pub same : IsSameFront end after
  pub sends : Sends end line c after
  pub packets : after.packets ≡ end.packets
  pub hop : after.hop ≡ end.hop
  pub floors : KeepsFloors end after

abbrev pub IsFullEnd : FrontEnd → Type 0
IsFullEnd end = (sender_lane end.lane).room ≤ length (commands_sent end)

abbrev pub LotSends : ℕ → CommandKind → Option Lot → Option Lot → Type 0
LotSends line c old new =
    OfSplit (λ end. (after : FrontEnd) × (new ≡ Some (Split after)) × EndSends line c end after) old

-- how often the lane of its commands was full
abbrev pub fulls_at : Option Lot → ℕ
fulls_at None = 0
fulls_at (Some Moved) = 0
fulls_at (Some (Split end)) = full_answers end.lane

abbrev pub LotRefuses : Option Lot → Option Lot → Type 0
LotRefuses old new = LotSettles old new × OfSplit IsFullEnd new × (fulls_at new ≡ raised (fulls_at old))

-- an item of a packet was made, which may stand among the commands
abbrev pub MakesItem : ℕ → Packet → Option Lot → DataItem → Type 0
MakesItem line packet lot item = OfSplit (λ end. IsItemOf end line packet item
    × MayStand (commands_met end.started.value) (commands_sent end) item) lot

-- an item more was accepted
pub record EndAccepts (end after : FrontEnd) : Type 0 where
  pub same : IsSameFront end after
  pub commands : (commands_sent after ≡ commands_sent end) × (after.commands ≡ end.commands)
  pub packets : after.packets ≡ end.packets + 1
  pub hop : after.hop ≡ end.hop
  pub floors : KeepsFloors end after

abbrev pub LotAccepts : Option Lot → Option Lot → Type 0
LotAccepts old new = OfSplit (λ end. (after : FrontEnd) × (new ≡ Some (Split after)) × EndAccepts end after) old
