-- The TEIDs of the gateway: sixteen numbers for each slot, from 16 on.
use Rattle.std.specs.Prelude.{ℕ, ◌+◌, ◌*◌, ◌≤◌}
use Rattle.pc_base.specs.declared.packet.TeidUse.{TeidUse}
use Rattle.pc_base.specs.declared.packet.TeidUse.TheVariants.{Control, Bearer}

-- the first number of a slot is for the control plane, the next ones for its bearers by index
abbrev pub teid_of : ℕ → TeidUse → ℕ
teid_of slot Control = 16 * (slot + 1)
teid_of slot (Bearer index) = 16 * (slot + 1) + index + 1

-- a use that the gateway gives a TEID: a subscriber has at most eleven bearers, with index 0 to 10
abbrev pub IsTeidUse : TeidUse → Type 0
IsTeidUse Control = Unit {0}
IsTeidUse (Bearer index) = index ≤ 10
