-- What a front end accepted.
use Rattle.std.specs.Prelude.{◌≡◌, ℕ, ◌+◌, ◌-◌, ◌≤◌, List, [], ◌∷◌, length, take, All}
use Rattle.control_half.specs.declared.items.CommandItem.{CommandItem}
use Rattle.counter_half.specs.declared.items.DataItem.{DataItem}

-- Behind so many commands before the split, these were accepted. A packet's item may stand among them: its floor is at
-- most their count, and each command below that floor has itself a floor of at most the packet's number.
pub record MayStand (first : ℕ) (commands : List CommandItem) (item : DataItem) : Type 0 where
  pub floor : item.floor ≤ first + length commands
  pub below : All (λ (c : CommandItem). c.floor ≤ item.number) (take (item.floor - first) commands)

-- items of a slot, numbered from a count on, each with a packet of its own number
abbrev pub AreNumbered : ℕ → ℕ → List DataItem → Type 0
AreNumbered slot number [] = Unit {0}
AreNumbered slot number (item ∷ items) =
    (item.slot ≡ slot) × (item.number ≡ number) × (item.packet.number ≡ number) × AreNumbered slot (number + 1) items
