-- What slices carry: each the packets of its slots.
use Rattle.std.specs.Prelude.{ℕ, ◌==◌, ◌<◌, if◌then◌else◌, List, map}
use Rattle.std.specs.List.{AllPairs, range_with_len, sum_by}
use Rattle.balance_plan.specs.declared.load.Load.{Load}
use Rattle.balance_plan.specs.declared.load.Planned.{Planned}

-- what a slot adds to the load of a slice
abbrev pub share : ℕ → Load → ℕ
share slice load = if load.slice == slice then load.packets else 0

-- the load of a slice · those of all slices
abbrev pub load_of : List Load → ℕ → ℕ
load_of loads slice = sum_by (share slice) loads

abbrev pub loads_of : ℕ → List Load → List ℕ
loads_of slices loads = map (load_of loads) (range_with_len 0 slices)

-- the loads where a slot has gone to a slice
abbrev pub gone : Planned → Load → Load
gone step load = if load.slot == step.slot then record load { slice = step.slice } else load

abbrev pub moved : Planned → List Load → List Load
moved step loads = map (gone step) loads

-- each slot is above those before it
abbrev pub SlotsRise : List Load → Type 0
SlotsRise loads = AllPairs (λ (one : Load) (other : Load). one.slot < other.slot) loads

-- the slot is on one of so many slices
abbrev pub IsBelow : ℕ → Load → Type 0
IsBelow slices load = load.slice < slices
