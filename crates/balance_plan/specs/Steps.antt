-- A step: the heaviest slot that levels two slices goes from the one of greatest load to the one of least.
use Rattle.std.specs.Prelude.{ℕ, ◌*◌, ◌-◌, ◌==◌, ◌&&◌, ◌||◌, Bool, not, nat_le, Option, List, option_map}
use Rattle.std.specs.Prelude.{if◌then◌else◌}
use Rattle.std.specs.List.{find, list_all, position_or_len}
use Rattle.balance_plan.specs.Loads.{load_of, loads_of}
use Rattle.balance_plan.specs.declared.load.Load.{Load}
use Rattle.balance_plan.specs.declared.load.Planned.{Planned}

-- the place of the first number that no other exceeds · that exceeds no other
abbrev pub greatest : List ℕ → ℕ
greatest numbers = position_or_len (λ n. list_all (λ other. nat_le other n) numbers) numbers

abbrev pub least : List ℕ → ℕ
least numbers = position_or_len (λ n. list_all (λ other. nat_le n other) numbers) numbers

-- a slot of this slice has packets, and its twofold fits between the two loads
abbrev pub may_go : (from gap : ℕ) → Load → Bool
may_go from gap load = (load.slice == from) && (nat_le 1 load.packets && nat_le (2 * load.packets) gap)

-- how many go with it
abbrev pub weight : (from gap : ℕ) → Load → ℕ
weight from gap load = if may_go from gap load then load.packets else 0

-- it has no fewer than another that may go
abbrev pub outweighs : (from gap : ℕ) → Load → Load → Bool
outweighs from gap load other = not (may_go from gap other) || nat_le other.packets load.packets

-- the one that goes: the first of those with most packets
abbrev pub goes_first : (from gap : ℕ) → List Load → Load → Bool
goes_first from gap loads load = may_go from gap load && list_all (outweighs from gap load) loads

abbrev pub goes : (from gap : ℕ) → List Load → Option Load
goes from gap loads = find (goes_first from gap loads) loads

abbrev pub step_between : (from to : ℕ) → List Load → Option Planned
step_between from to loads =
    option_map (λ (load : Load). record { slot = load.slot; slice = to })
    (goes from (load_of loads from - load_of loads to) loads)

unfoldable pub step_of : ℕ → List Load → Option Planned
step_of slices loads = step_between (greatest (loads_of slices loads)) (least (loads_of slices loads)) loads
