-- What the slices carry, kept as steps go.
use Rattle.std.specs.Prelude.{◌≡◌, ℕ, ◌+◌, ◌-◌, ◌*◌, ◌<◌, ◌≤◌, ◌^◌, List, All, get_or, set}
use Rattle.std.specs.List.{sum_by}
use Rattle.balance_plan.specs.Loads.{IsBelow, SlotsRise, loads_of}
use Rattle.balance_plan.specs.Steps.{weight}
use Rattle.balance_plan.specs.declared.load.Load.{Load}
use Rattle.balance_plan.specs.declared.shares.Shares.{Shares}

pub record HasShares (shares : Shares) (slices : ℕ) : Type 0 where
  pub rise : SlotsRise shares.loads.items
  pub below : All (IsBelow slices) shares.loads.items
  pub packets : sum_by (λ (load : Load). load.packets) shares.loads.items < 2 ^ 63
  pub totals : shares.totals.items ≡ loads_of slices shares.loads.items

-- numbers, where so much goes from one place to another
abbrev pub changed : List ℕ → (from to much : ℕ) → List ℕ
changed numbers from to much =
    let less : List ℕ = set numbers from (get_or numbers from 0 - much) in set less to (get_or less to 0 + much)

-- among so many loads none weighs more than this much, and where it is something this is the first place that does
pub record IsHeaviest (from gap : ℕ) (loads : List Load) (done most place : ℕ) : Type 0 where
  pub bound : (k : ℕ) (none : Load) → k < done → weight from gap (get_or loads k none) ≤ most
  pub within : 0 < most → place < done
  pub here : (none : Load) → 0 < most → weight from gap (get_or loads place none) ≡ most
  pub first : (k : ℕ) (none : Load) → 0 < most → k < place → weight from gap (get_or loads k none) < most

-- what may go
pub record MayGo (from gap : ℕ) (load : Load) : Type 0 where
  pub slice : load.slice ≡ from
  pub some : 1 ≤ load.packets
  pub fits : 2 * load.packets ≤ gap

-- a load on another slice
abbrev pub sent : ℕ → Load → Load
sent to load = record load { slice = to }
