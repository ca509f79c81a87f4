-- The halves in a lane home that isn't closed yet.
use Rattle.std.specs.Prelude.{◌≡◌, ℕ, List, [], ◌++◌, Option, Some, None}
use Rattle.std.specs.List.{sum_by}
use Rattle.lane_core.specs.Ends.{sent, taken}
use Rattle.worker_core.specs.declared.home_lane.HomeLane.{HomeLane}

-- these halves were sent into a lane home that is open, and were not taken from it
abbrev pub IsRest : {H : Type 0} → Option (HomeLane H) → List H → Type 0
IsRest None out = out ≡ []
IsRest (Some lane) out = sent lane.tx ≡ taken lane.rx ++ out

module _ {H : Type 0} (h : H → ℕ) where
  -- a number of the halves that were sent into a lane home which is open
  abbrev pub opened_sent : Option (HomeLane H) → ℕ
  opened_sent None = 0
  opened_sent (Some lane) = sum_by h (sent lane.tx)

  -- the same of those that were taken from it
  abbrev pub opened_taken : Option (HomeLane H) → ℕ
  opened_taken None = 0
  opened_taken (Some lane) = sum_by h (taken lane.rx)
