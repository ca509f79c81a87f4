-- Two plans, worked by hand.
use Rattle.std.specs.Prelude.{◌≡◌, ℕ, [], ◌∷◌}
use Rattle.balance_plan.specs.Plan.{plan_of}
use Rattle.balance_plan.specs.declared.load.Load.{Load}
use Rattle.balance_plan.specs.declared.load.Planned.{Planned}

abbrev pub on : (slot slice packets : ℕ) → Load
on slot slice packets = record { slot = slot; slice = slice; packets = packets }

abbrev pub to : (slot slice : ℕ) → Planned
to slot slice = record { slot = slot; slice = slice }

-- Of 5, 3 and 2 packets on one slice of two the 5 go to the other, and no more.
abbrev pub ThreeOnOneSlice : Type 0
ThreeOnOneSlice = plan_of 2 4 (on 0 0 5 ∷ on 1 0 3 ∷ on 2 0 2 ∷ []) ≡ to 0 1 ∷ []

-- One slot with 9 packets stays.
abbrev pub OneHeavySlot : Type 0
OneHeavySlot = plan_of 2 4 (on 0 0 9 ∷ []) ≡ []
