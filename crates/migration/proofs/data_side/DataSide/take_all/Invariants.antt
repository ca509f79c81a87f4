use Rattle.std.proofs.Common.{◌≡◌, ◌≤◌, ℕ, vec_len}
use Rattle.migration.specs.DataLeavers.{is_left, leavers_of}
use Rattle.migration.specs.DataPumps.{TakesHome}
use Rattle.migration.specs.DataWords.{roll_of}
use Rattle.worker_core.proofs.Homes.{TakenBelow}
use Rattle.migration.proofs.data_side.DataSide.take_all.Given as goal

abbrev pub invariant-loop-slice : goal.invariant-loop-slice
invariant-loop-slice g l =
    (roll_of g.H.DataTraveller.name l.self ≡ roll_of g.H.DataTraveller.name l.fn.self)
    × (vec_len l.self.desks ≡ vec_len l.fn.self.desks)
    × TakesHome (λ half. g.H.DataTraveller.slot_at (g.H.DataTraveller.name half)) l.fn.self.places.items l.self.places.items
    l.fn.self.aside.items l.self.aside.items
    × TakenBelow (is_left l.fn.self.places.items) l.slice l.self.admitted l.self.aside.items l.fn.self.desks.items
    l.self.desks.items
    × ((other : ℕ) → l.slice ≤ other
    → leavers_of other l.self.places.items ≡ leavers_of other l.fn.self.places.items)
