-- Where the halves are that are still to be found, and which are found.
use Rattle.std.specs.Prelude.{◌≡◌, ℕ, ◌+◌, List, [], ◌∷◌, map, Option, Some, None}
use Rattle.std.specs.List.{sum_by, All}
use Rattle.worker_core.specs.declared.order.Order.{Order}
use Rattle.worker_core.specs.Desks.{Desk}
use Rattle.worker_core.specs.declared.traveller.Traveller.{Ghosts}
use Rattle.worker_core.specs.declared.worker.WorkerEnd.{WorkerEnd}
use Rattle.worker_core.specs.declared.home_lane.HomeLane.{HomeLane}
use Rattle.worker_core.specs.Names.{arrivals, weight}
use Rattle.worker_core.specs.Opened.{opened_sent, opened_taken}
use Rattle.worker_core.specs.Workers.{desk_lanes, end_lanes}
use Rattle.migration.specs.declared.place.ControlPlace.{ControlPlace}
use Rattle.migration.specs.Desks.{sent_weight, home_weight}
use Rattle.migration.specs.Places.{name_of, names_of, front_at, weight_at}

-- those that are there, in their order
abbrev pub somes : {X : Type 0} → List (Option X) → List X
somes [] = []
somes (None ∷ xs) = somes xs
somes (Some x ∷ xs) = x ∷ somes xs

-- the ends of workers have the lanes of these desks, one by one
abbrev pub AreEnds : {H N : Type 0} {g : Ghosts H N} → List (Desk H) → List (WorkerEnd H N g) → Type 0
AreEnds {H} {N} {g} desks ends = map (end_lanes {g = g}) ends ≡ map desk_lanes desks

-- each half has the name that was admitted at its slot
abbrev pub AtSlots : {H N : Type 0} → (H → N) → (N → ℕ) → List (Option (ControlPlace H)) → List H → Type 0
AtSlots name slot_of places halves = All (λ half. name_of name places (slot_of (name half)) ≡ Some (name half)) halves

-- each name that was admitted is found, or is where it is still to be found, as often
abbrev pub IsWhole : {H N : Type 0} → (H → N) → List (Option (ControlPlace H)) → List (Option (ControlPlace H)) → List H
    → List (Order H) → List H → Option (HomeLane H) → List (Desk H)
    → Type 0
IsWhole {H} {N} name admitted places found left held opened desks =
    (h : N → ℕ) → sum_by (front_at name h) places + weight name h found + weight name h (arrivals left)
    + weight name h held
    + opened_sent (λ half. h (name half)) opened + sum_by (sent_weight name h) desks
    ≡ sum_by (weight_at h) (names_of name admitted) + opened_taken (λ half. h (name half)) opened
    + sum_by (home_weight name h) desks
