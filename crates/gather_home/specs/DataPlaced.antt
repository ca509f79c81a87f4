-- At which slices halves handled their items, and what halves weigh by those that are beyond a number.
use Rattle.std.specs.Prelude.{◌≡◌, ℕ, ◌+◌, ◌<◌, cond, nat_lt, List, [], ◌∷◌, ◌++◌, length, map, drop, Option}
use Rattle.std.specs.List.{sum_by, All}
use Rattle.pc_base.specs.declared.packet.Place.{Place}
use Rattle.pc_base.specs.declared.packet.Place.TheVariants.{At, Closing}
use Rattle.worker_core.specs.declared.home_lane.HomeLane.{HomeLane}
use Rattle.worker_core.specs.Opened.{IsRest}
use Rattle.worker_core.specs.declared.data_half.DataTraveller.{Ghosts}
use Rattle.worker_core.specs.DataDesks.{DataDesk}
use Rattle.worker_core.specs.declared.data_worker.DataEnd.{DataEnd}
use Rattle.migration.specs.declared.data_place.DataPlace.{DataPlace}
use Rattle.migration.specs.declared.data_place.UnexpectedHalf.{UnexpectedHalf}
use Rattle.migration.specs.DataDesks.{sent_weight, home_weight}
use Rattle.gather_home.specs.declared.data_hand.Hand.{Hand}
use Rattle.gather_home.specs.declared.data_home.Home.{Home}
use Rattle.gather_home.specs.DataHomecomings.{halves_sum}

-- a place is the end of an epoch, or a slice below a number
abbrev pub IsPlaceBelow : ℕ → Place → Type 0
IsPlaceBelow n (At slice) = slice < n
IsPlaceBelow n Closing = Unit {0}

-- how many of these are neither: they are beyond the number
abbrev pub beyond : ℕ → List Place → ℕ
beyond n [] = 0
beyond n (At slice ∷ places) = cond (nat_lt slice n) 0 1 + beyond n places
beyond n (Closing ∷ places) = beyond n places

-- the slices of workers that stopped
abbrev pub slices_served : {H N I : Type 0} {g : Ghosts H N I} → List (DataEnd H N I g) → List ℕ
slices_served {H} {N} {I} {g} ends = map (λ (end : DataEnd H N I g). end.place) ends

-- of all slices these are left, the first ones
abbrev pub AreLeft : List ℕ → List ℕ → Type 0
AreLeft all left = all ≡ left ++ drop (length left) all

-- halves that are found, at home or on the way weigh as much as those that came home before
pub record Even {H I : Type 0} (f : H → ℕ) (places : List (Option (DataPlace H I))) (aside : List (UnexpectedHalf H))
    (hand : Hand H I) (out : List H) (desks : List (DataDesk H I)) (homes : List (Home H I)) : Type 0 where
  pub weighs : halves_sum f places hand out + sum_by (λ kept. f kept.half) aside + sum_by (λ home. f home.half) homes
      + sum_by (sent_weight f) desks ≡ sum_by (home_weight f) desks

-- So it is where a half weighs how many of its places are beyond n, and all slices are below n, whatever is in the
-- lane home that is open.
abbrev pub AllEven : {H I : Type 0} → (H → List Place) → List ℕ → List (Option (DataPlace H I)) → List
    (UnexpectedHalf H)
    → Hand H I → Option (HomeLane H) → List (DataDesk H I) → List (Home H I) → Type 0
AllEven {H} {I} placed slices places aside hand opened desks homes =
    (n : ℕ) → All (λ slice. slice < n) slices → (out : List H) → IsRest opened out
    → Even (λ half. beyond n (placed half)) places aside hand out desks homes

-- where all slices are below a number, so is each slice at which a half handled an item
abbrev pub AllPlaced : {H I : Type 0} → (H → List Place) → List ℕ → List (Home H I) → Type 0
AllPlaced placed slices homes =
    (n : ℕ) → All (λ slice. slice < n) slices → All (λ home. All (IsPlaceBelow n) (placed home.half)) homes
