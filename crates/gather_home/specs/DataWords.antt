-- Parts that clauses speak of.
use Rattle.std.specs.Prelude.{◌≡◌, ℕ, List, [], Option, None}
use Rattle.worker_core.specs.declared.data_half.DataTraveller.{Ghosts}
use Rattle.migration.specs.declared.data_place.DataPlace.{DataPlace}
use Rattle.gather_home.specs.declared.data_parts.DataParts.{DataParts}
use Rattle.gather_home.specs.DataHomecomings.{IsEmptied}
use Rattle.gather_home.specs.DataPlaced.{slices_served}

module _ {H N I : Type 0} {g : Ghosts H N I} where
  -- the places as they were when the side stopped
  abbrev pub admitted_of : DataParts H N I g → List (Option (DataPlace H I))
  admitted_of parts = parts.admitted.value.items

  -- the slices of all workers
  abbrev pub slices_of : DataParts H N I g → List ℕ
  slices_of parts = slices_served parts.stopped.value.items

  -- both, which no step changes
  abbrev pub origin_of : DataParts H N I g → List (Option (DataPlace H I)) × List ℕ
  origin_of parts = (admitted_of parts, slices_of parts)

  -- no lane is open, and what the lanes had is found
  abbrev pub AreClosed : DataParts H N I g → Type 0
  AreClosed parts = (parts.desks.items ≡ []) × (parts.opened ≡ None) × IsEmptied parts.hand

  -- but for the halves that are home nothing is left
  pub record IsBare (parts : DataParts H N I g) : Type 0 where
    pub closed : AreClosed parts
    pub found : parts.hand.found.items ≡ []
    pub aside : parts.aside.items ≡ []
    pub places : parts.places.items ≡ []
