-- Parts that clauses speak of.
use Rattle.std.specs.Prelude.{List, Option}
use Rattle.worker_core.specs.declared.traveller.Traveller.{Ghosts}
use Rattle.migration.specs.declared.place.ControlPlace.{ControlPlace}
use Rattle.gather_home.specs.declared.parts.HomeParts.{HomeParts}

-- the places as they were when the side stopped
abbrev pub admitted_of : {H N : Type 0} {g : Ghosts H N} → HomeParts H N g → List (Option (ControlPlace H))
admitted_of parts = parts.admitted.value.items
