-- Parts of a side that clauses speak of.
use Rattle.std.specs.Prelude.{◌≡◌, ◌≢◌, ℕ, ◌+◌, ◌⊎◌, Bool, List, []}
use Rattle.std.specs.Prelude.{◌∷◌, ◌++◌, Option, Some}
use Rattle.worker_core.specs.Desks.{Desk}
use Rattle.worker_core.specs.declared.traveller.Traveller.{Ghosts}
use Rattle.worker_core.specs.Workers.{Lanes}
use Rattle.migration.specs.declared.place.ControlPlace.{ControlPlace}
use Rattle.migration.specs.declared.side.Side.{Side}
use Rattle.worker_core.specs.Desks.{lanes_of, fulls_at}
use Rattle.migration.specs.Places.{place_at, names_of, hops_of, waits_at}
use Rattle.migration.specs.Steps.{ServedAt}
use Rattle.worker_core.specs.Counts.{Rises}

-- what no call but admit and go changes: the names and the hops by slot, the lanes, and both counts
pub record Roll (N : Type 0) : Type 0 where
  pub names : List (Option N)
  pub hops : List ℕ
  pub lanes : List Lanes
  pub admitted : ℕ
  pub asked : ℕ

module _ {H N : Type 0} {g : Ghosts H N} where
  abbrev pub desks_of : Side H N g → List (Desk H)
  desks_of side = side.desks.items

  abbrev pub places_of : Side H N g → List (Option (ControlPlace H))
  places_of side = side.places.items

  -- the halves that came home though nobody had told them to
  abbrev pub aside_of : Side H N g → List H
  aside_of side = side.aside.items

  abbrev pub waiting_of : Side H N g → List ℕ
  waiting_of side = side.waiting.items

  abbrev pub serving_of : Side H N g → List ℕ
  serving_of side = side.serving.items

  abbrev pub admitted_of : Side H N g → ℕ
  admitted_of side = side.admitted

  abbrev pub asked_of : Side H N g → ℕ
  asked_of side = side.asked

  abbrev pub roll_of : (H → N) → Side H N g → Roll N
  roll_of name side = record {
    names = names_of name side.places.items;
    hops = hops_of side.places.items;
    lanes = lanes_of side.desks.items;
    admitted = side.admitted;
    asked = side.asked;
  }

-- the order of the slot that is served next was offered
pub record ServedNext {H N : Type 0} (name : H → N) (hop_of : H → ℕ) (serving new_serving : List ℕ)
    (places new_places : List (Option (ControlPlace H))) (old new : List (Desk H)) : Type 0 where
  pub slot : ℕ
  pub waits : Bool
  pub next : serving ≡ new_serving ++ slot ∷ []
  pub served : ServedAt name hop_of slot waits places new_places old new
  pub others : (other : ℕ) → other ≢ slot → place_at new_places other ≡ place_at places other
  pub again : (slice : ℕ) → waits_at (place_at new_places slot) ≡ Some slice
      → Rises (fulls_at old slice) (fulls_at new slice)
  pub later : (slice : ℕ) → (fulls_at new slice ≡ fulls_at old slice) ⊎ Rises (fulls_at old slice) (fulls_at new slice)
