-- Parts of a side that clauses speak of.
use Rattle.std.specs.Prelude.{◌≡◌, ℕ, ◌<◌, ◌≤◌, Bool, List, map}
use Rattle.std.specs.Prelude.{length, Option, Some, None, slice_set, replicate, [], ◌++◌}
use Rattle.worker_core.specs.Workers.{Lanes}
use Rattle.worker_core.specs.DataDesks.{DataDesk}
use Rattle.worker_core.specs.declared.data_half.DataTraveller.{Ghosts}
use Rattle.worker_core.specs.Counts.{Rises}
use Rattle.migration.specs.declared.data_place.DataPlace.{DataPlace}
use Rattle.migration.specs.declared.data_place.DataState.TheVariants.{Front}
use Rattle.migration.specs.declared.data_place.UnexpectedHalf.{UnexpectedHalf}
use Rattle.migration.specs.declared.data_side.DataSide.{DataSide}
use Rattle.worker_core.specs.Desks.{lanes_of, fulls_at, room_at, sent_count}
use Rattle.migration.specs.DataPlaces.{names_of, accepted_at, accepted_by, moved_at}
use Rattle.migration.specs.DataSteps.{Sends}

-- what pumping leaves: the names, the accepted items and whether it moved, by slot; the lanes; the room of a queue; and
-- the counts
pub record Roll (N I : Type 0) : Type 0 where
  pub names : List (Option N)
  pub accepted : List (List I)
  pub moved : List Bool
  pub lanes : List Lanes
  pub room : ℕ
  pub admitted : ℕ
  pub asked : ℕ
  pub refused : ℕ

module _ {H I : Type 0} where
  abbrev pub accepts_of : List (Option (DataPlace H I)) → List (List I)
  accepts_of places = map accepted_at places

  abbrev pub moves_of : List (Option (DataPlace H I)) → List Bool
  moves_of places = map moved_at places

module _ {H N I : Type 0} {g : Ghosts H N I} where
  abbrev pub desks_of : DataSide H N I g → List (DataDesk H I)
  desks_of side = side.desks.items

  abbrev pub places_of : DataSide H N I g → List (Option (DataPlace H I))
  places_of side = side.places.items

  -- the halves that came home though nobody had told them to
  abbrev pub aside_of : DataSide H N I g → List (UnexpectedHalf H)
  aside_of side = side.aside.items

  -- the slots for which something is still to be done
  abbrev pub due_of : DataSide H N I g → List ℕ
  due_of side = side.due.items

  -- how many items wait in a queue, at most
  abbrev pub queue_room_of : DataSide H N I g → ℕ
  queue_room_of side = side.room

  abbrev pub admitted_of : DataSide H N I g → ℕ
  admitted_of side = side.admitted

  abbrev pub asked_of : DataSide H N I g → ℕ
  asked_of side = side.asked

  abbrev pub refused_of : DataSide H N I g → ℕ
  refused_of side = side.refused

  abbrev pub roll_of : (H → N) → DataSide H N I g → Roll N I
  roll_of name side = record {
    names = names_of name side.places.items;
    accepted = accepts_of side.places.items;
    moved = moves_of side.places.items;
    lanes = lanes_of side.desks.items;
    room = side.room;
    admitted = side.admitted;
    asked = side.asked;
    refused = side.refused;
  }

-- a lane was full at a step, and as many orders as it has room for were sent on it in all
abbrev pub MetFull : {H I : Type 0} → List (DataDesk H I) → List (DataDesk H I) → Type 0
MetFull old new = (slice : ℕ) × Rises (fulls_at old slice) (fulls_at new slice)
    × (room_at new slice ≤ sent_count new slice)

-- a half that was admitted stands at the front of its slot, and no other slot changed
pub record Enters {H I : Type 0} (slot slice : ℕ) (moves : Bool) (half : H)
    (places new_places : List (Option (DataPlace H I))) : Type 0 where
  pub now : DataPlace H I
  pub is : new_places ≡ slice_set places slot (Some now)
  pub admitted : now.admitted.value ≡ half
  pub moved : now.moved ≡ moves
  pub state : now.state ≡ Front half slice
  pub queue : now.queue.items ≡ []
  pub accepted : accepted_by now ≡ []

-- a half was admitted at its slot, and sent to a slice or kept at the front, and no other slot changed
pub record Admits {H I : Type 0} (slot slice : ℕ) (moves : Bool) (half : H)
    (places new_places : List (Option (DataPlace H I)))
    (old new : List (DataDesk H I)) : Type 0 where
  pub now : DataPlace H I
  pub more : ℕ
  pub within : slot < length (places ++ replicate more None)
  pub is : new_places ≡ slice_set (places ++ replicate more None) slot (Some now)
  pub admitted : now.admitted.value ≡ half
  pub moved : now.moved ≡ moves
  pub queue : now.queue.items ≡ []
  pub accepted : accepted_by now ≡ []
  pub sends : Sends half slice now.state old new
