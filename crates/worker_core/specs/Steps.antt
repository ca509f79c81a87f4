-- What a turn of a worker does: it takes an order; or else sends a half home; or else turns halves until one has
-- worked.
use Rattle.std.specs.Prelude.{◌≡◌, ℕ, ◌+◌, ◌-◌, ◌==◌, ◌⊎◌, if◌then◌else◌, not, nat_lt, Option, Some, None, List, []}
use Rattle.std.specs.Prelude.{◌∷◌, ◌++◌, length, map, slice_get}
use Rattle.std.specs.List.{position, remove, filter}
use Rattle.lane_core.specs.Ends.{raised}
use Rattle.lane_core.specs.declared.did.Did.{Did}
use Rattle.worker_core.specs.declared.attended.Attended.{Attended}
use Rattle.worker_core.specs.declared.attended.Attended.TheVariants.{Nothing, Came, Left}
use Rattle.worker_core.specs.declared.order.Order.{Order}
use Rattle.worker_core.specs.declared.order.Order.TheVariants.{Arrive, Leave}
use Rattle.worker_core.specs.declared.worker.Leaving.{Leaving}
use Rattle.worker_core.specs.Leaves.{is_due, IsNoted, SameElsewhere}
use Rattle.worker_core.specs.Turns.{WorkedRound}
use Rattle.worker_core.specs.Answered.{AnswersRound}

-- what a worker has: the orders that it took and the halves that it sent home; those that it holds, in the order in
-- which they came; which are to leave; where its next turn begins; and how often its lane home was full and its lane
-- of orders empty
pub record View (H : Type 0) : Type 0 where
  pub took : List (Order H)
  pub gone : List H
  pub held : List H
  pub leaving : List Leaving
  pub cursor : ℕ
  pub fulls : ℕ
  pub empties : ℕ

-- a cursor in a list of this length: past its end it is at its front
abbrev pub wrapped : ℕ → ℕ → ℕ
wrapped cursor len = if nat_lt cursor len then cursor else 0

-- where a cursor stands once the half at an index left, and so many are held
abbrev pub cursor_without : ℕ → ℕ → ℕ → ℕ
cursor_without cursor at len = wrapped (if nat_lt at cursor then cursor - 1 else cursor) len

-- a half that came stands last
abbrev pub held_after : {H : Type 0} → Order H → List H → List H
held_after (Arrive half) held = held ++ half ∷ []
held_after (Leave _ _) held = held

-- one order more was taken
pub record TookOrder {H : Type 0} (slot_at : H → ℕ) (old new : View H) : Type 0 where
  pub order : Order H
  pub took : new.took ≡ old.took ++ order ∷ []
  pub gone : new.gone ≡ old.gone
  pub held : new.held ≡ held_after order old.held
  pub noted : IsNoted slot_at old.held order old.leaving new.leaving
  pub cursor : new.cursor ≡ old.cursor
  pub counts : (new.fulls ≡ old.fulls) × (new.empties ≡ old.empties)

-- no order was there
abbrev pub without_order : {H : Type 0} → View H → View H
without_order view = record view { empties = raised view.empties }

-- the first half that was told to leave and has done enough
abbrev pub first_due : {H : Type 0} → (H → ℕ) → (H → ℕ) → View H → Option ℕ
first_due slot_at done view = position (λ half. is_due view.leaving (slot_at half) (done half)) view.held

-- the first half that was due went home, and its notes with it
pub record WentHome {H : Type 0} (slot_at done : H → ℕ) (old new : View H) : Type 0 where
  pub at : ℕ
  pub half : H
  pub first : first_due slot_at done old ≡ Some at
  pub there : slice_get old.held at ≡ Some half
  pub took : new.took ≡ old.took
  pub gone : new.gone ≡ old.gone ++ half ∷ []
  pub held : new.held ≡ remove old.held at
  pub noted : SameElsewhere (slot_at half) old.leaving new.leaving
  pub forgotten : new.leaving ≡ filter (λ leaving. not (leaving.slot == slot_at half)) old.leaving
  pub cursor : new.cursor ≡ cursor_without old.cursor at (length new.held)
  pub counts : (new.fulls ≡ old.fulls) × (new.empties ≡ old.empties)

-- how often the lane home was full, once the half that was due, if one was, met it so
abbrev pub fulls_after : Option ℕ → ℕ → ℕ
fulls_after None fulls = fulls
fulls_after (Some due) fulls = raised fulls

-- no half went home: none was due, or the first that was met a full lane
pub record NoneWent {H : Type 0} (slot_at done : H → ℕ) (old new : View H) : Type 0 where
  pub took : new.took ≡ old.took
  pub gone : new.gone ≡ old.gone
  pub held : new.held ≡ old.held
  pub leaving : new.leaving ≡ old.leaving
  pub cursor : new.cursor ≡ old.cursor
  pub fulls : new.fulls ≡ fulls_after (first_due slot_at done old) old.fulls
  pub empties : new.empties ≡ old.empties

-- What attending did: it took an order, to arrive or to leave; or no order was there, and the first half that was due
-- went home, or none did.
abbrev pub Attends : {H : Type 0} → (H → ℕ) → (H → ℕ) → Attended → View H → View H → Type 0
Attends slot_at done Nothing old new = NoneWent slot_at done (without_order old) new
Attends {H} slot_at done (Came slot) old new =
    (took : TookOrder slot_at old new) × (half : H) × (took.order ≡ Arrive half) × (slot_at half ≡ slot)
Attends slot_at done Left old new =
    ((took : TookOrder slot_at old new) × (slot : ℕ) × (until : ℕ) × (took.order ≡ Leave slot until))
    ⊎ WentHome slot_at done (without_order old) new

-- from the cursor round halves were turned until one worked, as they tell, and the cursor stands behind that one
pub record Turned {H N : Type 0} (name : H → N) (turns works : H → ℕ) (turned_at : H → ℕ
    → Type 0) (came_to : Did → H → H → Type 0) (place : ℕ) (old new : View H) : Type 0 where
  pub at : ℕ
  pub took : new.took ≡ old.took
  pub gone : new.gone ≡ old.gone
  pub leaving : new.leaving ≡ old.leaving
  pub names : map name new.held ≡ map name old.held
  pub round : WorkedRound turns works turned_at place old.cursor at old.held new.held
  pub answers : AnswersRound came_to old.cursor at old.held new.held
  pub cursor : new.cursor ≡ wrapped (at + 1) (length old.held)
  pub counts : (new.fulls ≡ old.fulls) × (new.empties ≡ old.empties)

-- What a turn did that worked, the first of these that it could: it took an order; no order was there, and the first
-- half that was due went home; none went, and halves were turned from the cursor round until one worked.
abbrev pub HasWorked : {H N : Type 0} → (name : H → N) → (slot_at done turns works : H → ℕ) →
    (turned_at : H → ℕ → Type 0)
    → (came_to : Did → H → H → Type 0) → (place : ℕ) → (old new : View H) → Type 0
HasWorked {H} name slot_at done turns works turned_at came_to place old new =
    TookOrder slot_at old new
    ⊎ WentHome slot_at done (without_order old) new
    ⊎ ((mid : View H) × NoneWent slot_at done (without_order old) mid
    × Turned name turns works turned_at came_to place mid new)

-- nothing was taken, sent or noted, the cursor stands where it stood, and the halves have their names
pub record SameButHalves {H N : Type 0} (name : H → N) (old new : View H) : Type 0 where
  pub took : new.took ≡ old.took
  pub gone : new.gone ≡ old.gone
  pub leaving : new.leaving ≡ old.leaving
  pub cursor : new.cursor ≡ old.cursor
  pub names : map name new.held ≡ map name old.held
