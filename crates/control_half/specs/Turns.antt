-- What a turn came to, and why it stopped.
use Rattle.std.specs.Prelude.{◌≡◌, ◌≢◌, ℕ, Bool, true, false, ◌+◌, ◌<◌, ◌≤◌, ◌⊎◌, Option}
use Rattle.std.specs.Prelude.{Some, None, List, [], ◌∷◌}
use Rattle.std.specs.Prelude.{◌++◌, length}
use Rattle.lane_core.specs.declared.did.Did.{Did}
use Rattle.lane_core.specs.declared.did.Did.TheVariants.{Idle, Held, Worked}
use Rattle.lane_core.specs.Ends.{raised}
use Rattle.pc_base.specs.declared.numbered.Numbered.{Ghosts}
use Rattle.bearer_state.specs.Version.{VersionState}
use Rattle.control_half.specs.declared.batch.Batch.{Batch}
use Rattle.control_half.specs.Batch.{versions_of, floor_of}
use Rattle.control_half.specs.declared.items.CommandItem.{CommandItem}

-- a list got more at its end, or nothing
abbrev pub Grew : {X : Type 0} → List X → List X → Type 0
Grew {X} old new = (more : List X) × (new ≡ old ++ more)

-- a head is of a later hop, or of another floor
abbrev pub IsAhead : ℕ → Option CommandItem → Type 0
IsAhead hop None = ⊥
IsAhead hop (Some item) = hop < item.hop

abbrev pub HasOtherFloor : ℕ → Option CommandItem → Type 0
HasOtherFloor floor None = ⊥
HasOtherFloor floor (Some item) = item.floor ≢ floor

-- What a turn came to: whether commands were applied; whether a batch was sent before; and whether one was sent behind,
-- or was refused.
abbrev pub came_to : Bool → Bool → Option Bool → Did
came_to true before behind = Worked
came_to false true behind = Worked
came_to false false None = Held
came_to false false (Some true) = Worked
came_to false false (Some false) = Idle

module _ {g : Ghosts VersionState} where
  -- how many versions a batch has, none where there is no batch
  abbrev pub size : Option (Batch VersionState g) → ℕ
  size None = 0
  size (Some batch) = length (versions_of batch)

  -- a floor is that of the batch that is kept, if there is one
  abbrev pub IsOfBatch : ℕ → Option (Batch VersionState g) → Type 0
  IsOfBatch floor None = Unit {0}
  IsOfBatch floor (Some batch) = floor_of batch ≡ floor

  -- a head may be applied: it isn't ahead, and its version may join the batch
  abbrev pub Fits : ℕ → Option (Batch VersionState g) → Option CommandItem → Type 0
  Fits hop batch None = ⊥
  Fits hop batch (Some item) = (item.hop ≤ hop) × IsOfBatch item.floor batch × (size batch < 16)

  -- why no more is applied: the batch has no room, or no command came, or the one at the head doesn't fit
  abbrev pub FloorDiffers : Option (Batch VersionState g) → Option CommandItem → Type 0
  FloorDiffers None head = ⊥
  FloorDiffers (Some batch) head = HasOtherFloor (floor_of batch) head

  abbrev pub Stops : ℕ → Option (Batch VersionState g) → Option CommandItem → (old new : ℕ) → Type 0
  Stops hop batch head old new = (16 ≤ size batch) ⊎ (new ≡ raised old) ⊎ IsAhead hop head ⊎ FloorDiffers batch head

  -- What became of the batch that was kept, of what was sent, and of the count of refusals: it was refused, it was
  -- sent, or there was none.
  abbrev pub SendsAs : Option Bool → (old new : Option (Batch VersionState g))
      → (sent sent_now : List (Batch VersionState g)) → (fulls fulls_now : ℕ) → Type 0
  SendsAs None old new sent sent_now fulls fulls_now = (new ≡ old) × (sent_now ≡ sent) × (fulls_now ≡ raised fulls)
  SendsAs (Some true) old new sent sent_now fulls fulls_now =
      (batch : Batch VersionState g) × (old ≡ Some batch) × (new ≡ None) × (sent_now ≡ sent ++ batch ∷ [])
      × (fulls_now ≡ fulls)
  SendsAs (Some false) old new sent sent_now fulls fulls_now = (old ≡ None) × (new ≡ None) × (sent_now ≡ sent)
      × (fulls_now ≡ fulls)

  -- the batch with the latest versions: it is kept, or was the last one to be sent
  abbrev pub IsLatest : Batch VersionState g → Option (Batch VersionState g) → List (Batch VersionState g) → Type 0
  IsLatest batch kept sent = (kept ≡ Some batch)
      ⊎ ((kept ≡ None) × (before : List (Batch VersionState g)) × (sent ≡ before ++ batch ∷ []))

  -- the latest batch has less than it may have only where no command came, or the one at the head doesn't fit
  abbrev pub StoppedFor : ℕ → Option CommandItem → Option (Batch VersionState g) → List (Batch VersionState g)
      → (old new : ℕ) → Type 0
  StoppedFor hop head kept sent old new = (batch : Batch VersionState g) → IsLatest batch kept sent
      → length (versions_of batch) < 16
      → (new ≡ raised old) ⊎ IsAhead hop head ⊎ HasOtherFloor (floor_of batch) head

-- what a turn sees of a half
pub record Seen (g : Ghosts VersionState) : Type 0 where
  pub hop : ℕ
  pub head : Option CommandItem
  pub batch : Option (Batch VersionState g)
  pub sent : List (Batch VersionState g)
  pub number : ℕ
  pub empties : ℕ
  pub fulls : ℕ

module _ {g : Ghosts VersionState} where
  -- no command was applied, and no batch sent
  pub record Rested (old new : Seen g) : Type 0 where
    pub number : new.number ≡ old.number
    pub sent : new.sent ≡ old.sent

  -- Idle: nothing was done, no batch is kept, and no command came, or the one at the head is ahead. Held: nothing was
  -- done, and the lane of versions was full. Worked: a command was applied, or a batch sent.
  abbrev pub CameTo : Did → Seen g → Seen g → Type 0
  CameTo Idle old new = Rested old new × (new.batch ≡ None)
      × ((new.empties ≡ raised old.empties) ⊎ IsAhead new.hop new.head)
  CameTo Held old new = Rested old new × (new.fulls ≡ raised old.fulls)
  CameTo Worked old new = (old.number < new.number) ⊎ (length old.sent < length new.sent)

  -- a turn that isn't held stops for a reason
  abbrev pub Stopped : Did → Seen g → Seen g → Type 0
  Stopped Held old new = Unit {0}
  Stopped Idle old new = StoppedFor new.hop new.head new.batch new.sent old.empties new.empties
  Stopped Worked old new = StoppedFor new.hop new.head new.batch new.sent old.empties new.empties

  -- Why a turn ended as it did, and how much it did at most: 16 commands, a batch that was kept and one more.
  pub record Ended (did : Did) (old new : Seen g) : Type 0 where
    pub came : CameTo did old new
    pub stopped : Stopped did old new
    pub commands : new.number ≤ old.number + 16
    pub batches : length new.sent ≤ length old.sent + 2
