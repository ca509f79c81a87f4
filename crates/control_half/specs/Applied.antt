-- Which of the items that were taken are applied: all but the one that is kept at the head.
use Rattle.std.specs.Prelude.{◌≡◌, ℕ, ◌+◌, ◌≤◌, ◌<◌, ◌^◌, Option, Some, None, List, [], ◌∷◌}
use Rattle.std.specs.Prelude.{◌++◌, length}
use Rattle.std.specs.Prelude.{option_to_list}
use Rattle.pc_base.specs.declared.numbered.Numbered.{Ghosts}
use Rattle.bearer_state.specs.Session.{SessionState, HasRoom}
use Rattle.bearer_state.specs.Version.{VersionState, version_of}
use Rattle.control_half.specs.declared.batch.Batch.{Batch}
use Rattle.control_half.specs.Batch.{versions_of, floor_of}
use Rattle.control_half.specs.Consecutive.{IsNext}
use Rattle.control_half.specs.declared.items.CommandItem.{CommandItem}
use Rattle.control_half.specs.Controlled.{session_behind}
use Rattle.control_half.specs.Published.{Published, under}

-- all but the last
abbrev pub but_last : {X : Type 0} → List X → List X
but_last [] = []
but_last (x ∷ []) = []
but_last (x ∷ y ∷ rest) = x ∷ but_last (y ∷ rest)

-- the items before the head
abbrev pub before_head : {X : Type 0} → Option X → List X → List X
before_head None taken = taken
before_head (Some head) taken = but_last taken

-- the kept one is the next
abbrev pub KeepsNext : {X : Type 0} → Option X → List X → Type 0
KeepsNext head taken = taken ≡ before_head head taken ++ option_to_list head

-- the version that a session has still to leave, under its floor
abbrev pub in_due : Option ℕ → SessionState → ℕ → List Published
in_due None session number = []
in_due (Some floor) session number = under floor (version_of session number) ∷ []

-- such a version joins the batch that is kept, which has room for it
abbrev pub JoinsBatch : {g : Ghosts VersionState} → Option ℕ → Option (Batch VersionState g) → Type 0
JoinsBatch {g} due kept = (floor : ℕ) (batch : Batch VersionState g) → due ≡ Some floor → kept ≡ Some batch
    → (floor_of batch ≡ floor) × (length (versions_of batch) < 16)

-- a version has the number after the last one's in the batch
abbrev pub NextOf : {g : Ghosts VersionState} → Option (Batch VersionState g) → VersionState → Type 0
NextOf {g} kept version = (batch : Batch VersionState g) → kept ≡ Some batch
    → IsNext (λ (v : VersionState). v.number) (versions_of batch) version

-- so many commands may come that the counts of a session may still rise
pub record HasRoomFor (start : SessionState) (first : ℕ) : Type 0 where
  pub sessions : (items : List CommandItem) → length items ≤ 2 ^ 50 → HasRoom (session_behind start items)
  pub number : first ≤ 2 ^ 60
