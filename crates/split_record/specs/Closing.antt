-- What the parts of a subscriber hold on the way to one record.
use Rattle.std.specs.Prelude.{◌≡◌, ◌≢◌, ℕ, ◌+◌, ◌-◌, ◌<◌, ◌≤◌, Option, Some, None, List, [], ◌++◌, length, take, drop}
use Rattle.pc_base.specs.declared.numbered.Numbered.{Ghosts}
use Rattle.bearer_state.specs.Session.{SessionState}
use Rattle.bearer_state.specs.Version.{VersionState}
use Rattle.control_half.specs.declared.batch.Batch.{Batch}
use Rattle.control_half.specs.Batch.{versions_of, floor_of}
use Rattle.subscriber.specs.Standing.{SubscriberState, commands_met}
use Rattle.control_half.specs.Applied.{in_due}
use Rattle.control_half.specs.Controlled.{HasApplied}
use Rattle.control_half.specs.Published.{Published, in_batches, in_kept}
use Rattle.control_half.specs.declared.items.CommandItem.{CommandItem}
use Rattle.control_half.specs.declared.items.CommandDone.{CommandDone}
use Rattle.counter_half.specs.Handled.{Handled, items_in}
use Rattle.counter_half.specs.Kept.{kept_count}
use Rattle.counter_half.specs.declared.items.DataItem.{DataItem}

-- the first commands of all, as many as were applied
abbrev pub applied_of : ℕ → ℕ → List CommandItem → List CommandItem
applied_of first number commands = take (number - first) commands

-- Of the commands accepted since the split, the first ones are applied, and these are left. The versions that those
-- leave were published: learnt or sent, and then kept, and then the one that is due.
pub record HasLeft (start : SubscriberState) (commands : List CommandItem) (session : SessionState) (number : ℕ)
    (notes : List CommandDone) (due : Option ℕ) (waiting : List CommandItem) (published : List Published) : Type 0 where
  pub applied : HasApplied (commands_met start) start.session (applied_of (commands_met start) number commands)
      session number notes (published ++ in_due due session number)
  pub waiting_are : waiting ≡ drop (number - commands_met start) commands
  pub within : number ≤ commands_met start + length commands

-- the packets handled and those that wait are the items accepted
abbrev pub AreItems : List DataItem → List Handled → List DataItem → Type 0
AreItems items handled left = items ≡ items_in handled ++ left

module _ {g : Ghosts VersionState} where
  -- a batch in hand has no version more
  abbrev pub IsSpent : Option (Batch VersionState g) → Type 0
  IsSpent None = ⊥
  IsSpent (Some batch) = versions_of batch ≡ []

  -- no version is left, or the next one waits for more packets than so many
  abbrev pub Waits : ℕ → Option (Batch VersionState g) → List (Batch VersionState g) → Type 0
  Waits done None batches = batches ≡ []
  Waits done (Some batch) batches = (versions_of batch ≢ []) × (done < floor_of batch)

  -- how many versions and batches are left to be learnt
  abbrev pub to_learn : Option (Batch VersionState g) → List (Batch VersionState g) → ℕ
  to_learn taken batches =
      (kept_count taken + length (in_kept taken)) + (length batches + length (in_batches batches))
