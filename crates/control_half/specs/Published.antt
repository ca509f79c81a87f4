-- Versions on their way, each with the count of packets that are to be handled before it may be learnt.
use Rattle.std.specs.Prelude.{ℕ, Option, Some, None, List, [], map}
use Rattle.std.specs.List.{flat_map}
use Rattle.pc_base.specs.declared.numbered.Numbered.{Ghosts}
use Rattle.bearer_state.specs.Version.{VersionState}
use Rattle.control_half.specs.declared.batch.Batch.{Batch}
use Rattle.control_half.specs.Batch.{versions_of, floor_of}

pub record Published : Type 0 where
  pub floor : ℕ
  pub version : VersionState

-- a version under a floor
abbrev pub under : ℕ → VersionState → Published
under floor version = record { floor = floor; version = version }

module _ {g : Ghosts VersionState} where
  -- those of a batch, and of some batches
  abbrev pub in_batch : Batch VersionState g → List Published
  in_batch batch = map (under (floor_of batch)) (versions_of batch)

  abbrev pub in_batches : List (Batch VersionState g) → List Published
  in_batches batches = flat_map in_batch batches

  abbrev pub in_kept : Option (Batch VersionState g) → List Published
  in_kept None = []
  in_kept (Some batch) = in_batch batch
