-- What a clause says of a batch.
use Rattle.std.specs.Prelude.{ℕ, List}
use Rattle.pc_base.specs.declared.numbered.Numbered.{Ghosts}
use Rattle.control_half.specs.declared.batch.Batch.{Batch}

module _ {V : Type 0} {g : Ghosts V} where
  -- the versions that are left, in order
  abbrev pub versions_of : Batch V g → List V
  versions_of batch = batch.versions.items

  abbrev pub floor_of : Batch V g → ℕ
  floor_of batch = batch.floor
