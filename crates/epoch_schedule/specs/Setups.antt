-- The setup of an epoch: its rooms, how many slices it has, and where slots are bound for as it begins.
use Rattle.std.specs.Prelude.{ℕ, List}
use Rattle.epoch_schedule.specs.World.{Rooms}
use Rattle.epoch_schedule.specs.Lines.{bound_in}

pub record EpochSetup : Type 0 where
  pub rooms : Rooms
  pub slices : ℕ
  pub bounds : List ℕ

abbrev pub bounds_of : EpochSetup → ℕ → ℕ
bounds_of setup = bound_in setup.slices setup.bounds
