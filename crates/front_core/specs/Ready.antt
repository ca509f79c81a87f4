-- A slot whose subscriber is split, behind a pump and what else settles.
use Rattle.std.specs.Prelude.{◌≡◌, ℕ, ◌+◌, ◌≤◌, true, Some}
use Rattle.split_record.specs.declared.front.FrontEnd.{FrontEnd}
use Rattle.front_core.specs.Lines.{IsAdmitted, MayPark, newly}
use Rattle.front_core.specs.declared.lot.Lot.TheVariants.{Split}
use Rattle.front_core.specs.declared.halves.Halves.{Halves}
use Rattle.front_core.specs.Steps.{OthersSettle, SidesKeep}
use Rattle.front_core.specs.Views.{both, view_at, part_of, ends_of, load_of}

pub record Prepared (slot : ℕ) (old new : Halves) : Type 0 where
  pub others : OthersSettle slot old new
  pub sides : SidesKeep old new
  pub end : FrontEnd
  pub lot : (view_at new slot).lot ≡ Some (Split end)
  pub admitted_as : IsAdmitted (part_of (view_at old slot)).own (ends_of end (view_at new slot).accepted)
  pub moved : (part_of (view_at new slot)).moved ≡ (part_of (view_at old slot)).moved
  pub parks : (view_at new slot).parks ≡ true → MayPark (part_of (view_at old slot))
  pub load_accepted : (load_of new).accepted ≡ (load_of old).accepted
  pub load_admitted : (load_of new).admitted ≡ (load_of old).admitted + newly (part_of (view_at old slot)).own
  pub load_asked : (load_of new).asked ≡ (load_of old).asked + newly (part_of (view_at old slot)).own
  pub control_asked : (both new).control_asked ≤ (both old).control_asked
      + newly (part_of (view_at old slot)).own
