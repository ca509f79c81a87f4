-- What a half does with the batches that it is to learn and with an item that it is handed, whole.
use Rattle.std.specs.Prelude.{◌≡◌, ℕ, ◌+◌, ◌<◌, ◌≤◌, Bool, true, false, List, [], ◌∷◌, ◌++◌}
use Rattle.pc_base.specs.declared.packet.Place.{Place}
use Rattle.pc_base.specs.declared.packet.Place.TheVariants.{At}
use Rattle.lane_core.specs.Ends.{raised}
use Rattle.worker_core.specs.declared.data_serving.TriedItem.{TriedItem}
use Rattle.worker_core.specs.declared.data_serving.TriedItem.TheVariants.{Handled, Waits}
use Rattle.worker_core.specs.DataCounts.{learnt_count, LearnStops}

-- given by what clauses read of a half
module _ {H I : Type 0} (handled : H → List I) (places : H → List Place) (takes : H → I → Bool)
    (asks learns batches empties : H → ℕ) (awaits : H → Type 0) where
  -- it learnt so many batches at most, or none
  pub record LearnsAs (most : ℕ) (learnt : Bool) (before after : H) : Type 0 where
    pub lists : handled after ≡ handled before
    pub placed : places after ≡ places before
    pub asked : asks after ≡ raised (asks before)
    pub counted : learns after ≡ learnt_count learnt (learns before)
    pub few : batches after ≤ batches before + most
    pub more : learnt ≡ true → batches before < batches after
    pub none : learnt ≡ false → batches after ≡ batches before
    pub stopped : LearnStops most (batches before) (batches after) (empties before) (empties after) (awaits after)

  -- it learnt 16 batches at most, took the item then, and handled it at this slice
  pub record HandlesAs (place : ℕ) (item : I) (before after : H) : Type 0 where
    pub between : H
    pub learnt : Bool
    pub first : LearnsAs 16 learnt before between
    pub taken : takes between item ≡ true
    pub lists : handled after ≡ handled between ++ item ∷ []
    pub placed : places after ≡ places between ++ At place ∷ []
    pub counts : batches after ≡ batches between

  -- the same, or it learnt and doesn't take the item
  abbrev pub HandsAs : ℕ → TriedItem → I → H → H → Type 0
  HandsAs place Handled item before after = HandlesAs place item before after
  HandsAs place (Waits learnt) item before after = LearnsAs 16 learnt before after × (takes after item ≡ false)
