-- What settles, one step behind the other.
use Rattle.std.proofs.Common.{◌≡◌, ◌≢◌, ℕ, ap, ◌∙◌, List, length, set, get_or, get_or-set_same, get_or-set_other, ◌<◌}
use Rattle.std.specs.Prelude.{Option, None}
use Rattle.migration.specs.declared.place.ControlPlace.{ControlPlace}
use Rattle.migration.specs.Places as control_place
use Rattle.migration.specs.declared.data_place.DataPlace.{DataPlace}
use Rattle.migration.specs.DataPlaces as data_place
use Rattle.front_core.specs.Sides.{View}
use Rattle.front_core.specs.SidesSteps.{ViewSettles}

module _ {N M I : Type 0} where
  pub view_same : (old new : View N M I) → new ≡ old → ViewSettles old new
  view_same old new same = record {
    control = ap (λ (v : View N M I). v.control) same;
    data_half = ap (λ (v : View N M I). v.data_half) same;
    accepted = ap (λ (v : View N M I). v.accepted) same;
    moved = ap (λ (v : View N M I). v.moved) same;
    parks = λ rests. ap (λ (v : View N M I). v.parks) same ∙ rests;
  }

  pub view_then : (old mid new : View N M I) → ViewSettles old mid → ViewSettles mid new → ViewSettles old new
  view_then old mid new first second = record {
    control = second.control ∙ first.control;
    data_half = second.data_half ∙ first.data_half;
    accepted = second.accepted ∙ first.accepted;
    moved = second.moved ∙ first.moved;
    parks = λ rests. second.parks (first.parks rests);
  }

-- what is had of a slot by its two places
module _ {H N F M I : Type 0} (control_name : H → N) (data_name : F → M) where
  abbrev pub view_at : Option (ControlPlace H) → Option (DataPlace F I) → View N M I
  view_at control data_half = record {
    control = control_place.name_at control_name control;
    data_half = data_place.name_at data_name data_half;
    accepted = data_place.accepted_at data_half;
    moved = data_place.moved_at data_half;
    parks = data_place.parks_at data_half;
  }

  pub views_same : (old new : Option (ControlPlace H)) (was is : Option (DataPlace F I)) → new ≡ old → is ≡ was
      → ViewSettles (view_at old was) (view_at new is)
  views_same old new was is control data_half = record {
    control = ap (control_place.name_at control_name) control;
    data_half = ap (data_place.name_at data_name) data_half;
    accepted = ap data_place.accepted_at data_half;
    moved = ap data_place.moved_at data_half;
    parks = λ rests. ap data_place.parks_at data_half ∙ rests;
  }

  -- the control half's place may be another one of the same name
  pub views_named : (old new : Option (ControlPlace H)) (was is : Option (DataPlace F I))
      → control_place.name_at control_name new ≡ control_place.name_at control_name old → is ≡ was
      → ViewSettles (view_at old was) (view_at new is)
  views_named old new was is control data_half = record {
    control = control;
    data_half = ap (data_place.name_at data_name) data_half;
    accepted = ap data_place.accepted_at data_half;
    moved = ap data_place.moved_at data_half;
    parks = λ rests. ap data_place.parks_at data_half ∙ rests;
  }

-- a place that is another one
pub place_here : {P : Type 0} (ps : List (Option P)) (slot : ℕ) (place : Option P) → slot < length ps
    → get_or (set ps slot place) slot None ≡ place
place_here ps slot place low = get_or-set_same ps slot place None low

pub place_other : {P : Type 0} (ps : List (Option P)) (slot other : ℕ) (place : Option P) → other ≢ slot
    → get_or (set ps slot place) other None ≡ get_or ps other None
place_other ps slot other place ne = get_or-set_other ps slot other place None ne
