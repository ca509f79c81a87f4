-- A slot was admitted.
use Rattle.std.proofs.Common.{◌≡◌, ◌≢◌, ℕ, ◌+◌, ◌<◌, Bool, true, false, not, ◌&&◌, ◌||◌, true≢false, is_some, cond, List, ◌++◌, length, set, get_or, get_or-set_same, get_or-set_other, replicate, refl, sym, ap, ◌∙◌, arith}
use Rattle.std.specs.Prelude.{Option, Some, None, count_by, nat_eq}
use Rattle.std.specs.List.{sum_by}
use Rattle.std.proofs.lemmas.List.Sums.{sum_by-set}
use Rattle.worker_core.specs.Desks.{lanes_of}
use Rattle.migration.specs.Places as control_place
use Rattle.migration.specs.Steps as control_step
use Rattle.migration.specs.declared.data_place.DataPlace.{DataPlace}
use Rattle.migration.specs.DataWords as datas
use Rattle.migration.specs.DataPlaces as data_place
use Rattle.front_core.specs.Sides.{Both, view_of, load_of}
use Rattle.front_core.specs.SidesSteps.{SlotAdmits}
use Rattle.front_core.proofs.Lists.{at_more, sum_map, sum_more}
use Rattle.front_core.proofs.SidesSettling.{views_same}

-- a place that was free is taken
pub grown_other : {X : Type 0} (xs : List (Option X)) (more slot other : ℕ) (x : Option X) → other ≢ slot
    → get_or (set (xs ++ replicate more None) slot x) other None ≡ get_or xs other None
grown_other xs more slot other x ne =
    get_or-set_other (xs ++ replicate more None) slot other x None ne ∙ at_more xs more other

grown_sum : {X : Type 0} (f : Option X → ℕ) (xs : List (Option X)) (more slot : ℕ) (x : Option X)
    → slot < length (xs ++ replicate more None) → f None ≡ 0 → get_or xs slot None ≡ None
    → sum_by f (set (xs ++ replicate more None) slot x) ≡ sum_by f xs + f x
grown_sum f xs more slot x low none free =
    let parts = sum_by-set f (xs ++ replicate more None) slot x None low in
    let grown = sum_more f xs more none in
    let was : f (get_or (xs ++ replicate more None) slot None) ≡ 0 = ap f (at_more xs more slot ∙ free) ∙ none in
    omega (arith, parts, grown, was)

no_data : {F M I : Type 0} (name : F → M) (place : Option (DataPlace F I)) → data_place.name_at name place ≡ None
    → place ≡ None
no_data name None none = refl
no_data name (Some place) none = absurd (true≢false (ap is_some none))

and_first : (x y : Bool) → (x && y) ≡ true → x ≡ true
and_first true y is = refl
and_first false y is = is

pub parks_moved : {F I : Type 0} (place : DataPlace F I) → data_place.parks_at (Some place) ≡ true → place.moved ≡ true
parks_moved place parks =
    and_first place.moved (not (data_place.is_placed place.state) || not (nat_eq (length place.queue.items) 0)) parks

module _ {H N F M I : Type 0} (control_name : H → N) (data_name : F → M) (hop_of : H → ℕ) (old new : Both H F I)
    (slot slice : ℕ) (moved : Bool) (control : H) (data_half : F)
    (fresh : (view_of control_name data_name old slot).data_half ≡ None)
    (control_admits : control_step.Admits control_name hop_of slot slice 0 control old.control_places
    new.control_places old.control_desks new.control_desks)
    (control_lanes : lanes_of new.control_desks ≡ lanes_of old.control_desks)
    (control_asked : new.control_asked ≡ old.control_asked + 1)
    (data_admits : datas.Admits slot slice moved data_half old.places new.places old.desks new.desks)
    (data_lanes : lanes_of new.desks ≡ lanes_of old.desks) (queues : new.queue_room ≡ old.queue_room)
    (asked : new.asked ≡ old.asked + 1) where
  control_here : control_place.place_at new.control_places slot ≡ Some control_admits.now
  control_here =
      ap (λ ps. control_place.place_at ps slot) control_admits.is
      ∙ get_or-set_same (old.control_places ++ replicate control_admits.more None) slot (Some control_admits.now) None
      control_admits.within

  data_here : data_place.place_at new.places slot ≡ Some data_admits.now
  data_here =
      ap (λ ps. data_place.place_at ps slot) data_admits.is
      ∙ get_or-set_same (old.places ++ replicate data_admits.more None) slot (Some data_admits.now) None
      data_admits.within

  free : data_place.place_at old.places slot ≡ None
  free = no_data data_name (data_place.place_at old.places slot) fresh

  accepted_same : (load_of data_name new).accepted ≡ (load_of data_name old).accepted
  accepted_same =
      let count : Option (DataPlace F I) → ℕ = λ p. length (data_place.accepted_at p) in
      let parts = grown_sum count old.places data_admits.more slot (Some data_admits.now) data_admits.within refl free in
      let none = ap length data_admits.accepted in
      let new_sum = sum_map (λ (items : List I). length items) data_place.accepted_at
      (set (old.places ++ replicate data_admits.more None) slot (Some data_admits.now)) in
      let old_sum = sum_map (λ (items : List I). length items) data_place.accepted_at old.places in
      ap (λ ps. sum_by (λ (items : List I). length items) (datas.accepts_of ps)) data_admits.is
      ∙ omega (arith, parts, none, new_sum, old_sum)

  admitted_more : (load_of data_name new).admitted ≡ (load_of data_name old).admitted + 1
  admitted_more =
      let count : Option (DataPlace F I) → ℕ = λ p. cond (is_some (data_place.name_at data_name p)) 1 0 in
      let parts = grown_sum count old.places data_admits.more slot (Some data_admits.now) data_admits.within refl free in
      let new_sum = sum_map (λ (name : Option M). cond (is_some name) 1 0) (data_place.name_at data_name)
      (set (old.places ++ replicate data_admits.more None) slot (Some data_admits.now)) in
      let old_sum = sum_map (λ (name : Option M). cond (is_some name) 1 0) (data_place.name_at data_name) old.places in
      ap (λ ps. count_by (λ (name : Option M). is_some name) (data_place.names_of data_name ps)) data_admits.is
      ∙ omega (arith, parts, new_sum, old_sum)

  pub admitted : SlotAdmits control_name data_name hop_of slot slice moved control data_half old new
  admitted = record {
    enters = record { control_enters = control_admits; data_enters = data_admits };
    others = λ other ne.
        views_same control_name data_name (control_place.place_at old.control_places other)
        (control_place.place_at new.control_places other) (data_place.place_at old.places other)
        (data_place.place_at new.places other)
        (ap (λ ps. control_place.place_at ps other) control_admits.is
        ∙ grown_other old.control_places control_admits.more slot other (Some control_admits.now) ne)
        (ap (λ ps. data_place.place_at ps other) data_admits.is
        ∙ grown_other old.places data_admits.more slot other (Some data_admits.now) ne);
    sides = record { control_lanes = control_lanes; data_lanes = data_lanes; queues = queues };
    control_is = ap (control_place.name_at control_name) control_here
        ∙ ap (λ h. Some (control_name h)) control_admits.admitted;
    data_is = ap (data_place.name_at data_name) data_here ∙ ap (λ h. Some (data_name h)) data_admits.admitted;
    accepted = ap data_place.accepted_at data_here ∙ data_admits.accepted;
    moved_is = ap data_place.moved_at data_here ∙ data_admits.moved;
    parks = λ parks.
        sym data_admits.moved ∙ parks_moved data_admits.now (ap data_place.parks_at (sym data_here) ∙ parks);
    load_accepted = accepted_same;
    load_admitted = admitted_more;
    asked = asked;
    control_asked = control_asked;
  }
