-- The halves that came home are those of the split subscribers, in the order of slots.
use Rattle.std.proofs.Common.{◌≡◌, ℕ, zero, suc, ◌+◌, ◌<◌, true, true≢false, is_some, List, [], ◌∷◌, ◌++◌, All, drop, length, map, get_or, refl, sym, ap, subst, ◌∙◌, arith}
use Rattle.std.specs.Prelude.{Option, Some, None, option_to_list}
use Rattle.std.proofs.lemmas.List.Elements.{All-head, All-tail}
use Rattle.gather_home.specs.Homecomings.{somes}
use Rattle.gather_home.specs.DataHomecomings.{ComeToAccepted}
use Rattle.migration.specs.declared.place.ControlPlace.{ControlPlace}
use Rattle.migration.specs.declared.data_place.DataPlace.{DataPlace}
use Rattle.control_half.specs.declared.half.ControlHalf.{ControlHalf}
use Rattle.control_half.specs.Half as control_half
use Rattle.control_half.specs.Named as control_named
use Rattle.counter_half.specs.declared.half.DataHalf.{DataHalf}
use Rattle.counter_half.specs.declared.items.DataItem.{DataItem}
use Rattle.counter_half.specs.Half as counter_half
use Rattle.counter_half.specs.Named as data_named
use Rattle.subscriber.specs.Standing.{SubscriberState}
use Rattle.gather_home.specs.declared.data_home.Home.{Home}
use Rattle.split_record.specs.declared.front.FrontEnd.{FrontEnd}
use Rattle.split_record.specs.Rejoined.{AreAccepted}
use Rattle.front_core.specs.declared.lot.Lot.{Lot}
use Rattle.front_core.specs.declared.lot.Lot.TheVariants.{Moved, Split}
use Rattle.migration.specs.Places as control_place
use Rattle.migration.specs.DataPlaces as data_place
use Rattle.front_core.proofs.Lists.{at_map}
use Rattle.front_core.specs.declared.halves.Halves.{Halves}
use Rattle.front_core.specs.Lots.{end_of, lot_of}
use Rattle.front_core.specs.Views.{both, view_at}
use Rattle.front_core.specs.Keeping.{HalvesKeep, LotKeeps, SplitKeeps}
use Rattle.front_core.specs.Steps.{AreOneSplit}
use Rattle.front_core.specs.Ending.{CanEnd, CanEndAll}

somes_next : {X : Type 0} (xs : List (Option X)) (k : ℕ)
    → somes (drop k xs) ≡ option_to_list (get_or xs k None) ++ somes (drop (suc k) xs)
somes_next [] zero = refl
somes_next [] (suc k) = refl
somes_next (None ∷ xs) zero = refl
somes_next (Some x ∷ xs) zero = refl
somes_next (x ∷ xs) (suc k) = somes_next xs k

somes_drop : {X : Type 0} (xs : List (Option X)) (k : ℕ)
    → somes (drop k xs) ≡ option_to_list (get_or xs k None) ++ somes (drop (k + 1) xs)
somes_drop xs k =
    let at : suc k ≡ k + 1 = omega arith in
    somes_next xs k ∙ ap (λ (n : ℕ). option_to_list (get_or xs k None) ++ somes (drop n xs)) at

-- what is known of the halves of a slot that is split, and of one that isn't
pub record EndsAt (slot : ℕ) (end : FrontEnd) (items : List DataItem) (control : Option control_named.Named)
    (data_half : Option data_named.Named) : Type 0 where
  pub half : control_named.Named
  pub counter : data_named.Named
  pub control_is : control ≡ Some half
  pub data_is : data_half ≡ Some counter
  pub one : AreOneSplit end half counter
  pub accepted : AreAccepted end items
  pub own : end.slot ≡ slot

abbrev pub PairedAt : ℕ → Option Lot → List DataItem → Option control_named.Named → Option data_named.Named → Type 0
PairedAt slot None items control data_half = (control ≡ None) × (data_half ≡ None)
PairedAt slot (Some Moved) items control data_half = (control ≡ None) × (data_half ≡ None)
PairedAt slot (Some (Split end)) items control data_half = EndsAt slot end items control data_half

abbrev names_home : List (Home DataHalf DataItem) → List data_named.Named
names_home homes = map (λ (home : Home DataHalf DataItem). counter_half.name_of home.half) homes

abbrev pub ComesTo : (ℕ → List DataItem) → Home DataHalf DataItem → Type 0
ComesTo items home = counter_half.handled_by home.half ++ home.left.items
    ≡ items (data_named.slot_of (counter_half.name_of home.half))

abbrev pub ComeTo : (ℕ → List DataItem) → List (Home DataHalf DataItem) → Type 0
ComeTo items homes = All (ComesTo items) homes

-- a split slot's halves
pub can_end : (slot : ℕ) (end : FrontEnd) (items : ℕ → List DataItem) (half : control_named.Named)
    (counter : data_named.Named) (control : ControlHalf) (home : Home DataHalf DataItem)
    → AreOneSplit end half counter → AreAccepted end (items slot) → end.slot ≡ slot
    → control_half.name_of control ≡ half → counter_half.name_of home.half ≡ counter
    → counter_half.handled_by home.half ++ home.left.items ≡ items (data_named.slot_of (counter_half.name_of home.half))
    → CanEnd slot end (items slot) control home
can_end slot end items half counter control home one accepted own named data_named_so comes =
    let is : AreOneSplit end (control_half.name_of control) (counter_half.name_of home.half) =
    subst (λ (h : control_named.Named). AreOneSplit end h (counter_half.name_of home.half)) (sym named)
    (subst (AreOneSplit end half) (sym data_named_so) one) in
    let at : data_named.slot_of (counter_half.name_of home.half) ≡ slot =
    ap (λ (s : SubscriberState). s.session.slot) is.started ∙ sym end.of_slot ∙ own in
    record {
      own = own;
      one = record {
        session = is.session;
        number = is.number;
        commands = is.commands;
        versions = is.versions;
        started = is.started;
      };
      accepted = accepted;
      items_are = comes ∙ ap items at;
    }

module _ (items : ℕ → List DataItem) (control_names : List (Option control_named.Named))
    (data_names : List (Option data_named.Named)) (lot_at : ℕ → Option Lot)
    (paired : (slot : ℕ) → PairedAt slot (lot_at slot) (items slot) (get_or control_names slot None)
    (get_or data_names slot None)) where
  rest_skips : (slot : ℕ) (lot : Option Lot) → lot_at slot ≡ lot → end_of lot ≡ None
      → (get_or control_names slot None ≡ None) × (get_or data_names slot None ≡ None)
  rest_skips slot None is none =
      subst (λ (l : Option Lot). PairedAt slot l (items slot) (get_or control_names slot None)
      (get_or data_names slot None)) is (paired slot)
  rest_skips slot (Some Moved) is none =
      subst (λ (l : Option Lot). PairedAt slot l (items slot) (get_or control_names slot None)
      (get_or data_names slot None)) is (paired slot)
  rest_skips slot (Some (Split end)) is none = absurd (true≢false (ap is_some none))

  later_at : (slot : ℕ) (lot : Option Lot) (lots : List (Option Lot))
      → ((i : ℕ) → i < length (lot ∷ lots) → get_or (lot ∷ lots) i None ≡ lot_at (slot + i))
      → (i : ℕ) → i < length lots → get_or lots i None ≡ lot_at ((slot + 1) + i)
  later_at slot lot lots are i low =
      are (suc i) (omega (arith, low)) ∙ ap lot_at (omega arith)

  first_at : (slot : ℕ) (lot : Option Lot) (lots : List (Option Lot))
      → ((i : ℕ) → i < length (lot ∷ lots) → get_or (lot ∷ lots) i None ≡ lot_at (slot + i)) → lot_at slot ≡ lot
  first_at slot lot lots are = ap lot_at (omega arith) ∙ sym (are 0 (omega arith))

  skip_controls : (slot : ℕ) (controls : List ControlHalf) → get_or control_names slot None ≡ None
      → map control_half.name_of controls ≡ somes (drop slot control_names)
      → map control_half.name_of controls ≡ somes (drop (slot + 1) control_names)
  skip_controls slot controls none named =
      named ∙ somes_drop control_names slot
      ∙ ap (λ (o : Option control_named.Named). option_to_list o ++ somes (drop (slot + 1) control_names)) none

  skip_homes : (slot : ℕ) (homes : List (Home DataHalf DataItem)) → get_or data_names slot None ≡ None
      → names_home homes ≡ somes (drop slot data_names) → names_home homes ≡ somes (drop (slot + 1) data_names)
  skip_homes slot homes none named =
      named ∙ somes_drop data_names slot
      ∙ ap (λ (o : Option data_named.Named). option_to_list o ++ somes (drop (slot + 1) data_names)) none

  split_at : (slot : ℕ) (end : FrontEnd) → lot_at slot ≡ Some (Split end)
      → EndsAt slot end (items slot) (get_or control_names slot None) (get_or data_names slot None)
  split_at slot end is =
      subst (λ (l : Option Lot). PairedAt slot l (items slot) (get_or control_names slot None)
      (get_or data_names slot None)) is (paired slot)

  controls_next : (slot : ℕ) (half : control_named.Named) (controls : List ControlHalf)
      → get_or control_names slot None ≡ Some half
      → map control_half.name_of controls ≡ somes (drop slot control_names)
      → map control_half.name_of controls ≡ half ∷ somes (drop (slot + 1) control_names)
  controls_next slot half controls is named =
      named ∙ somes_drop control_names slot
      ∙ ap (λ (o : Option control_named.Named). option_to_list o ++ somes (drop (slot + 1) control_names)) is

  homes_next : (slot : ℕ) (counter : data_named.Named) (homes : List (Home DataHalf DataItem))
      → get_or data_names slot None ≡ Some counter → names_home homes ≡ somes (drop slot data_names)
      → names_home homes ≡ counter ∷ somes (drop (slot + 1) data_names)
  homes_next slot counter homes is named =
      named ∙ somes_drop data_names slot
      ∙ ap (λ (o : Option data_named.Named). option_to_list o ++ somes (drop (slot + 1) data_names)) is

  pub can_end_all : (slot : ℕ) (lots : List (Option Lot)) (controls : List ControlHalf)
      (homes : List (Home DataHalf DataItem))
      → ((i : ℕ) → i < length lots → get_or lots i None ≡ lot_at (slot + i))
      → map control_half.name_of controls ≡ somes (drop slot control_names)
      → names_home homes ≡ somes (drop slot data_names) → ComeTo items homes → CanEndAll slot items lots controls homes
  can_end_all slot [] controls homes are named homes_named come = tt
  can_end_all slot (None ∷ lots) controls homes are named homes_named come =
      let skips = rest_skips slot None (first_at slot None lots are) refl in
      can_end_all (slot + 1) lots controls homes (later_at slot None lots are)
      (skip_controls slot controls skips.0 named) (skip_homes slot homes skips.1 homes_named) come
  can_end_all slot (Some Moved ∷ lots) controls homes are named homes_named come =
      let skips = rest_skips slot (Some Moved) (first_at slot (Some Moved) lots are) refl in
      can_end_all (slot + 1) lots controls homes (later_at slot (Some Moved) lots are)
      (skip_controls slot controls skips.0 named) (skip_homes slot homes skips.1 homes_named) come
  can_end_all slot (Some (Split end) ∷ lots) [] homes are named homes_named come =
      let at = split_at slot end (first_at slot (Some (Split end)) lots are) in
      let next = controls_next slot at.half [] at.control_is named in
      absurd (let no : ⊥ = cc in no)
  can_end_all slot (Some (Split end) ∷ lots) (control ∷ controls) [] are named homes_named come =
      let at = split_at slot end (first_at slot (Some (Split end)) lots are) in
      let next = homes_next slot at.counter [] at.data_is homes_named in
      absurd (let no : ⊥ = cc in no)
  can_end_all slot (Some (Split end) ∷ lots) (control ∷ controls) (home ∷ homes) are named homes_named come =
      let at = split_at slot end (first_at slot (Some (Split end)) lots are) in
      let next = controls_next slot at.half (control ∷ controls) at.control_is named in
      let next_home = homes_next slot at.counter (home ∷ homes) at.data_is homes_named in
      let named_so : control_half.name_of control ≡ at.half = cc in
      let controls_so : map control_half.name_of controls ≡ somes (drop (slot + 1) control_names) = cc in
      let home_so : counter_half.name_of home.half ≡ at.counter = cc in
      let homes_so : names_home homes ≡ somes (drop (slot + 1) data_names) = cc in (
        can_end slot end items at.half at.counter control home at.one at.accepted at.own named_so home_so
            (All-head (ComesTo items) home homes come),
        can_end_all (slot + 1) lots controls homes (later_at slot (Some (Split end)) lots are) controls_so homes_so
            (All-tail (ComesTo items) home homes come),
      )

-- what a front keeps of its slots pairs them
module _ (slices room lane slots lines latest asks : ℕ) (halves : Halves)
    (keeps : HalvesKeep slices room lane slots lines latest asks halves) where
  abbrev pub controls_named : List (Option control_named.Named)
  controls_named = control_place.names_of control_half.name_of (both halves).control_places

  abbrev pub datas_named : List (Option data_named.Named)
  datas_named = data_place.names_of counter_half.name_of (both halves).places

  control_at : (slot : ℕ) → get_or controls_named slot None ≡ (view_at halves slot).control
  control_at slot = at_map (control_place.name_at control_half.name_of) (both halves).control_places slot None

  data_at : (slot : ℕ) → get_or datas_named slot None ≡ (view_at halves slot).data_half
  data_at slot = at_map (data_place.name_at counter_half.name_of) (both halves).places slot None

  some_is : {X : Type 0} (o : Option X) → is_some o ≡ true → (x : X) × (o ≡ Some x)
  some_is None some = absurd (true≢false (sym some))
  some_is (Some x) some = (x, refl)

  split_paired : (slot : ℕ) (end : FrontEnd) → SplitKeeps slot lines latest end (view_at halves slot)
      → EndsAt slot end (view_at halves slot).accepted (get_or controls_named slot None)
      (get_or datas_named slot None)
  split_paired slot end keep =
      let control : (x : control_named.Named) × ((view_at halves slot).control ≡ Some x) =
      some_is (view_at halves slot).control keep.control_admitted in
      let data_half : (x : data_named.Named) × ((view_at halves slot).data_half ≡ Some x) =
      some_is (view_at halves slot).data_half keep.data_admitted in
      record {
        half = control.0;
        counter = data_half.0;
        control_is = control_at slot ∙ control.1;
        data_is = data_at slot ∙ data_half.1;
        one = keep.names control.0 data_half.0 control.1 data_half.1;
        accepted = keep.accepted;
        own = keep.own;
      }

  paired_as : (slot : ℕ) (lot : Option Lot) → LotKeeps slot lines latest lot (view_at halves slot)
      → PairedAt slot lot (view_at halves slot).accepted (get_or controls_named slot None)
      (get_or datas_named slot None)
  paired_as slot None keep = (control_at slot ∙ keep.no_control, data_at slot ∙ keep.no_data)
  paired_as slot (Some Moved) keep = (control_at slot ∙ keep.no_control, data_at slot ∙ keep.no_data)
  paired_as slot (Some (Split end)) keep = split_paired slot end keep

  -- so the halves that come home are those of its split subscribers
  pub all_can_end : (controls : List ControlHalf) (homes : List (Home DataHalf DataItem))
      → map control_half.name_of controls ≡ somes controls_named
      → map (λ (home : Home DataHalf DataItem). counter_half.name_of home.half) homes ≡ somes datas_named
      → ComeTo (λ (slot : ℕ). (view_at halves slot).accepted) homes
      → CanEndAll 0 (λ (slot : ℕ). (view_at halves slot).accepted) halves.lots.items controls homes
  all_can_end controls homes named homes_named come =
      can_end_all (λ (slot : ℕ). (view_at halves slot).accepted) controls_named datas_named
      (λ (slot : ℕ). lot_of halves.lots.items slot)
      (λ slot. paired_as slot (lot_of halves.lots.items slot) (keeps.views slot)) 0 halves.lots.items controls homes
      (λ i low. ap (λ (n : ℕ). lot_of halves.lots.items n) (omega arith)) named homes_named come

  -- as they come home from sides that have its places
  pub front_can_end : (controls : List ControlHalf) (homes : List (Home DataHalf DataItem))
      (control_places : List (Option (ControlPlace ControlHalf))) (places : List (Option (DataPlace DataHalf DataItem)))
      → control_places ≡ (both halves).control_places → places ≡ (both halves).places
      → map control_half.name_of controls ≡ somes (control_place.names_of control_half.name_of control_places)
      → map (λ (home : Home DataHalf DataItem). counter_half.name_of home.half) homes
      ≡ somes (data_place.names_of counter_half.name_of places)
      → ComeToAccepted counter_half.name_of data_named.slot_of counter_half.handled_by places homes
      → CanEndAll 0 (λ (slot : ℕ). (view_at halves slot).accepted) halves.lots.items controls homes
  front_can_end controls homes control_places places controls_are places_are named homes_named come =
      all_can_end controls homes
      (named ∙ ap (λ (ps : List (Option (ControlPlace ControlHalf))). somes (control_place.names_of control_half.name_of ps))
      controls_are)
      (homes_named ∙ ap (λ (ps : List (Option (DataPlace DataHalf DataItem))).
      somes (data_place.names_of counter_half.name_of ps)) places_are)
      (subst (λ (ps : List (Option (DataPlace DataHalf DataItem))). ComeToAccepted counter_half.name_of data_named.slot_of
      counter_half.handled_by ps homes) places_are come)
