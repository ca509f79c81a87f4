-- What is known after each step of a homecoming, whatever is in the lane home that is open.
use Rattle.std.proofs.Common.{◌≡◌, ℕ, ◌+◌, List, [], ◌∷◌, ◌++◌, length, Option, None, refl, sym, ap, ◌∙◌, subst, arith}
use Rattle.std.specs.Prelude.{reverse, Result, Ok, Err, OnOk, OnErr}
use Rattle.std.specs.List.{sum_by}
use Rattle.std.specs.Option.{option_to_list}
use Rattle.std.proofs.lemmas.List.Sums.{sum_by-append}
use base.Stored.{Coded, coded_list}
use Rattle.lane_core.specs.Ends.{sent, taken}
use Rattle.lane_core.specs.Sequence.{Lawful}
use Rattle.worker_core.specs.declared.data_order.DataOrder.{DataOrder}
use Rattle.worker_core.specs.DataDesks.{DataDesk}
use Rattle.worker_core.specs.DataOrders.{halves_in, MayFollow}
use Rattle.worker_core.specs.DataStays.{NamesKept, Holds, Sends, KeptStands}
use Rattle.migration.specs.declared.data_place.DataPlace.{DataPlace}
use Rattle.migration.specs.declared.data_place.UnexpectedHalf.{UnexpectedHalf}
use Rattle.migration.specs.DataPlaces.{place_at, queue_at, front_at}
use Rattle.migration.specs.DataSides.{AllKnown, Balanced}
use Rattle.gather_home.specs.declared.data_hand.Hand.{Hand}
use Rattle.gather_home.specs.declared.data_home.Home.{Home}
use Rattle.worker_core.specs.declared.home_lane.HomeLane.{HomeLane}
use Rattle.gather_home.specs.DataLefts.{items_in, kept_in, lefts_at}
use Rattle.gather_home.specs.DataHomecomings.{halves_sum, orders_left, rest_at, IsLaid, AllLaid, AreHome, IsEmptied, HandKeeps, ComesHome}
use Rattle.worker_core.specs.Opened.{IsRest}
use Rattle.gather_home.proofs.DataBegins.{IsNew, begins}
use Rattle.gather_home.proofs.DataMoves.{moved_laid, aside_laid}
use Rattle.gather_home.proofs.DataCloses.{hand_emptied, rest_emptied, closes}
use Rattle.gather_home.proofs.DataEnds.{told_apart, home_laid, all_home}

-- what the law of a lane says by other names of the slots
pub lawful_by : {H I : Type 0} (halves slot : H → ℕ) (items item_slot : I → ℕ) → ((x : H) → slot x ≡ halves x)
    → ((x : I) → item_slot x ≡ items x) → (orders : List (DataOrder H I))
    → Lawful (MayFollow halves items) orders → Lawful (MayFollow slot item_slot) orders
lawful_by {H} {I} halves slot items item_slot alike same orders =
    subst (λ (p : (H → ℕ) × (I → ℕ)). Lawful (MayFollow p.0 p.1) orders)
    (λ i. ((λ x. sym (alike x) i), λ x. sym (same x) i))

-- all but some parts of a hand are as they were
pub record SameOrders {H I : Type 0} (hand next : Hand H I) : Type 0 where
  pub item : next.item ≡ hand.item
  pub left : next.left.items ≡ hand.left.items
  pub waiting : next.waiting ≡ hand.waiting

-- what halves weigh that are at the front, in hand or on the way, after a step
module _ {H I : Type 0} (places : List (Option (DataPlace H I))) (hand next : Hand H I) (f : H → ℕ) where
  pub kept_halves : (out : List H) → SameOrders hand next → next.held.items ≡ hand.held.items
      → next.found.items ≡ hand.found.items → halves_sum f places next out ≡ halves_sum f places hand out
  kept_halves out same held found =
      let a = ap (sum_by f) found in let b = ap (λ o. sum_by f (option_to_list o)) same.waiting in
      let c : sum_by f (halves_in (reverse next.left.items)) ≡ sum_by f (halves_in (reverse hand.left.items)) =
      ap (λ l. sum_by f (halves_in (reverse l))) same.left in
      let d = ap (sum_by f) held in omega arith

  pub home_halves : (out : List H) → IsEmptied hand → SameOrders hand next → next.found.items ≡ hand.found.items
      → halves_sum f places next out ≡ halves_sum f places hand (next.held.items ++ out)
  home_halves out emptied same found =
      let a = ap (sum_by f) found in let b = ap (λ o. sum_by f (option_to_list o)) same.waiting in
      let c : sum_by f (halves_in (reverse next.left.items)) ≡ sum_by f (halves_in (reverse hand.left.items)) =
      ap (λ l. sum_by f (halves_in (reverse l))) same.left in
      let d = sum_by-append f next.held.items out in let e = ap (sum_by f) emptied.held in omega arith

  pub aside_halves : (out : List H) (aside kept : List (UnexpectedHalf H)) → SameOrders hand next
      → next.held.items ≡ hand.held.items
      → sum_by (λ (x : UnexpectedHalf H). f x.half) kept + sum_by f next.found.items
      ≡ sum_by (λ (x : UnexpectedHalf H). f x.half) aside + sum_by f hand.found.items
      → halves_sum f places next out + sum_by (λ (x : UnexpectedHalf H). f x.half) kept
      ≡ halves_sum f places hand out + sum_by (λ (x : UnexpectedHalf H). f x.half) aside
  aside_halves out aside kept same held halves =
      let b = ap (λ o. sum_by f (option_to_list o)) same.waiting in
      let c : sum_by f (halves_in (reverse next.left.items)) ≡ sum_by f (halves_in (reverse hand.left.items)) =
      ap (λ l. sum_by f (halves_in (reverse l))) same.left in
      let d = ap (sum_by f) held in omega arith

  pub place_halves : (out : List H) (later : List (Option (DataPlace H I))) → IsEmptied hand → IsEmptied next
      → sum_by (front_at f) later + sum_by f next.found.items ≡ sum_by (front_at f) places + sum_by f hand.found.items
      → halves_sum f later next out ≡ halves_sum f places hand out
  place_halves out later emptied still halves =
      let b = hand_emptied hand emptied f in let c = hand_emptied next still f in omega arith

module _ {H I : Type 0} (item_slot : I → ℕ) (hand next : Hand H I) where
  rest_same : SameOrders hand next → next.lefts.items ≡ hand.lefts.items
      → (s : ℕ) (places : List (Option (DataPlace H I)))
      → rest_at item_slot s places next ≡ rest_at item_slot s places hand
  rest_same same lefts s places = λ i.
      ((lefts_at (lefts i) s ++ kept_in item_slot s (same.item i)) ++ items_in item_slot s (reverse (same.left i)))
      ++ queue_at (place_at places s)

module _ {H N I : Type 0} (name : H → N) (slot_at : N → ℕ) (item_slot : I → ℕ) (handled : H → List I) where
  abbrev All : List (Option (DataPlace H I)) → List (Option (DataPlace H I)) → List (UnexpectedHalf H) → Hand H I
      → Option (HomeLane H) → List (DataDesk H I) → List (Home H I) → Type 0
  All admitted places aside hand opened desks homes =
      AllLaid name slot_at item_slot handled admitted places aside hand opened desks homes

  pub begins_all : (admitted places : List (Option (DataPlace H I))) (aside : List (UnexpectedHalf H)) (hand : Hand H I)
      (desks : List (DataDesk H I)) (homes : List (Home H I)) → admitted ≡ places → homes ≡ [] → IsNew hand
      → AllKnown (λ half. slot_at (name half)) item_slot handled places desks aside → Balanced name places aside desks
      → All admitted places aside hand None desks homes
  begins_all admitted places aside hand desks homes same none new known balanced out rest =
      subst (λ (p : List (Option (DataPlace H I)) × List H × List (Home H I)).
      IsLaid name slot_at item_slot handled p.0 places aside hand p.1 desks p.2)
      (λ i. (sym same i, sym rest i, sym none i))
      (begins name slot_at item_slot handled places aside desks hand new known balanced)

  module _ (admitted : List (Option (DataPlace H I))) (desks : List (DataDesk H I)) (homes : List (Home H I)) where
    pub emptied_all : (places : List (Option (DataPlace H I))) (aside : List (UnexpectedHalf H)) (hand next : Hand H I)
        (opened : Option (HomeLane H)) → HandKeeps item_slot hand next
        → All admitted places aside hand opened desks homes → All admitted places aside next opened desks homes
    emptied_all places aside hand next opened keeps laid out rest =
        moved_laid name slot_at item_slot handled admitted desks homes places places hand next out out
        (λ s. ap (λ l. l ++ queue_at (place_at places s)) (keeps.items s)) (λ s some. refl)
        aside (λ f. let a = keeps.halves f in omega arith) (laid out rest)

    pub closed_home : (places : List (Option (DataPlace H I))) (aside : List (UnexpectedHalf H)) (hand next : Hand H I)
        (opened later : Option (HomeLane H)) → IsEmptied hand → SameOrders hand next → next.lefts.items
        ≡ hand.lefts.items
        → next.found.items ≡ hand.found.items
        → ((out : List H) → IsRest later out → IsRest opened (next.held.items ++ out))
        → All admitted places aside hand opened desks homes → All admitted places aside next later desks homes
    closed_home places aside hand next opened later emptied same lefts found rests laid out rest =
        moved_laid name slot_at item_slot handled admitted desks homes places places hand next (next.held.items
        ++ out) out
        (λ s. rest_same item_slot hand next same lefts s places) (λ s some. refl) aside
        (λ f. home_halves places hand next f out emptied same found) (laid (next.held.items ++ out) (rests out rest))

    pub asides_all : (places : List (Option (DataPlace H I))) (aside kept : List (UnexpectedHalf H)) (hand next : Hand H I)
        (opened : Option (HomeLane H)) → desks ≡ [] → SameOrders hand next → next.lefts.items ≡ hand.lefts.items
        → next.held.items ≡ hand.held.items
        → ((f : H → ℕ) → sum_by (λ (x : UnexpectedHalf H). f x.half) kept + sum_by f next.found.items
        ≡ sum_by (λ (x : UnexpectedHalf H). f x.half) aside + sum_by f hand.found.items)
        → All admitted places aside hand opened desks homes → All admitted places kept next opened desks homes
    asides_all places aside kept hand next opened none same lefts held halves laid out rest =
        aside_laid name slot_at item_slot handled admitted desks homes places places hand next out out
        (λ s. rest_same item_slot hand next same lefts s places) (λ s some. refl) aside kept (ap length none)
        (λ f. aside_halves places hand next f out aside kept same held (halves f)) (laid out rest)

    pub place_all : (places later : List (Option (DataPlace H I))) (aside : List (UnexpectedHalf H)) (hand next : Hand H I)
        (opened : Option (HomeLane H)) → desks ≡ [] → IsEmptied hand → IsEmptied next
        → ((f : H → ℕ) → sum_by (front_at f) later + sum_by f next.found.items
        ≡ sum_by (front_at f) places + sum_by f hand.found.items)
        → ((s : ℕ) → lefts_at next.lefts.items s ++ queue_at (place_at later s)
        ≡ lefts_at hand.lefts.items s ++ queue_at (place_at places s))
        → All admitted places aside hand opened desks homes → All admitted later aside next opened desks homes
    place_all places later aside hand next opened none emptied still halves items laid out rest =
        moved_laid name slot_at item_slot handled admitted desks homes places later hand next out out
        (λ s. rest_emptied next still item_slot s later ∙ items s ∙ sym (rest_emptied hand emptied item_slot s places))
        (λ s some. absurd (let e = ap length none in omega arith)) aside
        (λ f. place_halves places hand next f out later emptied still (halves f)) (laid out rest)

    module _ (coded : Coded (List I)) (places : List (Option (DataPlace H I))) (aside : List (UnexpectedHalf H))
        (hand : Hand H I)
        (opened : Option (HomeLane H)) (no_desk : desks ≡ []) (no_place : places ≡ []) (closed : opened ≡ None)
        (emptied : IsEmptied hand) (laid : All admitted places aside hand opened desks homes) where
      none_out : IsLaid name slot_at item_slot handled admitted places aside hand [] desks homes
      none_out = laid [] (subst (λ (o : Option (HomeLane H)). IsRest o []) (sym closed) refl)

      rest_none : (out : List H) → IsRest opened out → out ≡ []
      rest_none out = subst (λ (o : Option (HomeLane H)). IsRest o out → out ≡ []) (sym closed) (λ e. e)

      home_step : (next : Hand H I) (later : List (Home H I)) → IsEmptied next
          → ComesHome (λ half. slot_at (name half)) hand.found.items next.found.items hand.lefts.items next.lefts.items
          homes later
          → All admitted places aside next opened desks later
      home_step next later still comes out rest =
          subst (λ (o : List H). IsLaid name slot_at item_slot handled admitted places aside next o desks later)
          (sym (rest_none out rest))
          (home_laid name slot_at item_slot handled coded admitted places aside desks homes
          (ap length no_desk) no_place hand next later
          emptied still comes none_out)

      home_kept : (next : Hand H I) (later : List (Home H I)) → SameOrders hand next → next.held.items ≡ hand.held.items
          → (next.found.items ≡ hand.found.items) × (next.lefts.items ≡ hand.lefts.items) × (later ≡ homes)
          → All admitted places aside next opened desks later
      home_kept next later same held is out rest =
          subst (λ (hs : List (Home H I)). IsLaid name slot_at item_slot handled admitted places aside next out desks
          hs) (sym is.2)
          (moved_laid name slot_at item_slot handled admitted desks homes places places hand next out out
          (λ s. rest_same item_slot hand next same is.1 s places) (λ s some. refl) aside
          (λ f. kept_halves places hand next f out same held is.0) (laid out rest))

      pub home_all : {E : Type 0} (answer : Result (Unit {0}) E) (next : Hand H I) (later : List (Home H I))
          → SameOrders hand next
          → next.held.items ≡ hand.held.items → IsEmptied next
          → OnOk answer (ComesHome (λ half. slot_at (name half)) hand.found.items next.found.items hand.lefts.items
          next.lefts.items homes later)
          → OnErr answer ((next.found.items ≡ hand.found.items) × (next.lefts.items ≡ hand.lefts.items)
          × (later ≡ homes))
          → All admitted places aside next opened desks later
      home_all (Ok _) next later same held still ok err = home_step next later still ok
      home_all (Err _) next later same held still ok err = home_kept next later same held err

      pub all_are_home : hand.found.items ≡ [] → aside ≡ [] → AreHome name slot_at handled admitted homes
      all_are_home no_half no_aside =
          all_home name slot_at item_slot handled coded admitted places aside desks homes
          (ap length no_desk) no_place hand emptied
          no_half no_aside no_desk none_out

  -- the lanes of the last desk are closed
  pub closes_all : (coded : Coded (List I)) (admitted places : List (Option (DataPlace H I)))
      (aside : List (UnexpectedHalf H))
      (hand next : Hand H I) (opened : Option (HomeLane H)) (desks first : List (DataDesk H I)) (desk : DataDesk H I)
      (homes : List (Home H I)) (came left : List (DataOrder H I)) (gone_home : List H) → opened ≡ None
      → desks ≡ first ++ desk ∷ [] → IsEmptied hand → next.found.items ≡ hand.found.items → next.lefts.items
      ≡ hand.lefts.items
      → sent desk.orders ≡ came ++ left → orders_left next ≡ left
      → Lawful (MayFollow (λ half. slot_at (name half)) item_slot) (sent desk.orders)
      → NamesKept name came next.held.items (gone_home ++ option_to_list next.waiting)
      → Holds (λ half. slot_at (name half)) item_slot handled came next.held.items next.item
      → Sends (λ half. slot_at (name half)) item_slot handled came (gone_home ++ option_to_list next.waiting)
      → KeptStands (λ half. slot_at (name half)) item_slot handled came next.item
      → All admitted places aside hand opened desks homes
      → (out : List H) → gone_home ≡ taken desk.home ++ out
      → IsLaid name slot_at item_slot handled admitted places aside next out first homes
  closes_all coded admitted places aside hand next opened desks first desk homes came left gone_home none last emptied
      found lefts whole turned
      law kept holds sends stands laid out rest =
      closes name slot_at item_slot handled (told_apart (coded_list coded)) admitted places aside hand next out desks
      first desk homes came
      gone_home last emptied found lefts (whole ∙ ap (λ l. came ++ l) (sym turned)) law rest kept holds sends stands
      (laid [] (subst (λ (o : Option (HomeLane H)). IsRest o []) (sym none) refl))
