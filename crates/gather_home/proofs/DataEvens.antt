-- At which slices halves handled their items, after each step of a homecoming.
use Rattle.std.proofs.Common.{◌≡◌, ℕ, zero, ◌+◌, ◌<◌, true, false, cond, List, [], ◌∷◌, ◌++◌, length, map, drop, Option, None, refl, sym, ap, ◌∙◌, subst, append-nil, append_assoc, arith}
use Rattle.std.specs.Prelude.{nat_lt, reverse, Result, Ok, Err, OnOk, OnErr}
use Rattle.std.specs.List.{sum_by, All}
use Rattle.std.specs.Option.{option_to_list}
use Rattle.std.proofs.lemmas.Bool.{eqb-true, lt-ltb, ltb-true}
use Rattle.std.proofs.lemmas.List.{drop_at, map-append, map_push}
use Rattle.std.proofs.lemmas.List.Elements.{All-nil, All-cons, All-head, All-tail}
use Rattle.std.proofs.lemmas.List.Sums.{sum_by-cons, sum_by_push}
use Rattle.lane_core.specs.Ends.{sent, taken}
use Rattle.lane_core.specs.declared.ends.Receiver.{Receiver}
use Rattle.lane_core.specs.declared.ends.Sender.{Sender}
use Rattle.pc_base.specs.declared.packet.Place.{Place}
use Rattle.pc_base.specs.declared.packet.Place.TheVariants.{At, Closing}
use Rattle.worker_core.specs.declared.home_lane.HomeLane.{HomeLane}
use Rattle.worker_core.specs.Opened.{IsRest}
use Rattle.worker_core.specs.declared.data_half.DataTraveller.{Ghosts}
use Rattle.worker_core.specs.declared.data_order.DataOrder.{DataOrder}
use Rattle.worker_core.specs.declared.data_worker.DataEnd.{DataEnd}
use Rattle.worker_core.specs.DataDesks.{DataDesk}
use Rattle.worker_core.specs.DataOrders.{halves_in}
use Rattle.worker_core.specs.DataPlaces.{is_here, with_place, before_here, brought}
use Rattle.worker_core.specs.DataStays.{NamesKept}
use Rattle.migration.specs.declared.data_place.DataPlace.{DataPlace}
use Rattle.migration.specs.declared.data_place.UnexpectedHalf.{UnexpectedHalf}
use Rattle.migration.specs.DataDesks.{sent_weight, home_weight}
use Rattle.migration.specs.DataPlaces.{front_at}
use Rattle.migration.specs.DataSides.{Weighed}
use Rattle.gather_home.specs.declared.data_hand.Hand.{Hand}
use Rattle.gather_home.specs.declared.data_home.Home.{Home}
use Rattle.gather_home.specs.DataHomecomings.{orders_left, ComesHome, HandKeeps, IsEmptied}
use Rattle.gather_home.specs.DataPlaced.{AllEven, AllPlaced, AreLeft, Even, IsPlaceBelow, beyond, slices_served}
use Rattle.gather_home.proofs.DataBegins.{IsNew}
use Rattle.gather_home.proofs.DataCloses.{hand_emptied, weights_closed}
use Rattle.gather_home.proofs.DataLaid.{SameOrders, aside_halves, home_halves, place_halves}

-- a worker of a slice below a number adds no place beyond it
beyond_at : (n place : ℕ) (slice : Place) → place < n → is_here place slice ≡ true → beyond n (slice ∷ []) ≡ 0
beyond_at n place (At slice) low here =
    let same : slice ≡ place = eqb-true slice place here in
    let one : ◌≡◌ {A = ℕ} (cond (nat_lt slice n) 0 1) 0 =
    ap (λ b. cond b 0 1) (lt-ltb slice n (omega (arith, same, low))) in
    omega (arith, one)
beyond_at n place Closing low here = refl

with_same : (n place : ℕ) (slice : Place) (left : List Place) → place < n
    → beyond n (with_place place slice left) ≡ beyond n (slice ∷ left)
with_same n place slice [] low = elim (is_here place slice) as (λ b. is_here place slice ≡ b
    → beyond n (cond b [] (slice ∷ [])) ≡ beyond n (slice ∷ [])) [
      | true ↦ λ here. sym (beyond_at n place slice low here)
      | false ↦ λ there. refl
    ] refl
with_same n place slice (next ∷ left) low = refl

beyond_more : (n : ℕ) (slice : Place) (left more : List Place) → beyond n left ≡ beyond n more
    → beyond n (slice ∷ left) ≡ beyond n (slice ∷ more)
beyond_more n (At slice) left more same = ap (λ k. cond (nat_lt slice n) 0 1 + k) same
beyond_more n Closing left more same = same

before_same : (n place : ℕ) (places : List Place) → place < n → beyond n (before_here place places) ≡ beyond n places
before_same n place [] low = refl
before_same n place (slice ∷ places) low =
    with_same n place slice (before_here place places) low
    ∙ beyond_more n slice (before_here place places) places (before_same n place places low)

-- so what it held and sent home weighs what came
pub worker_even : {H N I : Type 0} (name : H → N) (placed : H → List Place) (n place : ℕ) (came : List (DataOrder H I))
    (held gone : List H) → place < n → NamesKept (brought name placed place) came held gone
    → sum_by (λ half. beyond n (placed half)) (halves_in came)
    ≡ sum_by (λ half. beyond n (placed half)) held + sum_by (λ half. beyond n (placed half)) gone
worker_even {H} {N} {I} name placed n place came held gone low here =
    let f : H → ℕ = λ half. beyond n (placed half) in
    let g : H → ℕ = λ half. beyond n (before_here place (placed half)) in
    let same : (xs : List H) → sum_by g xs ≡ sum_by f xs =
    λ xs. ap (λ (h : H → ℕ). sum_by h xs) (λ i half. before_same n place (placed half) low i) in
    let kept : sum_by g (halves_in came) ≡ sum_by g held + sum_by g gone =
    here (λ (b : N × List Place). beyond n b.1) in
    let a = same (halves_in came) in
    let b = same held in
    let c = same gone in
    omega (arith, kept, a, b, c)

-- a half that has handled nothing did so nowhere
pub nowhere : (n : ℕ) (places : List Place) → length places ≡ 0 → beyond n places ≡ 0
nowhere n [] none = refl
nowhere n (place ∷ places) none = absurd (omega (arith, none))

-- where none is beyond the number, all are below it
below_all : (n : ℕ) (places : List Place) → beyond n places ≡ 0 → All (IsPlaceBelow n) places
below_all n [] none = All-nil (IsPlaceBelow n)
below_all n (At slice ∷ places) none =
    All-cons (IsPlaceBelow n) (At slice) places
    (elim (nat_lt slice n) as (λ b. nat_lt slice n ≡ b → cond b 0 1 + beyond n places ≡ 0 → slice < n) [
      | true ↦ λ is zero. ltb-true slice n is
      | false ↦ λ is zero. absurd (omega (arith, zero))
    ] refl none) (below_all n places (omega (arith, none)))
below_all n (Closing ∷ places) none = All-cons (IsPlaceBelow n) Closing places tt (below_all n places none)

-- all of these slices, and the last of those that are left
last_below : (n place : ℕ) (all left rest : List ℕ) → AreLeft all left → left ≡ rest ++ place ∷ []
    → All (λ slice. slice < n) all → place < n
last_below n place all left rest are last below =
    one rest (drop (length left) all)
    (subst (All (λ slice. slice < n)) (are ∙ ap (λ l. l ++ drop (length left) all) last) below) where
      one : (xs more : List ℕ) → All (λ slice. slice < n) ((xs ++ place ∷ []) ++ more) → place < n
      one [] more below = All-head (λ slice. slice < n) place more below
      one (x ∷ xs) more below = one xs more (All-tail (λ slice. slice < n) x ((xs ++ place ∷ []) ++ more) below)

are_first : (all left more : List ℕ) → all ≡ left ++ more → AreLeft all left
are_first all left more is =
    is ∙ ap (λ l. left ++ l) (sym (ap (drop (length left)) is ∙ drop_at left more (length left) refl))

-- the last of a list is put back, and what is told of it is the same
pub put_back : {A L : Type 0} (f : A → L) (all first now : List A) (x again : A) → all ≡ first ++ x ∷ []
    → now ≡ first ++ again ∷ [] → f again ≡ f x → map f now ≡ map f all
put_back f all first now x again last pushed same =
    ap (map f) pushed ∙ map_push f first again ∙ ap (λ l. map f first ++ l ∷ []) same ∙ sym (map_push f first x)
    ∙ sym (ap (map f) last)

pub same_desks : {H I : Type 0} (all first now : List (DataDesk H I)) (desk again : DataDesk H I)
    → all ≡ first ++ desk ∷ [] → now ≡ first ++ again ∷ [] → again.orders ≡ desk.orders → again.home ≡ desk.home
    → now ≡ all
same_desks {H} {I} all first now desk again last pushed orders home =
    let made : Sender (DataOrder H I) → Receiver H → DataDesk H I = λ o h. record { orders = o; home = h } in
    pushed ∙ ap (λ (o : Sender (DataOrder H I)). first ++ made o again.home ∷ []) orders
    ∙ ap (λ (h : Receiver H). first ++ made desk.orders h ∷ []) home ∙ sym last

module _ {H N I : Type 0} {g : Ghosts H N I} where
  pub left_all : (ends : List (DataEnd H N I g)) → AreLeft (slices_served ends) (slices_served ends)
  left_all ends = are_first (slices_served ends) (slices_served ends) [] (sym (append-nil (slices_served ends)))

  served_last : (ends rest : List (DataEnd H N I g)) (end : DataEnd H N I g) → ends ≡ rest ++ end ∷ []
      → slices_served ends ≡ slices_served rest ++ end.place ∷ []
  served_last ends rest end last =
      ap slices_served last ∙ map-append (λ (e : DataEnd H N I g). e.place) rest (end ∷ [])

  pub left_fewer : (all : List ℕ) (ends rest : List (DataEnd H N I g)) (end : DataEnd H N I g)
      → ends ≡ rest ++ end ∷ [] → AreLeft all (slices_served ends) → AreLeft all (slices_served rest)
  left_fewer all ends rest end last are =
      let more = drop (length (slices_served ends)) all in
      are_first all (slices_served rest) (end.place ∷ more)
      (are ∙ ap (λ l. l ++ more) (served_last ends rest end last)
      ∙ append_assoc (slices_served rest) (end.place ∷ []) more)

  pub left_same : (all : List ℕ) (ends new rest : List (DataEnd H N I g)) (end back : DataEnd H N I g)
      → ends ≡ rest ++ end ∷ [] → new ≡ rest ++ back ∷ [] → back.place ≡ end.place → AreLeft all (slices_served ends)
      → AreLeft all (slices_served new)
  left_same all ends new rest end back last again same are =
      subst (AreLeft all)
      (served_last ends rest end last ∙ ap (λ p. slices_served rest ++ p ∷ []) (sym same)
      ∙ sym (served_last new rest back again)) are

  pub end_below : (n : ℕ) (all : List ℕ) (ends rest : List (DataEnd H N I g)) (end : DataEnd H N I g)
      → ends ≡ rest ++ end ∷ [] → AreLeft all (slices_served ends) → All (λ slice. slice < n) all → end.place < n
  end_below n all ends rest end last are below =
      last_below n end.place all (slices_served ends) (slices_served rest) are (served_last ends rest end last) below

module _ {H I : Type 0} (placed : H → List Place) (slices : List ℕ) where
  abbrev Evens : List (Option (DataPlace H I)) → List (UnexpectedHalf H) → Hand H I → Option (HomeLane H)
      → List (DataDesk H I) → List (Home H I) → Type 0
  Evens places aside hand opened desks homes = AllEven placed slices places aside hand opened desks homes

  pub even_begins : (handled : H → List I) (places : List (Option (DataPlace H I))) (aside : List (UnexpectedHalf H))
      (hand : Hand H I) (desks : List (DataDesk H I)) (homes : List (Home H I)) → homes ≡ [] → IsNew hand
      → ((half : H) → length (placed half) ≡ length (handled half)) → Weighed handled places aside desks
      → Evens places aside hand None desks homes
  even_begins handled places aside hand desks homes none new each weighed n below out rest =
      let f : H → ℕ = λ half. beyond n (placed half) in
      let a = weighed f (λ half nothing. nowhere n (placed half) (each half ∙ ap length nothing)) in
      let b = ap (sum_by f) new.found in
      let c = ap (sum_by f) new.held in
      let d = ap (λ o. sum_by f (option_to_list o)) new.waiting in
      let e : sum_by f (halves_in (orders_left hand)) ≡ 0 = ap (λ l. sum_by f (halves_in (reverse l))) new.left in
      let h = ap (sum_by f) rest in
      let k = ap (sum_by (λ (home : Home H I). f home.half)) none in
      record { weighs = omega arith }

  -- the last desk is put back
  pub even_again : (places : List (Option (DataPlace H I))) (aside : List (UnexpectedHalf H)) (hand : Hand H I)
      (opened : Option (HomeLane H)) (desks now : List (DataDesk H I)) (homes : List (Home H I)) → now ≡ desks
      → Evens places aside hand opened desks homes → Evens places aside hand opened now homes
  even_again places aside hand opened desks now homes same even =
      subst (λ (l : List (DataDesk H I)). Evens places aside hand opened l homes) (sym same) even

  module _ (desks : List (DataDesk H I)) (homes : List (Home H I)) where
    pub even_emptied : (item_slot : I → ℕ) (places : List (Option (DataPlace H I))) (aside : List (UnexpectedHalf H))
        (hand next : Hand H I) (opened : Option (HomeLane H)) → HandKeeps item_slot hand next
        → Evens places aside hand opened desks homes → Evens places aside next opened desks homes
    even_emptied item_slot places aside hand next opened keeps even n below out rest =
        let a = keeps.halves (λ half. beyond n (placed half)) in
        let b = (even n below out rest).weighs in
        record { weighs = omega arith }

    pub even_home : (places : List (Option (DataPlace H I))) (aside : List (UnexpectedHalf H)) (hand next : Hand H I)
        (opened later : Option (HomeLane H)) → IsEmptied hand → SameOrders hand next
        → next.found.items ≡ hand.found.items
        → ((out : List H) → IsRest later out → IsRest opened (next.held.items ++ out))
        → Evens places aside hand opened desks homes → Evens places aside next later desks homes
    even_home places aside hand next opened later emptied same found rests even n below out rest =
        let a = home_halves places hand next (λ half. beyond n (placed half)) out emptied same found in
        let b = (even n below (next.held.items ++ out) (rests out rest)).weighs in
        record { weighs = omega (arith, a, b) }

    pub even_asides : (places : List (Option (DataPlace H I))) (aside kept : List (UnexpectedHalf H)) (hand next : Hand H I)
        (opened : Option (HomeLane H)) → SameOrders hand next → next.held.items ≡ hand.held.items
        → ((f : H → ℕ) → sum_by (λ (x : UnexpectedHalf H). f x.half) kept + sum_by f next.found.items
        ≡ sum_by (λ (x : UnexpectedHalf H). f x.half) aside + sum_by f hand.found.items)
        → Evens places aside hand opened desks homes → Evens places kept next opened desks homes
    even_asides places aside kept hand next opened same held halves even n below out rest =
        let f : H → ℕ = λ half. beyond n (placed half) in
        let a = aside_halves places hand next f out aside kept same held (halves f) in
        let b = (even n below out rest).weighs in
        record { weighs = omega (arith, a, b) }

    pub even_place : (places later : List (Option (DataPlace H I))) (aside : List (UnexpectedHalf H)) (hand next : Hand H I)
        (opened : Option (HomeLane H)) → IsEmptied hand → IsEmptied next
        → ((f : H → ℕ) → sum_by (front_at f) later + sum_by f next.found.items
        ≡ sum_by (front_at f) places + sum_by f hand.found.items)
        → Evens places aside hand opened desks homes → Evens later aside next opened desks homes
    even_place places later aside hand next opened emptied still halves even n below out rest =
        let f : H → ℕ = λ half. beyond n (placed half) in
        let a = place_halves places hand next f out later emptied still (halves f) in
        let b = (even n below out rest).weighs in
        record { weighs = omega (arith, a, b) }

    -- a half comes home, or none does
    pub even_brought : {E : Type 0} (slot : H → ℕ) (answer : Result (Unit {0}) E)
        (places : List (Option (DataPlace H I))) (aside : List (UnexpectedHalf H)) (hand next : Hand H I)
        (opened : Option (HomeLane H)) (later : List (Home H I)) → IsEmptied hand → IsEmptied next
        → OnOk answer (ComesHome slot hand.found.items next.found.items hand.lefts.items next.lefts.items homes later)
        → OnErr answer ((next.found.items ≡ hand.found.items) × (next.lefts.items ≡ hand.lefts.items)
        × (later ≡ homes))
        → Evens places aside hand opened desks homes → Evens places aside next opened desks later
    even_brought slot (Ok u) places aside hand next opened later emptied still comes err even n below out rest =
        let f : H → ℕ = λ half. beyond n (placed half) in
        let a = hand_emptied hand emptied f in
        let b = hand_emptied next still f in
        let c = ap (sum_by f) comes.was ∙ sum_by_push f next.found.items comes.home.half in
        let d = ap (sum_by (λ (home : Home H I). f home.half)) comes.is
        ∙ sum_by_push (λ (home : Home H I). f home.half) homes comes.home in
        let e = (even n below out rest).weighs in
        record { weighs = omega (arith, a, b, c, d, e) }
    even_brought slot (Err e) places aside hand next opened later emptied still ok is even n below out rest =
        let f : H → ℕ = λ half. beyond n (placed half) in
        let a = hand_emptied hand emptied f in
        let b = hand_emptied next still f in
        let c = ap (sum_by f) is.0 in
        let d = ap (sum_by (λ (home : Home H I). f home.half)) is.2 in
        let k = (even n below out rest).weighs in
        record { weighs = omega (arith, a, b, c, d, k) }

  -- the lanes of the last desk are closed
  pub even_closes : {N : Type 0} (name : H → N) (place : ℕ) (places : List (Option (DataPlace H I)))
      (aside : List (UnexpectedHalf H)) (hand next : Hand H I) (opened : Option (HomeLane H))
      (desks first : List (DataDesk H I)) (desk : DataDesk H I) (homes : List (Home H I))
      (came left : List (DataOrder H I)) (gone_home : List H) → opened ≡ None → desks ≡ first ++ desk ∷ []
      → IsEmptied hand → next.found.items ≡ hand.found.items → next.lefts.items ≡ hand.lefts.items
      → sent desk.orders ≡ came ++ left → orders_left next ≡ left
      → ((n : ℕ) → All (λ slice. slice < n) slices → place < n)
      → NamesKept (brought name placed place) came next.held.items (gone_home ++ option_to_list next.waiting)
      → Evens places aside hand opened desks homes
      → (n : ℕ) → All (λ slice. slice < n) slices → (out : List H) → gone_home ≡ taken desk.home ++ out
      → Even (λ half. beyond n (placed half)) places aside next out first homes
  even_closes name place places aside hand next opened desks first desk homes came left gone_home none last emptied found
      lefts whole turned low here even n below out rest =
      let f : H → ℕ = λ half. beyond n (placed half) in
      let was = (even n below [] (subst (λ (o : Option (HomeLane H)). IsRest o []) (sym none) refl)).weighs in
      let closed = weights_closed hand next out desks first desk came gone_home last emptied found lefts
      (whole ∙ ap (λ l. came ++ l) (sym turned)) rest f
      (worker_even name placed n place came next.held.items (gone_home ++ option_to_list next.waiting) (low n below) here)
      (sum_by (front_at f) places) (sum_by (λ (kept : UnexpectedHalf H). f kept.half) aside)
      (sum_by (λ (home : Home H I). f home.half) homes) 0 (omega (arith, was)) in
      record { weighs = omega (arith, closed) }

  -- nothing but the halves that are home is left
  homes_below : (n : ℕ) (homes : List (Home H I)) → sum_by (λ home. beyond n (placed home.half)) homes ≡ 0
      → All (λ home. All (IsPlaceBelow n) (placed home.half)) homes
  homes_below n [] none = All-nil (λ home. All (IsPlaceBelow n) (placed home.half))
  homes_below n (home ∷ homes) none =
      let parts = sum_by-cons (λ (h : Home H I). beyond n (placed h.half)) home homes in
      All-cons (λ home. All (IsPlaceBelow n) (placed home.half)) home homes
      (below_all n (placed home.half) (omega (arith, parts, none))) (homes_below n homes (omega (arith, parts, none)))

  pub all_placed : (places : List (Option (DataPlace H I))) (aside : List (UnexpectedHalf H)) (hand : Hand H I)
      (opened : Option (HomeLane H)) (desks : List (DataDesk H I)) (homes sorted : List (Home H I))
      → desks ≡ [] → opened ≡ None → IsEmptied hand → hand.found.items ≡ [] → aside ≡ [] → places ≡ []
      → ((f : Home H I → ℕ) → sum_by f sorted ≡ sum_by f homes) → Evens places aside hand opened desks homes
      → AllPlaced placed slices sorted
  all_placed places aside hand opened desks homes sorted no_desk closed emptied no_half no_aside no_place same even n
      below =
      let f : H → ℕ = λ half. beyond n (placed half) in
      let was = (even n below [] (subst (λ (o : Option (HomeLane H)). IsRest o []) (sym closed) refl)).weighs in
      let a = ap (sum_by (front_at f)) no_place in
      let b = hand_emptied hand emptied f ∙ ap (sum_by f) no_half in
      let c = ap (sum_by (λ (kept : UnexpectedHalf H). f kept.half)) no_aside in
      let d = ap (sum_by (sent_weight f)) no_desk in
      let e = ap (sum_by (home_weight f)) no_desk in
      let k = same (λ home. f home.half) in
      homes_below n sorted (omega (arith, was, a, b, c, d, e, k))
