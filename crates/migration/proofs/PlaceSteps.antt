-- What offering an order, a move, an arrival home and an admission leave of the facts that a side keeps.
use Rattle.std.proofs.Common.{◌≡◌, ℕ, ◌+◌, ◌*◌, ◌^◌, ◌<◌, ◌≤◌, ◌⊎◌, inl, inr, Bool, true, false, true≢false}
use Rattle.std.proofs.Common.{cond, List, [], ◌∷◌, ◌++◌, length, set, replicate, refl, sym, ap, ◌∙◌, subst, arith}
use Rattle.std.proofs.Common.{length-append}
use Rattle.std.specs.Prelude.{nat_eq, nat_lt, Option, Some, None}
use Rattle.std.specs.List.{sum_by, All}
use Rattle.std.proofs.lemmas.List.{get_or_past, get_or-set_same, get_or-set_other}
use Rattle.std.proofs.lemmas.List.Elements.{All-nil, All-get_or, All-head, All-tail, All-from_get_or}
use Rattle.std.proofs.lemmas.List.Sums.{sum_by-cons, sum_by_push, sum_by-set, sum_by-le, sum_by-le-sum_by}
use Rattle.std.proofs.Math.Seq.{map-set_same}
use borrow.Author.Tests.{eqb-true, ltb-true, ltb-false}
use Rattle.std.proofs.lemmas.Bool.{eq-eqb}
use Rattle.lane_core.specs.Ends.{sent, taken, raised}
use Rattle.worker_core.specs.Desks.{Desk}
use Rattle.worker_core.specs.declared.order.Order.{Order}
use Rattle.worker_core.specs.Names.{arrivals, weight}
use Rattle.worker_core.specs.Workers.{IsNewDesk}
use Rattle.worker_core.proofs.Arrivals.{weight-push}
use Rattle.migration.specs.declared.place.ControlPlace.{ControlPlace}
use Rattle.migration.specs.declared.place.ControlState.{ControlState}
use Rattle.migration.specs.declared.place.ControlState.TheVariants.{Front, Placed, Recall, Leaving}
use Rattle.migration.specs.Desks.{sent_weight, home_weight}
use Rattle.worker_core.specs.Desks.{lanes_of, homes_of, order_count, fulls_at, Taken, Empty}
use Rattle.migration.specs.Places.{place_at, pending_at, is_admitted, is_waiting, is_waiting_at, waits_at, PlaceFits}
use Rattle.migration.specs.Places.{at_end, to_end, hop_at, hops_of, name_at, names_of, front_at, front_weight}
use Rattle.migration.specs.Places.{pending, weight_at, wait_weight, IsOwn, IsOwnAt}
use Rattle.migration.specs.Steps.{Sends, Serves, Goes, PlaceServed, ServedAt, Moves, MovesAt, NewlyWaits, Welcomes}
use Rattle.migration.specs.Steps.{Admits}
use Rattle.worker_core.specs.BySlot.{Grown}
use Rattle.migration.specs.Sides.{slot_at, BySlot, IsSide}
use Rattle.migration.specs.Words.{ServedNext}
use Rattle.worker_core.proofs.Rising.{rises_raised}
use Rattle.worker_core.proofs.AtDesks.{changed_sum, changed_len, homes_sum}
use Rattle.migration.proofs.StateSteps.{StateStep, sends_step, serves_step, goes_step, sends_fit, serves_fit, goes_fit}
use Rattle.migration.proofs.SideSteps.{at_slot, wait_weight_is, set_side, same_places, grown_side, place_grown}

mul_zero : (n : ℕ) → ◌≡◌ {A = ℕ} (n * 0) 0
mul_zero n = omega arith

-- each counted as one
sum_by-one : {X : Type 0} (xs : List X) → sum_by (λ _. 1) xs ≡ length xs
sum_by-one [] = refl
sum_by-one {X} (x ∷ xs) =
    let one : X → ℕ = λ _. 1 in let h = sum_by-one xs in let e = sum_by-cons one x xs in omega arith

-- a weight that sees one slot alone
abbrev pub on : ℕ → ℕ → ℕ
on slot k = cond (nat_eq k slot) 1 0

-- a place changed with the desks; so many orders may be given more
pub record PlaceStep {H N : Type 0} (name : H → N) (spare : ℕ) (old new : Option (ControlPlace H))
    (desks now : List (Desk H)) : Type 0 where
  pub lanes : lanes_of now ≡ lanes_of desks
  pub homes : homes_of now ≡ homes_of desks
  pub long : length now ≡ length desks
  pub named : name_at name new ≡ name_at name old
  pub admitted : is_admitted new ≡ is_admitted old
  pub balance : (h : N → ℕ) → front_at name h new + sum_by (sent_weight name h) now ≡ front_at name h old
      + sum_by (sent_weight name h) desks
  pub count : sum_by (order_count {O = Order H} {H = H}) now + pending_at new
      ≤ sum_by (order_count {O = Order H} {H = H}) desks
      + pending_at old + spare
  pub fulls : (slice : ℕ) → (fulls_at now slice ≡ fulls_at desks slice)
      ⊎ (fulls_at now slice ≡ raised (fulls_at desks slice))

module _ {H N : Type 0} (name : H → N) (hop_of : H → ℕ) (desks now : List (Desk H)) where
  state_place : (spare : ℕ) (before after : ControlPlace H) → after.admitted ≡ before.admitted
      → StateStep name spare before.state after.state desks now
      → PlaceStep name spare (Some before) (Some after) desks now
  state_place spare before after same step = record {
    lanes = step.lanes;
    homes = step.homes;
    long = step.long;
    named = ap (λ a. Some (name a.value)) same;
    admitted = refl;
    balance = step.weight;
    count = step.count;
    fulls = step.fulls;
  }

  -- a slot's order was offered
  pub served_place : (slot n asked : ℕ) (old new : Option (ControlPlace H)) → is_waiting_at old ≡ true → PlaceFits n asked old
      → PlaceServed name hop_of slot old new desks now
      → PlaceStep name 0 old new desks now × ((slice : ℕ) → waits_at new ≡ Some slice
      → fulls_at now slice ≡ raised (fulls_at desks slice))
      × PlaceFits n asked new × (hop_at new ≡ hop_at old)
  served_place slot n asked None new waits fits served = absurd (true≢false (sym waits))
  served_place slot n asked (Some before) new waits fits served =
      let after : ControlPlace H = served.0 in
      let step = serves_step name desks now hop_of slot before.hop before.state after.state served.4 in
      let back : Some after ≡ new = sym served.1 in
      subst (λ (x : Option (ControlPlace H)). PlaceStep name 0 (Some before) x desks now
      × ((slice : ℕ) → waits_at x ≡ Some slice → fulls_at now slice ≡ raised (fulls_at desks slice))
      × PlaceFits n asked x × (hop_at x ≡ before.hop)) back (
        state_place 0 before after served.3 step.0,
        step.1,
        (let s = serves_fit name desks now hop_of n slot before.hop before.state after.state (
          fits.0,
          fits.1,
        ) served.4 in
            (s.0, s.1, (let h = served.2 in let f = fits.2 in omega arith))),
        served.2,
      )

  -- a slot moved
  pub moved_place : (slot slice until n asked : ℕ) (old new : Option (ControlPlace H)) → PlaceFits n asked old → slice < n
      → Moves slot slice until old new desks now → PlaceStep name 2 old new desks now × PlaceFits n (asked + 1) new
  moved_place slot slice until n asked old new fits there moves =
      let before = moves.before in
      let after = moves.now in
      let fits : PlaceFits n asked (Some before) = subst (PlaceFits n asked) moves.was fits in
      subst (λ (p : Option (ControlPlace H) × Option (ControlPlace H)). PlaceStep name 2 p.0 p.1 desks now
      × PlaceFits n (asked + 1) p.1) (λ i. (sym moves.was i, sym moves.is i)) (
        state_place 2 before after moves.admitted (goes_step name desks now slot slice until before.state
            after.state moves.goes),
        (let s = goes_fit name desks now n slot slice until before.state after.state (
          fits.0,
          fits.1,
        ) there moves.goes in
            (s.0, s.1, (let h = moves.hop in let f = fits.2 in omega arith))),
      )

module _ {H N : Type 0} (name : H → N) (slot_of : N → ℕ) where
  -- a half at the front stays one of its slot
  serves_own : (hop_of : H → ℕ) (desks now : List (Desk H)) (own slot hop : ℕ) (old new : ControlState H)
      → IsOwn name slot_of own old → Serves name hop_of slot hop old new desks now → IsOwn name slot_of own new
  serves_own hop_of desks now own slot hop (Front half to) new is serves = elim serves.outcome [
    | inl put ↦ subst (IsOwn name slot_of own) (sym put.0) refl
    | inr kept ↦ subst (IsOwn name slot_of own) (sym kept.0) (ap slot_of serves.named ∙ is)
  ]
  serves_own hop_of desks now own slot hop (Placed at) new is serves =
      subst (IsOwn name slot_of own) (sym serves.0) refl
  serves_own hop_of desks now own slot hop (Recall at until to) new is serves = elim serves [
    | inl put ↦ subst (IsOwn name slot_of own) (sym put.0) refl
    | inr kept ↦ subst (IsOwn name slot_of own) (sym kept.0) refl
  ]
  serves_own hop_of desks now own slot hop (Leaving from to) new is serves =
      subst (IsOwn name slot_of own) (sym serves.0) refl

  served_own : (hop_of : H → ℕ) (desks now : List (Desk H)) (slot : ℕ) (old new : Option (ControlPlace H))
      → IsOwnAt name slot_of slot old → PlaceServed name hop_of slot old new desks now → IsOwnAt name slot_of slot new
  served_own hop_of desks now slot None new is served = subst (IsOwnAt name slot_of slot) (sym served.0) refl
  served_own hop_of desks now slot (Some before) new is served =
      let after : ControlPlace H = served.0 in
      subst (IsOwnAt name slot_of slot) (sym served.1)
      (serves_own hop_of desks now slot slot before.hop before.state after.state is served.4)

  goes_own : (desks now : List (Desk H)) (slot slice until : ℕ) (old new : ControlState H) → IsOwn name slot_of slot old
      → Goes slot slice until old new desks now → IsOwn name slot_of slot new
  goes_own desks now slot slice until (Front half to) new is goes = subst (IsOwn name slot_of slot) (sym goes.0) is
  goes_own desks now slot slice until (Placed at) new is goes = elim goes [
    | inl put ↦ subst (IsOwn name slot_of slot) (sym put.0) refl
    | inr kept ↦ subst (IsOwn name slot_of slot) (sym kept.0) refl
  ]
  goes_own desks now slot slice until (Recall at count to) new is goes =
      subst (IsOwn name slot_of slot) (sym goes.0) refl
  goes_own desks now slot slice until (Leaving from to) new is goes = subst (IsOwn name slot_of slot) (sym goes.0) refl

  moved_own : (desks now : List (Desk H)) (slot slice until : ℕ) (old new : Option (ControlPlace H))
      → IsOwnAt name slot_of slot old → Moves slot slice until old new desks now → IsOwnAt name slot_of slot new
  moved_own desks now slot slice until old new is moves =
      let before : ControlPlace H = moves.before in
      let after : ControlPlace H = moves.now in
      subst (IsOwnAt name slot_of slot) (sym moves.is)
      (goes_own desks now slot slice until before.state after.state
      (subst (IsOwnAt name slot_of slot) moves.was is) moves.goes)

  -- a place took a step
  pub stepped_side : (spare : ℕ) (places : List (Option (ControlPlace H))) (place : Option (ControlPlace H)) (slot : ℕ)
      (aside : List H) (desks now : List (Desk H))
      (waiting new_waiting serving new_serving : List ℕ) (admitted asked new_asked : ℕ)
      → IsSide name slot_of places aside desks waiting serving admitted asked → slot < length places
      → PlaceStep name spare (place_at places slot) place desks now → PlaceFits (length desks) new_asked place
      → IsOwnAt name slot_of slot place
      → asked ≤ new_asked → new_asked ≤ 2 ^ 48 → 2 * asked + spare ≤ 2 * new_asked
      → ((w : ℕ → ℕ) → sum_by w new_waiting + sum_by w new_serving
      + cond (is_waiting_at (place_at places slot)) (w slot) 0
      ≡ sum_by w waiting + sum_by w serving + cond (is_waiting_at place) (w slot) 0)
      → IsSide name slot_of (set places slot place) aside now new_waiting new_serving admitted new_asked
  stepped_side spare places place slot aside desks now waiting new_waiting serving new_serving admitted asked
      new_asked side within step fits own later few enough waits =
      let was : slot_at slot_of slot (name_at name (place_at places slot)) ≡ slot =
      at_slot name slot_of places side.slots slot in
      let at : slot_at slot_of slot (name_at name place) ≡ slot = ap (slot_at slot_of slot) step.named ∙ was in
      set_side name slot_of places place slot aside aside desks now waiting new_waiting serving new_serving
      admitted admitted asked new_asked side (record {
        within = within;
        balance = λ h. let a = step.balance h in let b = ap (weight_at h) step.named in
            let c : sum_by (home_weight name h) now ≡ sum_by (home_weight name h) desks =
            homes_sum (weight name h) desks now step.homes in omega arith;
        at = at;
        own = own;
        waits = λ w. let a = waits w in let b = wait_weight_is name slot_of w slot (place_at places slot) was in
            let c = wait_weight_is name slot_of w slot place at in omega arith;
        long = step.long;
        fits = fits;
        later = later;
        few = few;
        count = let a = step.count in omega arith;
        counted = ap (λ b. admitted + cond b 1 0) (sym step.admitted);
        aside_few = side.aside_few;
      })

  -- the slot that is served next has an order to give
  pub queued_here : (places : List (Option (ControlPlace H))) (slot : ℕ) → BySlot slot_of (names_of name places)
      → 0 < sum_by (wait_weight name slot_of (on slot)) places → is_waiting_at (place_at places slot) ≡ true
  queued_here places slot slots some = elim (is_waiting_at (place_at places slot))
      as (λ b. is_waiting_at (place_at places slot) ≡ b → is_waiting_at (place_at places slot) ≡ true) [
        | true ↦ λ e. e
        | false ↦ λ e.
            let f : Option (ControlPlace H) → ℕ = wait_weight name slot_of (on slot) in
            let all : All (λ x. f x ≤ 0) places = All-from_get_or (λ x. f x ≤ 0) places None (λ k within.
            elim (nat_eq k slot) as (λ b. nat_eq k slot ≡ b → f (place_at places k) ≤ 0) [
              | true ↦ λ same. subst (λ (n : ℕ). f (place_at places n) ≤ 0) (sym (eqb-true k slot same))
                  (let a = wait_weight_is name slot_of (on slot) slot (place_at places slot)
                  (at_slot name slot_of places slots slot) in
                  let c = ap (λ b. cond b (on slot slot) 0) e in omega arith)
              | false ↦ λ apart.
                  (let a = wait_weight_is name slot_of (on slot) k (place_at places k)
                  (at_slot name slot_of places slots k) in
                  let c : ◌≡◌ {A = ℕ} (cond (is_waiting_at (place_at places k)) (on slot k) 0)
                  (cond (is_waiting_at (place_at places k)) 0 0) =
                  ap (λ t. cond (is_waiting_at (place_at places k)) (cond t 1 0) 0) apart in
                  let d = cond_zero (is_waiting_at (place_at places k)) in omega arith)
            ] refl) in
            let none = sum_by-le f 0 places all in
            absurd (sum_zero (length places) (sum_by f places) none some)
      ] refl where
        sum_zero : (n total : ℕ) → total ≤ n * 0 → 0 < total → ⊥
        sum_zero n total low high = let z : n * 0 ≡ 0 = mul_zero n in omega arith

        cond_zero : (b : Bool) → ◌≡◌ {A = ℕ} (cond b 0 0) 0
        cond_zero true = refl
        cond_zero false = refl

  pub waiting_within : (places : List (Option (ControlPlace H))) (slot : ℕ) → is_waiting_at (place_at places slot) ≡ true
      → slot < length places
  waiting_within places slot waits = elim (nat_lt slot (length places)) as (λ b. nat_lt slot (length places) ≡ b
      → slot < length places) [
        | true ↦ λ e. ltb-true slot (length places) e
        | false ↦ λ e. absurd (true≢false (sym waits ∙ ap is_waiting_at
            (get_or_past places slot None (ltb-false slot (length places) e))))
      ] refl

  -- the slots with an order to give are no more than those admitted
  pub waiting_few : (places : List (Option (ControlPlace H))) (aside : List H) (desks : List (Desk H))
      (waiting serving : List ℕ) (admitted asked : ℕ)
      → IsSide name slot_of places aside desks waiting serving admitted asked
      → length waiting + length serving ≤ admitted
  waiting_few places aside desks waiting serving admitted asked side =
      let one : ℕ → ℕ = λ _. 1 in
      let a = side.queued one in
      let b = side.counted in
      let c = sum_by-le-sum_by (wait_weight name slot_of one) (λ x. cond (is_admitted x) 1 0) places wait_one in
      let d = sum_by-one waiting in let e = sum_by-one serving in omega arith where
        cond_le : (b : Bool) → cond b 1 0 ≤ 1
        cond_le true = omega arith
        cond_le false = omega arith

        wait_one : (x : Option (ControlPlace H)) → wait_weight name slot_of (λ _. 1) x ≤ cond (is_admitted x) 1 0
        wait_one None = omega arith
        wait_one (Some place) = cond_le (is_waiting place.state)

  -- a side that has just begun
  pub new_side : (desks : List (Desk H)) → All IsNewDesk desks → IsSide name slot_of [] [] desks [] [] 0 0
  new_side desks new = record {
    balanced = λ h.
        let a : sum_by (sent_weight name h) desks ≡ 0 = new_sum desks new (sent_weight name h)
        (λ d is. ap (λ l. weight name h (arrivals l)) is.0) in
        let b : sum_by (home_weight name h) desks ≡ 0 = new_sum desks new (home_weight name h)
        (λ d is. ap (weight name h) is.1) in omega arith;
    slots = λ slot. refl;
    fronts = λ slot. refl;
    queued = λ w. refl;
    fits = All-nil (PlaceFits (length desks) 0);
    few = let a : sum_by (order_count {O = Order H} {H = H}) desks ≡ 0 =
        new_sum desks new order_count (λ d is. ap length is.0) in omega arith;
    asked_few = omega arith;
    counted = refl;
    aside_few = omega arith;
  } where
    new_sum : (desks : List (Desk H)) → All IsNewDesk desks → (f : Desk H → ℕ)
        → ((d : Desk H) → IsNewDesk d → f d ≡ 0) → sum_by f desks ≡ 0
    new_sum [] new f zero_at = refl
    new_sum (d ∷ desks) new f zero_at =
        let a = sum_by-cons f d desks in
        let b = zero_at d (All-head IsNewDesk d desks new) in
        let c = new_sum desks (All-tail IsNewDesk d desks new) f zero_at in omega arith

  -- a half came home to a slot that was leaving
  pub came_home : (places new_places : List (Option (ControlPlace H))) (place : Option (ControlPlace H)) (slot slice : ℕ)
      (half : H) (aside : List H) (desks now : List (Desk H))
      (waiting new_waiting serving : List ℕ) (admitted asked : ℕ)
      → IsSide name slot_of places aside desks waiting serving admitted asked → slot < length places
      → Taken slice half desks now → slot_of (name half) ≡ slot
      → (old : Option (ControlPlace H)) → old ≡ place_at places slot → Welcomes half old place None
      → new_waiting ≡ waiting ++ slot ∷ []
      → new_places ≡ set places slot place → IsSide name slot_of new_places aside now new_waiting serving admitted asked
  came_home places new_places place slot slice half aside desks now waiting new_waiting serving admitted asked side
      within took own old same welcomes more made =
      let before = welcomes.0 in
      let after = welcomes.1 in
      let was : place_at places slot ≡ Some before = sym same ∙ welcomes.2 in
      let is : place ≡ Some after = welcomes.3 in
      let homes = welcomes.6 in
      let left : before.state ≡ Leaving homes.0 homes.1 = homes.2 in
      let front : after.state ≡ Front half homes.1 = homes.3 in
      let named : name_at name place ≡ name_at name (place_at places slot) =
      ap (name_at name) is ∙ ap (λ a. Some (name a.value)) welcomes.5 ∙ sym (ap (name_at name) was) in
      let old_at = at_slot name slot_of places side.slots slot in
      let new_at : slot_at slot_of slot (name_at name place) ≡ slot = ap (slot_at slot_of slot) named ∙ old_at in
      let fits : PlaceFits (length desks) asked (Some before) =
      subst (PlaceFits (length desks) asked) was (All-get_or
      (PlaceFits (length desks) asked) places slot None within side.fits) in
      let b = took.before in let n = took.now in
      subst (λ (l : List (Option (ControlPlace H))). IsSide name slot_of l aside now new_waiting serving admitted asked)
      (sym made)
      (set_side name slot_of places place slot aside aside desks now waiting new_waiting serving serving admitted
      admitted asked asked side (record {
        within = within;
        balance = λ h.
            let a : front_at name h place ≡ h (name half) = ap (front_at name h) is ∙ ap (front_weight name h) front in
            let z : front_at name h (place_at places slot) ≡ 0 =
            ap (front_at name h) was ∙ ap (front_weight name h) left in
            let w = ap (weight_at h) named in
            let s = changed_sum slice b n desks now took.desk (sent_weight name h) in
            let t = ap (λ o. weight name h (arrivals (sent o))) took.orders in
            let u = changed_sum slice b n desks now took.desk (home_weight name h) in
            let v = ap (weight name h) took.taken ∙ weight-push name h (taken b.home) half in
            omega arith;
        at = new_at;
        own = subst (IsOwnAt name slot_of slot) (sym is) (subst (IsOwn name slot_of slot) (sym front) own);
        waits = λ w.
            let m = ap (sum_by w) more ∙ sum_by_push w waiting slot in
            let p = wait_weight_is name slot_of w slot (place_at places slot) old_at
            ∙ ap (λ t. cond t (w slot) 0) (ap is_waiting_at was ∙ ap is_waiting left) in
            let q = wait_weight_is name slot_of w slot place new_at
            ∙ ap (λ t. cond t (w slot) 0) (ap is_waiting_at is ∙ ap is_waiting front) in
            omega arith;
        long = changed_len slice b n desks now took.desk;
        fits = subst (PlaceFits (length desks) asked) (sym is) (
          (let a = ap at_end front in omega arith),
          (let a = ap to_end front in let b = ap to_end left in let f = fits.1 in omega arith),
          (let e = fits.2 in let h = welcomes.4 in omega arith),
        );
        later = omega arith;
        few = side.asked_few;
        count =
            let s = changed_sum slice b n desks now took.desk (order_count {O = Order H} {H = H}) in
            let t = ap (λ o. length (sent o)) took.orders in
            let p : pending_at (place_at places slot) ≡ 1 = ap pending_at was ∙ ap pending left in
            let q : pending_at place ≡ 1 = ap pending_at is ∙ ap pending front in omega arith;
        counted = ap (λ t. admitted + cond t 1 0) (ap is_admitted was ∙ sym (ap is_admitted is));
        aside_few = side.aside_few;
      }))

  -- a half that came home is kept aside
  pub kept_aside : (places new_places : List (Option (ControlPlace H))) (slice : ℕ) (half : H) (aside new_aside : List H)
      (desks now : List (Desk H))
      (waiting serving : List ℕ) (admitted asked : ℕ)
      → IsSide name slot_of places aside desks waiting serving admitted asked → Taken slice half desks now
      → new_aside ≡ aside ++ half ∷ []
      → length aside < admitted → new_places ≡ places → IsSide name slot_of new_places new_aside now waiting
      serving admitted asked
  kept_aside places new_places slice half aside new_aside desks now waiting serving admitted asked side took more
      room made =
      let b = took.before in let n = took.now in
      subst (λ (l : List (Option (ControlPlace H))). IsSide name slot_of l new_aside now waiting serving admitted asked)
      (sym made)
      (same_places name slot_of places aside new_aside desks now waiting waiting serving serving admitted asked side
      (λ h.
      let s = changed_sum slice b n desks now took.desk (sent_weight name h) in
      let t = ap (λ o. weight name h (arrivals (sent o))) took.orders in
      let u = changed_sum slice b n desks now took.desk (home_weight name h) in
      let v = ap (weight name h) took.taken ∙ weight-push name h (taken b.home) half in
      let a = ap (weight name h) more ∙ weight-push name h aside half in
      omega arith)
      (λ w. refl)
      (changed_len slice b n desks now took.desk)
      (let s = changed_sum slice b n desks now took.desk (order_count {O = Order H} {H = H}) in
      let t = ap (λ o. length (sent o)) took.orders in omega arith)
      (let l = ap length more ∙ length-append aside (half ∷ []) in omega arith))

  -- a lane home was empty
  pub none_home : (places : List (Option (ControlPlace H))) (slice : ℕ) (aside : List H) (desks now : List (Desk H))
      (waiting serving : List ℕ) (admitted asked : ℕ)
      → IsSide name slot_of places aside desks waiting serving admitted asked → Empty slice desks now
      → IsSide name slot_of places aside now waiting serving admitted asked
  none_home places slice aside desks now waiting serving admitted asked side none =
      let b = none.before in let n = none.now in
      same_places name slot_of places aside aside desks now waiting waiting serving serving admitted asked side
      (λ h.
      let s = changed_sum slice b n desks now none.desk (sent_weight name h) in
      let t = ap (λ o. weight name h (arrivals (sent o))) none.orders in
      let u = changed_sum slice b n desks now none.desk (home_weight name h) in
      let v = ap (weight name h) none.taken in
      omega arith)
      (λ w. refl)
      (changed_len slice b n desks now none.desk)
      (let s = changed_sum slice b n desks now none.desk (order_count {O = Order H} {H = H}) in
      let t = ap (λ o. length (sent o)) none.orders in omega arith)
      side.aside_few

  -- a half was admitted
  pub admitted_side : (hop_of : H → ℕ) (places new_places : List (Option (ControlPlace H))) (slot slice hop : ℕ)
      (half : H) (aside : List H)
      (desks now : List (Desk H)) (waiting new_waiting serving : List ℕ) (admitted asked : ℕ)
      → IsSide name slot_of places aside desks waiting serving admitted asked → slot_of (name half) ≡ slot
      → is_admitted (place_at places slot) ≡ false
      → slice < length desks → hop < 2 ^ 60 → asked < 2 ^ 48
      → (admits : Admits name hop_of slot slice hop half places new_places desks now)
      → ((w : ℕ → ℕ) → sum_by w new_waiting ≡ sum_by w waiting + cond (is_waiting admits.now.state) (w slot) 0)
      → IsSide name slot_of new_places aside now new_waiting serving (admitted + 1) (asked + 1)
  admitted_side hop_of places new_places slot slice hop half aside desks now waiting new_waiting serving admitted
      asked side slot_is fresh fits low few admits noted =
      let grown : List (Option (ControlPlace H)) = places ++ replicate admits.more None in
      let after = admits.now in
      let free : place_at grown slot ≡ None =
      place_grown name slot_of places admits.more slot ∙ no_place (place_at places slot) fresh in
      let step = (sends_step name desks now hop_of hop slice half after.state admits.sends).0 in
      subst (λ (l : List (Option (ControlPlace H))). IsSide name slot_of l aside now new_waiting serving (admitted + 1)
      (asked + 1)) (sym admits.is)
      (set_side name slot_of grown (Some after) slot aside aside desks now waiting new_waiting serving serving
      admitted (admitted + 1) asked (asked + 1)
      (grown_side name slot_of places admits.more aside desks waiting serving admitted asked side) (record {
        within = admits.within;
        balance = λ h.
            let a = step.weight h in
            let p = ap (front_at name h) free in
            let q = ap (λ x. weight_at h (name_at name x)) free in
            let n : h (name after.admitted.value) ≡ h (name half) = ap (λ x. h (name x)) admits.admitted in
            let c : sum_by (home_weight name h) now ≡ sum_by (home_weight name h) desks =
            homes_sum (weight name h) desks now step.homes in
            omega arith;
        at = ap (λ x. slot_of (name x)) admits.admitted ∙ slot_is;
        own = serves_own hop_of desks now slot slot hop (Front half slice) after.state slot_is admits.sends;
        waits = λ w.
            let a = noted w in
            let p = ap (wait_weight name slot_of w) free in
            let q = ap (λ n. cond (is_waiting after.state) (w n) 0) (ap (λ x. slot_of (name x)) admits.admitted
            ∙ slot_is) in
            omega arith;
        long = step.long;
        fits = let s = sends_fit name desks now hop_of (length desks) hop slice half after.state fits admits.sends in
            (s.0, s.1, (let e = admits.hopped in omega arith));
        later = omega arith;
        few = omega arith;
        count = let a = step.count in let p = ap pending_at free in omega arith;
        counted = let p : ◌≡◌ {A = ℕ} (cond (is_admitted (place_at grown slot)) 1 0) 0 =
            ap (λ x. cond (is_admitted x) 1 0) free in omega arith;
        aside_few = let a = side.aside_few in omega arith;
      })) where
        no_place : (x : Option (ControlPlace H)) → is_admitted x ≡ false → x ≡ None
        no_place None none = refl
        no_place (Some place) none = absurd (true≢false none)

  -- a slot that was admitted and doesn't wait leaves room among those that do
  pub waiting_fewer : (places : List (Option (ControlPlace H))) (slot : ℕ) (aside : List H) (desks : List (Desk H))
      (waiting serving : List ℕ) (admitted asked : ℕ)
      → IsSide name slot_of places aside desks waiting serving admitted asked → slot < length places
      → is_admitted (place_at places slot) ≡ true → is_waiting_at (place_at places slot) ≡ false
      → length waiting + length serving < admitted
  waiting_fewer places slot aside desks waiting serving admitted asked side within there idle =
      let one : ℕ → ℕ = λ _. 1 in
      let f : Option (ControlPlace H) → ℕ = wait_weight name slot_of one in
      let g : Option (ControlPlace H) → ℕ = λ x. cond (is_admitted x) 1 0 in
      let a = side.queued one in
      let b = side.counted in
      let c = sum_by-le-sum_by f g (set places slot None) wait_one in
      let d = sum_by-set f places slot None None within in
      let e = sum_by-set g places slot None None within in
      let i : f (place_at places slot) ≡ 0 =
      wait_weight_is name slot_of one slot (place_at places slot) (at_slot name slot_of places side.slots slot)
      ∙ ap (λ t. cond t 1 0) idle in
      let j : g (place_at places slot) ≡ 1 = ap (λ t. cond t 1 0) there in
      let m = sum_by-one waiting in let n = sum_by-one serving in omega arith where
        cond_le : (b : Bool) → cond b 1 0 ≤ 1
        cond_le true = omega arith
        cond_le false = omega arith

        wait_one : (x : Option (ControlPlace H)) → wait_weight name slot_of (λ _. 1) x ≤ cond (is_admitted x) 1 0
        wait_one None = omega arith
        wait_one (Some place) = cond_le (is_waiting place.state)

  pub admitted_within : (places : List (Option (ControlPlace H))) (slot : ℕ) → is_admitted (place_at places slot) ≡ true
      → slot < length places
  admitted_within places slot there = elim (nat_lt slot (length places)) as (λ b. nat_lt slot (length places) ≡ b
      → slot < length places) [
        | true ↦ λ e. ltb-true slot (length places) e
        | false ↦ λ e. absurd (true≢false (sym there ∙ ap is_admitted
            (get_or_past places slot None (ltb-false slot (length places) e))))
      ] refl

  -- the slot that is served next waits
  pub next_waits : (places : List (Option (ControlPlace H))) (slot : ℕ) (aside : List H) (desks : List (Desk H))
      (waiting serving new_serving : List ℕ)
      (admitted asked : ℕ) → IsSide name slot_of places aside desks waiting serving admitted asked
      → serving ≡ new_serving ++ slot ∷ []
      → is_waiting_at (place_at places slot) ≡ true
  next_waits places slot aside desks waiting serving new_serving admitted asked side next =
      queued_here places slot side.slots
      (let a = side.queued (on slot) in
      let b = ap (sum_by (on slot)) next ∙ sum_by_push (on slot) new_serving slot in
      let c : on slot slot ≡ 1 = ap (λ t. cond t 1 0) (eq-eqb slot slot refl) in omega arith)

  -- a slot moved
  pub gone_side : (places new_places : List (Option (ControlPlace H))) (slot slice until : ℕ) (newly : Bool)
      (aside : List H) (desks now : List (Desk H))
      (waiting new_waiting serving : List ℕ) (admitted asked : ℕ)
      → IsSide name slot_of places aside desks waiting serving admitted asked → slice < length desks → asked < 2 ^ 48
      → MovesAt slot slice until places new_places desks now
      → NewlyWaits newly (place_at places slot) (place_at new_places slot)
      → ((w : ℕ → ℕ) → sum_by w new_waiting ≡ sum_by w waiting + cond newly (w slot) 0)
      → IsSide name slot_of new_places aside now new_waiting serving admitted (asked + 1)
      × (names_of name new_places ≡ names_of name places) × (lanes_of now ≡ lanes_of desks)
  gone_side places new_places slot slice until newly aside desks now waiting new_waiting serving admitted asked
      side there few moves waits noted =
      let place = moves.0 in
      let within = moves.1 in
      let fits = All-get_or (PlaceFits (length desks) asked) places slot None within side.fits in
      let step = moved_place name (λ _. 0) desks now slot slice until (length desks) asked
      (place_at places slot) place fits there moves.3 in
      let is : place_at new_places slot ≡ place = ap (λ l. place_at l slot) moves.2
      ∙ get_or-set_same places slot place None within in (
        subst (λ (l : List (Option (ControlPlace H))). IsSide name slot_of l aside now new_waiting serving admitted (asked
            + 1)) (sym moves.2)
            (stepped_side 2 places place slot aside desks now waiting new_waiting serving serving admitted asked
            (asked + 1) side within step.0 step.1 (moved_own desks now slot slice until (place_at places slot) place
            (side.fronts slot) moves.3)
            (omega arith) (omega arith) (omega arith)
            (λ w. let a = noted w in let b = waits (w slot) in let c = ap
            (λ x. cond (is_waiting_at x) (w slot) 0) is in omega arith)),
        ap (names_of name) moves.2 ∙ map-set_same (name_at name) places slot place None step.0.named,
        step.0.lanes,
      )

  -- the slot that is served next was served
  pub served_side : (hop_of : H → ℕ) (places new_places : List (Option (ControlPlace H))) (slot : ℕ) (waits : Bool)
      (aside : List H) (desks now : List (Desk H))
      (waiting new_waiting serving new_serving : List ℕ) (admitted asked : ℕ)
      → IsSide name slot_of places aside desks waiting serving admitted asked → serving ≡ new_serving ++ slot ∷ []
      → ServedAt name hop_of slot waits places new_places desks now
      → ((w : ℕ → ℕ) → sum_by w new_waiting ≡ sum_by w waiting + cond waits (w slot) 0)
      → IsSide name slot_of new_places aside now new_waiting new_serving admitted asked
      × (names_of name new_places ≡ names_of name places) × (hops_of new_places ≡ hops_of places)
      × (lanes_of now ≡ lanes_of desks) × (homes_of now ≡ homes_of desks)
      × ServedNext name hop_of serving new_serving places new_places desks now
  served_side hop_of places new_places slot waits aside desks now waiting new_waiting serving new_serving admitted
      asked side next served noted =
      let place = served.0 in
      let true_here = next_waits places slot aside desks waiting serving new_serving admitted asked side next in
      let within = waiting_within places slot true_here in
      let fits = All-get_or (PlaceFits (length desks) asked) places slot None within side.fits in
      let step = served_place name hop_of desks now slot (length desks) asked
      (place_at places slot) place true_here fits served.3 in
      let is : place_at new_places slot ≡ place = ap (λ l. place_at l slot) served.1
      ∙ get_or-set_same places slot place None within in (
        subst (λ (l : List (Option (ControlPlace H))). IsSide name slot_of l aside now new_waiting new_serving admitted
            asked) (sym served.1)
            (stepped_side 0 places place slot aside desks now waiting new_waiting serving new_serving admitted
            asked asked side within step.0 step.2 (served_own hop_of desks now slot (place_at places slot) place
            (side.fronts slot) served.3)
            (omega arith) side.asked_few (omega arith)
            (λ w.
            let a = noted w in
            let b = ap (sum_by w) next ∙ sum_by_push w new_serving slot in
            let c = ap (λ t. cond t (w slot) 0) true_here in
            let d = ap (λ t. cond t (w slot) 0) served.2 in omega arith)),
        ap (names_of name) served.1 ∙ map-set_same (name_at name) places slot place None step.0.named,
        ap hops_of served.1 ∙ map-set_same hop_at places slot place None step.3,
        step.0.lanes,
        step.0.homes,
        record {
          slot = slot;
          waits = waits;
          next = next;
          served = served;
          others = λ other apart. ap (λ l. place_at l other) served.1
              ∙ get_or-set_other places slot other place None apart;
          again = λ slice still. rises_raised (fulls_at desks slice) (fulls_at now slice)
              (step.1 slice (sym (ap waits_at is) ∙ still));
          later = λ slice. elim (step.0.fulls slice) [
            | inl same ↦ inl same
            | inr more ↦ inr (rises_raised (fulls_at desks slice) (fulls_at now slice) more)
          ];
        },
      )

-- a place that waits newly didn't wait
pub was_idle : {H : Type 0} (newly : Bool) (old new : Option (ControlPlace H)) → newly ≡ true → NewlyWaits newly old new
    → is_waiting_at old ≡ false
was_idle newly old new is waits = elim (is_waiting_at old) as (λ b. is_waiting_at old ≡ b → is_waiting_at old ≡ false) [
  | false ↦ λ e. e
  | true ↦ λ e. absurd (
      let a = waits 1 in
      let b : ◌≡◌ {A = ℕ} (cond (is_waiting_at old) 1 0) 1 = ap (λ t. cond t 1 0) e in
      let c : ◌≡◌ {A = ℕ} (cond newly 1 0) 1 = ap (λ t. cond t 1 0) is in
      let d = at_most (is_waiting_at new) in omega arith)
] refl where
  at_most : (b : Bool) → cond b 1 0 ≤ 1
  at_most true = omega arith
  at_most false = omega arith

-- a place that a half came home to was admitted and didn't wait
pub leaving_idle : {H : Type 0} (half : H) (old new : Option (ControlPlace H)) → Welcomes half old new None
    → (is_admitted old ≡ true) × (is_waiting_at old ≡ false)
leaving_idle half old new welcomes =
    let homes = welcomes.6 in
    (ap is_admitted welcomes.2, ap is_waiting_at welcomes.2 ∙ ap is_waiting homes.2)

-- a half was admitted at a list of places that had grown
abbrev pub admits_from : {H N : Type 0} (name : H → N) (hop_of : H
    → ℕ) (slot slice hop : ℕ) (half : H) (places mid new : List (Option (ControlPlace H))) (now : ControlPlace H)
    (desks after : List (Desk H)) → Grown places mid → slot < length mid → new ≡ set mid slot (Some now)
    → now.hop ≡ hop → now.admitted.value ≡ half
    → Sends name hop_of hop slice half now.state desks after
    → Admits name hop_of slot slice hop half places new desks after
admits_from name hop_of slot slice hop half places mid new now desks after grown within is hopped same sends = record {
  now = now;
  more = grown.0;
  within = let a = ap length grown.1 in omega arith;
  is = is ∙ ap (λ l. set l slot (Some now)) grown.1;
  hopped = hopped;
  admitted = same;
  sends = sends;
}

pub still_free : {H N : Type 0} (name : H → N) (slot_of : N → ℕ) (places mid : List (Option (ControlPlace H))) (slot : ℕ)
    → Grown places mid
    → is_admitted (place_at places slot) ≡ false → is_admitted (place_at mid slot) ≡ false
still_free name slot_of places mid slot grown fresh =
    ap (λ l. is_admitted (place_at l slot)) grown.1 ∙ ap is_admitted (place_grown name slot_of places grown.0 slot)
    ∙ fresh
