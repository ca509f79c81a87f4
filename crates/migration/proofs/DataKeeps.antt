-- What any steps at one slot keep, of the slot and of all others.
use Rattle.std.proofs.Common.{◌≡◌, ℕ, ◌+◌, ◌≤◌, inl, List, [], ◌∷◌, ◌++◌, length, refl, sym, ap, ◌∙◌, subst, arith}
use Rattle.std.proofs.Common.{length-append}
use Rattle.std.specs.List.{sum_by}
use Rattle.lane_core.specs.Ends.{sent}
use Rattle.worker_core.specs.DataDesks.{DataDesk}
use Rattle.worker_core.specs.declared.data_order.DataOrder.{DataOrder}
use Rattle.worker_core.specs.declared.data_order.DataOrder.TheVariants.{Arrive, Item, Leave}
use Rattle.worker_core.specs.DataOrders.{halves_in, now_of, gone_of}
use Rattle.worker_core.proofs.Rising.{lasts_then}
use Rattle.migration.specs.declared.data_place.DataState.{DataState}
use Rattle.migration.specs.declared.data_place.DataState.TheVariants.{Front, Placed, Recall, Leaving}
use Rattle.migration.specs.DataDesks.{sent_weight}
use Rattle.worker_core.specs.Desks.{lanes_of, homes_of, sent_at, home_at, order_count, fulls_at, Given, Refused}
use Rattle.migration.specs.DataPlaces.{pending, front_weight}
use Rattle.migration.specs.DataStays.{Where, Here, Away, SlotKnows}
use Rattle.migration.specs.DataKeeps.{Stand, StateIs, StandTells, Keeps}
use Rattle.migration.proofs.DataDesks.{arrive_weight, none_weight}
use Rattle.worker_core.proofs.AtDesks.{changed_sum, given_more, given_homes, given_ends, given_fulls, given_count}
use Rattle.worker_core.proofs.AtDesks.{given_lanes, given_len, refused_sent, refused_homes, refused_ends, refused_sum}
use Rattle.worker_core.proofs.AtDesks.{refused_fulls, refused_lanes, refused_len}
use Rattle.migration.proofs.DataSlots.{foreign_arrive, foreign_item, foreign_leave, now_foreign, gone_foreign}
use Rattle.migration.proofs.DataSlots.{knows_same, knows_arrive, knows_item, knows_leave, knows_parked}

module _ {H I : Type 0} where
  -- the half arrives at its slice
  pub record Arrives (slot_of : H → ℕ) (slot : ℕ) (old new : Stand H I) : Type 0 where
    pub half : H
    pub to : ℕ
    pub own : slot_of half ≡ slot
    pub was : old.state ≡ Front half to
    pub is : new.state ≡ Placed to
    pub queue : new.queue ≡ old.queue
    pub accepted : new.accepted ≡ old.accepted
    pub given : Given to (Arrive half) old.desks new.desks

  -- the first item of the queue is sent after it
  pub record SendsItem (item_slot : I → ℕ) (slot : ℕ) (old new : Stand H I) : Type 0 where
    pub at : ℕ
    pub item : I
    pub own : item_slot item ≡ slot
    pub was : old.state ≡ Placed at
    pub is : new.state ≡ Placed at
    pub queue : old.queue ≡ item ∷ new.queue
    pub accepted : new.accepted ≡ old.accepted
    pub given : Given at (Item item) old.desks new.desks

  -- it is told to leave
  pub record Leaves (slot : ℕ) (old new : Stand H I) : Type 0 where
    pub at : ℕ
    pub to : ℕ
    pub was : old.state ≡ Recall at to
    pub is : new.state ≡ Leaving at to
    pub queue : new.queue ≡ old.queue
    pub accepted : new.accepted ≡ old.accepted
    pub given : Given at (Leave slot) old.desks new.desks

  -- an item is accepted, and goes last into the queue
  pub record Parks (item_slot : I → ℕ) (slot : ℕ) (old new : Stand H I) : Type 0 where
    pub item : I
    pub own : item_slot item ≡ slot
    pub is : new.state ≡ old.state
    pub queue : new.queue ≡ old.queue ++ item ∷ []
    pub accepted : new.accepted ≡ old.accepted ++ item ∷ []
    pub desks : new.desks ≡ old.desks

  -- a lane was full
  pub record IsRefused (old new : Stand H I) : Type 0 where
    pub slice : ℕ
    pub is : new.state ≡ old.state
    pub queue : new.queue ≡ old.queue
    pub accepted : new.accepted ≡ old.accepted
    pub refused : Refused slice old.desks new.desks

-- what a state is once its half is bound for a slice
abbrev pub IsBound : {H : Type 0} → ℕ → DataState H → DataState H → Type 0
IsBound slice (Front half to) new = new ≡ Front half slice
IsBound slice (Placed at) new = new ≡ Recall at slice
IsBound slice (Recall at to) new = new ≡ Recall at slice
IsBound slice (Leaving from to) new = new ≡ Leaving from slice

module _ {H I : Type 0} (slot : H → ℕ) (item_slot : I → ℕ) (handled : H → List I) (s : ℕ) where
  abbrev Tell : (ℕ → List H) → (ℕ → List (List I)) → Stand H I → Type 0
  Tell homes asides stand = StandTells slot item_slot handled s homes asides stand

  pub keeps_none : (stand : Stand H I) → Keeps slot item_slot handled s 0 stand stand
  keeps_none stand = record {
    lanes = refl;
    ends = refl;
    homes = λ d. refl;
    long = refl;
    weight = λ h. refl;
    orders = omega arith;
    fulls = λ d. inl refl;
    nows = λ t apart d. refl;
    gones = λ t apart d. refl;
    tells = λ homes asides tell. tell;
  }

  pub keeps_then : (spare more : ℕ) (first old new : Stand H I) → Keeps slot item_slot handled s spare first old
      → Keeps slot item_slot handled s more old new
      → Keeps slot item_slot handled s (spare + more) first new
  keeps_then spare more first old new a b = record {
    lanes = b.lanes ∙ a.lanes;
    ends = b.ends ∙ a.ends;
    homes = λ d. b.homes d ∙ a.homes d;
    long = b.long ∙ a.long;
    weight = λ h. b.weight h ∙ a.weight h;
    orders = let x = a.orders in let y = b.orders in omega arith;
    fulls = λ d. lasts_then (fulls_at first.desks d) (fulls_at old.desks d) (fulls_at new.desks d) (a.fulls d)
        (b.fulls d);
    nows = λ t apart d. b.nows t apart d ∙ a.nows t apart d;
    gones = λ t apart d. b.gones t apart d ∙ a.gones t apart d;
    tells = λ homes asides tell. b.tells homes asides (a.tells homes asides tell);
  }

  at_state : (state now : DataState H) (half : Where I) → now ≡ state → StateIs slot handled s now half
      → StateIs slot handled s state half
  at_state state now half same is = subst (λ (x : DataState H). StateIs slot handled s x half) same is

  -- an order that brings no half was put
  put_weight : (e : ℕ) (order : DataOrder H I) (old new : List (DataDesk H I)) → Given e order old new
      → halves_in (order ∷ []) ≡ []
      → (h : H → ℕ) → sum_by (sent_weight h) new ≡ sum_by (sent_weight h) old
  put_weight e order old new given none h =
      let a = changed_sum e given.before given.now old new given.desk (sent_weight h) in
      let b = ap (λ l. sum_by h (halves_in l)) given.sent in
      let c = none_weight h (sent given.before.orders) order none in omega arith

  pub keeps_arrive : (old new : Stand H I) → Arrives slot s old new → Keeps slot item_slot handled s 0 old new
  keeps_arrive old new step =
      let e = step.to in let order : DataOrder H I = Arrive step.half in
      let one = given_more e order old.desks new.desks step.given in record {
        lanes = given_lanes e order old.desks new.desks step.given;
        ends = given_ends e order old.desks new.desks step.given;
        homes = given_homes e order old.desks new.desks step.given;
        long = given_len e order old.desks new.desks step.given;
        weight = λ h.
            let a = changed_sum e step.given.before step.given.now old.desks new.desks step.given.desk
            (sent_weight h) in
            let b = ap (λ l. sum_by h (halves_in l)) step.given.sent in
            let c = arrive_weight h (sent step.given.before.orders) step.half in
            let f = ap (front_weight h) step.was in let g = ap (front_weight h) step.is in omega arith;
        orders = let a = given_count e order old.desks new.desks step.given in
            let b = ap pending step.was in let c = ap pending step.is in
            let d = ap length step.queue in let f = ap length step.accepted in omega arith;
        fulls = λ d. inl (given_fulls e order old.desks new.desks step.given d);
        nows = λ t apart. now_foreign slot item_slot handled t e order (sent_at old.desks) (sent_at new.desks) one
            (foreign_arrive slot item_slot handled t step.half (λ q. apart (sym q ∙ step.own)));
        gones = λ t apart. gone_foreign slot item_slot handled t e order (sent_at old.desks) (sent_at new.desks) one
            (foreign_arrive slot item_slot handled t step.half (λ q. apart (sym q ∙ step.own)));
        tells = λ homes asides tell.
            let is = at_state (Front step.half step.to) old.state tell.half step.was tell.is in
            record {
              stays = tell.stays;
              half = Here e (handled step.half) [];
              knows = subst (λ (p : List I × List I). SlotKnows slot item_slot handled s (sent_at new.desks) homes
                  asides tell.stays (Here e (handled step.half) []) p.0 p.1)
                  (λ i. (sym step.queue i, sym step.accepted i))
                  (knows_arrive slot item_slot handled s e step.half (sent_at old.desks) (sent_at new.desks) homes
                  asides tell.stays (handled step.half) old.queue old.accepted
                  step.own refl one
                  (subst (λ (w : Where I). SlotKnows slot item_slot handled s (sent_at old.desks) homes asides
                  tell.stays w old.queue old.accepted) is.0 tell.knows));
              is = subst (λ (x : DataState H). StateIs slot handled s x (Here e (handled step.half) []))
                  (sym step.is) (handled step.half, [], refl);
            };
      }

  pub keeps_item : (old new : Stand H I) → SendsItem item_slot s old new → Keeps slot item_slot handled s 0 old new
  keeps_item old new step =
      let e = step.at in let order : DataOrder H I = Item step.item in
      let one = given_more e order old.desks new.desks step.given in record {
        lanes = given_lanes e order old.desks new.desks step.given;
        ends = given_ends e order old.desks new.desks step.given;
        homes = given_homes e order old.desks new.desks step.given;
        long = given_len e order old.desks new.desks step.given;
        weight = λ h.
            let a = put_weight e order old.desks new.desks step.given refl h in
            let f = ap (front_weight h) step.was in let g = ap (front_weight h) step.is in omega arith;
        orders = let a = given_count e order old.desks new.desks step.given in
            let b = ap pending step.was in let c = ap pending step.is in
            let d = ap length step.queue in let f = ap length step.accepted in omega arith;
        fulls = λ d. inl (given_fulls e order old.desks new.desks step.given d);
        nows = λ t apart. now_foreign slot item_slot handled t e order (sent_at old.desks) (sent_at new.desks) one
            (foreign_item slot item_slot handled t step.item (λ q. apart (sym q ∙ step.own)));
        gones = λ t apart. gone_foreign slot item_slot handled t e order (sent_at old.desks) (sent_at new.desks) one
            (foreign_item slot item_slot handled t step.item (λ q. apart (sym q ∙ step.own)));
        tells = λ homes asides tell.
            let is = at_state (Placed e) old.state tell.half step.was tell.is in
            let came = is.0 in let items = is.1 in
            record {
              stays = tell.stays;
              half = Here e came (items ++ step.item ∷ []);
              knows = subst (λ (l : List I). SlotKnows slot item_slot handled s (sent_at new.desks) homes asides
                  tell.stays (Here e came (items ++ step.item ∷ [])) new.queue l)
                  (sym step.accepted)
                  (knows_item slot item_slot handled s e step.item (sent_at old.desks) (sent_at new.desks) homes
                  asides tell.stays came items new.queue old.accepted one
                  (subst (λ (p : Where I × List I). SlotKnows slot item_slot handled s (sent_at old.desks) homes
                  asides tell.stays p.0 p.1 old.accepted)
                  (λ i. (is.2 i, step.queue i)) tell.knows));
              is = subst (λ (x : DataState H). StateIs slot handled s x (Here e came (items ++ step.item ∷ [])))
                  (sym step.is) (came, items ++ step.item ∷ [], refl);
            };
      }

  pub keeps_leave : (old new : Stand H I) → Leaves s old new → Keeps slot item_slot handled s 0 old new
  keeps_leave old new step =
      let e = step.at in let order : DataOrder H I = Leave s in
      let one = given_more e order old.desks new.desks step.given in record {
        lanes = given_lanes e order old.desks new.desks step.given;
        ends = given_ends e order old.desks new.desks step.given;
        homes = given_homes e order old.desks new.desks step.given;
        long = given_len e order old.desks new.desks step.given;
        weight = λ h.
            let a = put_weight e order old.desks new.desks step.given refl h in
            let f = ap (front_weight h) step.was in let g = ap (front_weight h) step.is in omega arith;
        orders = let a = given_count e order old.desks new.desks step.given in
            let b = ap pending step.was in let c = ap pending step.is in
            let d = ap length step.queue in let f = ap length step.accepted in omega arith;
        fulls = λ d. inl (given_fulls e order old.desks new.desks step.given d);
        nows = λ t apart. now_foreign slot item_slot handled t e order (sent_at old.desks) (sent_at new.desks) one
            (foreign_leave slot item_slot handled t s (λ q. apart (sym q)));
        gones = λ t apart. gone_foreign slot item_slot handled t e order (sent_at old.desks) (sent_at new.desks) one
            (foreign_leave slot item_slot handled t s (λ q. apart (sym q)));
        tells = λ homes asides tell.
            let is = at_state (Recall e step.to) old.state tell.half step.was tell.is in
            let came = is.0 in let items = is.1 in
            record {
              stays = tell.stays;
              half = Away e came items;
              knows = subst (λ (p : List I × List I). SlotKnows slot item_slot handled s (sent_at new.desks) homes
                  asides tell.stays (Away e came items) p.0 p.1)
                  (λ i. (sym step.queue i, sym step.accepted i))
                  (knows_leave slot item_slot handled s e (sent_at old.desks) (sent_at new.desks) homes asides
                  tell.stays came items old.queue old.accepted one
                  (subst (λ (w : Where I). SlotKnows slot item_slot handled s (sent_at old.desks) homes asides
                  tell.stays w old.queue old.accepted) is.2 tell.knows));
              is = subst (λ (x : DataState H). StateIs slot handled s x (Away e came items)) (sym step.is)
                  (came, items, refl);
            };
      }

  pub keeps_park : (old new : Stand H I) → Parks item_slot s old new → Keeps slot item_slot handled s 0 old new
  keeps_park old new step = record {
    lanes = ap lanes_of step.desks;
    ends = ap homes_of step.desks;
    homes = λ d. ap (λ l. home_at l d) step.desks;
    long = ap length step.desks;
    weight = λ h. let a = ap (front_weight h) step.is in let b = ap (sum_by (sent_weight h)) step.desks in omega
        arith;
    orders = let a = ap pending step.is in let b = ap (sum_by (order_count {O = DataOrder H I} {H = H})) step.desks in
        let c = ap length step.queue ∙ length-append old.queue (step.item ∷ []) in
        let d = ap length step.accepted ∙ length-append old.accepted (step.item ∷ []) in omega arith;
    fulls = λ d. inl (ap (λ l. fulls_at l d) step.desks);
    nows = λ t apart d. ap (λ l. now_of slot item_slot handled t (sent_at l d)) step.desks;
    gones = λ t apart d. ap (λ l. gone_of slot item_slot handled t (sent_at l d)) step.desks;
    tells = λ homes asides tell. record {
      stays = tell.stays;
      half = tell.half;
      knows = subst (λ (p : List (DataDesk H I) × List I × List I). SlotKnows slot item_slot handled s
          (sent_at p.0) homes asides tell.stays tell.half p.1 p.2)
          (λ i. (sym step.desks i, sym step.queue i, sym step.accepted i))
          (knows_parked slot item_slot handled s step.item (sent_at old.desks) homes asides tell.stays tell.half
          old.queue old.accepted step.own tell.knows);
      is = at_state new.state old.state tell.half (sym step.is) tell.is;
    };
  }

  pub keeps_refused : (old new : Stand H I) → IsRefused old new → Keeps slot item_slot handled s 0 old new
  keeps_refused old new step =
      let e = step.slice in record {
        lanes = refused_lanes e old.desks new.desks step.refused;
        ends = refused_ends e old.desks new.desks step.refused;
        homes = refused_homes e old.desks new.desks step.refused;
        long = refused_len e old.desks new.desks step.refused;
        weight = λ h. let a = refused_sum e old.desks new.desks step.refused (λ l. sum_by h (halves_in l)) in
            let b = ap (front_weight h) step.is in omega arith;
        orders = let a = refused_sum e old.desks new.desks step.refused length in
            let b = ap pending step.is in let c = ap length step.queue in let d = ap length step.accepted in omega
            arith;
        fulls = refused_fulls e old.desks new.desks step.refused;
        nows = λ t apart d. ap (now_of slot item_slot handled t) (refused_sent e old.desks new.desks step.refused d);
        gones = λ t apart d. ap (gone_of slot item_slot handled t)
            (refused_sent e old.desks new.desks step.refused d);
        tells = λ homes asides tell. record {
          stays = tell.stays;
          half = tell.half;
          knows = subst (λ (p : List I × List I). SlotKnows slot item_slot handled s (sent_at new.desks) homes
              asides tell.stays tell.half p.0 p.1)
              (λ i. (sym step.queue i, sym step.accepted i))
              (knows_same slot item_slot handled s (sent_at old.desks) (sent_at new.desks) homes homes asides
              asides tell.stays tell.half old.queue old.accepted
              (λ d. ap (now_of slot item_slot handled s) (refused_sent e old.desks new.desks step.refused d))
              (λ d. ap (gone_of slot item_slot handled s) (refused_sent e old.desks new.desks step.refused d))
              (λ d. refl) (λ d. refl) tell.knows);
          is = at_state new.state old.state tell.half (sym step.is) tell.is;
        };
      }

  -- its destination is another one, and it is to leave its slice if it is at one
  pub keeps_goes_to : (slice : ℕ) (old new : Stand H I) → IsBound slice old.state new.state
      → new.queue ≡ old.queue → new.accepted ≡ old.accepted → new.desks ≡ old.desks
      → Keeps slot item_slot handled s 2 old new
  keeps_goes_to slice old new bound queue accepted desks = record {
    lanes = ap lanes_of desks;
    ends = ap homes_of desks;
    homes = λ d. ap (λ l. home_at l d) desks;
    long = ap length desks;
    weight = λ h. let a = bound_weight slice h old.state new.state bound in let b = ap (sum_by (sent_weight h))
        desks in omega arith;
    orders = let a = bound_pending slice old.state new.state bound in let b = ap
        (sum_by (order_count {O = DataOrder H I} {H = H})) desks in
        let c = ap length queue in let d = ap length accepted in omega arith;
    fulls = λ d. inl (ap (λ l. fulls_at l d) desks);
    nows = λ t apart d. ap (λ l. now_of slot item_slot handled t (sent_at l d)) desks;
    gones = λ t apart d. ap (λ l. gone_of slot item_slot handled t (sent_at l d)) desks;
    tells = λ homes asides tell. record {
      stays = tell.stays;
      half = tell.half;
      knows = subst (λ (p : List (DataDesk H I) × List I × List I). SlotKnows slot item_slot handled s
          (sent_at p.0) homes asides tell.stays tell.half p.1 p.2)
          (λ i. (sym desks i, sym queue i, sym accepted i)) tell.knows;
      is = bound_is slice old.state new.state tell.half bound tell.is;
    };
  } where
    bound_weight : (slice : ℕ) (h : H → ℕ) (old new : DataState H) → IsBound slice old new
        → front_weight h new ≡ front_weight h old
    bound_weight slice h (Front half to) new bound = ap (front_weight h) bound
    bound_weight slice h (Placed at) new bound = ap (front_weight h) bound
    bound_weight slice h (Recall at to) new bound = ap (front_weight h) bound
    bound_weight slice h (Leaving from to) new bound = ap (front_weight h) bound

    bound_pending : (slice : ℕ) (old new : DataState H) → IsBound slice old new → pending new ≤ pending old + 2
    bound_pending slice (Front half to) new bound = let e = ap pending bound in omega arith
    bound_pending slice (Placed at) new bound = let e = ap pending bound in omega arith
    bound_pending slice (Recall at to) new bound = let e = ap pending bound in omega arith
    bound_pending slice (Leaving from to) new bound = let e = ap pending bound in omega arith

    bound_is : (slice : ℕ) (old new : DataState H) (half : Where I) → IsBound slice old new
        → StateIs slot handled s old half → StateIs slot handled s new half
    bound_is slice (Front own to) new half bound is = subst (λ (x : DataState H). StateIs slot handled s x half)
        (sym bound) is
    bound_is slice (Placed at) new half bound is = subst (λ (x : DataState H). StateIs slot handled s x half)
        (sym bound) is
    bound_is slice (Recall at to) new half bound is = subst (λ (x : DataState H). StateIs slot handled s x half)
        (sym bound) is
    bound_is slice (Leaving from to) new half bound is = subst (λ (x : DataState H). StateIs slot handled s x half)
        (sym bound) is
