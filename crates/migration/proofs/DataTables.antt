-- What the tables of steps say of the slot, of its place and of the lanes.
use Rattle.std.proofs.Common.{◌≡◌, ℕ, zero, suc, ◌+◌, ◌<◌, ◌≤◌, inl, inr, Bool, true, false, true≢false, not, cond}
use Rattle.std.proofs.Common.{List, [], ◌∷◌, ◌++◌, length, map, set, refl, sym, ap, ◌∙◌, subst, arith, length-append}
use Rattle.std.specs.Prelude.{Option, Some, None, Result, Ok, Err, OnOk, OnErr, IfOk, IfErr, nat_eq, ◌&&◌, ◌||◌}
use Rattle.std.specs.List.{sum_by, All}
use Rattle.std.proofs.lemmas.List.{set-get_or, map-append}
use Rattle.std.proofs.lemmas.Bool.{eq-eqb, ne_eqb}
use Rattle.std.proofs.lemmas.List.Elements.{All-head, All-tail}
use Rattle.worker_core.specs.DataDesks.{DataDesk}
use Rattle.worker_core.specs.declared.data_order.DataOrder.{DataOrder}
use Rattle.worker_core.specs.declared.data_order.DataOrder.TheVariants.{Arrive, Item}
use Rattle.worker_core.specs.DataOrders.{stands_after, stands_from, stands}
use Rattle.worker_core.specs.Counts.{Rises}
use Rattle.worker_core.proofs.Rising.{rises_raised, then_rises}
use Rattle.migration.specs.declared.data_place.DataPlace.{DataPlace}
use Rattle.migration.specs.declared.data_place.DataState.{DataState}
use Rattle.migration.specs.declared.data_place.DataState.TheVariants.{Front, Placed, Recall, Leaving}
use Rattle.migration.specs.declared.data_place.DataNo.{DataNo}
use Rattle.migration.specs.declared.data_place.UnexpectedHalf.{UnexpectedHalf}
use Rattle.migration.specs.DataSides.{is_lost}
use Rattle.worker_core.specs.Desks.{sent_at, order_count, fulls_at, Given, Refused}
use Rattle.migration.specs.DataPlaces.{is_settled, waits_for, leaves, placed_at, at_end, to_end, accepted_by}
use Rattle.migration.specs.DataPlaces.{place_at, parks_at, is_placed, Fits}
use Rattle.migration.specs.DataKeeps.{Stand, stand_of, Keeps, PlaceKeeps, MayGive, IsReady}
use Rattle.migration.specs.DataSteps.{Sends, Recalls, Serves, Goes, QueueRests, Empties, EmptiesPlaced, QueueTakes}
use Rattle.migration.specs.DataSteps.{Lands, Delivers, Accepts, no_item, Served, Drained, Moved, Gave, Homes}
use Rattle.migration.specs.DataSteps.{Welcomes, WelcomesAt}
use Rattle.worker_core.proofs.AtDesks.{given_more, refused_full, refused_sent}
use Rattle.migration.proofs.DataKeeps.{keeps_none, keeps_then, keeps_arrive, keeps_item, keeps_leave, keeps_park}
use Rattle.migration.proofs.DataKeeps.{keeps_refused, keeps_goes_to}
use Rattle.migration.specs.DataQueues.{Shortens}
use Rattle.migration.proofs.DataShortened.{shortens_same, shortens_first, shortens_then}

-- a number, or this one where there is none
abbrev number : Option ℕ → ℕ
number None = 0
number (Some n) = n

abbrev is_there : Option ℕ → Bool
is_there None = false
is_there (Some n) = true

none_is_some : (n : ℕ) → ◌≡◌ {A = Option ℕ} None (Some n) → ⊥
none_is_some n e = true≢false (sym (ap is_there e))

-- an item more doesn't change what stands
stands_item : {H I : Type 0} (slot : H → ℕ) (item_slot : I → ℕ) (s : ℕ) (x : I) (here : Bool)
    (orders : List (DataOrder H I))
    → stands_from slot item_slot s here (orders ++ Item x ∷ []) ≡ stands_from slot item_slot s here orders
stands_item slot item_slot s x here [] = refl
stands_item slot item_slot s x here (order ∷ orders) = stands_item slot item_slot s x
    (stands_after slot item_slot s here order) orders

refused_rises : {H I : Type 0} (slice : ℕ) (old new : List (DataDesk H I)) → Refused slice old new
    → Rises (fulls_at old slice) (fulls_at new slice)
refused_rises slice old new refused = rises_raised (fulls_at old slice) (fulls_at new slice)
    (refused_full slice old new refused)

full_there : {H I : Type 0} {old new : List (DataDesk H I)} (at slice : ℕ) → Refused at old new → Some at ≡ Some slice
    → Rises (fulls_at old slice) (fulls_at new slice)
full_there {H} {I} {old} {new} at slice refused same =
    subst (λ (n : ℕ). Rises (fulls_at old n) (fulls_at new n)) (ap number same) (refused_rises at old new refused)

module _ {H I : Type 0} (slot : H → ℕ) (item_slot : I → ℕ) (handled : H → List I) (s : ℕ) where
  pub keeps_same : (old new : Stand H I) → new ≡ old → Keeps slot item_slot handled s 0 old new
  keeps_same old new same = subst (λ (x : Stand H I). Keeps slot item_slot handled s 0 old x) (sym same)
      (keeps_none slot item_slot handled s old)

  module _ (queue accepted : List I) (desks now : List (DataDesk H I)) where
    abbrev from : DataState H → Stand H I
    from state = record { state = state; queue = queue; accepted = accepted; desks = desks }

    abbrev till : DataState H → Stand H I
    till state = record { state = state; queue = queue; accepted = accepted; desks = now }

    sends_keeps : (half : H) (to : ℕ) (new : DataState H) → slot half ≡ s → Sends half to new desks now
        → Keeps slot item_slot handled s 0 (from (Front half to)) (till new)
    sends_keeps half to new own sends = elim sends [
      | inl put ↦ keeps_arrive slot item_slot handled s (from (Front half to)) (till new)
          (record {
            half = half;
            to = to;
            own = own;
            was = refl;
            is = put.0;
            queue = refl;
            accepted = refl;
            given =
                put.1;
          })
      | inr kept ↦ keeps_refused slot item_slot handled s (from (Front half to)) (till new)
          (record { slice = to; is = kept.0; queue = refl; accepted = refl; refused = kept.1 })
    ]

    recalls_keeps : (at to : ℕ) (new : DataState H) → Recalls s at to new desks now
        → Keeps slot item_slot handled s 0 (from (Recall at to)) (till new)
    recalls_keeps at to new recalls = elim recalls [
      | inl put ↦ keeps_leave slot item_slot handled s (from (Recall at to)) (till new)
          (record { at = at; to = to; was = refl; is = put.0; queue = refl; accepted = refl; given = put.1 })
      | inr kept ↦ keeps_refused slot item_slot handled s (from (Recall at to)) (till new)
          (record { slice = at; is = kept.0; queue = refl; accepted = refl; refused = kept.1 })
    ]

    pub serves_keeps : (state new : DataState H) → MayGive slot item_slot s state desks → Serves s state new desks now
        → Keeps slot item_slot handled s 0 (from state) (till new)
    serves_keeps (Front half to) new law serves = sends_keeps half to new law.0 serves
    serves_keeps (Placed at) new law serves = keeps_same (from (Placed at)) (till new)
        (λ i. record { state = serves.0 i; queue = queue; accepted = accepted; desks = serves.1 i })
    serves_keeps (Recall at to) new law serves = recalls_keeps at to new serves
    serves_keeps (Leaving at to) new law serves = keeps_same (from (Leaving at to)) (till new)
        (λ i. record { state = serves.0 i; queue = queue; accepted = accepted; desks = serves.1 i })

    pub goes_keeps : (slice : ℕ) (state new : DataState H) → Goes s slice state new desks now
        → Keeps slot item_slot handled s 2 (from state) (till new)
    goes_keeps slice (Front half to) new goes = keeps_goes_to slot item_slot handled s slice (from (Front half to))
        (till new) goes.0 refl refl goes.1
    goes_keeps slice (Placed at) new goes =
        keeps_then slot item_slot handled s 2 0 (from (Placed at)) (from (Recall at slice)) (till new)
        (keeps_goes_to slot item_slot handled s slice (from (Placed at)) (from (Recall at slice)) refl refl refl refl)
        (recalls_keeps at slice new goes)
    goes_keeps slice (Recall at to) new goes = keeps_goes_to slot item_slot handled s slice (from (Recall at to))
        (till new) goes.0 refl refl goes.1
    goes_keeps slice (Leaving at to) new goes = keeps_goes_to slot item_slot handled s slice (from (Leaving at to))
        (till new) goes.0 refl refl goes.1

  -- an item lands, or comes back
  lands_keeps : (item : I) (answer : Result Bool (DataNo I)) (state : DataState H) (accepted later : List I)
      (desks now : List (DataDesk H I))
      → item_slot item ≡ s → Lands item state answer desks now → Accepts item answer accepted later
      → Keeps slot item_slot handled s 0 (record { state = state; queue = []; accepted = accepted; desks = desks })
      (record { state = state; queue = []; accepted = later; desks = now })
  lands_keeps item (Ok u) state accepted later desks now own lands accepts =
      let old : Stand H I = record { state = state; queue = []; accepted = accepted; desks = desks } in
      let mid : Stand H I = record { state = state; queue = item ∷ []; accepted = later; desks = desks } in
      let new : Stand H I = record { state = state; queue = []; accepted = later; desks = now } in
      keeps_then slot item_slot handled s 0 0 old mid new
      (keeps_park slot item_slot handled s old mid (record {
        item = item;
        own = own;
        is = refl;
        queue = refl;
        accepted = accepts;
        desks = refl;
      }))
      (keeps_item slot item_slot handled s mid new (record {
        at = lands.0;
        item = item;
        own = own;
        was = lands.1;
        is = lands.1;
        queue = refl;
        accepted = refl;
        given = lands.2;
      }))
  lands_keeps item (Err refusal) state accepted later desks now own lands accepts =
      let old : Stand H I = record { state = state; queue = []; accepted = accepted; desks = desks } in
      let new : Stand H I = record { state = state; queue = []; accepted = later; desks = now } in
      elim lands.2 [
        | inl full ↦ keeps_refused slot item_slot handled s old new
            (record { slice = full.0; is = refl; queue = refl; accepted = accepts.0; refused = full.2 })
        | inr front ↦ keeps_same old new (λ i. record {
          state = state;
          queue = [];
          accepted = accepts.0 i;
          desks =
              front.3 i;
        })
      ]

  pub delivers_keeps : (item : I) (answer : Result Bool (DataNo I)) (state new : DataState H)
      (accepted later : List I) (desks now : List (DataDesk H I))
      → item_slot item ≡ s → MayGive slot item_slot s state desks → Delivers s item answer state new desks now
      → Accepts item answer accepted later
      → Keeps slot item_slot handled s 0 (record { state = state; queue = []; accepted = accepted; desks = desks })
      (record { state = new; queue = []; accepted = later; desks = now })
  delivers_keeps item answer state new accepted later desks now own law delivers accepts =
      keeps_then slot item_slot handled s 0 0 (record {
        state = state;
        queue = [];
        accepted = accepted;
        desks =
            desks;
      })
      (record { state = new; queue = []; accepted = accepted; desks = delivers.mid })
      (record { state = new; queue = []; accepted = later; desks = now })
      (serves_keeps [] accepted desks delivers.mid state new law delivers.serves)
      (lands_keeps item answer new accepted later delivers.mid now own delivers.lands accepts)

  -- so many items of a queue were sent
  pub record Emptying (at done : ℕ) (queue left : List I) (old new : List (DataDesk H I)) : Type 0 where
    pub keeps : (accepted : List I) → Keeps slot item_slot handled s 0
        (record { state = Placed at; queue = queue; accepted = accepted; desks = old })
        (record { state = Placed at; queue = left; accepted = accepted; desks = new })
    pub law : stands slot item_slot s (sent_at new at) ≡ true
    pub own : All (λ x. item_slot x ≡ s) left
    pub so_many : length left + done ≡ length queue
    pub gone : Shortens queue left

  module _ (at : ℕ) (queue : List I) (old : List (DataDesk H I)) where
    pub emptying_none : stands slot item_slot s (sent_at old at) ≡ true → All (λ x. item_slot x ≡ s) queue
        → Emptying at 0 queue queue old old
    emptying_none law own = record {
      keeps = λ accepted. keeps_none slot item_slot handled s
          (record { state = Placed at; queue = queue; accepted = accepted; desks = old });
      law = law;
      own = own;
      so_many = omega arith;
      gone = shortens_same queue queue refl;
    }

    pub emptying_few : (done : ℕ) (left : List I) (new : List (DataDesk H I)) → Emptying at done queue left old new
        → sum_by order_count new + length left ≤ sum_by order_count old + length queue
    emptying_few done left new e = let k = (e.keeps []).orders in omega arith

    pub emptying_more : (done : ℕ) (x : I) (left rest : List I) (mid new : List (DataDesk H I))
        → Emptying at done queue left old mid
        → left ≡ x ∷ rest → Given at (Item x) mid new → Emptying at (done + 1) queue rest old new
    emptying_more done x left rest mid new e first given =
        let own : All (λ x. item_slot x ≡ s) (x ∷ rest) = subst (All (λ x. item_slot x ≡ s)) first e.own in
        record {
          keeps = λ accepted. keeps_then slot item_slot handled s 0 0
              (record { state = Placed at; queue = queue; accepted = accepted; desks = old })
              (record { state = Placed at; queue = left; accepted = accepted; desks = mid })
              (record { state = Placed at; queue = rest; accepted = accepted; desks = new })
              (e.keeps accepted)
              (keeps_item slot item_slot handled s (record {
                state = Placed at;
                queue = left;
                accepted = accepted;
                desks = mid;
              })
              (record { state = Placed at; queue = rest; accepted = accepted; desks = new })
              (record {
                at = at;
                item = x;
                own = All-head (λ x. item_slot x ≡ s) x rest own;
                was = refl;
                is = refl;
                queue = first;
                accepted = refl;
                given = given;
              }));
          law = ap (stands slot item_slot s) (given_more at (Item x) mid new given).here
              ∙ stands_item slot item_slot s x false (sent_at mid at) ∙ e.law;
          own = All-tail (λ x. item_slot x ≡ s) x rest own;
          so_many = let n = ap length first in let m = e.so_many in omega arith;
          gone = shortens_first queue left rest x e.gone first;
        }

    pub emptying_ends : (done : ℕ) (left rest : List I) (mid new : List (DataDesk H I))
        → Emptying at done queue left old mid
        → rest ≡ left → QueueRests at left mid new → Empties slot item_slot handled s at queue rest old new
    emptying_ends done left rest mid new e same rests = record {
      keeps = λ accepted.
          let a : Stand H I = record { state = Placed at; queue = left; accepted = accepted; desks = mid } in
          let b : Stand H I = record { state = Placed at; queue = rest; accepted = accepted; desks = new } in
          keeps_then slot item_slot handled s 0 0 (record {
            state = Placed at;
            queue = queue;
            accepted = accepted;
            desks = old;
          }) a b (e.keeps accepted)
          (elim rests [
            | inl none ↦ keeps_same a b (λ i. record {
              state = Placed at;
              queue = same i;
              accepted = accepted;
              desks = none.1 i;
            })
            | inr refused ↦ keeps_refused slot item_slot handled s a b
                (record { slice = at; is = refl; queue = same; accepted = refl; refused = refused })
          ]);
      short = let n = ap length same in let m = e.so_many in omega arith;
      sends = shortens_then queue left rest e.gone (shortens_same left rest same);
      again = λ some. elim rests [
        | inl none ↦ absurd (let n = ap length same in let m = ap length none.0 in omega arith)
        | inr refused ↦ then_rises (fulls_at old at) (fulls_at mid at) (fulls_at new at) ((e.keeps []).fulls at)
            (refused_rises at mid new refused)
      ];
    }

    pub emptying_all : (done : ℕ) (left : List I) (new : List (DataDesk H I))
        → Emptying at done queue left old new → done ≡ length queue
        → Empties slot item_slot handled s at queue left old new
    emptying_all done left new e all = record {
      keeps = e.keeps;
      short = let m = e.so_many in omega arith;
      sends = e.gone;
      again = λ some. absurd (let m = e.so_many in omega arith);
    }

-- how the slices of a state fit, and that it stays settled
module _ {H I : Type 0} (desks now : List (DataDesk H I)) (s : ℕ) where
  pub serves_fit : (n : ℕ) (state new : DataState H) → at_end state ≤ n → to_end state ≤ n
      → Serves s state new desks now
      → (at_end new ≤ n) × (to_end new ≤ n)
  serves_fit n (Front half to) new at there serves = elim serves [
    | inl put ↦ let a = ap at_end put.0 in let b = ap to_end put.0 in (omega arith, omega arith)
    | inr kept ↦ let a = ap at_end kept.0 in let b = ap to_end kept.0 in (omega arith, omega arith)
  ]
  serves_fit n (Placed e) new at there serves = let a = ap at_end serves.0 in let b = ap to_end serves.0 in
      (omega arith, omega arith)
  serves_fit n (Recall e to) new at there serves = elim serves [
    | inl put ↦ let a = ap at_end put.0 in let b = ap to_end put.0 in (omega arith, omega arith)
    | inr kept ↦ let a = ap at_end kept.0 in let b = ap to_end kept.0 in (omega arith, omega arith)
  ]
  serves_fit n (Leaving e to) new at there serves = let a = ap at_end serves.0 in let b = ap to_end serves.0 in
      (omega arith, omega arith)

  pub serves_settled : (state new : DataState H) → is_settled state ≡ true → Serves s state new desks now
      → is_settled new ≡ true
  serves_settled (Front half to) new settled serves = elim serves [
    | inl put ↦ ap is_settled put.0
    | inr kept ↦ ap is_settled kept.0
  ]
  serves_settled (Placed e) new settled serves = ap is_settled serves.0
  serves_settled (Recall e to) new settled serves = absurd (true≢false (sym settled))
  serves_settled (Leaving e to) new settled serves = absurd (true≢false (sym settled))

  goes_fit : (n slice : ℕ) (state new : DataState H) → at_end state ≤ n → to_end state ≤ n → slice < n
      → Goes s slice state new desks now
      → (at_end new ≤ n) × (to_end new ≤ n)
  goes_fit n slice (Front half to) new at there within goes = let a = ap at_end goes.0 in let b = ap to_end goes.0
      in (omega arith, omega arith)
  goes_fit n slice (Placed e) new at there within goes = elim goes [
    | inl put ↦ let a = ap at_end put.0 in let b = ap to_end put.0 in (omega arith, omega arith)
    | inr kept ↦ let a = ap at_end kept.0 in let b = ap to_end kept.0 in (omega arith, omega arith)
  ]
  goes_fit n slice (Recall e to) new at there within goes = let a = ap at_end goes.0 in let b = ap to_end goes.0 in
      (omega arith, omega arith)
  goes_fit n slice (Leaving e to) new at there within goes = let a = ap at_end goes.0 in let b = ap to_end goes.0
      in (omega arith, omega arith)

  serves_again : (slice : ℕ) (state new : DataState H) → Serves s state new desks now → waits_for new ≡ Some slice
      → Rises (fulls_at desks slice) (fulls_at now slice)
  serves_again slice (Front half to) new serves waits = elim serves [
    | inl put ↦ absurd (none_is_some slice (sym (ap waits_for put.0) ∙ waits))
    | inr kept ↦ full_there to slice kept.1 (sym (ap waits_for kept.0) ∙ waits)
  ]
  serves_again slice (Placed e) new serves waits = absurd (none_is_some slice (sym (ap waits_for serves.0) ∙ waits))
  serves_again slice (Recall e to) new serves waits = elim serves [
    | inl put ↦ absurd (none_is_some slice (sym (ap waits_for put.0) ∙ waits))
    | inr kept ↦ full_there e slice kept.1 (sym (ap waits_for kept.0) ∙ waits)
  ]
  serves_again slice (Leaving e to) new serves waits = absurd (none_is_some slice (sym (ap waits_for serves.0)
      ∙ waits))

-- an order more at the end
stands_last : {H I : Type 0} (slot : H → ℕ) (item_slot : I → ℕ) (s : ℕ) (order : DataOrder H I) (here : Bool)
    (orders : List (DataOrder H I))
    → stands_from slot item_slot s here (orders ++ order ∷ []) ≡ stands_after slot item_slot s
    (stands_from slot item_slot s here orders) order
stands_last slot item_slot s order here [] = refl
stands_last slot item_slot s order here (first ∷ orders) = stands_last slot item_slot s order
    (stands_after slot item_slot s here first) orders

module _ {H I : Type 0} (slot : H → ℕ) (item_slot : I → ℕ) (s : ℕ) (desks now : List (DataDesk H I)) where
  -- the law allows what a state gives, also once its order was offered
  pub serves_law : (state new : DataState H) → MayGive slot item_slot s state desks
      → Serves s state new desks now → MayGive slot item_slot s new now
  serves_law (Front half to) new law serves = elim serves [
    | inl put ↦ subst (λ (x : DataState H). MayGive slot item_slot s x now) (sym put.0)
        (ap (stands slot item_slot s) (given_more to (Arrive half) desks now put.1).here
        ∙ stands_last slot item_slot s (Arrive half) false (sent_at desks to)
        ∙ ap (λ b. cond b true (stands slot item_slot s (sent_at desks to))) (eq-eqb (slot half) s law.0))
    | inr kept ↦ subst (λ (x : DataState H). MayGive slot item_slot s x now) (sym kept.0)
        (law.0, ap (stands slot item_slot s) (refused_sent to desks now kept.1 to) ∙ law.1)
  ]
  serves_law (Placed at) new law serves = subst (λ (x : DataState H). MayGive slot item_slot s x now) (sym serves.0)
      (ap (λ l. stands slot item_slot s (sent_at l at)) serves.1 ∙ law)
  serves_law (Recall at to) new law serves = elim serves [
    | inl put ↦ subst (λ (x : DataState H). MayGive slot item_slot s x now) (sym put.0) tt
    | inr kept ↦ subst (λ (x : DataState H). MayGive slot item_slot s x now) (sym kept.0)
        (ap (stands slot item_slot s) (refused_sent at desks now kept.1 at) ∙ law)
  ]
  serves_law (Leaving at to) new law serves = subst (λ (x : DataState H). MayGive slot item_slot s x now)
      (sym serves.0) tt

-- what is accepted after an answer
module _ {I : Type 0} (item : I) (slot : ℕ) (before more later : List (I
    × ℕ)) (is : more ≡ before ++ (item, slot) ∷ []) where
  abbrev firsts : List (I × ℕ) → List I
  firsts l = map (λ p. p.0) l

  pub accepts_any : (answer : Result (Unit {0}) (DataNo I)) → OnOk answer (later ≡ more)
      → OnErr answer (later ≡ before) → IfErr answer (λ refusal. no_item refusal ≡ item)
      → Accepts item answer (firsts before) (firsts later)
  accepts_any (Ok u) ok err back = ap firsts (ok ∙ is) ∙ map-append (λ (p : I × ℕ). p.0) before ((item, slot) ∷ [])
  accepts_any (Err refusal) ok err back = (ap firsts err, back)

pub takes_back : {I : Type 0} (room : ℕ) (item : I) (answer : Result (Unit {0}) (DataNo I)) (queue left : List I)
    → QueueTakes room item answer queue left
    → IfErr answer (λ refusal. no_item refusal ≡ item)
takes_back room item (Ok u) queue left takes = tt
takes_back room item (Err refusal) queue left takes = takes.1

pub lands_back : {H I : Type 0} (item : I) (state : DataState H) (answer : Result (Unit {0}) (DataNo I))
    (desks now : List (DataDesk H I)) → Lands item state answer desks now
    → IfErr answer (λ refusal. no_item refusal ≡ item)
lands_back item state (Ok u) desks now lands = tt
lands_back item state (Err refusal) desks now lands = lands.0

-- where a slot doesn't park none waits, and its half is at the front or placed
unparked : {H : Type 0} (moved : Bool) (state : DataState H) (n : ℕ)
    → (moved && (not (is_placed state) || not (nat_eq n 0))) ≡ false
    → (moved ≡ false → (n ≡ 0) × (is_settled state ≡ true)) → (n ≡ 0) × (is_settled state ≡ true)
unparked false state n isnt rests = rests refl
unparked true state zero isnt rests = (refl, placed_settled state isnt) where
  placed_settled : {H : Type 0} (state : DataState H) → (true && (not (is_placed state) || not (nat_eq 0 0))) ≡
      false → is_settled state ≡ true
  placed_settled (Front half to) isnt = refl
  placed_settled (Placed at) isnt = refl
  placed_settled (Recall at to) isnt = absurd (true≢false isnt)
  placed_settled (Leaving at to) isnt = absurd (true≢false isnt)
unparked true state (suc n) isnt rests =
    absurd (true≢false (some_left (not (is_placed state)) (nat_eq (suc n) 0)
    (ne_eqb (suc n) 0 (λ e. absurd (omega arith))) ∙ isnt)) where
      some_left : (b t : Bool) → t ≡ false → true ≡ (true && (b || not t))
      some_left true t e = refl
      some_left false t e = sym (ap not e)

pub rests_there : {H I : Type 0} (n room : ℕ) (place : DataPlace H I) → Fits n room (Some place)
    → parks_at (Some place) ≡ false
    → (place.queue.items ≡ []) × (is_settled place.state ≡ true)
rests_there n room place fits isnt =
    let r = unparked place.moved place.state (length place.queue.items) isnt fits.3 in
    (none_left place.queue.items r.0, r.1) where
      none_left : {A : Type 0} (xs : List A) → length xs ≡ 0 → xs ≡ []
      none_left [] e = refl
      none_left (x ∷ xs) e = absurd (omega arith)

-- nothing is sent where there is no place
pub drained_none : {H I : Type 0} (slot : H → ℕ) (item_slot : I → ℕ) (handled : H → List I) (s : ℕ)
    (desks : List (DataDesk H I)) → Drained slot item_slot handled s None None desks desks
drained_none slot item_slot handled s desks = record {
  keeps = (refl, refl);
  fits = λ room fits. fits;
  accepted = refl;
  moved = refl;
  waits = refl;
  state = refl;
  queue = shortens_same [] [] refl;
  again = λ slice is some. absurd (let no : ⊥ = cc in no);
}

-- what each function says of a place
module _ {H I : Type 0} (slot : H → ℕ) (item_slot : I → ℕ) (handled : H
    → List I) (s : ℕ) (before after : DataPlace H I) (desks now : List (DataDesk H I))
    (ready : IsReady slot item_slot s (Some before) desks) where
  place_keeps : (spare : ℕ) → after.admitted ≡ before.admitted → (queue accepted : List I)
      → queue ≡ after.queue.items → accepted ≡ accepted_by after
      → Keeps slot item_slot handled s spare (stand_of before desks)
      (record { state = after.state; queue = queue; accepted = accepted; desks = now })
      → PlaceKeeps slot item_slot handled s spare (Some before) (Some after) desks now
  place_keeps spare admitted queue accepted q a keeps = (
    after,
    refl,
    admitted,
    subst (λ (x : Stand H I). Keeps slot item_slot handled s spare (stand_of before desks) x)
        (λ i. record { state = after.state; queue = q i; accepted = a i; desks = now }) keeps,
  )

  pub served_place : after.moved ≡ before.moved → after.queue.items ≡ before.queue.items
      → accepted_by after ≡ accepted_by before → after.admitted ≡ before.admitted
      → Serves s before.state after.state desks now → Served slot item_slot handled s (Some before) (Some after)
      desks now
  served_place moved queue accepted admitted serves = record {
    keeps = place_keeps 0 admitted before.queue.items (accepted_by before) (sym queue) (sym accepted)
        (serves_keeps slot item_slot handled s before.queue.items (accepted_by before) desks now before.state
        after.state ready.law serves);
    fits = λ room fits.
        let f = serves_fit desks now s (length desks) before.state after.state fits.0 fits.1 serves in
        let n = ap length queue in (
          f.0,
          f.1,
          (let m = fits.2 in omega arith),
          λ rests. let r = fits.3 (sym moved ∙ rests) in (
            n ∙ r.0,
            serves_settled desks now s before.state
                after.state r.1 serves,
          ),
        );
    accepted = accepted;
    moved = moved;
    queue = queue;
    again = λ slice waits. serves_again desks now s slice before.state after.state serves waits;
    sends = (after, refl, queue, admitted, serves);
  }

  pub moved_place : (slice : ℕ) → slice < length desks → after.moved ≡ true
      → after.queue.items ≡ before.queue.items → accepted_by after ≡ accepted_by before
      → after.admitted ≡ before.admitted → Goes s slice before.state after.state desks now
      → Moved slot item_slot handled s slice (Some before) (Some after) desks now
  moved_place slice within moved queue accepted admitted goes = record {
    keeps = place_keeps 2 admitted before.queue.items (accepted_by before) (sym queue) (sym accepted)
        (goes_keeps slot item_slot handled s before.queue.items (accepted_by before) desks now slice before.state
        after.state goes);
    fits = λ room fits.
        let f = goes_fit desks now s (length desks) slice before.state after.state fits.0 fits.1 within goes in
        let n = ap length queue in (
          f.0,
          f.1,
          (let m = fits.2 in omega arith),
          λ rests. absurd
              (true≢false (sym moved ∙ rests)),
        );
    accepted = accepted;
    moves = (after, refl, moved, queue, admitted, goes);
  }

  empties_keeps : (state : DataState H) (accepted queue left : List I)
      → EmptiesPlaced slot item_slot handled s state queue left desks now
      → Keeps slot item_slot handled s 0 (record { state = state; queue = queue; accepted = accepted; desks = desks })
      (record { state = state; queue = left; accepted = accepted; desks = now }) × (length left ≤ length queue)
  empties_keeps (Front half to) accepted queue left e = (
    keeps_same slot item_slot handled s _ _ (λ i. record {
      state = Front half to;
      queue = e.0 i;
      accepted =
          accepted;
      desks = e.1 i;
    }),
    (let n = ap length e.0 in omega arith),
  )
  empties_keeps (Placed at) accepted queue left e = (e.keeps accepted, e.short)
  empties_keeps (Recall at to) accepted queue left e = (
    keeps_same slot item_slot handled s _ _ (λ i. record {
      state = Recall at to;
      queue = e.0 i;
      accepted =
          accepted;
      desks = e.1 i;
    }),
    (let n = ap length e.0 in omega arith),
  )
  empties_keeps (Leaving at to) accepted queue left e = (
    keeps_same slot item_slot handled s _ _ (λ i. record {
      state = Leaving at to;
      queue = e.0 i;
      accepted =
          accepted;
      desks = e.1 i;
    }),
    (let n = ap length e.0 in omega arith),
  )

  empties_short : (state : DataState H) (queue left : List I)
      → EmptiesPlaced slot item_slot handled s state queue left desks now → Shortens queue left
  empties_short (Front half to) queue left e = shortens_same queue left e.0
  empties_short (Placed at) queue left e = e.sends
  empties_short (Recall at to) queue left e = shortens_same queue left e.0
  empties_short (Leaving at to) queue left e = shortens_same queue left e.0

  empties_again : (state : DataState H) (queue left : List I)
      → EmptiesPlaced slot item_slot handled s state queue left desks now → (slice : ℕ)
      → placed_at state ≡ Some slice → 0 < length left → Rises (fulls_at desks slice) (fulls_at now slice)
  empties_again (Front half to) queue left e slice is some = absurd (none_is_some slice is)
  empties_again (Placed at) queue left e slice is some = subst
      (λ (n : ℕ). Rises (fulls_at desks n) (fulls_at now n)) (ap number is) (e.again some)
  empties_again (Recall at to) queue left e slice is some = absurd (none_is_some slice is)
  empties_again (Leaving at to) queue left e slice is some = absurd (none_is_some slice is)

  pub drained_place : after.moved ≡ before.moved → after.state ≡ before.state
      → accepted_by after ≡ accepted_by before → after.admitted ≡ before.admitted
      → EmptiesPlaced slot item_slot handled s before.state before.queue.items after.queue.items desks now
      → Drained slot item_slot handled s (Some before) (Some after) desks now
  drained_place moved state accepted admitted empties =
      let k = empties_keeps before.state (accepted_by before) before.queue.items after.queue.items empties in
      let keeps : Keeps slot item_slot handled s 0 (stand_of before desks)
      (record { state = after.state; queue = after.queue.items; accepted = accepted_by before; desks = now }) =
      subst (λ (x : DataState H). Keeps slot item_slot handled s 0 (stand_of before desks)
      (record { state = x; queue = after.queue.items; accepted = accepted_by before; desks = now })) (sym state)
      k.0 in
      record {
        keeps = place_keeps 0 admitted after.queue.items (accepted_by before) refl (sym accepted) keeps;
        fits = λ room fits. let a = ap at_end state in let b = ap to_end state in let short = k.1 in (
          (let m = fits.0 in omega arith),
          (let m = fits.1 in omega arith),
          (let m = fits.2 in omega arith),
          λ rests. let r = fits.3 (sym moved ∙ rests) in ((let m = r.0 in omega arith), ap is_settled state ∙ r.1),
        );
        accepted = accepted;
        moved = moved;
        waits = ap waits_for state;
        state = ap Some state;
        queue = empties_short before.state before.queue.items after.queue.items empties;
        again = λ slice is some. empties_again before.state before.queue.items after.queue.items empties slice
            (sym (ap placed_at state) ∙ is) some;
      }

  takes_keeps : (room : ℕ) (item : I) (answer : Result Bool (DataNo I)) (state : DataState H)
      (accepted later queue left : List I) → item_slot item ≡ s
      → QueueTakes room item answer queue left → Accepts item answer accepted later → (mid : List (DataDesk H I))
      → mid ≡ desks
      → Keeps slot item_slot handled s 0 (record { state = state; queue = queue; accepted = accepted; desks = desks })
      (record { state = state; queue = left; accepted = later; desks = mid })
  takes_keeps room item (Ok u) state accepted later queue left own takes accepts mid same = keeps_park slot
      item_slot handled s _ _
      (record { item = item; own = own; is = refl; queue = takes.0; accepted = accepts; desks = same })
  takes_keeps room item (Err refusal) state accepted later queue left own takes accepts mid same =
      keeps_same slot item_slot handled s _ _ (λ i. record {
        state = state;
        queue = takes.0 i;
        accepted = accepts.0
            i;
        desks = same i;
      })

  takes_room : (room : ℕ) (item : I) (answer : Result Bool (DataNo I)) (queue left : List I)
      → QueueTakes room item answer queue left
      → length queue ≤ room → length left ≤ room
  takes_room room item (Ok u) queue left takes few =
      let n = ap length takes.0 ∙ length-append queue (item ∷ []) in let m = takes.1 in omega arith
  takes_room room item (Err refusal) queue left takes few = let n = ap length takes.0 in omega arith

  and_right : (a b : Bool) → (a && b) ≡ true → a ≡ true
  and_right true b e = refl
  and_right false b e = absurd (true≢false (sym e))

  pub gave_parked : (room : ℕ) (item : I) (answer : Result Bool (DataNo I)) → item_slot item ≡ s
      → parks_at (Some before) ≡ true
      → after.moved ≡ before.moved → after.admitted ≡ before.admitted
      → Accepts item answer (accepted_by before) (accepted_by after)
      → IfOk answer (λ is_parked. is_parked ≡ parks_at (Some before))
      → now ≡ desks → after.state ≡ before.state → QueueTakes room item answer before.queue.items after.queue.items
      → Gave slot item_slot handled s room item answer (Some before) (Some after) desks now
  gave_parked room item answer own parks moved admitted accepts told same state takes = record {
    keeps = place_keeps 0 admitted after.queue.items (accepted_by after) refl refl
        (subst (λ (x : DataState H). Keeps slot item_slot handled s 0 (stand_of before desks)
        (record { state = x; queue = after.queue.items; accepted = accepted_by after; desks = now })) (sym state)
        (takes_keeps room item answer before.state (accepted_by before) (accepted_by after) before.queue.items
        after.queue.items own takes accepts now same));
    fits = λ fits. let a = ap at_end state in let b = ap to_end state in (
      (let m = fits.0 in omega arith),
      (let m = fits.1 in omega arith),
      takes_room room item answer before.queue.items after.queue.items takes fits.2,
      λ rests. absurd (true≢false (sym (and_right before.moved _ parks) ∙ sym moved ∙ rests)),
    );
    accepted = accepts;
    told = told;
    moved = moved;
    parked = λ is. (same, takes);
    stays = λ is. ap (λ (x : DataState H). Some x) state;
    placed = λ isnt. absurd (true≢false (sym parks ∙ isnt));
  }

  delivers_fit : (item : I) (answer : Result Bool (DataNo I))
      → Delivers s item answer before.state after.state desks now → (room : ℕ)
      → Fits (length desks) room (Some before)
      → (at_end after.state ≤ length desks) × (to_end after.state ≤ length desks)
  delivers_fit item answer delivers room fits = serves_fit desks delivers.mid s (length desks) before.state
      after.state fits.0 fits.1 delivers.serves

  pub gave_placed : (room : ℕ) (item : I) (answer : Result Bool (DataNo I)) → item_slot item ≡ s
      → Fits (length desks) room (Some before)
      → parks_at (Some before) ≡ false → after.moved ≡ before.moved → after.admitted ≡ before.admitted
      → Accepts item answer (accepted_by before) (accepted_by after)
      → IfOk answer (λ is_parked. is_parked ≡ parks_at (Some before))
      → after.queue.items ≡ before.queue.items → Delivers s item answer before.state after.state desks now
      → Gave slot item_slot handled s room item answer (Some before) (Some after) desks now
  gave_placed room item answer own fits parks moved admitted accepts told queue delivers =
      let r = rests_there (length desks) room before fits parks in
      let keeps = delivers_keeps slot item_slot handled s item answer before.state after.state (accepted_by before)
      (accepted_by after) desks now
      own ready.law delivers accepts in
      record {
        keeps = place_keeps 0 admitted before.queue.items (accepted_by after) (sym queue) refl
            (subst (λ (q : List I). Keeps slot item_slot handled s 0
            (record { state = before.state; queue = q; accepted = accepted_by before; desks = desks })
            (record { state = after.state; queue = q; accepted = accepted_by after; desks = now })) (sym r.0) keeps);
        fits = λ fits. let f = delivers_fit item answer delivers room fits in let n = ap length queue in (
          f.0,
          f.1,
          (let m = fits.2 in omega arith),
          λ rests. let q = fits.3 (sym moved ∙ rests) in (
            n ∙ q.0,
            serves_settled desks delivers.mid s before.state after.state q.1 delivers.serves,
          ),
        );
        accepted = accepts;
        told = told;
        moved = moved;
        parked = λ is. absurd (true≢false (sym is ∙ parks));
        stays = λ is. absurd (true≢false (sym is ∙ parks));
        placed = λ isnt. (queue, (after, refl, delivers));
      }

  -- either
  pub gave_any : (room : ℕ) (item : I) (answer : Result Bool (DataNo I)) → item_slot item ≡ s
      → Fits (length desks) room (Some before)
      → after.moved ≡ before.moved → after.admitted ≡ before.admitted
      → Accepts item answer (accepted_by before) (accepted_by after)
      → IfOk answer (λ is_parked. is_parked ≡ parks_at (Some before))
      → (parks_at (Some before) ≡ true → (now ≡ desks) × (after.state ≡ before.state)
      × QueueTakes room item answer before.queue.items after.queue.items)
      → (parks_at (Some before) ≡ false → (after.queue.items ≡ before.queue.items)
      × Delivers s item answer before.state after.state desks now)
      → Gave slot item_slot handled s room item answer (Some before) (Some after) desks now
  gave_any room item answer own fits moved admitted accepts told parked placed =
      elim (parks_at (Some before)) as (λ b. parks_at (Some before) ≡ b
      → Gave slot item_slot handled s room item answer (Some before) (Some after) desks now) [
        | true ↦ λ e. let p = parked e in gave_parked room item answer own e moved admitted accepts told p.0 p.1 p.2
        | false ↦ λ e. let p = placed e in gave_placed room item answer own fits e moved admitted accepts told p.0
            p.1
      ] refl

-- a state that isn't leaving a slice
not_leaving : {H : Type 0} (slice : ℕ) (state : DataState H) → ((to : ℕ) → state ≡ Leaving slice to → ⊥)
    → leaves (Some state) ≡ Some slice → ⊥
not_leaving slice (Front half to) never is = none_is_some slice is
not_leaving slice (Placed at) never is = none_is_some slice is
not_leaving slice (Recall at to) never is = none_is_some slice is
not_leaving slice (Leaving from to) never is = never to (ap (λ n. Leaving n to) (ap number is))

-- a half that came home, and its place
module _ {H I : Type 0} (half : H) (slice : ℕ) where
  pub homed_place : (before after : DataPlace H I) (back : Option H) → after.moved ≡ before.moved
      → after.queue ≡ before.queue → after.admitted ≡ before.admitted
      → after.accepted ≡ before.accepted → after.state ≡ after.state
      → Homes half slice before.state after.state back → Welcomes half slice (Some before) (Some after) back
  homed_place before after None moved queue admitted accepted same homes = (
    before,
    after,
    homes.0,
    refl,
    refl,
    ap (λ q. q.items) queue,
    ap (λ l. map (λ p. p.0) l.items) accepted,
    admitted,
    moved,
    homes.1,
    homes.2,
  )
  homed_place before after (Some back) moved queue admitted accepted same homes = (
    homes.0,
    λ i. Some (record {
      moved = moved i;
      state = homes.1 i;
      queue = queue i;
      admitted = admitted i;
      accepted =
          accepted i;
    }),
    not_leaving slice before.state homes.2,
  )

  pub welcomed_at : (slot_of : H → ℕ) (s : ℕ) (aside : List (UnexpectedHalf H))
      (places new : List (Option (DataPlace H I))) (place : Option (DataPlace H I)) (back : Option H)
      → s < length places → is_lost slot_of s aside ≡ false → new ≡ set places s place
      → Welcomes half slice (place_at places s) place back
      → WelcomesAt slot_of half slice s aside places new back
  welcomed_at slot_of s aside places new place None within none is welcomes = (place, within, none, is, welcomes)
  welcomed_at slot_of s aside places new place (Some back) within none is welcomes =
      (welcomes.0, is ∙ ap (set places s) welcomes.1 ∙ set-get_or places s None, inl welcomes.2)
