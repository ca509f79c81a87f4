-- What a half that comes home leaves of the facts that a side keeps.
use Rattle.std.proofs.Common.{◌≡◌, ◌≢◌, ℕ, ◌+◌, ◌<◌, Bool, true, false, true≢false, cond, List, [], ◌∷◌, ◌++◌, length}
use Rattle.std.proofs.Common.{map, set, refl, sym, ap, ◌∙◌, subst, arith, append-nil, length-append}
use Rattle.std.specs.Prelude.{nat_eq, Option, Some, None, ◌||◌}
use Rattle.std.specs.List.{sum_by, All}
use Rattle.std.proofs.Math.Logic.{∥∥₁_map}
use Rattle.std.proofs.lemmas.List.{length-set}
use Rattle.std.proofs.lemmas.List.Elements.{All-set, All-get_or}
use Rattle.std.proofs.lemmas.List.Sums.{sum_by-set, sum_by_push}
use Rattle.std.proofs.lemmas.Bool.{eqb-true, eqb-false, ne_eqb, eq-eqb}
use Rattle.std.proofs.Math.Seq.{map-set_same}
use Rattle.lane_core.specs.Ends.{sent, taken}
use Rattle.worker_core.proofs.Arrivals.{sum_by-through}
use Rattle.worker_core.specs.DataDesks.{DataDesk}
use Rattle.worker_core.specs.declared.data_order.DataOrder.{DataOrder}
use Rattle.worker_core.specs.DataOrders.{halves_in, now_of, gone_of}
use Rattle.worker_core.specs.DataPicks.{lists_of}
use Rattle.migration.specs.declared.data_place.DataPlace.{DataPlace}
use Rattle.migration.specs.declared.data_place.DataState.{DataState}
use Rattle.migration.specs.declared.data_place.UnexpectedHalf.{UnexpectedHalf}
use Rattle.migration.specs.DataDesks.{sent_weight, home_weight}
use Rattle.worker_core.specs.Desks.{sent_at, home_at, order_count, Taken, Empty}
use Rattle.migration.specs.DataPlaces.{place_at, queue_at, accepted_by, accepted_count, is_admitted, accepted_at}
use Rattle.migration.specs.DataPlaces.{moved_at, is_settled, pending, pending_at, front_weight, front_at, Fits}
use Rattle.migration.specs.DataPlaces.{at_end, to_end, name_at, names_of}
use Rattle.migration.specs.DataStays.{Where, AtFront, SlotKnows}
use Rattle.migration.specs.DataKeeps.{StateIs}
use Rattle.migration.specs.DataSides.{weight_at, is_lost, asides_of, Tells, slot_at_place, IsDataSide}
use Rattle.migration.specs.DataSteps.{Welcomes}
use Rattle.worker_core.proofs.AtDesks.{changed_sum, changed_len, at_same, taken_more, taken_sent, OneHome}
use Rattle.migration.proofs.DataSlots.{knows_same, knows_home, knows_aside, lists_foreign}
use Rattle.migration.proofs.DataSides.{at_each, at_slot, by_slot}

module _ {H I : Type 0} (slot : H → ℕ) (handled : H → List I) where
  -- none of a slot is aside
  quiet : (s : ℕ) (aside : List (UnexpectedHalf H)) → is_lost slot s aside ≡ false → (d : ℕ)
      → asides_of slot handled s aside d ≡ []
  quiet s [] none d = refl
  quiet s (kept ∷ aside) none d = elim (nat_eq (slot kept.half) s) as (λ b. (b || is_lost slot s aside) ≡ false
      → cond b (cond (nat_eq kept.slice d) (handled kept.half ∷ asides_of slot handled s aside d)
      (asides_of slot handled s aside d)) (asides_of slot handled s aside d) ≡ []) [
        | true ↦ λ is. absurd (true≢false is)
        | false ↦ λ isnt. quiet s aside isnt d
      ] none

  asides_push : (s : ℕ) (aside : List (UnexpectedHalf H)) (kept : UnexpectedHalf H) (d : ℕ)
      → asides_of slot handled s (aside ++ kept ∷ []) d
      ≡ asides_of slot handled s aside d ++ cond (nat_eq (slot kept.half) s)
      (cond (nat_eq kept.slice d) (handled kept.half ∷ []) []) []
  asides_push s [] kept d = elim (nat_eq (slot kept.half) s) as
      (λ b. cond b (cond (nat_eq kept.slice d) (handled kept.half ∷ []) []) []
      ≡ cond b (cond (nat_eq kept.slice d) (handled kept.half ∷ []) []) []) [
        | true ↦ refl
        | false ↦ refl
      ]
  asides_push s (x ∷ aside) kept d =
      let more : List (List I) = cond (nat_eq (slot kept.half) s)
      (cond (nat_eq kept.slice d) (handled kept.half ∷ []) []) [] in
      let ih = asides_push s aside kept d in
      elim (nat_eq (slot x.half) s) as (λ b. cond b (cond (nat_eq x.slice d)
      (handled x.half ∷ asides_of slot handled s (aside ++ kept ∷ []) d)
      (asides_of slot handled s (aside ++ kept ∷ []) d)) (asides_of slot handled s (aside ++ kept ∷ []) d)
      ≡ cond b (cond (nat_eq x.slice d) (handled x.half ∷ asides_of slot handled s aside d)
      (asides_of slot handled s aside d)) (asides_of slot handled s aside d) ++ more) [
        | true ↦ elim (nat_eq x.slice d) as (λ b. cond b (handled x.half ∷ asides_of slot handled s
            (aside ++ kept ∷ []) d)
            (asides_of slot handled s (aside ++ kept ∷ []) d)
            ≡ cond b (handled x.half ∷ asides_of slot handled s aside d) (asides_of slot handled s aside d) ++ more) [
              | true ↦ ap (λ l. handled x.half ∷ l) ih
              | false ↦ ih
            ]
        | false ↦ ih
      ]

cond_none : {X : Type 0} (b : Bool) → ◌≡◌ {A = List X} (cond b [] []) []
cond_none true = refl
cond_none false = refl

-- no lane but one home changed, by a half more
record HomeCame {H I : Type 0} (slice : ℕ) (half : H) (desks now : List (DataDesk H I)) : Type 0 where
  sents : (d : ℕ) → sent_at now d ≡ sent_at desks d
  one : OneHome slice half (home_at desks) (home_at now)
  long : length now ≡ length desks
  orders : sum_by order_count now ≡ sum_by order_count desks
  out : (f : H → ℕ) → sum_by (sent_weight f) now ≡ sum_by (sent_weight f) desks
  home : (f : H → ℕ) → sum_by (home_weight f) now ≡ sum_by (home_weight f) desks + f half

taken_came : {H I : Type 0} (slice : ℕ) (half : H) (desks now : List (DataDesk H I)) → Taken slice half desks now
    → HomeCame slice half desks now
taken_came {H} {I} slice half desks now took = record {
  sents = taken_sent slice half desks now took;
  one = taken_more slice half desks now took;
  long = changed_len slice took.before took.now desks now took.desk;
  orders = let a = changed_sum slice took.before took.now desks now took.desk
      (order_count {O = DataOrder H I} {H = H}) in
      let b = ap (λ orders. length (sent orders)) took.orders in omega arith;
  out = λ f. let a = changed_sum slice took.before took.now desks now took.desk (sent_weight f) in
      let b = ap (λ orders. sum_by f (halves_in (sent orders))) took.orders in omega arith;
  home = λ f. let a = changed_sum slice took.before took.now desks now took.desk (home_weight f) in
      let b = ap (sum_by f) took.taken in let c = sum_by_push f (taken took.before.home) half in omega arith;
}

module _ {H N I : Type 0} (name : H → N) (slot_at : N → ℕ) (item_slot : I → ℕ) (handled : H → List I) where
  abbrev slot : H → ℕ
  slot half = slot_at (name half)

  abbrev Side : List (Option (DataPlace H I)) → List (UnexpectedHalf H) → List (DataDesk H I) → ℕ → ℕ → ℕ → Type 0
  Side places aside desks room admitted asked = IsDataSide name slot_at item_slot handled places aside desks room
      admitted asked

  tells_foreign : (t slice : ℕ) (half : H) (place : Option (DataPlace H I)) (desks now : List (DataDesk H I))
      (aside later : List (UnexpectedHalf H))
      → HomeCame slice half desks now → slot half ≢ t → ((d : ℕ)
      → asides_of slot handled t later d ≡ asides_of slot handled t aside d)
      → Tells slot item_slot handled t place desks aside → Tells slot item_slot handled t place now later
  tells_foreign t slice half place desks now aside later came apart kept tells = record {
    stays = tells.stays;
    half = tells.half;
    knows = knows_same slot item_slot handled t (sent_at desks) (sent_at now) (home_at desks) (home_at now)
        (asides_of slot handled t aside) (asides_of slot handled t later)
        tells.stays tells.half _ _ (λ d. ap (now_of slot item_slot handled t) (came.sents d))
        (λ d. ap (gone_of slot item_slot handled t) (came.sents d))
        (lists_foreign slot item_slot handled t slice half (home_at desks) (home_at now) came.one apart) kept
        tells.knows;
    is = tells.is;
  }

  -- a half came home to its slot
  pub came_home : (places new : List (Option (DataPlace H I))) (place : Option (DataPlace H I)) (s slice : ℕ)
      (half : H) (aside : List (UnexpectedHalf H))
      (desks now : List (DataDesk H I)) (room admitted asked : ℕ) → Side places aside desks room admitted asked
      → s < length places
      → Taken slice half desks now → slot half ≡ s → is_lost slot s aside ≡ false → new ≡ set places s place
      → Welcomes half slice (place_at places s) place None
      → Side new aside now room admitted asked
  came_home places new place s slice half aside desks now room admitted asked side within took own none made w =
      subst (λ (l : List (Option (DataPlace H I))). Side l aside now room admitted asked) (sym (made
      ∙ ap (set places s) w.4)) home where
        before : DataPlace H I
        before = w.0

        after : DataPlace H I
        after = w.1

        came : HomeCame slice half desks now
        came = taken_came slice half desks now took

        tells_home : Tells slot item_slot handled s (Some before) desks aside
            → Tells slot item_slot handled s (Some after) now aside
        tells_home tells =
            let is = subst (λ (x : DataState H). StateIs slot handled s x tells.half) w.9 tells.is in
            let knows = knows_home slot item_slot handled s slice half (sent_at desks) (home_at desks)
            (home_at now) (asides_of slot handled s aside) tells.stays
            is.0 is.1 before.queue.items (accepted_by before) own came.one (quiet slot handled s aside none slice)
            (subst (λ (x : Where I). SlotKnows slot item_slot handled s (sent_at desks) (home_at desks)
            (asides_of slot handled s aside) tells.stays x
            before.queue.items (accepted_by before)) is.2 tells.knows) in
            record {
              stays = tells.stays ++ (record { at = slice; came = is.0; items = is.1; back = handled half }) ∷ [];
              half = AtFront (handled half);
              knows = subst (λ (p : (ℕ → List (DataOrder H I)) × List I
                  × List I). SlotKnows slot item_slot handled s p.0 (home_at now) (asides_of slot handled s aside)
                  (tells.stays ++ (record { at = slice; came = is.0; items = is.1; back = handled half }) ∷ [])
                  (AtFront (handled half)) p.1 p.2)
                  (λ i. ((λ d. sym (came.sents d) i), sym w.5 i, sym w.6 i)) knows;
              is = subst (λ (x : DataState H). StateIs slot handled s x (AtFront (handled half))) (sym w.10)
                  (refl, own);
            }

        home : Side (set places s (Some after)) aside now room admitted asked
        home =
            let was = w.3 in
            let q = ap length w.5 in let l = ap length w.6 in
            let fit = All-get_or (Fits (length desks) room) places s None within side.fits in
            let fit_was = subst (Fits (length desks) room) was fit in
            record {
              known = at_each name slot_at item_slot handled
                  (λ t p. ∥ Tells slot item_slot handled t p now aside ∥₁) places s (Some after) within
                  (∥∥₁_map (subst (λ (p : Option (DataPlace H I)). ∥ Tells slot item_slot handled s p desks
                  aside ∥₁) was (side.known s)) tells_home)
                  (λ t apart. ∥∥₁_map (side.known t) (tells_foreign t slice half (place_at places t) desks now
                  aside aside came (λ e. apart (sym e ∙ own)) (λ d. refl)));
              balanced = λ h.
                  let f : H → ℕ = λ half. h (name half) in
                  let named : Option (DataPlace H I) → ℕ = λ x. weight_at h (name_at name x) in
                  let a = side.balanced h in
                  let b = ap (front_weight f) w.9 in let c = ap (front_weight f) w.10 in
                  let u = ap (front_at f) was in let v = ap named was in
                  let n = ap (λ a. h (name a.value)) w.7 in
                  let d = sum_by-set (front_at f) places s (Some after) None within in
                  let e = sum_by-set named places s (Some after) None within in
                  let g = sum_by-through (name_at name) (weight_at h) places in
                  let k = sum_by-through (name_at name) (weight_at h) (set places s (Some after)) in
                  let o = came.out f in let p = came.home f in
                  omega arith;
              weighed = λ f none.
                  let a = side.weighed f none in
                  let b = ap (front_weight f) w.9 in let c = ap (front_weight f) w.10 in
                  let u = ap (front_at f) was in
                  let d = sum_by-set (front_at f) places s (Some after) None within in
                  let o = came.out f in let p = came.home f in
                  omega arith;
              slots = by_slot name slot_at item_slot handled (set places s (Some after))
                  (at_each name slot_at item_slot handled (λ t p. slot_at_place slot_at t (name_at name p) ≡ t)
                  places s (Some after) within
                  (ap (λ a. slot_at (name a.value)) w.7 ∙ sym
                  (ap (λ x. slot_at_place slot_at s (name_at name x)) was)
                  ∙ at_slot name slot_at item_slot handled places side.slots s)
                  (λ t apart. at_slot name slot_at item_slot handled places side.slots t));
              fits = subst (λ (n : ℕ). All (Fits n room) (set places s (Some after))) (sym came.long)
                  (All-set (Fits (length desks) room) places s (Some after) (
                    (let a = ap at_end w.10 in omega arith),
                    (let a = ap to_end w.10 in let b = ap to_end w.9 in let c = fit_was.1 in omega arith),
                    (let c = fit_was.2 in omega arith),
                    λ rests. (q ∙ (fit_was.3 (sym w.8 ∙ rests)).0, ap is_settled w.10),
                  ) side.fits);
              short = let a = side.short in let b = length-set places s (Some after) in omega arith;
              room_few = side.room_few;
              few = let a = side.few in let b = ap pending w.9 in let c = ap pending w.10 in
                  let u = ap (pending_at {H = H} {I = I}) was in let v = ap (accepted_count {H = H} {I = I}) was in
                  let d = sum_by-set (pending_at {H = H} {I = I}) places s (Some after) None within in
                  let e = sum_by-set (accepted_count {H = H} {I = I}) places s (Some after) None within in
                  let o = came.orders in omega arith;
              asked_few = side.asked_few;
              counted = let a = side.counted in
                  let one : Option (DataPlace H I) → ℕ = λ x. cond (is_admitted x) 1 0 in
                  let b = ap one was in let c = sum_by-set one places s (Some after) None within in omega arith;
              aside_few = side.aside_few;
            }

  -- a half was kept aside
  pub kept_aside : (places : List (Option (DataPlace H I))) (slice : ℕ) (half : H)
      (aside later : List (UnexpectedHalf H)) (kept : UnexpectedHalf H)
      (desks now : List (DataDesk H I)) (room admitted asked : ℕ) → Side places aside desks room admitted asked
      → Taken slice half desks now
      → kept.half ≡ half → kept.slice ≡ slice → later ≡ aside ++ kept ∷ [] → length aside < admitted
      → Side places later now room admitted asked
  kept_aside places slice half aside later kept desks now room admitted asked side took is at made few =
      let came = taken_came slice half desks now took in record {
        known = λ t. elim (nat_eq (slot half) t) as (λ b. nat_eq (slot half) t ≡ b
            → ∥ Tells slot item_slot handled t (place_at places t) now later ∥₁) [
              | true ↦ λ e. ∥∥₁_map (side.known t) (tells_aside t came (eqb-true (slot half) t e))
              | false ↦ λ e.
                  let apart : slot half ≢ t = eqb-false (slot half) t e in
                  ∥∥₁_map (side.known t) (tells_foreign t slice half (place_at places t) desks now aside later came
                  apart (λ d.
                  ap (λ l. asides_of slot handled t l d) made ∙ asides_push slot handled t aside kept d
                  ∙ ap (λ b. asides_of slot handled t aside d ++ cond b
                  (cond (nat_eq kept.slice d) (handled kept.half ∷ []) []) []) (ap (λ x. nat_eq (slot x) t) is ∙ e)
                  ∙ append-nil (asides_of slot handled t aside d)))
            ] refl;
        balanced = λ h.
            let f : H → ℕ = λ half. h (name half) in
            let g : UnexpectedHalf H → ℕ = λ kept. h (name kept.half) in
            let a = side.balanced h in
            let b = ap (sum_by g) made in let c = sum_by_push g aside kept in let d = ap f is in
            let o = came.out f in let p = came.home f in omega arith;
        weighed = λ f none.
            let g : UnexpectedHalf H → ℕ = λ kept. f kept.half in
            let a = side.weighed f none in
            let b = ap (sum_by g) made in let c = sum_by_push g aside kept in let d = ap f is in
            let o = came.out f in let p = came.home f in omega arith;
        slots = side.slots;
        fits = subst (λ (n : ℕ). All (Fits n room) places) (sym came.long) side.fits;
        short = side.short;
        room_few = side.room_few;
        few = let a = side.few in let b = came.orders in omega arith;
        asked_few = side.asked_few;
        counted = side.counted;
        aside_few = let a = ap length made in let b = length-append aside (kept ∷ []) in omega arith;
      } where
        tells_aside : (t : ℕ) → HomeCame slice half desks now → slot half ≡ t
            → Tells slot item_slot handled t (place_at places t) desks aside
            → Tells slot item_slot handled t (place_at places t) now later
        tells_aside t came own tells = record {
          stays = tells.stays;
          half = tells.half;
          knows = subst (λ (f : ℕ → List (DataOrder H I)). SlotKnows slot item_slot handled t f (home_at now)
              (asides_of slot handled t later) tells.stays tells.half (queue_at (place_at places t))
              (accepted_at (place_at places t)))
              (λ i d. sym (came.sents d) i)
              (knows_aside slot item_slot handled t slice half (sent_at desks) (home_at desks) (home_at now)
              (asides_of slot handled t aside) (asides_of slot handled t later)
              tells.stays tells.half (queue_at (place_at places t)) (accepted_at (place_at places t)) own came.one
              (ap (λ l. asides_of slot handled t l slice) made ∙ asides_push slot handled t aside kept slice
              ∙ ap (λ b. asides_of slot handled t aside slice ++ cond b
              (cond (nat_eq kept.slice slice) (handled kept.half ∷ []) []) [])
              (eq-eqb (slot kept.half) t (ap slot is ∙ own))
              ∙ ap (λ b. asides_of slot handled t aside slice ++ cond b (handled kept.half ∷ []) [])
              (eq-eqb kept.slice slice at)
              ∙ ap (λ x. asides_of slot handled t aside slice ++ handled x ∷ []) is)
              (λ d apart. ap (λ l. asides_of slot handled t l d) made ∙ asides_push slot handled t aside kept d
              ∙ ap (λ b. asides_of slot handled t aside d ++ cond (nat_eq (slot kept.half) t)
              (cond b (handled kept.half ∷ []) []) [])
              (ne_eqb kept.slice d (λ e. apart (sym e ∙ at)))
              ∙ ap (λ l. asides_of slot handled t aside d ++ l) (cond_none (nat_eq (slot kept.half) t))
              ∙ append-nil (asides_of slot handled t aside d))
              tells.knows);
          is = tells.is;
        }

  -- none was there
  pub none_home : (places : List (Option (DataPlace H I))) (slice : ℕ) (aside : List (UnexpectedHalf H))
      (desks now : List (DataDesk H I)) (room admitted asked : ℕ)
      → Side places aside desks room admitted asked → Empty slice desks now
      → Side places aside now room admitted asked
  none_home places slice aside desks now room admitted asked side none =
      let sents : (d : ℕ) → sent_at now d ≡ sent_at desks d = λ d. at_same slice none.before none.now desks now
      none.desk (λ desk. sent desk.orders) [] d (ap sent none.orders) in
      let homes : (d : ℕ) → home_at now d ≡ home_at desks d = λ d. at_same slice none.before none.now desks now
      none.desk (λ desk. taken desk.home) [] d none.taken in
      record {
        known = λ t. ∥∥₁_map (side.known t) (λ tells. record {
          stays = tells.stays;
          half = tells.half;
          knows = knows_same slot item_slot handled t (sent_at desks) (sent_at now) (home_at desks) (home_at now)
              (asides_of slot handled t aside) (asides_of slot handled t aside)
              tells.stays tells.half _ _ (λ d. ap (now_of slot item_slot handled t) (sents d))
              (λ d. ap (gone_of slot item_slot handled t) (sents d))
              (λ d. ap (lists_of slot handled t) (homes d)) (λ d. refl) tells.knows;
          is = tells.is;
        });
        balanced = λ h.
            let f : H → ℕ = λ half. h (name half) in
            let a = side.balanced h in
            let b = changed_sum slice none.before none.now desks now none.desk (sent_weight f) in
            let c = ap (λ orders. sum_by f (halves_in (sent orders))) none.orders in
            let d = changed_sum slice none.before none.now desks now none.desk (home_weight f) in
            let e = ap (sum_by f) none.taken in omega arith;
        weighed = λ f nothing.
            let a = side.weighed f nothing in
            let b = changed_sum slice none.before none.now desks now none.desk (sent_weight f) in
            let c = ap (λ orders. sum_by f (halves_in (sent orders))) none.orders in
            let d = changed_sum slice none.before none.now desks now none.desk (home_weight f) in
            let e = ap (sum_by f) none.taken in omega arith;
        slots = side.slots;
        fits = subst (λ (n : ℕ). All (Fits n room) places) (sym
            (changed_len slice none.before none.now desks now none.desk)) side.fits;
        short = side.short;
        room_few = side.room_few;
        few = let a = side.few in let b = changed_sum slice none.before none.now desks now none.desk
            (order_count {O = DataOrder H I} {H = H}) in
            let c = ap (λ orders. length (sent orders)) none.orders in omega arith;
        asked_few = side.asked_few;
        counted = side.counted;
        aside_few = side.aside_few;
      }

-- what stays of all places as a half comes home to one
pub welcomed_lists : {H N I : Type 0} (name : H → N) (half : H) (slice : ℕ)
    (places new : List (Option (DataPlace H I))) (place : Option (DataPlace H I)) (s : ℕ)
    → new ≡ set places s place → Welcomes half slice (place_at places s) place None
    → (names_of name new ≡ names_of name places) × (map accepted_at new ≡ map accepted_at places)
    × (map moved_at new ≡ map moved_at places)
welcomed_lists name half slice places new place s made w = (
  kept (name_at name) (ap (λ a. Some (name a.value)) w.7),
  kept accepted_at w.6,
  kept moved_at w.8,
) where
  kept : {X : Type 0} (f : Option (DataPlace _ _) → X) → f (Some w.1) ≡ f (Some w.0) → map f new ≡ map f places
  kept f same = ap (map f) made ∙ map-set_same f places s place None (ap f w.4 ∙ same ∙ sym (ap f w.3))
