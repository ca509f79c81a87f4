-- How slots are served and queues sent, one after another.
use Rattle.std.proofs.Common.{◌≡◌, ◌≢◌, ℕ, ◌+◌, ◌*◌, ◌^◌, ◌<◌, ◌≤◌, inl, inr, Bool, true, false}
use Rattle.std.proofs.Common.{true≢false, List, [], ◌∷◌, length, length-append, map, set, refl, sym}
use Rattle.std.proofs.Common.{ap, ◌∙◌, subst, arith}
use Rattle.std.specs.Prelude.{nat_eq, Option, Some, None, Result, Ok, Err, IfErr}
use Rattle.std.proofs.lemmas.List.{get_or-set_same, get_or-set_other, set-set}
use Rattle.std.proofs.Math.Seq.{map-set_same}
use Rattle.std.proofs.lemmas.Bool.{eqb-true, eqb-false}
use Rattle.lane_core.specs.Ends.{sender_lane}
use Rattle.worker_core.specs.declared.data_order.DataOrder.TheVariants.{Arrive, Leave}
use Rattle.worker_core.specs.Workers.{Lanes}
use Rattle.worker_core.specs.DataDesks.{DataDesk}
use Rattle.worker_core.specs.Counts.{Rises, Lasts}
use Rattle.worker_core.proofs.Rising.{rises_raised, rises_then, then_rises}
use Rattle.migration.specs.declared.data_place.DataPlace.{DataPlace}
use Rattle.migration.specs.declared.data_place.DataState.{DataState}
use Rattle.migration.specs.declared.data_place.DataState.TheVariants.{Front, Placed, Recall, Leaving}
use Rattle.migration.specs.declared.data_place.DataNo.{DataNo}
use Rattle.migration.specs.declared.data_place.UnexpectedHalf.{UnexpectedHalf}
use Rattle.worker_core.specs.Desks.{lanes_of, homes_of, order_count, fulls_at, room_at, sent_count, Refused}
use Rattle.migration.specs.DataPlaces.{place_at, accepted_at, accepted_by, accepted_count, moved_at, waits_at}
use Rattle.migration.specs.DataPlaces.{queues_for, queue_at, parks_at, is_admitted, is_placed, is_settled, Fits}
use Rattle.migration.specs.DataPlaces.{name_at, names_of}
use Rattle.migration.specs.DataKeeps.{PlaceKeeps}
use Rattle.migration.specs.DataSides.{IsDataSide, AllMetFull, QueuesMetFull}
use Rattle.migration.specs.DataSteps.{Served, Drained, Moved, Gave, AtSlot, Accepts, Sends, Recalls, Serves}
use Rattle.worker_core.specs.BySlot.{Grown}
use Rattle.migration.specs.DataSteps.{ServesPlace, asked_after}
use Rattle.migration.specs.DataWords.{Roll, MetFull, Enters, Admits}
use Rattle.worker_core.proofs.AtDesks.{at_now, given_fulls, refused_full, refused_fulls}
use Rattle.migration.proofs.DataSides.{kept_step, stepped_side, fits_here}

module _ {N I : Type 0} where
  abbrev pub roll : List (Option N) → List (List I) → List Bool → List Lanes → ℕ → ℕ → ℕ → ℕ → Roll N I
  roll names accepted moved lanes room admitted asked refused = record {
    names = names;
    accepted = accepted;
    moved = moved;
    lanes = lanes;
    room = room;
    admitted = admitted;
    asked = asked;
    refused = refused;
  }

  pub roll_same : (names was : List (Option N)) (accepted before : List (List I)) (moved had : List Bool)
      (lanes first : List Lanes) (room admitted asked refused : ℕ)
      → names ≡ was → accepted ≡ before → moved ≡ had → lanes ≡ first
      → roll names accepted moved lanes room admitted asked refused
      ≡ roll was before had first room admitted asked refused
  roll_same names was accepted before moved had lanes first room admitted asked refused n a m l i = roll (n i) (a i)
      (m i) (l i) room admitted asked refused

-- a step at one place, and what stays
pub record Still {H N I : Type 0} (name : H → N) (slot_at : N → ℕ) (item_slot : I → ℕ) (handled : H → List I)
    (places new : List (Option (DataPlace H I))) (aside : List (UnexpectedHalf H)) (desks now : List (DataDesk H I))
    (room admitted asked : ℕ) : Type 0 where
  pub side : IsDataSide name slot_at item_slot handled new aside now room admitted asked
  pub names : names_of name new ≡ names_of name places
  pub lanes : lanes_of now ≡ lanes_of desks
  pub homes : homes_of now ≡ homes_of desks
  pub lasts : (d : ℕ) → Lasts (fulls_at desks d) (fulls_at now d)

module _ {H N I : Type 0} (name : H → N) (slot_at : N → ℕ) (item_slot : I → ℕ) (handled : H → List I) where
  abbrev slot : H → ℕ
  slot half = slot_at (name half)

  abbrev Side : List (Option (DataPlace H I)) → List (UnexpectedHalf H) → List (DataDesk H I) → ℕ → ℕ → ℕ → Type 0
  Side places aside desks room admitted asked = IsDataSide name slot_at item_slot handled places aside desks room
      admitted asked

  pub still : (spare : ℕ) (places new : List (Option (DataPlace H I))) (place : Option (DataPlace H I)) (s : ℕ)
      (aside : List (UnexpectedHalf H))
      (desks now : List (DataDesk H I)) (room admitted asked new_asked : ℕ)
      → Side places aside desks room admitted asked → s < length places
      → new ≡ set places s place → PlaceKeeps slot item_slot handled s spare (place_at places s) place desks now
      → (Fits (length desks) room (place_at places s) → Fits (length desks) room place) → new_asked ≤ 2 ^ 48
      → 2 * asked + spare + 2 * accepted_count place ≤ 2 * new_asked + 2 * accepted_count (place_at places s)
      → Still name slot_at item_slot handled places new aside desks now room admitted new_asked
  still spare places new place s aside desks now room admitted asked new_asked side within made keeps fits few
      enough =
      let step = kept_step name slot item_slot handled s spare (place_at places s) place desks now keeps in record {
        side = subst (λ (l : List (Option (DataPlace H I))). Side l aside now room admitted new_asked) (sym made)
            (stepped_side name slot_at item_slot handled spare places place s aside desks now room admitted asked
            new_asked side within step
            (fits (fits_here name slot_at item_slot handled places s aside desks room admitted asked side within))
            few enough);
        names = ap (names_of name) made ∙ map-set_same (name_at name) places s place None step.named;
        lanes = step.lanes;
        homes = step.ends;
        lasts = step.fulls;
      }

  pub served_still : (places new : List (Option (DataPlace H I))) (s : ℕ) (aside : List (UnexpectedHalf H))
      (desks now : List (DataDesk H I)) (room admitted asked : ℕ)
      → Side places aside desks room admitted asked → AtSlot (Served slot item_slot handled s) s places new desks now
      → Still name slot_at item_slot handled places new aside desks now room admitted asked
  served_still places new s aside desks now room admitted asked side at =
      still 0 places new at.0 s aside desks now room admitted asked asked side at.1 at.2 at.3.keeps
      (at.3.fits room) side.asked_few
      (let e = ap length at.3.accepted in omega arith)

  pub drained_still : (places new : List (Option (DataPlace H I))) (s : ℕ) (aside : List (UnexpectedHalf H))
      (desks now : List (DataDesk H I)) (room admitted asked : ℕ)
      → Side places aside desks room admitted asked → AtSlot (Drained slot item_slot handled s) s places new desks now
      → Still name slot_at item_slot handled places new aside desks now room admitted asked
  drained_still places new s aside desks now room admitted asked side at =
      still 0 places new at.0 s aside desks now room admitted asked asked side at.1 at.2 at.3.keeps
      (at.3.fits room) side.asked_few
      (let e = ap length at.3.accepted in omega arith)

  pub moved_still : (slice : ℕ) (places new : List (Option (DataPlace H I))) (s : ℕ) (aside : List (UnexpectedHalf H))
      (desks now : List (DataDesk H I)) (room admitted asked : ℕ)
      → Side places aside desks room admitted asked → asked < 2 ^ 48
      → AtSlot (Moved slot item_slot handled s slice) s places new desks now
      → Still name slot_at item_slot handled places new aside desks now room admitted (asked + 1)
  moved_still slice places new s aside desks now room admitted asked side few at =
      still 2 places new at.0 s aside desks now room admitted asked (asked + 1) side at.1 at.2 at.3.keeps
      (at.3.fits room) (omega arith)
      (let e = ap length at.3.accepted in omega arith)

  gave_few : (item : I) (answer : Result Bool (DataNo I)) (asked : ℕ) (before after : List I)
      → asked < 2 ^ 48 → Accepts item answer before after
      → (asked_after answer asked ≤ 2 ^ 48) × (2 * asked + 0 + 2 * length after ≤ 2 * asked_after answer
      asked + 2 * length before)
  gave_few item (Ok u) asked before after few accepts =
      let e = ap length accepts ∙ length-append before (item ∷ []) in (omega arith, omega arith)
  gave_few item (Err refusal) asked before after few accepts = let e = ap length accepts.0 in
      (omega arith, omega arith)

  pub gave_still : (item : I) (answer : Result Bool (DataNo I)) (places new : List (Option (DataPlace H I)))
      (s : ℕ) (aside : List (UnexpectedHalf H)) (desks now : List (DataDesk H I))
      (room admitted asked : ℕ) → Side places aside desks room admitted asked → asked < 2 ^ 48
      → AtSlot (Gave slot item_slot handled s room item answer) s places new desks now
      → Still name slot_at item_slot handled places new aside desks now room admitted (asked_after answer asked)
  gave_still item answer places new s aside desks now room admitted asked side few at =
      let n = gave_few item answer asked (accepted_at (place_at places s)) (accepted_at at.0) few at.3.accepted in
      still 0 places new at.0 s aside desks now room admitted asked (asked_after answer asked) side at.1 at.2
      at.3.keeps at.3.fits n.0 n.1

pub waits_not : (slice : ℕ) → ◌≡◌ {A = Option ℕ} None (Some slice) → ⊥
waits_not slice is = let none : ⊥ = cc in none

-- the accepted items and the moves of all slots are as they were
pub lists_set : {H I X : Type 0} (f : Option (DataPlace H I) → X) (places new : List (Option (DataPlace H I)))
    (place : Option (DataPlace H I)) (s : ℕ)
    → new ≡ set places s place → f place ≡ f (place_at places s) → map f new ≡ map f places
lists_set f places new place s made same = ap (map f) made ∙ map-set_same f places s place None same

module _ {H I : Type 0} where
  pub at_new : (places new : List (Option (DataPlace H I))) (place : Option (DataPlace H I)) (s : ℕ)
      → s < length places → new ≡ set places s place → place_at new s ≡ place
  at_new places new place s within made = ap (λ l. place_at l s) made ∙ get_or-set_same places s place None within

  pub at_old : (places new : List (Option (DataPlace H I))) (place : Option (DataPlace H I)) (s t : ℕ) → t ≢ s
      → new ≡ set places s place → place_at new t ≡ place_at places t
  at_old places new place s t apart made = ap (λ l. place_at l t) made ∙ get_or-set_other places s t place None apart

  -- each place below an index that is such for a slice met a full lane there
  abbrev pub MeetsBelow : (Option (DataPlace H I) → ℕ → Type 0) → ℕ → List (Option (DataPlace H I))
      → List (DataDesk H I) → List (DataDesk H I) → Type 0
  MeetsBelow Q k places first now = (t slice : ℕ) → t < k → Q (place_at places t) slice
      → Rises (fulls_at first slice) (fulls_at now slice)

  abbrev pub Waits : Option (DataPlace H I) → ℕ → Type 0
  Waits place slice = waits_at place ≡ Some slice

  abbrev pub Queues : Option (DataPlace H I) → ℕ → Type 0
  Queues place slice = (queues_for place ≡ Some slice) × (0 < length (queue_at place))

  -- a place that stayed waits for what it waited for
  pub waits_kept : (places new : List (Option (DataPlace H I))) (place : Option (DataPlace H I)) (s : ℕ)
      → s < length places → new ≡ set places s place
      → waits_at place ≡ waits_at (place_at places s) → (t : ℕ)
      → waits_at (place_at new t) ≡ waits_at (place_at places t)
  waits_kept places new place s within made same t = elim (nat_eq t s) as (λ b. nat_eq t s ≡ b
      → waits_at (place_at new t) ≡ waits_at (place_at places t)) [
        | true ↦ λ e. subst (λ (n : ℕ). waits_at (place_at new n) ≡ waits_at (place_at places n))
            (sym (eqb-true t s e)) (ap waits_at (at_new places new place s within made) ∙ same)
        | false ↦ λ e. ap waits_at (at_old places new place s t (eqb-false t s e) made)
      ] refl

  -- pumping in all
  pub met_in_all : (served places : List (Option (DataPlace H I))) (first desks then now : List (DataDesk H I))
      → ((d : ℕ) → fulls_at desks d ≡ fulls_at first d) → AllMetFull served desks then → ((t : ℕ)
      → waits_at (place_at places t) ≡ waits_at (place_at served t))
      → ((d : ℕ) → Lasts (fulls_at then d) (fulls_at now d)) → AllMetFull places first now
  met_in_all served places first desks then now same met waits later t slice is =
      subst (λ (n : ℕ). Rises n (fulls_at now slice)) (same slice)
      (rises_then (fulls_at desks slice) (fulls_at then slice) (fulls_at now slice) (met t slice (sym (waits t)
      ∙ is)) (later slice))

  pub queues_in_all : (places : List (Option (DataPlace H I))) (first desks then now : List (DataDesk H I))
      → ((d : ℕ) → fulls_at desks d ≡ fulls_at first d) → ((d : ℕ) → Lasts (fulls_at desks d) (fulls_at then d))
      → QueuesMetFull places then now → QueuesMetFull places first now
  queues_in_all places first desks then now same earlier met t slice is some =
      subst (λ (n : ℕ). Rises n (fulls_at now slice)) (same slice)
      (then_rises (fulls_at desks slice) (fulls_at then slice) (fulls_at now slice) (earlier slice)
      (met t slice is some))

-- an admission in all
pub admits_all : {H I : Type 0} (slot_of : H → ℕ) (item_slot : I → ℕ) (handled : H
    → List I) (s slice : ℕ) (moves : Bool) (half : H) (places grown entered new : List (Option (DataPlace H I)))
    (desks now : List (DataDesk H I)) → Grown places grown → s < length grown
    → Enters s slice moves half grown entered
    → AtSlot (Served slot_of item_slot handled s) s entered new desks now
    → Admits s slice moves half places new desks now
admits_all {H} {I} slot_of item_slot handled s slice moves half places grown entered new desks now more within
    enters at =
    let there : place_at entered s ≡ Some enters.now = at_new grown entered (Some enters.now) s within enters.is in
    let sends : ServesPlace s (Some enters.now) at.0 desks now = subst
    (λ (p : Option (DataPlace H I)). ServesPlace s p at.0 desks now) there at.3.sends in
    let accepted : accepted_at at.0 ≡ accepted_by enters.now = at.3.accepted ∙ ap accepted_at there in
    let moved : moved_at at.0 ≡ enters.now.moved = at.3.moved ∙ ap moved_at there in
    record {
      now = sends.0;
      more = more.0;
      within = subst (λ (l : List (Option (DataPlace H I))). s < length l) more.1 within;
      is = at.2 ∙ (λ i. set (enters.is i) s (sends.1 i)) ∙ set-set grown s (Some enters.now) (Some sends.0)
          ∙ ap (λ l. set l s (Some sends.0)) more.1;
      admitted = ap (λ a. a.value) sends.3 ∙ enters.admitted;
      moved = sym (ap moved_at sends.1) ∙ moved ∙ enters.moved;
      queue = sends.2 ∙ enters.queue;
      accepted = sym (ap accepted_at sends.1) ∙ accepted ∙ enters.accepted;
      sends = subst (λ (x : DataState H). Serves s x sends.0.state desks now) enters.state sends.4;
    }

-- an item that came back from a lane
module _ {H I : Type 0} where
  refused_met : (slice : ℕ) (old new : List (DataDesk H I)) → Refused slice old new
      → room_at new slice ≤ sent_count new slice
  refused_met slice old new refused =
      let a = at_now slice refused.before refused.now old new refused.desk
      (λ desk. (sender_lane desk.orders).room) 0 in
      let b = at_now slice refused.before refused.now old new refused.desk order_count 0 in
      let c = refused.filled in
      let d = ap (λ lanes. lanes.0.room) refused.desk.lanes in
      let e = ap length refused.sent in omega arith

  refused_rises : (slice : ℕ) (old new : List (DataDesk H I)) → Refused slice old new
      → Rises (fulls_at old slice) (fulls_at new slice)
  refused_rises slice old new refused = rises_raised (fulls_at old slice) (fulls_at new slice)
      (refused_full slice old new refused)

  sends_lasts : (half : H) (to : ℕ) (state : DataState H) (old new : List (DataDesk H I))
      → Sends half to state old new → (d : ℕ) → Lasts (fulls_at old d) (fulls_at new d)
  sends_lasts half to state old new sends d = elim sends [
    | inl put ↦ inl (given_fulls to (Arrive half) old new put.1 d)
    | inr kept ↦ refused_fulls to old new kept.1 d
  ]

  recalls_lasts : (s at to : ℕ) (state : DataState H) (old new : List (DataDesk H I))
      → Recalls s at to state old new → (d : ℕ) → Lasts (fulls_at old d) (fulls_at new d)
  recalls_lasts s at to state old new recalls d = elim recalls [
    | inl put ↦ inl (given_fulls at (Leave s) old new put.1 d)
    | inr kept ↦ refused_fulls at old new kept.1 d
  ]

  serves_lasts : (s : ℕ) (state new : DataState H) (desks now : List (DataDesk H I))
      → Serves s state new desks now → (d : ℕ) → Lasts (fulls_at desks d) (fulls_at now d)
  serves_lasts s (Front half to) new desks now serves d = sends_lasts half to new desks now serves d
  serves_lasts s (Placed at) new desks now serves d = inl (ap (λ l. fulls_at l d) serves.1)
  serves_lasts s (Recall at to) new desks now serves d = recalls_lasts s at to new desks now serves d
  serves_lasts s (Leaving at to) new desks now serves d = inl (ap (λ l. fulls_at l d) serves.1)

  serves_full : (s : ℕ) (state : DataState H) (half : H) (to : ℕ) (desks now : List (DataDesk H I))
      → Serves s state (Front half to) desks now → MetFull desks now
  serves_full s (Front own there) half to desks now serves = elim serves [
    | inl put ↦ absurd (true≢false (sym (ap is_placed put.0)))
    | inr kept ↦ (there, refused_rises there desks now kept.1, refused_met there desks now kept.1)
  ]
  serves_full s (Placed at) half to desks now serves = absurd (true≢false (sym (ap is_placed serves.0)))
  serves_full s (Recall at there) half to desks now serves = elim serves [
    | inl put ↦ absurd (true≢false (ap is_settled put.0))
    | inr kept ↦ absurd (true≢false (ap is_settled kept.0))
  ]
  serves_full s (Leaving at there) half to desks now serves = absurd (true≢false (ap is_settled serves.0))

module _ {H I : Type 0} (slot_of : H → ℕ) (item_slot : I → ℕ) (handled : H → List I) where
  gave_full_place : (item : I) (refusal : DataNo I) (s room : ℕ) (place new : Option (DataPlace H I))
      (desks now : List (DataDesk H I)) → is_admitted place ≡ true
      → parks_at place ≡ false → Gave slot_of item_slot handled s room item (Err refusal) place new desks now
      → MetFull desks now
  gave_full_place item refusal s room None new desks now admitted parks gave = absurd (true≢false (sym admitted))
  gave_full_place item refusal s room (Some before) new desks now admitted parks gave =
      let given = (gave.placed parks).1 in
      let delivers = given.2 in
      elim delivers.lands.2 [
        | inl full ↦ (
          full.0,
          then_rises (fulls_at desks full.0) (fulls_at delivers.mid full.0) (fulls_at now full.0)
              (serves_lasts s before.state given.0.state desks delivers.mid delivers.serves full.0)
              (refused_rises full.0 delivers.mid now full.2),
          refused_met full.0 delivers.mid now full.2,
        )
        | inr front ↦ subst (MetFull desks) (sym front.3) (serves_full s before.state front.0 front.1 desks
            delivers.mid
            (subst (λ (x : DataState H). Serves s before.state x desks delivers.mid) front.2 delivers.serves))
      ]

  pub gave_full : (item : I) (answer : Result Bool (DataNo I)) (s t room : ℕ)
      (places new : List (Option (DataPlace H I))) (desks now : List (DataDesk H I))
      → s ≡ t → is_admitted (place_at places t) ≡ true → AtSlot (Gave slot_of item_slot handled s room item answer)
      s places new desks now
      → IfErr answer (λ refusal. parks_at (place_at places t) ≡ false → MetFull desks now)
  gave_full item (Ok u) s t room places new desks now same admitted at = tt
  gave_full item (Err refusal) s t room places new desks now same admitted at = λ parks.
      gave_full_place item refusal s room (place_at places s) at.0 desks now
      (ap (λ n. is_admitted (place_at places n)) same ∙ admitted)
      (ap (λ n. parks_at (place_at places n)) same ∙ parks) at.3
