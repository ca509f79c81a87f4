-- A half that comes home, and all halves that are home.
use Rattle.std.proofs.Common.{◌≡◌, ◌≢◌, ℕ, ◌+◌, ◌≤◌, true, false, cond, List, [], ◌∷◌, ◌++◌, length, Option}
use Rattle.std.proofs.Common.{Some, None, refl, sym, ap, ◌∙◌, arith, append_assoc, append-nil}
use Rattle.std.specs.Prelude.{nat_eq, nat_lt}
use Rattle.std.specs.List.{sum_by}
use Rattle.std.proofs.Math.Logic.{∥∥₁_map, ∥∥₁_elim}
use Rattle.std.proofs.lemmas.List.{nil_from_length}
use Rattle.std.proofs.lemmas.List.Sums.{sum_by-cons, sum_by_push}
use Rattle.std.proofs.lemmas.List.Elements.{All-nil, All-cons}
use Rattle.std.proofs.lemmas.Bool.{eqb-true, eqb-false, eq-eqb, le-ltb}
use base.Stored.{Coded, Coded-set, coded_ℕ}
use Rattle.gather_home.proofs.Apart.{only, only_same, only_one}
use Rattle.worker_core.specs.DataDesks.{DataDesk}
use Rattle.worker_core.specs.DataStays.{Same}
use Rattle.migration.specs.declared.data_place.DataPlace.{DataPlace}
use Rattle.migration.specs.declared.data_place.DataState.{DataState}
use Rattle.migration.specs.declared.data_place.DataState.TheVariants.{Front, Placed, Recall, Leaving}
use Rattle.migration.specs.declared.data_place.UnexpectedHalf.{UnexpectedHalf}
use Rattle.migration.specs.DataDesks.{sent_weight, home_weight}
use Rattle.migration.specs.DataPlaces.{place_at, queue_at, accepted_by, accepted_at, front_at}
use Rattle.migration.specs.DataKeeps.{StateIs}
use Rattle.migration.specs.DataSides.{PlaceIs}
use Rattle.migration.specs.DataStays.{Stay, Where, reaches, backs, stay_items, Chain, came_of, since_of}
use Rattle.gather_home.specs.declared.data_hand.Hand.{Hand}
use Rattle.gather_home.specs.declared.data_home.Home.{Home}
use Rattle.gather_home.specs.DataLefts.{lefts_at}
use Rattle.gather_home.specs.DataHomecomings.{hand_sum, halves_sum, rest_at, aside_sum, of_slot, homes_sum, front_lists}
use Rattle.gather_home.specs.DataHomecomings.{met_from, met_lists, accepted_lists, SlotLeft, IsLaid, AreHome}
use Rattle.gather_home.specs.DataHomecomings.{ComeToAccepted, IsEmptied, ComesHome}
use Rattle.gather_home.proofs.DataLeftovers.{zero_sum, counted}
use Rattle.gather_home.proofs.DataCloses.{few_met, hand_emptied, rest_emptied}

-- two values that no number tells apart are the same
pub told_apart : {A : Type 0} → Coded A → (a b : A) → Same a b → a ≡ b
told_apart coded a b same =
    only_one coded a b (let x = only_same coded a in let y = same (only coded a) in omega arith)

-- a list of one
one_of : {A : Type 0} (xs : List A) → length xs ≡ 1 → (x : A) × (xs ≡ x ∷ [])
one_of [] one = absurd (omega arith)
one_of (x ∷ xs) one = (x, ap (λ l. x ∷ l) (nil_from_length xs (omega arith)))

-- where each stay came to what was sent for it, the half has handled all of it
module _ {I : Type 0} where
  head_or : List I → List (List I) → List I
  head_or d [] = d
  head_or d (x ∷ xs) = x

  tail_of : List (List I) → List (List I)
  tail_of [] = []
  tail_of (x ∷ xs) = xs

  first_back : (stay : Stay I) (stays : List (Stay I)) → backs stay.at (stay ∷ stays) ≡ reaches stay.at (stay ∷ stays)
      → stay.back ≡ stay.came ++ stay.items
  unfolding head_or
  first_back stay stays same =
      ap (λ b. head_or [] (cond b (stay.back ∷ backs stay.at stays) (backs stay.at stays)))
      (sym (eq-eqb stay.at stay.at refl))
      ∙ ap (head_or []) same
      ∙ ap (λ b. head_or [] (cond b ((stay.came ++ stay.items) ∷ reaches stay.at stays) (reaches stay.at stays)))
      (eq-eqb stay.at stay.at refl)

  later_backs : (d : ℕ) (stay : Stay I) (stays : List (Stay I)) → backs d (stay ∷ stays) ≡ reaches d (stay ∷ stays)
      → backs d stays ≡ reaches d stays
  unfolding tail_of
  later_backs d stay stays = elim (nat_eq stay.at d) as (λ b. cond b (stay.back ∷ backs d stays) (backs d stays)
      ≡ cond b ((stay.came ++ stay.items) ∷ reaches d stays) (reaches d stays) → backs d stays ≡ reaches d stays) [
        | true ↦ λ same. ap tail_of same
        | false ↦ λ same. same
      ]

  chain_items : (first : List I) (stays : List (Stay I)) (last : List I) → ((d : ℕ) → backs d stays ≡ reaches d stays)
      → Chain first stays last → last ≡ first ++ stay_items stays
  chain_items first [] last same chain = sym chain ∙ sym (append-nil first)
  chain_items first (stay ∷ stays) last same chain =
      chain_items stay.back stays last (λ d. later_backs d stay stays (same d)) chain.1
      ∙ ap (λ l. l ++ stay_items stays) (first_back stay stays (same stay.at) ∙ ap (λ l. l ++ stay.items) chain.0)
      ∙ append_assoc first stay.items (stay_items stays)

module _ {H I : Type 0} (slot : H → ℕ) (item_slot : I → ℕ) (handled : H → List I) where
  -- once all lanes are closed, the half that was admitted is met with all that was sent for it
  met_is : (s k : ℕ) (place : DataPlace H I) (half : Where I) → k ≡ 0
      → PlaceIs slot item_slot handled s (Some place) half
      → met_lists handled k (Some place) half ≡ (came_of half ++ since_of half) ∷ []
  met_is s k place half none is = state_is place.state is where
    all_from : (at : ℕ) (l : List I) → cond (nat_lt at k) [] (l ∷ []) ≡ l ∷ []
    all_from at l = ap (λ b. cond b [] (l ∷ [])) (le-ltb at k (omega arith))

    state_is : (state : DataState H) → StateIs slot handled s state half
        → front_lists handled state ++ met_from k half ≡ (came_of half ++ since_of half) ∷ []
    state_is (Front own to) at =
        ap (λ w. handled own ∷ met_from k w) at.0 ∙ ap (λ l. l ∷ []) (sym (append-nil (handled own)))
        ∙ sym (ap (λ w. (came_of w ++ since_of w) ∷ []) at.0)
    state_is (Placed d) at =
        ap (met_from k) at.2 ∙ all_from d (at.0 ++ at.1) ∙ sym (ap (λ w. (came_of w ++ since_of w) ∷ []) at.2)
    state_is (Recall d to) at =
        ap (met_from k) at.2 ∙ all_from d (at.0 ++ at.1) ∙ sym (ap (λ w. (came_of w ++ since_of w) ∷ []) at.2)
    state_is (Leaving d to) at =
        ap (met_from k) at.2 ∙ all_from d (at.0 ++ at.1) ∙ sym (ap (λ w. (came_of w ++ since_of w) ∷ []) at.2)

  met_whole : (s k : ℕ) (place : Option (DataPlace H I)) (stays : List (Stay I)) (half : Where I) (h : List I → ℕ)
      → k ≡ 0
      → PlaceIs slot item_slot handled s place half → Chain [] stays (came_of half)
      → ((d : ℕ) → backs d stays ≡ reaches d stays)
      → accepted_at place ≡ (stay_items stays ++ since_of half) ++ queue_at place
      → sum_by (λ l. h (l ++ queue_at place)) (met_lists handled k place half) ≡ sum_by h (accepted_lists place)
  met_whole s k None stays half h none is chain same all =
      ap (λ w. sum_by (λ l. h (l ++ [])) (met_from k w)) is
  met_whole s k (Some place) stays half h none is chain same all =
      ap (sum_by (λ l. h (l ++ place.queue.items))) (met_is s k place half none is)
      ∙ ap (λ l. sum_by h (l ∷ [])) (ap (λ l. (l ++ since_of half) ++ place.queue.items)
      (chain_items [] stays (came_of half) same chain) ∙ sym all)

-- a half comes home
module _ {H I : Type 0} (slot : H → ℕ) (item_slot : I → ℕ) (handled : H → List I) (coded : Coded (List I))
    (admitted places : List (Option (DataPlace H I))) (aside : List (UnexpectedHalf H)) (hand next : Hand H I)
    (desks : List (DataDesk H I)) (homes later : List (Home H I))
    (none : length desks ≡ 0) (no_place : places ≡ []) (emptied : IsEmptied hand) (still : IsEmptied next)
    (comes : ComesHome slot hand.found.items next.found.items hand.lefts.items next.lefts.items homes later) where
  abbrev came : H
  came = comes.home.half

  found_more : (f : H → ℕ) → hand_sum f hand ≡ hand_sum f next + f comes.home.half
  found_more f =
      let a = hand_emptied hand emptied f in let b = hand_emptied next still f in
      let c = ap (sum_by f) comes.was ∙ sum_by_push f next.found.items comes.home.half in omega arith

  homes_more : (s : ℕ) (h : List I → ℕ) → homes_sum slot handled s h later ≡ homes_sum slot handled s h homes
      + cond (nat_eq (slot comes.home.half) s) (h (handled comes.home.half ++ comes.home.left.items)) 0
  homes_more s h =
      let f : Home H I → ℕ = λ home. cond (nat_eq (slot home.half) s) (h (handled home.half ++ home.left.items)) 0 in
      ap (sum_by f) comes.is ∙ sum_by_push f homes comes.home

  rest_is : (s : ℕ) → rest_at item_slot s places hand ≡ lefts_at hand.lefts.items s
  rest_is s =
      rest_emptied hand emptied item_slot s places
      ∙ ap (λ l. lefts_at hand.lefts.items s ++ queue_at (place_at l s)) no_place
      ∙ append-nil (lefts_at hand.lefts.items s)

  rest_next : (s : ℕ) → rest_at item_slot s places next ≡ lefts_at next.lefts.items s
  rest_next s =
      rest_emptied next still item_slot s places
      ∙ ap (λ l. lefts_at next.lefts.items s ++ queue_at (place_at l s)) no_place
      ∙ append-nil (lefts_at next.lefts.items s)

  abbrev Before : ℕ → Type 0
  Before s = SlotLeft slot item_slot handled s admitted places aside hand [] desks homes

  abbrev After : ℕ → Type 0
  After s = SlotLeft slot item_slot handled s admitted places aside next [] desks later

  -- of another slot
  other_home : (s : ℕ) → slot comes.home.half ≢ s → nat_eq (slot comes.home.half) s ≡ false → Before s → After s
  other_home s apart e left = record {
    stays = left.stays;
    half = left.half;
    is = left.is;
    chain = left.chain;
    all = left.all;
    gone = left.gone;
    now = left.now;
    back = left.back;
    closed = left.closed;
    lists = left.lists;
    met = λ h.
        let f : H → ℕ = of_slot slot handled s h in
        let a = found_more f in let b = left.met h in
        let c : f comes.home.half ≡ 0 = ap (λ t. cond t (h (handled comes.home.half)) 0) e in omega arith;
    come = λ h.
        let same : rest_at item_slot s places next ≡ rest_at item_slot s places hand =
        rest_next s ∙ comes.others s (λ is. apart (sym is)) ∙ sym (rest_is s) in
        let a : sum_by (λ l. h (l ++ rest_at item_slot s places next)) left.lists
        ≡ sum_by (λ l. h (l ++ rest_at item_slot s places hand)) left.lists =
        ap (λ r. sum_by (λ l. h (l ++ r)) left.lists) same in
        let b = left.come h in
        let c = homes_more s h ∙ ap (λ t. homes_sum slot handled s h homes
        + cond t (h (handled comes.home.half ++ comes.home.left.items)) 0) e in omega arith;
    queued = left.queued;
    quiet = λ some _. absurd (omega arith);
  }

  -- of its own slot
  module _ (s : ℕ) (at : slot comes.home.half ≡ s) (left : SlotLeft slot item_slot handled s admitted places aside hand
      [] desks homes) where
    test : nat_eq (slot comes.home.half) s ≡ true
    test = eq-eqb (slot comes.home.half) s at

    met_more : (h : List I → ℕ) → halves_sum (of_slot slot handled s h) places next []
        + aside_sum (length desks) (of_slot slot handled s h) aside + h (handled comes.home.half) ≡ sum_by h left.lists
    met_more h =
        let f : H → ℕ = of_slot slot handled s h in
        let a = found_more f in let b = left.met h in
        let c : f comes.home.half ≡ h (handled comes.home.half) = ap (λ t. cond t (h (handled comes.home.half)) 0) test
        in omega arith

    abbrev one_list : List I → ℕ
    one_list _ = 1

    one : length left.lists ≡ 1
    one =
        let a = met_more one_list in let b = left.come one_list in let c = counted left.lists in
        let d = counted (met_lists handled (length desks) (place_at admitted s) left.half) in
        let e = few_met slot item_slot handled s (length desks) (place_at admitted s) left.half left.is in omega arith

    lists_are : (h : List I → ℕ) → sum_by h left.lists ≡ h (one_of left.lists one).0
    lists_are h = ap (sum_by h) (one_of left.lists one).1 ∙ (omega arith)

    same_list : handled comes.home.half ≡ (one_of left.lists one).0
    same_list =
        only_one coded (handled comes.home.half) (one_of left.lists one).0 (
        let h : List I → ℕ = only coded (handled comes.home.half) in
        let a = met_more h in let b = lists_are h in let c = only_same coded (handled comes.home.half) in omega arith)

    own_home : After s
    own_home = record {
      stays = left.stays;
      half = left.half;
      is = left.is;
      chain = left.chain;
      all = left.all;
      gone = left.gone;
      now = left.now;
      back = left.back;
      closed = left.closed;
      lists = [];
      met = λ h.
          let a = met_more h in let b = lists_are h in let c = ap h same_list in omega arith;
      come = λ h.
          let r : List I = rest_at item_slot s places hand in
          let a = left.come h in
          let b = lists_are (λ l. h (l ++ rest_at item_slot s places hand)) in
          let c = homes_more s h ∙ ap (λ t. homes_sum slot handled s h homes
          + cond t (h (handled comes.home.half ++ comes.home.left.items)) 0) test in
          let d : h (handled comes.home.half ++ comes.home.left.items) ≡ h ((one_of left.lists one).0
          ++ rest_at item_slot s places hand) =
          λ i. h (same_list i ++ (comes.own ∙ ap (lefts_at hand.lefts.items) at ∙ sym (rest_is s)) i) in omega arith;
      queued = left.queued;
      quiet = λ some _. absurd (omega arith);
    }

  pub slot_home : (s : ℕ) → Before s → After s
  slot_home s left = elim (nat_eq (slot comes.home.half) s) as (λ b. nat_eq (slot comes.home.half) s ≡ b → After s) [
    | true ↦ λ e. own_home s (eqb-true (slot comes.home.half) s e) left
    | false ↦ λ e. other_home s (eqb-false (slot comes.home.half) s e) e left
  ] refl

module _ {H N I : Type 0} (name : H → N) (slot_at : N → ℕ) (item_slot : I → ℕ) (handled : H
    → List I) (coded : Coded (List I))
    (admitted places : List (Option (DataPlace H I))) (aside : List (UnexpectedHalf H))
    (desks : List (DataDesk H I)) (homes : List (Home H I)) (none : length desks ≡ 0) (no_place : places ≡ []) where
  -- one half more is home
  pub home_laid : (hand next : Hand H I) (later : List (Home H I)) → IsEmptied hand → IsEmptied next
      → ComesHome (λ half. slot_at (name half)) hand.found.items next.found.items hand.lefts.items next.lefts.items
      homes later
      → IsLaid name slot_at item_slot handled admitted places aside hand [] desks homes
      → IsLaid name slot_at item_slot handled admitted places aside next [] desks later
  home_laid hand next later emptied still comes laid = record {
    names = λ h.
        let f : Home H I → ℕ = λ home. h (name home.half) in
        let a = found_more (λ half. slot_at (name half)) item_slot handled coded admitted places aside hand next desks
        homes later
        none no_place emptied still comes (λ half. h (name half)) in
        let b = ap (sum_by f) comes.is ∙ sum_by_push f homes comes.home in let c = laid.names h in omega arith;
    known = λ s. ∥∥₁_map (laid.known s) (slot_home (λ half. slot_at (name half)) item_slot handled coded admitted
        places aside hand next
        desks homes later none no_place emptied still comes s);
  }

  -- all are home
  pub all_home : (hand : Hand H I) → IsEmptied hand → hand.found.items ≡ [] → aside ≡ [] → desks ≡ []
      → IsLaid name slot_at item_slot handled admitted places aside hand [] desks homes
      → AreHome name slot_at handled admitted homes
  all_home hand emptied no_half no_aside no_desk laid = record {
    names = λ h.
        let f : H → ℕ = λ half. h (name half) in
        let a = laid.names h in
        let b = ap (sum_by (front_at f)) no_place in
        let c = hand_emptied hand emptied f ∙ ap (sum_by f) no_half in
        let d = ap (sum_by (λ (kept : UnexpectedHalf H). h (name kept.half))) no_aside in
        let e = ap (sum_by (sent_weight f)) no_desk in
        let g = ap (sum_by (home_weight f)) no_desk in omega arith;
    lists = λ s h. ∥∥₁_elim (laid.known s) (Coded-set coded_ℕ _ _) (λ left.
        let whole = met_whole (λ half. slot_at (name half)) item_slot handled s (length desks)
        (place_at admitted s) left.stays left.half h
        none left.is left.chain (λ d. left.closed d (omega arith)) left.all in
        let one : List I → ℕ = λ _. 1 in
        let f : H → ℕ = of_slot (λ half. slot_at (name half)) handled s one in
        let b = ap (sum_by (front_at f)) no_place in
        let c = hand_emptied hand emptied f ∙ ap (sum_by f) no_half in
        let d = ap (aside_sum (length desks) f) no_aside in
        let count = left.met one in
        let e = zero_sum (λ l. h (l ++ rest_at item_slot s places hand)) left.lists (omega arith) in
        let g = left.come h in omega arith);
  }

-- each half that is home comes to the items that were accepted for its slot
module _ {H N I : Type 0} (name : H → N) (slot_at : N → ℕ) (handled : H → List I) (coded : Coded (List I))
    (admitted : List (Option (DataPlace H I))) where
  accepted_one : (place : Option (DataPlace H I)) (x : List I) → 1 ≤ sum_by (only coded x) (accepted_lists place)
      → x ≡ accepted_at place
  accepted_one None x some = absurd (omega arith)
  accepted_one (Some place) x some = only_one coded x (accepted_by place) (omega arith)

  abbrev Within : List (Home H I) → Type 0
  Within homes = (s : ℕ) (h : List I → ℕ)
      → homes_sum (λ half. slot_at (name half)) handled s h homes ≤ sum_by h (accepted_lists (place_at admitted s))

  pub each_comes : (homes : List (Home H I)) → Within homes → ComeToAccepted name slot_at handled admitted homes
  each_comes [] within =
      All-nil (λ (home : Home H I). handled home.half ++ home.left.items
      ≡ accepted_at (place_at admitted (slot_at (name home.half))))
  each_comes (home ∷ homes) within =
      All-cons (λ (home : Home H I). handled home.half ++ home.left.items
      ≡ accepted_at (place_at admitted (slot_at (name home.half))))
      home homes first (each_comes homes (λ s h. let a = more s h in let b = within s h in omega arith)) where
        more : (s : ℕ) (h : List I → ℕ) → homes_sum (λ half. slot_at (name half)) handled s h (home ∷ homes)
            ≡ cond (nat_eq (slot_at (name home.half)) s) (h (handled home.half ++ home.left.items)) 0
            + homes_sum (λ half. slot_at (name half)) handled s h homes
        more s h =
            let f : Home H I → ℕ = λ x. cond (nat_eq (slot_at (name x.half)) s) (h (handled x.half
            ++ x.left.items)) 0 in
            sum_by-cons f home homes

        first : handled home.half ++ home.left.items ≡ accepted_at (place_at admitted (slot_at (name home.half)))
        first =
            let x : List I = handled home.half ++ home.left.items in
            accepted_one (place_at admitted (slot_at (name home.half))) (handled home.half ++ home.left.items) (
            let h : List I → ℕ = only coded (handled home.half ++ home.left.items) in
            let a = more (slot_at (name home.half)) h in
            let b = within (slot_at (name home.half)) h in
            let c = only_same coded (handled home.half ++ home.left.items) in
            let d : cond (nat_eq (slot_at (name home.half)) (slot_at (name home.half))) (h (handled home.half
            ++ home.left.items)) 0
            ≡ h (handled home.half ++ home.left.items) =
            ap (λ t. cond t (h (handled home.half ++ home.left.items)) 0) (eq-eqb (slot_at (name home.half))
            (slot_at (name home.half)) refl) in
            omega arith)
