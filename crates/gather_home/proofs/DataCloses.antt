-- What the closing of a slice's lanes tells.
use Rattle.std.proofs.Common.{◌≡◌, ◌≢◌, ℕ, zero, suc, ◌+◌, ◌<◌, ◌≤◌, Bool, true, false, cond, List, [], ◌∷◌, ◌++◌}
use Rattle.std.proofs.Common.{length, map, get_or, Option, Some, None, refl, sym, ap, ◌∙◌, subst, arith, append_assoc}
use Rattle.std.proofs.Common.{append-nil, length-append}
use Rattle.std.specs.Prelude.{nat_eq, nat_lt, reverse}
use Rattle.std.specs.List.{sum_by}
use Rattle.std.specs.Option.{option_to_list}
use Rattle.std.proofs.Math.Logic.{∥∥₁_map}
use Rattle.std.proofs.lemmas.List.{nil_from_length}
use Rattle.std.proofs.lemmas.List.Sums.{sum_by-append, sum_by-cons, sum_by_push}
use Rattle.std.proofs.lemmas.Bool.{eqb-true, eqb-false, ltb-true, ltb-false, lt-ltb, le-ltb}
use Rattle.lane_core.specs.Ends.{sent, taken}
use Rattle.lane_core.specs.Sequence.{Lawful}
use Rattle.worker_core.specs.declared.data_order.DataOrder.{DataOrder}
use Rattle.worker_core.specs.DataDesks.{DataDesk}
use Rattle.worker_core.specs.DataOrders.{halves_in, MayFollow, now_of, gone_of}
use Rattle.worker_core.specs.DataPicks.{lists_of, slot_sum}
use Rattle.worker_core.specs.DataStays.{Same, NamesKept, Holds, Sends, KeptStands}
use Rattle.worker_core.proofs.DataSlotSums.{lists-append, lists-sum}
use Rattle.worker_core.proofs.DataRuns.{halves-append}
use Rattle.migration.specs.declared.data_place.DataPlace.{DataPlace}
use Rattle.migration.specs.declared.data_place.DataState.{DataState}
use Rattle.migration.specs.declared.data_place.DataState.TheVariants.{Front, Placed, Recall, Leaving}
use Rattle.migration.specs.declared.data_place.UnexpectedHalf.{UnexpectedHalf}
use Rattle.migration.specs.DataDesks.{sent_weight, home_weight}
use Rattle.worker_core.specs.Desks.{sent_at, home_at}
use Rattle.migration.specs.DataPlaces.{place_at, queue_at, front_at, names_of}
use Rattle.migration.specs.DataKeeps.{StateIs}
use Rattle.migration.specs.DataSides.{weight_at, PlaceIs, asides_of}
use Rattle.migration.specs.DataStays.{Stay, Where, AtFront, Here, Away, reaches, backs, now_at, away_at}
use Rattle.gather_home.specs.declared.data_hand.Hand.{Hand}
use Rattle.gather_home.specs.declared.data_home.Home.{Home}
use Rattle.gather_home.specs.DataLefts.{items_in, kept_in, lefts_at}
use Rattle.gather_home.specs.DataHomecomings.{orders_left, hand_sum, halves_sum, rest_at, aside_sum, of_slot, homes_sum}
use Rattle.gather_home.specs.DataHomecomings.{front_lists, front_lists_at, met_from, met_lists, SlotLeft, IsLaid, IsEmptied}
use Rattle.gather_home.proofs.DataLeftovers.{zero_sum, counted, backs_are, desk_found, desk_quiet}

-- of a list without its last
module _ {X A : Type 0} (f : X → A) where
  at_last : (xs : List X) (x : X) (d : A) → get_or (map f (xs ++ x ∷ [])) (length xs) d ≡ f x
  at_last [] x d = refl
  at_last (y ∷ xs) x d = at_last xs x d

  at_first : (xs : List X) (x : X) (k : ℕ) (d : A) → k < length xs → get_or (map f (xs ++ x ∷ [])) k d
      ≡ get_or (map f xs) k d
  at_first [] x k d within = absurd (omega arith)
  at_first (y ∷ xs) x zero d within = refl
  at_first (y ∷ xs) x (suc k) d within = at_first xs x k d (omega arith)

none_before : {A : Type 0} (xs ys : List A) → xs ++ ys ≡ ys → xs ≡ []
none_before xs ys same = nil_from_length xs (let a = ap length same in let b = length-append xs ys in omega arith)

nothing : (b : Bool) → ◌≡◌ {A = ℕ} (cond b 0 0) 0
nothing true = refl
nothing false = refl

-- one slice more counts at this slice alone
met_one : (n at k v : ℕ) → n ≡ k + 1 → cond (nat_lt at k) 0 v ≡ cond (nat_lt at n) 0 v + cond (nat_eq at k) v 0
met_one n at k v next = elim (nat_eq at k) as (λ b. nat_eq at k ≡ b
    → cond (nat_lt at k) 0 v ≡ cond (nat_lt at n) 0 v + cond b v 0) [
      | true ↦ λ e.
          let is = eqb-true at k e in
          let a = ap (λ b. cond b 0 v) (le-ltb at k (omega arith)) in
          let c = ap (λ b. cond b 0 v) (lt-ltb at n (omega arith)) in omega arith
      | false ↦ λ e.
          let isnt = eqb-false at k e in
          elim (nat_lt at k) as (λ b. nat_lt at k ≡ b → cond (nat_lt at k) 0 v ≡ cond (nat_lt at n) 0 v + 0) [
            | true ↦ λ low.
                let less = ltb-true at k low in
                let a = ap (λ b. cond b 0 v) low in
                let c = ap (λ b. cond b 0 v) (lt-ltb at n (omega arith)) in omega arith
            | false ↦ λ high.
                let more = ltb-false at k high in
                let a = ap (λ b. cond b 0 v) high in
                let c = ap (λ b. cond b 0 v) (le-ltb at n (omega arith)) in omega arith
          ] refl
    ] refl

-- where the half is
module _ {I : Type 0} where
  few_there : (d : ℕ) (half : Where I) → length (away_at d half) + sum_by (λ _. 1) (option_to_list (now_at d half)) ≤ 1
  few_there d (AtFront came) = omega arith
  few_there d (Here at came items) = elim (nat_eq at d) as (λ b.
      0 + sum_by (λ _. 1) (option_to_list (cond {A = Option (List I)} b (Some (came ++ items)) None)) ≤ 1) [
        | true ↦ omega arith
        | false ↦ omega arith
      ]
  few_there d (Away at came items) = elim (nat_eq at d) as (λ b. length (cond b ((came ++ items) ∷ []) []) + 0 ≤ 1) [
    | true ↦ omega arith
    | false ↦ omega arith
  ]

  module _ (g : List I → ℕ) (l : List I) where
    from_sum : (b : Bool) → sum_by g (cond b [] (l ∷ [])) ≡ cond b 0 (g l)
    from_sum true = refl
    from_sum false = omega arith

    there_sum : (b : Bool) → sum_by g (cond b (l ∷ []) []) ≡ cond b (g l) 0
    there_sum true = omega arith
    there_sum false = refl

    now_sum : (b : Bool) → sum_by g (option_to_list (cond {A = Option (List I)} b (Some l) None)) ≡ cond b (g l) 0
    now_sum true = omega arith
    now_sum false = refl

  -- one slice more
  met_more : (n k : ℕ) (half : Where I) (g : List I → ℕ) → n ≡ k + 1 → sum_by g (met_from k half)
      ≡ sum_by g (met_from n half) + (sum_by g (away_at k half) + sum_by g (option_to_list (now_at k half)))
  met_more n k (AtFront came) g next = omega arith
  met_more n k (Here at came items) g next =
      let l : List I = came ++ items in
      let a = from_sum g l (nat_lt at k) in
      let b = from_sum g l (nat_lt at n) in
      let c = now_sum g l (nat_eq at k) in
      let d = met_one n at k (g l) next in omega arith
  met_more n k (Away at came items) g next =
      let l : List I = came ++ items in
      let a = from_sum g l (nat_lt at k) in
      let b = from_sum g l (nat_lt at n) in
      let c = there_sum g l (nat_eq at k) in
      let d = met_one n at k (g l) next in omega arith

  few_from : (k : ℕ) (half : Where I) → length (met_from k half) ≤ 1
  few_from k (AtFront came) = omega arith
  few_from k (Here at came items) = elim (nat_lt at k) as (λ b. length (cond b [] ((came ++ items) ∷ [])) ≤ 1) [
    | true ↦ omega arith
    | false ↦ omega arith
  ]
  few_from k (Away at came items) = elim (nat_lt at k) as (λ b. length (cond b [] ((came ++ items) ∷ [])) ≤ 1) [
    | true ↦ omega arith
    | false ↦ omega arith
  ]

module _ {H I : Type 0} (slot : H → ℕ) (item_slot : I → ℕ) (handled : H → List I) where
  -- a half is met once at most
  pub few_met : (s k : ℕ) (place : Option (DataPlace H I)) (half : Where I)
      → PlaceIs slot item_slot handled s place half
      → length (met_lists handled k place half) ≤ 1
  few_met s k None half is = few_from k half
  few_met s k (Some place) half is = few_state place.state is where
    few_state : (state : DataState H) → StateIs slot handled s state half
        → length (front_lists handled state ++ met_from k half) ≤ 1
    few_state (Front own to) at =
        let e : length (handled own ∷ met_from k half)
        ≡ 1 = ap (λ w. length (handled own ∷ met_from k w)) at.0 in omega arith
    few_state (Placed at) is = few_from k half
    few_state (Recall at to) is = few_from k half
    few_state (Leaving from to) is = few_from k half

  -- those that are aside from one slice more
  aside_more : (s n k : ℕ) (h : List I → ℕ) (aside : List (UnexpectedHalf H)) → n ≡ k + 1
      → aside_sum k (of_slot slot handled s h) aside
      ≡ aside_sum n (of_slot slot handled s h) aside + sum_by h (asides_of slot handled s aside k)
  aside_more s n k h [] next = refl
  aside_more s n k h (kept ∷ aside) next =
      let f : H → ℕ = of_slot slot handled s h in
      let at : ℕ → UnexpectedHalf H → ℕ = λ m x. cond (nat_lt x.slice m) 0 (f x.half) in
      let a = sum_by-cons (at k) kept aside in
      let b = sum_by-cons (at n) kept aside in
      let later = aside_more s n k h aside next in
      let one = met_one n kept.slice k (f kept.half) next in
      let c : sum_by h (asides_of slot handled s (kept ∷ aside) k)
      ≡ cond (nat_eq kept.slice k) (f kept.half) 0 + sum_by h (asides_of slot handled s aside k) =
      aside_one (nat_eq (slot kept.half) s) (nat_eq kept.slice k) (handled kept.half)
      (asides_of slot handled s aside k) in omega arith where
        aside_one : (b c : Bool) (l : List I) (ls : List (List I))
            → sum_by h (cond b (cond c (l ∷ ls) ls) ls) ≡ cond c (cond b (h l) 0) 0 + sum_by h ls
        aside_one true true l ls = sum_by-cons h l ls
        aside_one true false l ls = omega arith
        aside_one false true l ls = omega arith
        aside_one false false l ls = omega arith

  -- what the halves of a slot add up to is what their lists do
  lists_sum : (s : ℕ) (h : List I → ℕ) (xs : List H)
      → sum_by h (lists_of slot handled s xs) ≡ sum_by (of_slot slot handled s h) xs
  lists_sum s h xs = lists-sum slot handled s h xs

-- an empty hand
module _ {H I : Type 0} (hand : Hand H I) (emptied : IsEmptied hand) where
  pub hand_emptied : (f : H → ℕ) → hand_sum f hand ≡ sum_by f hand.found.items
  hand_emptied f =
      let b = ap (sum_by f) emptied.held in
      let c = ap (λ o. sum_by f (option_to_list o)) emptied.waiting in
      let d : sum_by f (halves_in (reverse hand.left.items))
      ≡ 0 = ap (λ l. sum_by f (halves_in (reverse l))) emptied.left in omega arith

  pub rest_emptied : (item_slot : I → ℕ) (s : ℕ) (places : List (Option (DataPlace H I)))
      → rest_at item_slot s places hand ≡ lefts_at hand.lefts.items s ++ queue_at (place_at places s)
  rest_emptied item_slot s places =
      (λ i. ((lefts_at hand.lefts.items s ++ kept_in item_slot s (emptied.item i))
      ++ items_in item_slot s (reverse (emptied.left i)))
      ++ queue_at (place_at places s))
      ∙ ap (λ l. l ++ queue_at (place_at places s)) (append-nil (lefts_at hand.lefts.items s ++ [])
      ∙ append-nil (lefts_at hand.lefts.items s))

-- what was in hand as the lanes of a desk were closed
module _ {H I : Type 0} (hand next : Hand H I) (emptied : IsEmptied hand) (found : next.found.items ≡ hand.found.items)
    (lefts : next.lefts.items ≡ hand.lefts.items) where
  hand_more : (f : H → ℕ) → hand_sum f next ≡ hand_sum f hand
      + (sum_by f next.held.items + sum_by f (option_to_list next.waiting) + sum_by f (halves_in (orders_left next)))
  hand_more f = let a = ap (sum_by f) found in let b = hand_emptied hand emptied f in omega arith

  rest_now : (item_slot : I → ℕ) (s : ℕ) (places : List (Option (DataPlace H I))) → rest_at item_slot s places next
      ≡ (lefts_at hand.lefts.items s ++ (kept_in item_slot s next.item ++ items_in item_slot s (orders_left next)))
      ++ queue_at (place_at places s)
  rest_now item_slot s places =
      ap (λ l. ((lefts_at l s ++ kept_in item_slot s next.item) ++ items_in item_slot s (orders_left next))
      ++ queue_at (place_at places s)) lefts
      ∙ ap (λ l. l ++ queue_at (place_at places s))
      (append_assoc (lefts_at hand.lefts.items s) (kept_in item_slot s next.item)
      (items_in item_slot s (orders_left next)))

-- one slot, as the lanes of the last desk are closed
module _ {H I : Type 0} (slot : H → ℕ) (item_slot : I → ℕ) (handled : H → List I) (s : ℕ)
    (admitted places : List (Option (DataPlace H I))) (aside : List (UnexpectedHalf H)) (hand next : Hand H I) (out : List H)
    (desks first : List (DataDesk H I)) (desk : DataDesk H I) (homes : List (Home H I))
    (came : List (DataOrder H I)) (gone_home : List H)
    (last : desks ≡ first ++ desk ∷ [])
    (emptied : IsEmptied hand) (found : next.found.items ≡ hand.found.items) (lefts : next.lefts.items
    ≡ hand.lefts.items)
    (whole : sent desk.orders ≡ came ++ orders_left next) (law : Lawful (MayFollow slot item_slot) (sent desk.orders))
    (home : gone_home ≡ taken desk.home ++ out)
    (holds : Holds slot item_slot handled came next.held.items next.item)
    (sends : Sends slot item_slot handled came (gone_home ++ option_to_list next.waiting))
    (stands : KeptStands slot item_slot handled came next.item)
    (told : (a b : List (List I)) → Same a b → a ≡ b)
    (left : SlotLeft slot item_slot handled s admitted places aside hand [] desks homes) where
  long : length desks ≡ length first + 1
  long = ap length last ∙ length-append first (desk ∷ []) ∙ (omega arith)

  sent_last : sent_at desks (length first) ≡ came ++ orders_left next
  sent_last = ap (λ l. sent_at l (length first)) last ∙ at_last (λ (d : DataDesk H I). sent d.orders) first desk []
      ∙ whole

  home_last : home_at desks (length first) ≡ taken desk.home
  home_last = ap (λ l. home_at l (length first)) last ∙ at_last (λ (d : DataDesk H I). taken d.home) first desk []

  sent_first : (d : ℕ) → d < length first → sent_at first d ≡ sent_at desks d
  sent_first d within = sym (ap (λ l. sent_at l d) last
      ∙ at_first (λ (x : DataDesk H I). sent x.orders) first desk d [] within)

  home_first : (d : ℕ) → d < length first → home_at first d ≡ home_at desks d
  home_first d within = sym (ap (λ l. home_at l d) last
      ∙ at_first (λ (x : DataDesk H I). taken x.home) first desk d [] within)

  -- the lists of the halves that left and of those that are met only now
  abbrev away_lists : List (List I)
  away_lists = asides_of slot handled s aside (length first)
      ++ (lists_of slot handled s out ++ lists_of slot handled s (option_to_list next.waiting))

  gone_all : gone_of slot item_slot handled s came ≡ backs (length first) left.stays ++ away_lists
  gone_all =
      sym (told _ _ (sends s))
      ∙ ap (λ l. lists_of slot handled s (l ++ option_to_list next.waiting)) home
      ∙ lists-append slot handled s (taken desk.home ++ out) (option_to_list next.waiting)
      ∙ ap (λ l. l ++ lists_of slot handled s (option_to_list next.waiting))
      (lists-append slot handled s (taken desk.home) out
      ∙ ap (λ l. l ++ lists_of slot handled s out) (ap (lists_of slot handled s) (sym home_last)
      ∙ left.back (length first) (omega (arith, long))))
      ∙ ap (λ l. l ++ lists_of slot handled s (option_to_list next.waiting))
      (append_assoc (backs (length first) left.stays) (asides_of slot handled s aside (length first))
      (lists_of slot handled s out))
      ∙ append_assoc (backs (length first) left.stays) (asides_of slot handled s aside (length first)
      ++ lists_of slot handled s out)
      (lists_of slot handled s (option_to_list next.waiting))
      ∙ ap (λ l. backs (length first) left.stays ++ l) (append_assoc (asides_of slot handled s aside (length first))
      (lists_of slot handled s out) (lists_of slot handled s (option_to_list next.waiting)))

  reached_all : gone_of slot item_slot handled s (came ++ orders_left next)
      ≡ reaches (length first) left.stays ++ away_at (length first) left.half
  reached_all = ap (gone_of slot item_slot handled s) (sym sent_last) ∙ left.gone (length first) (omega (arith, long))

  now_all : now_of slot item_slot handled s (came ++ orders_left next) ≡ now_at (length first) left.half
  now_all = ap (now_of slot item_slot handled s) (sym sent_last) ∙ left.now (length first) (omega (arith, long))

  as_long : (stays : List (Stay I)) → length (backs (length first) stays) ≡ length (reaches (length first) stays)
  as_long [] = refl
  as_long (stay ∷ stays) =
      let later = as_long stays in
      elim (nat_eq stay.at (length first)) as (λ b. length (cond b (stay.back ∷ backs (length first) stays)
      (backs (length first) stays))
      ≡ length (cond b ((stay.came ++ stay.items) ∷ reaches (length first) stays) (reaches (length first) stays))) [
        | true ↦ omega arith
        | false ↦ later
      ]

  few : length (away_at (length first) left.half)
      + sum_by (λ _. 1) (option_to_list (now_of slot item_slot handled s (came ++ orders_left next))) ≤ 1
  few =
      let a = few_there (length first) left.half in
      let b = ap (λ o. sum_by (λ _. 1) (option_to_list o)) now_all in omega arith

  lawful : Lawful (MayFollow slot item_slot) (came ++ orders_left next)
  lawful = subst (Lawful (MayFollow slot item_slot)) whole law

  -- what is left there
  abbrev rest_there : List I
  rest_there = kept_in item_slot s next.item ++ items_in item_slot s (orders_left next)

  same_there : backs (length first) left.stays ≡ reaches (length first) left.stays
  same_there =
      backs_are slot item_slot handled s came (orders_left next) next.held.items next.item away_lists
      (backs (length first) left.stays) (reaches (length first) left.stays) (away_at (length first) left.half)
      lawful holds stands gone_all reached_all (as_long left.stays) few

  found_there : (h : List I → ℕ) → sum_by (λ l. h (l ++ rest_there)) away_lists
      + slot_sum slot s (λ half. h (handled half ++ rest_there)) next.held.items
      + slot_sum slot s (λ half. h (handled half ++ rest_there)) (halves_in (orders_left next))
      ≡ sum_by h (away_at (length first) left.half) + sum_by h (option_to_list (now_at (length first) left.half))
  found_there h =
      desk_found slot item_slot handled s came (orders_left next) next.held.items next.item away_lists
      (backs (length first) left.stays) (reaches (length first) left.stays) (away_at (length first) left.half)
      lawful holds stands gone_all reached_all (as_long left.stays) few h
      ∙ ap (λ o. sum_by h (away_at (length first) left.half) + sum_by h (option_to_list o)) now_all

  quiet_there : length (away_at (length first) left.half)
      + sum_by (λ _. 1) (option_to_list (now_at (length first) left.half)) ≡ 0
      → rest_there ≡ []
  quiet_there none =
      desk_quiet slot item_slot handled s came (orders_left next) next.held.items next.item away_lists
      (backs (length first) left.stays) (reaches (length first) left.stays) (away_at (length first) left.half)
      lawful holds stands gone_all reached_all (as_long left.stays) few
      (ap (λ o. length (away_at (length first) left.half) + sum_by (λ _. 1) (option_to_list o)) now_all ∙ none)

  -- all halves that are met there
  abbrev lists_there : List (List I)
  lists_there = away_lists ++ (lists_of slot handled s next.held.items
      ++ lists_of slot handled s (halves_in (orders_left next)))

  there_adds : (g : List I → ℕ) → sum_by g lists_there ≡ sum_by g away_lists
      + slot_sum slot s (λ half. g (handled half)) next.held.items
      + slot_sum slot s (λ half. g (handled half)) (halves_in (orders_left next))
  there_adds g =
      let a = sum_by-append g away_lists (lists_of slot handled s next.held.items
      ++ lists_of slot handled s (halves_in (orders_left next))) in
      let b = sum_by-append g (lists_of slot handled s next.held.items)
      (lists_of slot handled s (halves_in (orders_left next))) in
      let c = lists-sum slot handled s g next.held.items in
      let d = lists-sum slot handled s g (halves_in (orders_left next)) in omega arith

  found_lists : (h : List I → ℕ) → sum_by (λ l. h (l ++ rest_there)) lists_there
      ≡ sum_by h (away_at (length first) left.half) + sum_by h (option_to_list (now_at (length first) left.half))
  found_lists h = there_adds (λ l. h (l ++ rest_there)) ∙ found_there h

  -- the sums
  met_now : (h : List I → ℕ) → halves_sum (of_slot slot handled s h) places next out
      + aside_sum (length first) (of_slot slot handled s h) aside ≡ sum_by h (left.lists ++ lists_there)
  met_now h =
      let f : H → ℕ = of_slot slot handled s h in
      let a = hand_more hand next emptied found lefts f in
      let b = left.met h in
      let c = aside_more slot item_slot handled s (length desks) (length first) h aside long in
      let d = sum_by-append h left.lists lists_there in
      let e = sum_by-append h away_lists (lists_of slot handled s next.held.items
      ++ lists_of slot handled s (halves_in (orders_left next))) in
      let i = sum_by-append h (asides_of slot handled s aside (length first))
      (lists_of slot handled s out ++ lists_of slot handled s (option_to_list next.waiting)) in
      let j = sum_by-append h (lists_of slot handled s out) (lists_of slot handled s (option_to_list next.waiting)) in
      let m = sum_by-append h (lists_of slot handled s next.held.items)
      (lists_of slot handled s (halves_in (orders_left next))) in
      let n = lists_sum slot item_slot handled s h out in
      let o = lists_sum slot item_slot handled s h (option_to_list next.waiting) in
      let p = lists_sum slot item_slot handled s h next.held.items in
      let q = lists_sum slot item_slot handled s h (halves_in (orders_left next)) in omega arith

  abbrev met_before : List (List I)
  met_before = met_lists handled (length desks) (place_at admitted s) left.half

  abbrev met_after : List (List I)
  met_after = met_lists handled (length first) (place_at admitted s) left.half

  met_adds : (g : List I → ℕ) → sum_by g met_after ≡ sum_by g met_before
      + (sum_by g (away_at (length first) left.half) + sum_by g (option_to_list (now_at (length first) left.half)))
  met_adds g =
      let a = sum_by-append g (front_lists_at handled (place_at admitted s)) (met_from (length desks) left.half) in
      let b = sum_by-append g (front_lists_at handled (place_at admitted s)) (met_from (length first) left.half) in
      let c = met_more (length desks) (length first) left.half g long in omega arith

  abbrev one_list : List I → ℕ
  one_list _ = 1

  few_after : sum_by (λ _. 1) met_after ≤ 1
  few_after =
      let a = counted met_after in
      let b = few_met slot item_slot handled s (length first) (place_at admitted s) left.half left.is in omega arith

  is_open : 0 < length desks
  is_open = let a = long in omega arith

  abbrev Comes : Type 0
  Comes = (h : List I → ℕ) → sum_by (λ l. h (l ++ rest_at item_slot s places next)) (left.lists ++ lists_there)
      + homes_sum slot handled s h homes ≡ sum_by (λ l. h (l ++ queue_at (place_at admitted s))) met_after

  -- where the half was met before, nothing is met or left there
  none_there : sum_by (λ _. 1) met_before ≢ 0
      → length (away_at (length first) left.half) + sum_by (λ _. 1) (option_to_list (now_at (length first) left.half))
      ≡ 0
  none_there some =
      let a = met_adds one_list in let b = few_after in let c = counted (away_at (length first) left.half) in omega
      arith

  rest_same : sum_by (λ _. 1) met_before ≢ 0 → rest_at item_slot s places next ≡ rest_at item_slot s places hand
  rest_same some =
      rest_now hand next emptied found lefts item_slot s places
      ∙ ap (λ l. (lefts_at hand.lefts.items s ++ l) ++ queue_at (place_at places s)) (quiet_there (none_there some))
      ∙ ap (λ l. l ++ queue_at (place_at places s)) (append-nil (lefts_at hand.lefts.items s))
      ∙ sym (rest_emptied hand emptied item_slot s places)

  come_same : sum_by (λ _. 1) met_before ≢ 0 → Comes
  come_same some h =
      let g : List I → ℕ = λ l. h (l ++ rest_at item_slot s places next) in
      let none = none_there some in
      let a = sum_by-append g left.lists lists_there in
      let b = zero_sum g lists_there (found_lists one_list
      ∙ (let c = counted (away_at (length first) left.half) in omega arith)) in
      let c : sum_by g left.lists ≡ sum_by (λ l. h (l ++ rest_at item_slot s places hand)) left.lists =
      ap (λ r. sum_by (λ l. h (l ++ r)) left.lists) (rest_same some) in
      let d = left.come h in
      let q : List I → ℕ = λ l. h (l ++ queue_at (place_at admitted s)) in
      let e = met_adds q in
      let m = zero_sum q (away_at (length first) left.half) (let n = counted (away_at (length first) left.half) in
      omega arith) in
      let n = zero_sum q (option_to_list (now_at (length first) left.half)) (omega arith) in omega arith

  -- where it wasn't, what is left there is all that is left
  none_left : sum_by (λ _. 1) met_before ≡ 0 → lefts_at hand.lefts.items s ≡ []
  none_left none =
      none_before (lefts_at hand.lefts.items s) (queue_at (place_at admitted s))
      (ap (λ l. lefts_at hand.lefts.items s ++ l) (sym (left.queued is_open))
      ∙ sym (rest_emptied hand emptied item_slot s places)
      ∙ left.quiet is_open (nil_from_length met_before (let a = counted met_before in omega arith)))

  rest_there_all : sum_by (λ _. 1) met_before ≡ 0 → rest_at item_slot s places next ≡ rest_there
      ++ queue_at (place_at admitted s)
  rest_there_all none =
      rest_now hand next emptied found lefts item_slot s places
      ∙ (λ i. (none_left none i ++ rest_there) ++ left.queued is_open i)

  come_there : sum_by (λ _. 1) met_before ≡ 0 → Comes
  come_there none h =
      let g : List I → ℕ = λ l. h (l ++ rest_at item_slot s places next) in
      let q : List I → ℕ = λ l. h (l ++ queue_at (place_at admitted s)) in
      let old : List I → ℕ = λ l. h (l ++ rest_at item_slot s places hand) in
      let one : List I → ℕ = λ l. 1 in
      let a = sum_by-append g left.lists lists_there in
      let b = left.come h in
      let c = zero_sum q met_before none in
      let d = zero_sum g left.lists (let x = left.come one in let y = none in omega arith) in
      let e : sum_by g lists_there ≡ sum_by (λ l. q (l ++ rest_there)) lists_there =
      ap (λ (f : List I → ℕ). sum_by f lists_there) (λ i l. h ((ap (λ r. l ++ r) (rest_there_all none)
      ∙ sym (append_assoc l rest_there (queue_at (place_at admitted s)))) i)) in
      let m = found_lists q in
      let n = met_adds q in omega arith

  come_now : Comes
  come_now = elim (nat_eq (sum_by (λ _. 1) met_before) 0) as (λ b. nat_eq (sum_by (λ _. 1) met_before) 0 ≡ b → Comes) [
    | true ↦ λ e. come_there (eqb-true (sum_by (λ _. 1) met_before) 0 e)
    | false ↦ λ e. come_same (eqb-false (sum_by (λ _. 1) met_before) 0 e)
  ] refl

  quiet_now : met_after ≡ [] → rest_at item_slot s places next ≡ queue_at (place_at admitted s)
  quiet_now none =
      let a = met_adds one_list in
      let b = ap (sum_by (λ _. 1)) none in
      let c = counted (away_at (length first) left.half) in
      rest_there_all (omega arith)
      ∙ ap (λ l. l ++ queue_at (place_at admitted s)) (quiet_there (omega arith))

  closed_now : (d : ℕ) → length first ≤ d → backs d left.stays ≡ reaches d left.stays
  closed_now d past = elim (nat_eq d (length first)) as (λ b. nat_eq d (length first) ≡ b → backs d left.stays
      ≡ reaches d left.stays) [
        | true ↦ λ e. (λ i. backs (eqb-true d (length first) e i) left.stays) ∙ same_there
            ∙ sym (λ i. reaches (eqb-true d (length first) e i) left.stays)
        | false ↦ λ e. left.closed d (let a = eqb-false d (length first) e in let b = long in omega arith)
      ] refl

  pub slot_closed : SlotLeft slot item_slot handled s admitted places aside next out first homes
  slot_closed = record {
    stays = left.stays;
    half = left.half;
    is = left.is;
    chain = left.chain;
    all = left.all;
    gone = λ d within. ap (gone_of slot item_slot handled s) (sent_first d within)
        ∙ left.gone d (let a = long in omega arith);
    now = λ d within. ap (now_of slot item_slot handled s) (sent_first d within)
        ∙ left.now d (let a = long in omega arith);
    back = λ d within. ap (lists_of slot handled s) (home_first d within) ∙ left.back d (let a = long in omega arith);
    closed = closed_now;
    lists = left.lists ++ lists_there;
    met = met_now;
    come = come_now;
    queued = λ some. left.queued is_open;
    quiet = λ some none. quiet_now none;
  }

-- what halves weigh as the lanes of the last desk are closed, if the worker's orders weigh what it held and sent home
pub weights_closed : {H I : Type 0} (hand next : Hand H I) (out : List H) (desks first : List (DataDesk H I))
    (desk : DataDesk H I) (came : List (DataOrder H I)) (gone_home : List H) → desks ≡ first ++ desk ∷ []
    → IsEmptied hand → next.found.items ≡ hand.found.items → next.lefts.items ≡ hand.lefts.items
    → sent desk.orders ≡ came ++ orders_left next → gone_home ≡ taken desk.home ++ out
    → (f : H → ℕ) → sum_by f (halves_in came) ≡ sum_by f next.held.items
    + sum_by f (gone_home ++ option_to_list next.waiting)
    → (fronts asides homes_are names : ℕ)
    → fronts + hand_sum f hand + 0 + asides + homes_are + sum_by (sent_weight f) desks
    ≡ names + sum_by (home_weight f) desks
    → fronts + hand_sum f next + sum_by f out + asides + homes_are + sum_by (sent_weight f) first
    ≡ names + sum_by (home_weight f) first
weights_closed hand next out desks first desk came gone_home last emptied found lefts whole home f kept fronts asides
    homes_are names was =
    let a = hand_more hand next emptied found lefts f in
    let s = ap (sum_by (sent_weight f)) last ∙ sum_by_push (sent_weight f) first desk in
    let t = ap (sum_by (home_weight f)) last ∙ sum_by_push (home_weight f) first desk in
    let b : sum_by f (halves_in (sent desk.orders)) ≡ sum_by f (halves_in came)
    + sum_by f (halves_in (orders_left next)) =
    ap (λ l. sum_by f (halves_in l)) whole ∙ ap (sum_by f) (halves-append came (orders_left next))
    ∙ sum_by-append f (halves_in came) (halves_in (orders_left next)) in
    let d : sum_by f (gone_home ++ option_to_list next.waiting) ≡ sum_by f (taken desk.home) + sum_by f out
    + sum_by f (option_to_list next.waiting) =
    sum_by-append f gone_home (option_to_list next.waiting)
    ∙ ap (λ n. n + sum_by f (option_to_list next.waiting)) (ap (sum_by f) home
    ∙ sum_by-append f (taken desk.home) out) in omega arith

-- all slots, and the names
module _ {H N I : Type 0} (name : H → N) (slot_at : N → ℕ) (item_slot : I → ℕ) (handled : H → List I)
    (told : (a b : List (List I)) → Same a b → a ≡ b)
    (admitted places : List (Option (DataPlace H I))) (aside : List (UnexpectedHalf H)) (hand next : Hand H I) (out : List H)
    (desks first : List (DataDesk H I)) (desk : DataDesk H I) (homes : List (Home H I))
    (came : List (DataOrder H I)) (gone_home : List H)
    (last : desks ≡ first ++ desk ∷ [])
    (emptied : IsEmptied hand) (found : next.found.items ≡ hand.found.items) (lefts : next.lefts.items
    ≡ hand.lefts.items)
    (whole : sent desk.orders ≡ came ++ orders_left next)
    (law : Lawful (MayFollow (λ half. slot_at (name half)) item_slot) (sent desk.orders))
    (home : gone_home ≡ taken desk.home ++ out)
    (kept : NamesKept name came next.held.items (gone_home ++ option_to_list next.waiting))
    (holds : Holds (λ half. slot_at (name half)) item_slot handled came next.held.items next.item)
    (sends : Sends (λ half. slot_at (name half)) item_slot handled came (gone_home ++ option_to_list next.waiting))
    (stands : KeptStands (λ half. slot_at (name half)) item_slot handled came next.item) where
  pub closes : IsLaid name slot_at item_slot handled admitted places aside hand [] desks homes
      → IsLaid name slot_at item_slot handled admitted places aside next out first homes
  closes laid = record {
    names = λ h. weights_closed hand next out desks first desk came gone_home last emptied found lefts whole home
        (λ half. h (name half)) (kept h) (sum_by (front_at (λ half. h (name half))) places)
        (sum_by (λ (kept : UnexpectedHalf H). h (name kept.half)) aside)
        (sum_by (λ (home : Home H I). h (name home.half)) homes) (sum_by (weight_at h) (names_of name admitted))
        (laid.names h);
    known = λ s. ∥∥₁_map (laid.known s) (slot_closed (λ half. slot_at (name half)) item_slot handled s admitted places
        aside hand next out
        desks first desk homes came gone_home last emptied found lefts whole law home holds sends stands told);
  }
