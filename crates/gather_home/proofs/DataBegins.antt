-- What is known as a homecoming begins: all that the side knew.
use Rattle.std.proofs.Common.{◌≡◌, ◌≢◌, ℕ, zero, suc, ◌+◌, ◌<◌, ◌≤◌, Bool, true, false, true≢false, cond, List, []}
use Rattle.std.proofs.Common.{◌∷◌, ◌++◌, length, map, get_or, Option, Some, None, refl, sym, ap, ◌∙◌, subst, arith}
use Rattle.std.proofs.Common.{append-nil}
use Rattle.std.specs.Prelude.{nat_eq, nat_lt, reverse}
use Rattle.std.specs.List.{sum_by}
use Rattle.std.specs.Option.{option_to_list, is_some}
use Rattle.std.proofs.Math.Logic.{∥∥₁_map, ∥∥₁_elim}
use Rattle.std.proofs.lemmas.List.Sums.{sum_by-cons}
use Rattle.std.proofs.lemmas.Bool.{eq-eqb, ne_eqb, ltb-false}
use base.Stored.{Coded-set, coded_ℕ}
use Rattle.lane_core.specs.Ends.{sent, taken}
use Rattle.worker_core.specs.DataDesks.{DataDesk}
use Rattle.worker_core.specs.DataOrders.{halves_in, now_of, gone_of}
use Rattle.worker_core.specs.DataPicks.{lists_of}
use Rattle.worker_core.proofs.DataSlotSums.{on}
use Rattle.migration.specs.declared.data_place.DataPlace.{DataPlace}
use Rattle.migration.specs.declared.data_place.DataState.{DataState}
use Rattle.migration.specs.declared.data_place.DataState.TheVariants.{Front, Placed, Recall, Leaving}
use Rattle.migration.specs.declared.data_place.UnexpectedHalf.{UnexpectedHalf}
use Rattle.worker_core.specs.Desks.{sent_at, home_at}
use Rattle.migration.specs.DataPlaces.{place_at, queue_at, front_at, front_weight}
use Rattle.migration.specs.DataKeeps.{StateIs}
use Rattle.migration.specs.DataSides.{AllKnown, Balanced, PlaceIs, Tells, asides_of}
use Rattle.migration.specs.DataStays.{Stay, Where, AtFront, Here, Away, reaches, backs, now_at, away_at}
use Rattle.gather_home.specs.declared.data_hand.Hand.{Hand}
use Rattle.gather_home.specs.DataLefts.{items_in, kept_in, lefts_at}
use Rattle.gather_home.specs.DataHomecomings.{hand_sum, rest_at, aside_sum, front_lists, front_lists_at, met_from}
use Rattle.gather_home.specs.DataHomecomings.{met_lists, SlotLeft, IsLaid}

-- nothing is in hand or found
pub record IsNew {H I : Type 0} (hand : Hand H I) : Type 0 where
  pub found : hand.found.items ≡ []
  pub lefts : hand.lefts.items ≡ []
  pub item : hand.item ≡ None
  pub left : hand.left.items ≡ []
  pub held : hand.held.items ≡ []
  pub waiting : hand.waiting ≡ None

left_nil : {A : Type 0} (xs ys : List A) → [] ≡ xs ++ ys → xs ≡ []
left_nil [] ys e = refl
left_nil (x ∷ xs) ys e = absurd (let a = ap length e in omega arith)

right_nil : {A : Type 0} (xs ys : List A) → [] ≡ xs ++ ys → ys ≡ []
right_nil [] ys e = sym e
right_nil (x ∷ xs) ys e = absurd (let a = ap length e in omega arith)

none_past : {X A : Type 0} (f : X → List A) (xs : List X) (d : ℕ) → length xs ≤ d → get_or (map f xs) d [] ≡ []
none_past f [] d past = refl
none_past f (x ∷ xs) zero past = absurd (omega arith)
none_past f (x ∷ xs) (suc d) past = none_past f xs d (omega arith)

nothing : (b : Bool) → ◌≡◌ {A = ℕ} (cond b 0 0) 0
nothing true = refl
nothing false = refl

-- numbers of a list in which one index alone counts
module _ {X : Type 0} (f g : Option X → ℕ) (s : ℕ) where
  abbrev One : ℕ → List (Option X) → Type 0
  One first xs = (k : ℕ) → f (get_or xs k None) ≡ cond (nat_eq (first + k) s) (g (get_or xs k None)) 0

  one_next : (first : ℕ) (x : Option X) (xs : List (Option X)) → One first (x ∷ xs) → One (first + 1) xs
  one_next first x xs one k =
      let e : first + suc k ≡ first + 1 + k = omega arith in
      subst (λ (n : ℕ). f (get_or xs k None) ≡ cond (nat_eq n s) (g (get_or xs k None)) 0) e (one (suc k))

  sum_past : (first : ℕ) (xs : List (Option X)) → s < first → One first xs → sum_by f xs ≡ 0
  sum_past first [] past one = refl
  sum_past first (x ∷ xs) past one =
      let a = sum_by-cons f x xs in
      let b : f x ≡ 0 = one 0 ∙ ap (λ t. cond t (g x) 0) (ne_eqb (first + 0) s (omega arith)) in
      let c = sum_past (first + 1) xs (omega arith) (one_next first x xs one) in omega arith

  sum_here : (first : ℕ) (xs : List (Option X)) (k : ℕ) → s ≡ first + k → g None ≡ 0 → One first xs
      → sum_by f xs ≡ g (get_or xs k None)
  sum_here first [] k at none one = sym none
  sum_here first (x ∷ xs) zero at none one =
      let a = sum_by-cons f x xs in
      let b : f x ≡ g x = one 0 ∙ ap (λ t. cond t (g x) 0) (eq-eqb (first + 0) s (omega arith)) in
      let c = sum_past (first + 1) xs (omega arith) (one_next first x xs one) in omega arith
  sum_here first (x ∷ xs) (suc k) at none one =
      let a = sum_by-cons f x xs in
      let b : f x ≡ 0 = one 0 ∙ ap (λ t. cond t (g x) 0) (ne_eqb (first + 0) s (omega arith)) in
      let c = sum_here (first + 1) xs k (omega arith) none (one_next first x xs one) in omega arith

module _ {H I : Type 0} (slot : H → ℕ) (item_slot : I → ℕ) (handled : H → List I) where
  state_own : (g : H → ℕ) (k s : ℕ) (state : DataState H) (half : Where I) → StateIs slot handled k state half
      → front_weight (on slot s g) state ≡ cond (nat_eq k s) (front_weight g state) 0
  state_own g k s (Front half to) at is = ap (λ t. cond (nat_eq t s) (g half) 0) is.1
  state_own g k s (Placed at) half is = sym (nothing (nat_eq k s))
  state_own g k s (Recall at to) half is = sym (nothing (nat_eq k s))
  state_own g k s (Leaving from to) half is = sym (nothing (nat_eq k s))

  front_own : (g : H → ℕ) (k s : ℕ) (place : Option (DataPlace H I)) (half : Where I)
      → PlaceIs slot item_slot handled k place half
      → front_at (on slot s g) place ≡ cond (nat_eq k s) (front_at g place) 0
  front_own g k s None half is = sym (nothing (nat_eq k s))
  front_own g k s (Some place) half is = state_own g k s place.state half is

  -- the halves at the front of a slot stand at its place
  fronts_here : (places : List (Option (DataPlace H I))) (desks : List (DataDesk H I)) (aside : List (UnexpectedHalf H))
      → AllKnown slot item_slot handled places desks aside → (g : H → ℕ) (s : ℕ)
      → sum_by (front_at (on slot s g)) places ≡ front_at g (place_at places s)
  fronts_here places desks aside known g s =
      sum_here (front_at (on slot s g)) (front_at g) s 0 places s (omega arith) refl
      (λ k. ∥∥₁_elim (known k) (Coded-set coded_ℕ _ _) (λ tells.
      subst (λ (n : ℕ). front_at (on slot s g) (place_at places k)
      ≡ cond (nat_eq n s) (front_at g (place_at places k)) 0)
      (let e : k ≡ 0 + k = omega arith in e) (front_own g k s (place_at places k) tells.half tells.is)))

  front_sum : (h : List I → ℕ) (place : Option (DataPlace H I))
      → front_at (λ half. h (handled half)) place ≡ sum_by h (front_lists_at handled place)
  front_sum h None = refl
  front_sum h (Some place) = state_sum place.state where
    state_sum : (state : DataState H) → front_weight (λ half. h (handled half)) state
        ≡ sum_by h (front_lists handled state)
    state_sum (Front half to) = omega arith
    state_sum (Placed at) = refl
    state_sum (Recall at to) = refl
    state_sum (Leaving from to) = refl

  -- none is aside from a slice that isn't there
  none_aside : (s n : ℕ) (g : H → ℕ) (aside : List (UnexpectedHalf H)) → ((d : ℕ) → n ≤ d → asides_of slot handled s aside d
      ≡ [])
      → aside_sum n (on slot s g) aside ≡ 0
  none_aside s n g [] none = refl
  none_aside s n g (kept ∷ aside) none =
      let f : UnexpectedHalf H → ℕ = λ x. cond (nat_lt x.slice n) 0 (on slot s g x.half) in
      let a = sum_by-cons f kept aside in
      elim (nat_eq (slot kept.half) s) as (λ b. nat_eq (slot kept.half) s ≡ b
      → aside_sum n (on slot s g) (kept ∷ aside) ≡ 0) [
        | true ↦ λ e.
            elim (nat_lt kept.slice n) as (λ b. nat_lt kept.slice n ≡ b → aside_sum n (on slot s g) (kept ∷ aside)
            ≡ 0) [
              | true ↦ λ low.
                  let b : f kept ≡ 0 = ap (λ t. cond t 0 (on slot s g kept.half)) low in
                  let c = none_aside s n g aside (λ d past. tail d (none d past)) in omega arith
              | false ↦ λ high. absurd (
                  let past = ltb-false kept.slice n high in
                  let b = ap length (sym (there e) ∙ none kept.slice past) in omega arith)
            ] refl
        | false ↦ λ e.
            let b : f kept ≡ 0 = ap (λ t. cond (nat_lt kept.slice n) 0 (cond t (g kept.half) 0)) e
            ∙ nothing (nat_lt kept.slice n) in
            let c = none_aside s n g aside (λ d past. sym (others d e) ∙ none d past) in omega arith
      ] refl where
        there : nat_eq (slot kept.half) s ≡ true
            → asides_of slot handled s (kept ∷ aside) kept.slice
            ≡ handled kept.half ∷ asides_of slot handled s aside kept.slice
        there e =
            ap (λ b. cond b (cond (nat_eq kept.slice kept.slice)
            (handled kept.half ∷ asides_of slot handled s aside kept.slice)
            (asides_of slot handled s aside kept.slice)) (asides_of slot handled s aside kept.slice)) e
            ∙ ap (λ b. cond b (handled kept.half ∷ asides_of slot handled s aside kept.slice)
            (asides_of slot handled s aside kept.slice))
            (eq-eqb kept.slice kept.slice refl)

        others : (d : ℕ) → nat_eq (slot kept.half) s ≡ false
            → asides_of slot handled s (kept ∷ aside) d ≡ asides_of slot handled s aside d
        others d e =
            ap (λ b. cond b (cond (nat_eq kept.slice d) (handled kept.half ∷ asides_of slot handled s aside d)
            (asides_of slot handled s aside d)) (asides_of slot handled s aside d)) e

        tail : (d : ℕ) → asides_of slot handled s (kept ∷ aside) d ≡ [] → asides_of slot handled s aside d ≡ []
        tail d =
            elim (nat_eq (slot kept.half) s) as
            (λ b. cond b (cond (nat_eq kept.slice d) (handled kept.half ∷ asides_of slot handled s aside d)
            (asides_of slot handled s aside d)) (asides_of slot handled s aside d) ≡ []
            → asides_of slot handled s aside d ≡ []) [
              | true ↦ elim (nat_eq kept.slice d) as (λ b. cond b (handled kept.half ∷ asides_of slot handled s aside d)
                  (asides_of slot handled s aside d) ≡ [] → asides_of slot handled s aside d ≡ []) [
                    | true ↦ λ some. absurd (let c = ap length some in omega arith)
                    | false ↦ λ none. none
                  ]
              | false ↦ λ none. none
            ]

  -- where the desks end nothing was sent, came home or is aside, and the half is elsewhere
  module _ (s : ℕ) (desks : List (DataDesk H I)) (aside : List (UnexpectedHalf H)) (stays : List (Stay I)) (half : Where I)
      (gone : (d : ℕ) → gone_of slot item_slot handled s (sent_at desks d) ≡ reaches d stays ++ away_at d half)
      (now : (d : ℕ) → now_of slot item_slot handled s (sent_at desks d) ≡ now_at d half)
      (back : (d : ℕ) → lists_of slot handled s (home_at desks d) ≡ backs d stays
      ++ asides_of slot handled s aside d) where
    sent_past : (d : ℕ) → length desks ≤ d → sent_at desks d ≡ []
    sent_past d past = none_past (λ (desk : DataDesk H I). sent desk.orders) desks d past

    home_past : (d : ℕ) → length desks ≤ d → home_at desks d ≡ []
    home_past d past = none_past (λ (desk : DataDesk H I). taken desk.home) desks d past

    gone_past : (d : ℕ) → length desks ≤ d → [] ≡ reaches d stays ++ away_at d half
    gone_past d past = ap (gone_of slot item_slot handled s) (sym (sent_past d past)) ∙ gone d

    back_past : (d : ℕ) → length desks ≤ d → [] ≡ backs d stays ++ asides_of slot handled s aside d
    back_past d past = ap (lists_of slot handled s) (sym (home_past d past)) ∙ back d

    pub closed_past : (d : ℕ) → length desks ≤ d → backs d stays ≡ reaches d stays
    closed_past d past =
        left_nil (backs d stays) (asides_of slot handled s aside d) (back_past d past)
        ∙ sym (left_nil (reaches d stays) (away_at d half) (gone_past d past))

    pub asides_past : (d : ℕ) → length desks ≤ d → asides_of slot handled s aside d ≡ []
    asides_past d past = right_nil (backs d stays) (asides_of slot handled s aside d) (back_past d past)

    elsewhere : (at : ℕ) (l : List I) → (length desks ≤ at → ⊥) → cond (nat_lt at (length desks)) [] (l ∷ []) ≡ []
    elsewhere at l apart = elim (nat_lt at (length desks)) as (λ b. nat_lt at (length desks) ≡ b → cond b [] (l ∷ [])
        ≡ []) [
          | true ↦ λ e. refl
          | false ↦ λ e. absurd (apart (ltb-false at (length desks) e))
        ] refl

    pub none_met : (whole : Where I) → half ≡ whole → met_from (length desks) whole ≡ []
    none_met (AtFront came) is = refl
    none_met (Here at came items) is = elsewhere at (came ++ items) (λ past.
        let none : None ≡ now_at at half = ap (now_of slot item_slot handled s) (sym (sent_past at past)) ∙ now at in
        let some : now_at at half ≡ Some (came ++ items) =
        ap (now_at at) is ∙ ap (λ b. cond b (Some (came ++ items)) None) (eq-eqb at at refl) in
        true≢false (sym (ap is_some (none ∙ some))))
    none_met (Away at came items) is = elsewhere at (came ++ items) (λ past.
        let none = right_nil (reaches at stays) (away_at at half) (gone_past at past) in
        let some : away_at at half ≡ (came ++ items) ∷ [] =
        ap (away_at at) is ∙ ap (λ b. cond b ((came ++ items) ∷ []) []) (eq-eqb at at refl) in
        let a = ap length (sym some ∙ none) in omega arith)

-- what is known as nothing is found yet
module _ {H N I : Type 0} (name : H → N) (slot_at : N → ℕ) (item_slot : I → ℕ) (handled : H → List I)
    (places : List (Option (DataPlace H I))) (aside : List (UnexpectedHalf H)) (desks : List (DataDesk H I))
    (hand : Hand H I)
    (new : IsNew hand) where
  abbrev slot : H → ℕ
  slot half = slot_at (name half)

  none_in_hand : (f : H → ℕ) → hand_sum f hand ≡ 0
  none_in_hand f =
      let a = ap (sum_by f) new.found in
      let b = ap (sum_by f) new.held in
      let c = ap (λ o. sum_by f (option_to_list o)) new.waiting in
      let d : sum_by f (halves_in (reverse hand.left.items))
      ≡ 0 = ap (λ l. sum_by f (halves_in (reverse l))) new.left in omega arith

  rest_new : (s : ℕ) → rest_at item_slot s places hand ≡ queue_at (place_at places s)
  rest_new s = λ i.
      ((lefts_at (new.lefts i) s ++ kept_in item_slot s (new.item i)) ++ items_in item_slot s (reverse (new.left i)))
      ++ queue_at (place_at places s)

  begin_slot : AllKnown slot item_slot handled places desks aside → (s : ℕ)
      → Tells slot item_slot handled s (place_at places s) desks aside
      → SlotLeft slot item_slot handled s places places aside hand [] desks []
  begin_slot known s tells =
      let knows = tells.knows in
      record {
        stays = tells.stays;
        half = tells.half;
        is = tells.is;
        chain = knows.chain;
        all = knows.all;
        gone = λ d within. knows.gone d;
        now = λ d within. knows.now d;
        back = λ d within. knows.back d;
        closed = closed_past slot item_slot handled s desks aside tells.stays tells.half knows.gone knows.now
            knows.back;
        lists = front_lists_at handled (place_at places s);
        met = λ h.
            let g : H → ℕ = λ half. h (handled half) in
            let a = fronts_here slot item_slot handled places desks aside known g s in
            let b = none_in_hand (on slot s g) in
            let c = none_aside slot item_slot handled s (length desks) g aside
            (asides_past slot item_slot handled s desks aside tells.stays tells.half knows.gone knows.now knows.back) in
            let d = front_sum slot item_slot handled h (place_at places s) in omega arith;
        come = λ h.
            let q : List I = queue_at (place_at places s) in
            let none : met_from (length desks) tells.half ≡ [] =
            none_met slot item_slot handled s desks aside tells.stays tells.half knows.gone knows.now knows.back
            tells.half refl in
            let a : sum_by (λ l. h (l ++ rest_at item_slot s places hand)) (front_lists_at handled (place_at places s))
            ≡ sum_by (λ l. h (l ++ q)) (front_lists_at handled (place_at places s)) =
            ap (λ r. sum_by (λ l. h (l ++ r)) (front_lists_at handled (place_at places s))) (rest_new s) in
            let b : sum_by (λ l. h (l ++ q)) (met_lists handled (length desks) (place_at places s) tells.half)
            ≡ sum_by (λ l. h (l ++ q)) (front_lists_at handled (place_at places s)) =
            ap (λ l. sum_by (λ x. h (x ++ q)) (front_lists_at handled (place_at places s) ++ l)) none
            ∙ ap (sum_by (λ x. h (x ++ q))) (append-nil (front_lists_at handled (place_at places s))) in omega arith;
        queued = λ some. refl;
        quiet = λ some none. rest_new s;
      }

  pub begins : AllKnown slot item_slot handled places desks aside → Balanced name places aside desks
      → IsLaid name slot_at item_slot handled places places aside hand [] desks []
  begins known balanced = record {
    names = λ h. let a = none_in_hand (λ half. h (name half)) in let b = balanced h in omega arith;
    known = λ s. ∥∥₁_map (known s) (begin_slot known s);
  }
