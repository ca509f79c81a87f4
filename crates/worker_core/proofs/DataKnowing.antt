-- What a worker knows of its halves after each step.
use Rattle.std.proofs.Common.{◌≡◌, ◌≢◌, ℕ, ◌+◌, ◌<◌, ◌≤◌, ◌^◌, Bool, true, false, true≢false, cond, List, [], ◌∷◌}
use Rattle.std.proofs.Common.{◌++◌, length, map, set, get_or, Option, Some, None, refl, sym, ap, ◌∙◌, subst, arith}
use Rattle.std.specs.Prelude.{nat_eq}
use Rattle.std.specs.List.{sum_by, remove, list_any}
use Rattle.std.specs.Option.{option_to_list, is_some}
use Rattle.std.proofs.Common.{append-nil}
use Rattle.std.proofs.lemmas.List.Sums.{sum_by-cons, sum_by_push, sum_by-remove}
use Rattle.std.proofs.lemmas.Bool.{eqb-true, eqb-false, eq-eqb, ne_eqb}
use Rattle.worker_core.specs.Names.{weight}
use Rattle.worker_core.proofs.Arrivals.{weight-push, sum_by-through}
use Rattle.worker_core.specs.declared.data_order.DataOrder.{DataOrder}
use Rattle.worker_core.specs.declared.data_order.DataOrder.TheVariants.{Arrive, Item, Leave}
use Rattle.worker_core.specs.DataOrders.{more, halves_in, stands_after, stands_from, stands, MayFollow, now_of, gone_after}
use Rattle.worker_core.specs.DataOrders.{gone_of}
use Rattle.worker_core.specs.DataPicks.{pick, lists_of, slot_sum, with_kept}
use Rattle.worker_core.specs.DataStays.{NamesKept, Holds, Sends, KeptStands}
use Rattle.worker_core.proofs.DataSlotSums.{own, foreign, count, none_found, sum-push, without_other, without, alone}
use Rattle.worker_core.proofs.DataSlotSums.{set_other, set_alone, lists-append, lists-sum}
use Rattle.worker_core.specs.DataSteps.{ChangedAt}
use Rattle.worker_core.proofs.DataChanges.{changed-map, changed_names}
use Rattle.lane_core.specs.Sequence.{Lawful}
use Rattle.lane_core.proofs.Rules.{lawful_last}
use Rattle.worker_core.proofs.DataRuns.{halves-append, now_last, gone_last, standing}

sum_by-one : {X : Type 0} (xs : List X) → sum_by (λ _. 1) xs ≡ length xs
sum_by-one [] = refl
sum_by-one {X} (x ∷ xs) =
    let one : X → ℕ = λ _. 1 in let h = sum_by-one xs in let e = sum_by-cons one x xs in omega arith

pub is_none : {X : Type 0} (o : Option X) → is_some o ≡ false → o ≡ None
is_none None e = refl
is_none (Some x) e = absurd (true≢false e)

-- an option has at most one
few_some : {X : Type 0} (o : Option X) → sum_by (λ _. 1) (option_to_list o) ≤ 1
few_some None = omega arith
few_some (Some x) = omega arith

module _ {H I N : Type 0} (name : H → N) where
  -- names
  pub names_arrive : (came : List (DataOrder H I)) (held left : List H) (half : H) → NamesKept name came held left
      → NamesKept name (came ++ Arrive half ∷ []) (held ++ half ∷ []) left
  names_arrive came held left half kept h =
      let f : H → ℕ = λ x. h (name x) in
      let e : weight name h (halves_in (came ++ Arrive half ∷ [])) ≡ weight name h (halves_in came) + h (name half) =
      ap (sum_by f) (halves-append came (Arrive half ∷ [])) ∙ sum_by_push f (halves_in came) half in
      let p = kept h in let q = weight-push name h held half in omega arith

  names_none : (came : List (DataOrder H I)) (order : DataOrder H I) (held left : List H) → halves_in (order ∷ []) ≡ []
      → NamesKept name came held left
      → NamesKept name (came ++ order ∷ []) held left
  names_none came order held left none kept h =
      ap (weight name h)
      (halves-append came (order ∷ []) ∙ ap (λ l. halves_in came ++ l) none ∙ append-nil (halves_in came)) ∙ kept h

  names_left : (came : List (DataOrder H I)) (held left : List H) (k : ℕ) (half : H) → k < length held
      → half ≡ get_or held k half
      → NamesKept name came held left → NamesKept name came (remove held k) (left ++ half ∷ [])
  names_left came held left k half within there kept h =
      let f : H → ℕ = λ x. h (name x) in
      let e = sum_by-remove f held k half within in
      let here : f (get_or held k half) ≡ h (name half) = ap f (sym there) in
      let p = kept h in let q = weight-push name h left half in omega arith

  names_same : (came : List (DataOrder H I)) (old new left : List H) → map name new ≡ map name old
      → NamesKept name came old left
      → NamesKept name came new left
  names_same came old new left same kept h =
      let e : weight name h new ≡ weight name h old =
      sum_by-through name h new ∙ ap (sum_by h) same ∙ sym (sum_by-through name h old) in
      let p = kept h in omega arith

  -- a worker that holds a half has sent home fewer than came
  pub left_few : (came : List (DataOrder H I)) (held home : List H) (half : H) → length came ≤ 2 ^ 50
      → NamesKept name came held (home ++ half ∷ [])
      → length home < 2 ^ 50
  left_few came held home half few kept =
      let one : N → ℕ = λ _. 1 in
      let p = kept one in
      let a = sum_by-one (halves_in came) in let c = sum_by-one home in
      let q = weight-push name one home half in
      let d = halves_few came in omega arith where
        halves_few : (orders : List (DataOrder H I)) → length (halves_in orders) ≤ length orders
        halves_few [] = omega arith
        halves_few (Arrive half ∷ orders) = let h = halves_few orders in omega arith
        halves_few (Item _ ∷ orders) = let h = halves_few orders in omega arith
        halves_few (Leave _ ∷ orders) = let h = halves_few orders in omega arith

module _ {H I : Type 0} (slot : H → ℕ) (item_slot : I → ℕ) (handled : H → List I) where
  abbrev now : ℕ → List (DataOrder H I) → Option (List I)
  now s came = now_of slot item_slot handled s came

  abbrev done : ℕ → (List I → ℕ) → Option I → H → ℕ
  done s h kept half = h (with_kept item_slot s kept (handled half))

  -- at most one half of a slot is held
  pub held_few : (came : List (DataOrder H I)) (held : List H) (kept : Option I) (s : ℕ)
      → Holds slot item_slot handled came held kept
      → count slot s held ≤ 1
  held_few came held kept s holds = let a = holds s (λ _. 1) in let b = few_some (now s came) in omega arith

  -- where none is held none stands there
  pub none_held : (came : List (DataOrder H I)) (held : List H) (kept : Option I) (s : ℕ)
      → Holds slot item_slot handled came held kept
      → list_any (λ half. nat_eq (slot half) s) held ≡ false → is_some (now s came) ≡ true → ⊥
  none_held came held kept s holds none some =
      let a = holds s (λ _. 1) in
      let b = none_found slot s held none in
      some_counts (now s came) some (omega arith) where
        some_counts : {X : Type 0} (o : Option X) → is_some o ≡ true → sum_by (λ _. 1) (option_to_list o) ≡ 0 → ⊥
        some_counts None some none = true≢false (sym some)
        some_counts (Some x) some none = omega arith

  -- a half came, and nothing is kept
  pub holds_arrive : (came : List (DataOrder H I)) (held : List H) (half : H)
      → Holds slot item_slot handled came held None
      → stands slot item_slot (slot half) came ≡ false
      → Holds slot item_slot handled (came ++ Arrive half ∷ []) (held ++ half ∷ []) None
  holds_arrive came held half holds free s h =
      let g : H → ℕ = done s h None in
      let a = holds s h in
      let b = sum-push slot s g held half in
      elim (nat_eq (slot half) s) as (λ t. nat_eq (slot half) s ≡ t
      → slot_sum slot s g (held ++ half ∷ []) ≡ sum_by h (option_to_list (now s (came ++ Arrive half ∷ [])))) [
        | true ↦ λ e.
            let is : slot half ≡ s = eqb-true (slot half) s e in
            let before : now s came
            ≡ None = is_none (now s came)
            (standing slot item_slot handled s came ∙ ap (λ n. stands slot item_slot n came) (sym is) ∙ free) in
            let c : now s (came ++ Arrive half ∷ []) ≡ Some (handled half) =
            now_last slot item_slot handled s came (Arrive half) ∙ ap
            (λ t. cond t (Some (handled half)) (now s came)) e in
            let d : sum_by h (option_to_list (now s (came ++ Arrive half ∷ [])))
            ≡ h (handled half) = ap (λ o. sum_by h (option_to_list o)) c ∙ (omega arith) in
            let n : sum_by h (option_to_list (now s came)) ≡ 0 = ap (λ o. sum_by h (option_to_list o)) before in
            let f = own slot s g half is in omega arith
        | false ↦ λ e.
            let c : now s (came ++ Arrive half ∷ []) ≡ now s came =
            now_last slot item_slot handled s came (Arrive half) ∙ ap
            (λ t. cond t (Some (handled half)) (now s came)) e in
            let d = ap (λ o. sum_by h (option_to_list o)) c in
            let f = foreign slot s g half (eqb-false (slot half) s e) in omega arith
      ] refl

  more_sum : (now : Option (List I)) (x : I) (h : List I → ℕ)
      → sum_by h (option_to_list (more now x)) ≡ sum_by (λ l. h (l ++ x ∷ [])) (option_to_list now)
  more_sum None x h = refl
  more_sum (Some l) x h = refl

  -- an item came, and is kept
  pub holds_item : (came : List (DataOrder H I)) (held : List H) (x : I) → Holds slot item_slot handled came held None
      → Holds slot item_slot handled (came ++ Item x ∷ []) held (Some x)
  holds_item came held x holds s h =
      let later : (t : Bool) → nat_eq (item_slot x) s ≡ t
      → slot_sum slot s (λ half. h (cond t (handled half ++ x ∷ []) (handled half))) held
      ≡ sum_by h (option_to_list (cond t (more (now s came) x) (now s came))) = elim [
        | true ↦ λ e. holds s (λ l. h (l ++ x ∷ [])) ∙ sym (more_sum (now s came) x h)
        | false ↦ λ e. holds s h
      ] in
      later (nat_eq (item_slot x) s) refl ∙ sym
      (ap (λ o. sum_by h (option_to_list o)) (now_last slot item_slot handled s came (Item x)))

  -- a half was told to leave, and nothing is kept
  pub holds_leave : (came : List (DataOrder H I)) (held : List H) (k : ℕ) (half : H) (t : ℕ) → k < length held
      → half ≡ get_or held k half → slot half ≡ t
      → Holds slot item_slot handled came held None
      → Holds slot item_slot handled (came ++ Leave t ∷ []) (remove held k) None
  holds_leave came held k half t within there is holds s h =
      let g : H → ℕ = done s h None in
      let few = held_few came held None s holds in
      elim (nat_eq t s) as (λ b. nat_eq t s ≡ b
      → slot_sum slot s g (remove held k) ≡ sum_by h (option_to_list (now s (came ++ Leave t ∷ [])))) [
        | true ↦ λ e.
            let c : now s (came ++ Leave t ∷ []) ≡ None =
            now_last slot item_slot handled s came (Leave t) ∙ ap
            (λ b. cond {A = Option (List I)} b None (now s came)) e in
            without slot s held k half within there g (is ∙ eqb-true t s e) few ∙ sym
            (ap (λ o. sum_by h (option_to_list o)) c)
        | false ↦ λ e.
            let c : now s (came ++ Leave t ∷ []) ≡ now s came =
            now_last slot item_slot handled s came (Leave t) ∙ ap
            (λ b. cond {A = Option (List I)} b None (now s came)) e in
            without_other slot s held k half within there g (λ q. eqb-false t s e (sym is ∙ q)) ∙ holds s h ∙ sym
            (ap (λ o. sum_by h (option_to_list o)) c)
      ] refl

  -- the kept item was handled by its half
  pub holds_handled : (came : List (DataOrder H I)) (held : List H) (k : ℕ) (half after : H) (x : I) → k < length held
      → half ≡ get_or held k half
      → slot half ≡ item_slot x → slot after ≡ slot half → handled after ≡ handled half ++ x ∷ []
      → Holds slot item_slot handled came held (Some x) → Holds slot item_slot handled came (set held k after) None
  holds_handled came held k half after x within there is same handles holds s h =
      let g : H → ℕ = done s h None in
      let f : H → ℕ = done s h (Some x) in
      let few = held_few came held (Some x) s holds in
      elim (nat_eq (item_slot x) s) as (λ b. nat_eq (item_slot x) s ≡ b
      → slot_sum slot s g (set held k after) ≡ sum_by h (option_to_list (now s came))) [
        | true ↦ λ e.
            let mine : slot half ≡ s = is ∙ eqb-true (item_slot x) s e in
            let a = set_alone slot s held k half within there g after mine (same ∙ mine) few in
            let b = alone slot s held k half within there f mine few in
            let c : f half
            ≡ h (handled half ++ x ∷ []) = ap (λ t. h (cond t (handled half ++ x ∷ []) (handled half))) e in
            a ∙ ap h handles ∙ sym c ∙ sym b ∙ holds s h
        | false ↦ λ e.
            let apart : slot half ≢ s = λ q. eqb-false (item_slot x) s e (sym is ∙ q) in
            let a = set_other slot s held k half within there g after apart (λ q. apart (sym same ∙ q)) in
            let b : g ≡ f = λ i half. h (cond (sym e i) (handled half ++ x ∷ []) (handled half)) in
            a ∙ ap (λ w. slot_sum slot s w held) b ∙ holds s h
      ] refl

  -- halves whose slots and lists are the same
  slot_sum_maps : (s : ℕ) (h : List I → ℕ) (old new : List H) → map slot new ≡ map slot old
      → map handled new ≡ map handled old
      → slot_sum slot s (λ half. h (handled half)) new ≡ slot_sum slot s (λ half. h (handled half)) old
  slot_sum_maps s h old new slots lists =
      sym (lists-sum slot handled s h new)
      ∙ ap (sum_by h) (λ i. pick s (slots i) (lists i))
      ∙ lists-sum slot handled s h old

  pub holds_same : (came : List (DataOrder H I)) (old new : List H) (kept : Option I) → map slot new ≡ map slot old
      → map handled new ≡ map handled old
      → Holds slot item_slot handled came old kept → Holds slot item_slot handled came new kept
  holds_same came old new kept slots lists holds s h =
      slot_sum_maps s (λ l. h (with_kept item_slot s kept l)) old new slots lists ∙ holds s h

  -- an order that sends none home
  pub sends_same : (came : List (DataOrder H I)) (order : DataOrder H I) (left : List H)
      → ((s : ℕ) (now : Option (List I)) → gone_after slot item_slot handled s now order ≡ [])
      → Sends slot item_slot handled came left
      → Sends slot item_slot handled (came ++ order ∷ []) left
  sends_same came order left none sends s h =
      sends s h ∙ sym (ap h (gone_last slot item_slot handled s came order
      ∙ ap (λ l. gone_of slot item_slot handled s came ++ l) (none s (now s came)) ∙ append-nil
      (gone_of slot item_slot handled s came)))

  -- a half left that had handled all that came for it
  pub sends_leave : (came : List (DataOrder H I)) (held left : List H) (k : ℕ) (half : H) (t : ℕ) → k < length held
      → half ≡ get_or held k half → slot half ≡ t
      → Holds slot item_slot handled came held None → Sends slot item_slot handled came left
      → Sends slot item_slot handled (came ++ Leave t ∷ []) (left ++ half ∷ [])
  sends_leave came held left k half t within there is holds sends s h =
      let gone : List (List I) = gone_of slot item_slot handled s came in
      let lists : List (List I) = lists_of slot handled s left in
      let parts : lists_of slot handled s (left ++ half ∷ []) ≡ lists
      ++ cond (nat_eq (slot half) s) (handled half ∷ []) [] =
      lists-append slot handled s left (half ∷ []) in
      let orders : gone_of slot item_slot handled s (came ++ Leave t ∷ []) ≡ gone
      ++ cond (nat_eq t s) (option_to_list (now s came)) [] =
      gone_last slot item_slot handled s came (Leave t) in
      let few = held_few came held None s holds in
      elim (nat_eq t s) as (λ b. nat_eq t s ≡ b
      → h (lists_of slot handled s (left ++ half ∷ []))
      ≡ h (gone_of slot item_slot handled s (came ++ Leave t ∷ []))) [
        | true ↦ λ e.
            let mine : slot half ≡ s = is ∙ eqb-true t s e in
            let here : (g : List I → ℕ) → g (handled half) ≡ sum_by g (option_to_list (now s came)) =
            λ g. sym (alone slot s held k half within there (λ half. g (handled half)) mine few) ∙ holds s g in
            ap h (parts ∙ ap (λ b. lists ++ cond b (handled half ∷ []) []) (eq-eqb (slot half) s mine))
            ∙ last_same (now s came) here
            ∙ sym (ap h (orders ∙ ap (λ b. gone ++ cond b (option_to_list (now s came)) []) e))
        | false ↦ λ e.
            let apart : slot half ≢ s = λ q. eqb-false t s e (sym is ∙ q) in
            ap h (parts ∙ ap (λ b. lists ++ cond b (handled half ∷ []) [])
            (ne_eqb (slot half) s apart) ∙ append-nil lists)
            ∙ sends s h
            ∙ sym (ap h (orders ∙ ap (λ b. gone ++ cond b (option_to_list (now s came)) []) e ∙ append-nil gone))
      ] refl where
        last_same : (o : Option (List I)) → ((g : List I → ℕ) → g (handled half) ≡ sum_by g (option_to_list o))
            → h (lists_of slot handled s left ++ handled half ∷ [])
            ≡ h (gone_of slot item_slot handled s came ++ option_to_list o)
        last_same None here = absurd (let a = here (λ _. 1) in omega arith)
        last_same (Some l) here =
            (let e = here (λ v. h (lists_of slot handled s left ++ v ∷ [])) in omega arith)
            ∙ sends s (λ v. h (v ++ l ∷ []))

  -- nothing is kept
  pub stands_none : (came : List (DataOrder H I)) → KeptStands slot item_slot handled came None
  stands_none came x none = absurd (let no : ⊥ = cc in no)

  -- the half of an item that came stands there
  pub stands_item : (came : List (DataOrder H I)) (x : I) → stands slot item_slot (item_slot x) came ≡ true
      → KeptStands slot item_slot handled (came ++ Item x ∷ []) (Some x)
  stands_item came x here y same =
      let is : x ≡ y = some_out x y same in
      subst (λ (z : I). is_some (now (item_slot z) (came ++ Item x ∷ [])) ≡ true) is
      (standing slot item_slot handled (item_slot x) (came ++ Item x ∷ []) ∙ still ∙ here) where
        some_out : (x y : I) → Some x ≡ Some y → x ≡ y
        some_out x y e = ap (first x) e where
          first : I → Option I → I
          first d None = d
          first d (Some z) = z

        still : stands slot item_slot (item_slot x) (came ++ Item x ∷ []) ≡ stands slot item_slot (item_slot x) came
        still = stands-append false came where
          stands-append : (b : Bool) (orders : List (DataOrder H I))
              → stands_from slot item_slot (item_slot x) b (orders ++ Item x ∷ [])
              ≡ stands_from slot item_slot (item_slot x) b orders
          stands-append b [] = refl
          stands-append b (order ∷ orders) = stands-append (stands_after slot item_slot (item_slot x) b order) orders

-- the law of the lane says what it does of other names of the slots
pub law_of : {H I : Type 0} (halves slot : H → ℕ) (items item_slot : I → ℕ) → ((x : H) → slot x ≡ halves x)
    → ((x : I) → item_slot x ≡ items x)
    → (came : List (DataOrder H I)) (order : DataOrder H I) → MayFollow halves items came order
    → MayFollow slot item_slot came order
law_of {H} {I} halves slot items item_slot alike same came order =
    subst (λ (p : (H → ℕ) × (I → ℕ)). MayFollow p.0 p.1 came order) (λ i. ((λ x. sym (alike x) i), λ x. sym (same x) i))

module _ {H I N : Type 0} (name : H → N) (slot_at : N → ℕ) (item_slot : I → ℕ) (handled : H → List I) where
  abbrev slot : H → ℕ
  slot half = slot_at (name half)

  -- what a worker knows
  abbrev pub Knows : List (DataOrder H I) → List H → Option I → List H → Type 0
  Knows came held kept left =
      NamesKept name came held left × Holds slot item_slot handled came held kept
      × Sends slot item_slot handled came left × KeptStands slot item_slot handled came kept

  pub knows_arrive : (came new : List (DataOrder H I)) (held next : List H) (kept : Option I) (left : List H) (half : H)
      → kept ≡ None
      → MayFollow slot item_slot came (Arrive half) → new ≡ came ++ Arrive half ∷ [] → next ≡ held ++ half ∷ []
      → Knows came held kept left → Knows new next kept left
  knows_arrive came new held next kept left half none law more longer knows =
      subst (λ (p : List (DataOrder H I) × List H × Option I). Knows p.0 p.1 p.2 left)
      (λ i. (sym more i, sym longer i, sym none i)) (
        names_arrive name came held left half knows.0,
        holds_arrive slot item_slot handled came held half
            (subst (Holds slot item_slot handled came held) none knows.1) law,
        sends_same slot item_slot handled came (Arrive half) left (λ s now. refl) knows.2,
        stands_none slot item_slot handled (came ++ Arrive half ∷ []),
      )

  pub knows_item : (came new : List (DataOrder H I)) (held : List H) (kept : Option I) (left : List H) (x : I)
      → kept ≡ None
      → MayFollow slot item_slot came (Item x) → new ≡ came ++ Item x ∷ [] → Knows came held kept left
      → Knows new held (Some x) left
  knows_item came new held kept left x none law more knows =
      subst (λ (l : List (DataOrder H I)). Knows l held (Some x) left) (sym more) (
        names_none name came (Item x) held left refl knows.0,
        holds_item slot item_slot handled came held x (subst (Holds slot item_slot handled came held) none knows.1),
        sends_same slot item_slot handled came (Item x) left (λ s now. refl) knows.2,
        stands_item slot item_slot handled came x law,
      )

  pub knows_leave : (came new : List (DataOrder H I)) (held next : List H) (kept : Option I) (home : List H)
      (waiting : Option H) (k : ℕ) (half : H) (t : ℕ)
      → kept ≡ None → waiting ≡ None → k < length held → half ≡ get_or held k half → slot half ≡ t
      → new ≡ came ++ Leave t ∷ [] → next ≡ remove held k
      → Knows came held kept (home ++ option_to_list waiting) → Knows new next kept (home ++ half ∷ [])
  knows_leave came new held next kept home waiting k half t none free within there is more fewer knows =
      let was : home ++ option_to_list waiting ≡ home = ap (λ o. home ++ option_to_list o) free ∙ append-nil home in
      let holds : Holds slot item_slot handled came held None = subst
      (Holds slot item_slot handled came held) none knows.1 in
      subst (λ (p : List (DataOrder H I) × List H × Option I). Knows p.0 p.1 p.2 (home ++ half ∷ []))
      (λ i. (sym more i, sym fewer i, sym none i)) (
        names_left name (came ++ Leave t ∷ []) held home k half within there
            (names_none name came (Leave t) held home refl (subst (NamesKept name came held) was knows.0)),
        holds_leave slot item_slot handled came held k half t within there is holds,
        sends_leave slot item_slot handled came held home k half t within there is holds
            (subst (Sends slot item_slot handled came) was knows.2),
        stands_none slot item_slot handled (came ++ Leave t ∷ []),
      )

  pub knows_handled : (came : List (DataOrder H I)) (held next : List H) (kept : Option I) (left : List H) (k : ℕ)
      (half after : H) (x : I)
      → kept ≡ Some x → ChangedAt name k half after held next → slot half ≡ item_slot x
      → handled after ≡ handled half ++ x ∷ []
      → Knows came held kept left → Knows came next None left
  knows_handled came held next kept left k half after x was change is handles knows = (
    names_same name came held next left (changed_names name k half after held next change) knows.0,
    subst (λ (l : List H). Holds slot item_slot handled came l None) (sym change.changed)
        (holds_handled slot item_slot handled came held k half after x change.within change.there is
        (ap slot_at change.named) handles
        (subst (Holds slot item_slot handled came held) was knows.1)),
    knows.2,
    stands_none slot item_slot handled came,
  )

  pub knows_same : (came : List (DataOrder H I)) (held next : List H) (kept : Option I) (left : List H) (k : ℕ)
      (half after : H)
      → ChangedAt name k half after held next → handled after ≡ handled half → Knows came held kept left
      → Knows came next kept left
  knows_same came held next kept left k half after change handles knows = (
    names_same name came held next left (changed_names name k half after held next change) knows.0,
    holds_same slot item_slot handled came held next kept
        (changed-map name k half after held next change slot (ap slot_at change.named))
        (changed-map name k half after held next change handled handles) knows.1,
    knows.2,
    knows.3,
  )

  -- the half of a kept item is held
  pub kept_found : (came : List (DataOrder H I)) (held : List H) (kept : Option I) (left : List H) (x : I)
      → kept ≡ Some x → Knows came held kept left
      → list_any (λ half. nat_eq (slot half) (item_slot x)) held ≡ false → ⊥
  kept_found came held kept left x was knows none = none_held slot item_slot handled came held kept
      (item_slot x) knows.1 none (knows.3 x was)

  -- the half that is told to leave is held
  pub leaving_found : (came : List (DataOrder H I)) (held : List H) (kept : Option I) (left : List H) (t : ℕ)
      → MayFollow slot item_slot came (Leave t)
      → Knows came held kept left → list_any (λ half. nat_eq (slot half) t) held ≡ false → ⊥
  leaving_found came held kept left t law knows none =
      none_held slot item_slot handled came held kept t knows.1 none (standing slot item_slot handled t came ∙ law)

  -- those that left are the same, in the lane home or waiting
  pub knows_left : (came : List (DataOrder H I)) (held : List H) (kept : Option I) (left new : List H) → new ≡ left
      → Knows came held kept left
      → Knows came held kept new
  knows_left came held kept left new same knows = subst (Knows came held kept) (sym same) knows

-- the half that waited stands in the lane home
pub left_home : {H : Type 0} (home new : List H) (waiting : Option H) (half : H) → waiting ≡ Some half
    → new ≡ home ++ half ∷ []
    → new ++ [] ≡ home ++ option_to_list waiting
left_home home new waiting half was more = append-nil new ∙ more ∙ ap (λ o. home ++ option_to_list o) (sym was)

module _ {H I N : Type 0} (name : H → N) (slot_at : N → ℕ) (item_slot : I → ℕ) (handled : H → List I) where
  -- the lists are those they were
  pub knows_lists : (came new : List (DataOrder H I)) (held next : List H) (kept : Option I) (left : List H)
      → new ≡ came → next ≡ held
      → Knows name slot_at item_slot handled came held kept left
      → Knows name slot_at item_slot handled new next kept left
  knows_lists came new held next kept left same alike knows =
      subst (λ (p : List (DataOrder H I) × List H). Knows name slot_at item_slot handled p.0 p.1 kept left)
      (λ i. (sym same i, sym alike i)) knows

-- the last of the orders that were taken follows those before it
pub law_last : {H I : Type 0} (halves slot : H → ℕ) (items item_slot : I → ℕ) → ((x : H) → slot x ≡ halves x)
    → ((x : I) → item_slot x ≡ items x)
    → (came new : List (DataOrder H I)) (order : DataOrder H I) → new ≡ came ++ order ∷ []
    → Lawful (MayFollow halves items) new → MayFollow slot item_slot came order
law_last halves slot items item_slot alike same came new order more lawful =
    law_of halves slot items item_slot alike same came order
    (lawful_last (MayFollow halves items) came order (subst (Lawful (MayFollow halves items)) more lawful))

-- a search for halves of a slot that found none
pub none_among : {H : Type 0} (halves slot : H → ℕ) → ((x : H) → slot x ≡ halves x) → (s t : ℕ) (xs ys : List H)
    → ys ≡ xs → t ≡ s
    → list_any (λ half. nat_eq (halves half) t) ys ≡ false → list_any (λ half. nat_eq (slot half) s) xs ≡ false
none_among halves slot alike s t xs ys same is none =
    (λ i. list_any (λ half. nat_eq (alike half i) (sym is i)) (sym same i)) ∙ none

-- the slot of the half that was found
pub found_slot : {H : Type 0} (halves slot : H → ℕ) → ((x : H) → slot x ≡ halves x)
    → (s t : ℕ) (xs ys : List H) (k : ℕ) (x : H) → x ≡ get_or xs k x → ys ≡ xs
    → t ≡ s → ((none : H) → halves (get_or ys k none) ≡ t) → slot x ≡ s
found_slot halves slot alike s t xs ys k x there same is found =
    alike x ∙ ap halves there ∙ ap (λ l. halves (get_or l k x)) (sym same) ∙ found x ∙ is
