-- What is known of one slot after each step.
use Rattle.std.proofs.Common.{◌≡◌, ◌≢◌, ℕ, true, false, cond, List, [], ◌∷◌, ◌++◌, Option, Some, None, refl, sym, ap}
use Rattle.std.proofs.Common.{◌∙◌, subst, append_assoc, append-nil}
use Rattle.std.specs.Prelude.{nat_eq}
use Rattle.std.specs.Option.{option_to_list, is_some}
use Rattle.std.proofs.lemmas.Bool.{eqb-true, eqb-false, eq-eqb, ne_eqb}
use Rattle.worker_core.specs.declared.data_order.DataOrder.{DataOrder}
use Rattle.worker_core.specs.declared.data_order.DataOrder.TheVariants.{Arrive, Item, Leave}
use Rattle.worker_core.specs.DataOrders.{more, stands, now_after, now_of, gone_after, gone_of}
use Rattle.worker_core.specs.DataPicks.{lists_of}
use Rattle.worker_core.proofs.DataRuns.{now_last, gone_last, standing}
use Rattle.worker_core.proofs.DataSlotSums.{lists-append}
use Rattle.migration.specs.DataStays.{Stay, Where, AtFront, Here, Away, reach, reaches, backs, stay_items, Chain}
use Rattle.migration.specs.DataStays.{since_of, now_at, away_at, Owned, SlotKnows}
use Rattle.worker_core.proofs.AtDesks.{OneMore, OneHome}

-- a fact at one index and at all others
pub by_index : (P : ℕ → Type 0) (e : ℕ) → P e → ((d : ℕ) → d ≢ e → P d) → (d : ℕ) → P d
by_index P e here others d = elim (nat_eq d e) as (λ b. nat_eq d e ≡ b → P d) [
  | true ↦ λ is. subst P (sym (eqb-true d e is)) here
  | false ↦ λ isnt. others d (eqb-false d e isnt)
] refl

module _ {I : Type 0} where
  reaches-push : (d : ℕ) (stays : List (Stay I)) (y : Stay I)
      → reaches d (stays ++ y ∷ []) ≡ reaches d stays ++ cond (nat_eq y.at d) (reach y ∷ []) []
  reaches-push d [] y = refl
  reaches-push d (x ∷ stays) y = elim (nat_eq x.at d) as (λ b. cond b (reach x ∷ reaches d (stays ++ y ∷ []))
      (reaches d (stays ++ y ∷ []))
      ≡ cond b (reach x ∷ reaches d stays) (reaches d stays) ++ cond (nat_eq y.at d) (reach y ∷ []) []) [
        | true ↦ ap (λ l. reach x ∷ l) (reaches-push d stays y)
        | false ↦ reaches-push d stays y
      ]

  backs-push : (d : ℕ) (stays : List (Stay I)) (y : Stay I) → backs d (stays ++ y ∷ []) ≡ backs d stays ++ cond
      (nat_eq y.at d) (y.back ∷ []) []
  backs-push d [] y = refl
  backs-push d (x ∷ stays) y = elim (nat_eq x.at d) as (λ b. cond b (x.back ∷ backs d (stays ++ y ∷ []))
      (backs d (stays ++ y ∷ []))
      ≡ cond b (x.back ∷ backs d stays) (backs d stays) ++ cond (nat_eq y.at d) (y.back ∷ []) []) [
        | true ↦ ap (λ l. x.back ∷ l) (backs-push d stays y)
        | false ↦ backs-push d stays y
      ]

  items-push : (stays : List (Stay I)) (y : Stay I) → stay_items (stays ++ y ∷ []) ≡ stay_items stays ++ y.items
  items-push [] y = append-nil y.items
  items-push (x ∷ stays) y = ap (λ l. x.items ++ l) (items-push stays y)
      ∙ sym (append_assoc x.items (stay_items stays) y.items)

  chain-push : (first : List I) (stays : List (Stay I)) (y : Stay I) (last : List I) → Chain first stays last
      → y.came ≡ last → Chain first (stays ++ y ∷ []) y.back
  chain-push first [] y last chain came = (came ∙ sym chain, refl)
  chain-push first (x ∷ stays) y last chain came = (chain.0, chain-push x.back stays y last chain.1 came)

module _ {I : Type 0} (item_slot : I → ℕ) (s : ℕ) where
  pub owned_push : (queue : List I) (x : I) → Owned item_slot s queue → item_slot x ≡ s
      → Owned item_slot s (queue ++ x ∷ [])
  owned_push [] x own is = (is, tt)
  owned_push (y ∷ queue) x own is = (own.0, owned_push queue x own.1 is)

module _ {H I : Type 0} (slot : H → ℕ) (item_slot : I → ℕ) (handled : H → List I) (s : ℕ) where
  -- an order changes nothing of the slot
  abbrev pub Foreign : DataOrder H I → Type 0
  Foreign order = (now : Option (List I)) → (now_after slot item_slot handled s now order ≡ now)
      × (gone_after slot item_slot handled s now order ≡ [])

  pub foreign_arrive : (half : H) → slot half ≢ s → Foreign (Arrive half)
  foreign_arrive half apart now = (ap (λ b. cond b (Some (handled half)) now) (ne_eqb (slot half) s apart), refl)

  pub foreign_item : (x : I) → item_slot x ≢ s → Foreign (Item x)
  foreign_item x apart now = (ap (λ b. cond b (more now x) now) (ne_eqb (item_slot x) s apart), refl)

  pub foreign_leave : (t : ℕ) → t ≢ s → Foreign (Leave t)
  foreign_leave t apart now = (
    ap (λ b. cond {A = Option (List I)} b None now) (ne_eqb t s apart),
    ap
        (λ b. cond b (option_to_list now) []) (ne_eqb t s apart),
  )

  module _ (e : ℕ) (order : DataOrder H I) (orders new : ℕ → List (DataOrder H I))
      (one : OneMore e order orders new) where
    now_here : now_of slot item_slot handled s (new e) ≡ now_after slot item_slot handled s
        (now_of slot item_slot handled s (orders e)) order
    now_here = ap (now_of slot item_slot handled s) one.here ∙ now_last slot item_slot handled s (orders e) order

    gone_here : gone_of slot item_slot handled s (new e)
        ≡ gone_of slot item_slot handled s (orders e) ++ gone_after slot item_slot handled s
        (now_of slot item_slot handled s (orders e)) order
    gone_here = ap (gone_of slot item_slot handled s) one.here ∙ gone_last slot item_slot handled s (orders e) order

    pub now_foreign : Foreign order → (d : ℕ) → now_of slot item_slot handled s (new d) ≡ now_of slot item_slot
        handled s (orders d)
    now_foreign foreign = by_index (λ d. now_of slot item_slot handled s (new d) ≡ now_of slot item_slot handled s
        (orders d)) e
        (now_here ∙ (foreign (now_of slot item_slot handled s (orders e))).0)
        (λ d apart. ap (now_of slot item_slot handled s) (one.others d apart))

    pub gone_foreign : Foreign order → (d : ℕ) → gone_of slot item_slot handled s (new d) ≡ gone_of slot item_slot
        handled s (orders d)
    gone_foreign foreign = by_index (λ d. gone_of slot item_slot handled s (new d) ≡ gone_of slot item_slot handled
        s (orders d)) e
        (gone_here ∙ ap (λ l. gone_of slot item_slot handled s (orders e) ++ l)
        (foreign (now_of slot item_slot handled s (orders e))).1
        ∙ append-nil (gone_of slot item_slot handled s (orders e)))
        (λ d apart. ap (gone_of slot item_slot handled s) (one.others d apart))

  pub lists_foreign : (e : ℕ) (half : H) (homes new : ℕ → List H) → OneHome e half homes new → slot half ≢ s
      → (d : ℕ) → lists_of slot handled s (new d) ≡ lists_of slot handled s (homes d)
  lists_foreign e half homes new one apart = by_index (λ d. lists_of slot handled s (new d) ≡ lists_of slot handled
      s (homes d)) e
      (ap (lists_of slot handled s) one.here ∙ lists-append slot handled s (homes e) (half ∷ [])
      ∙ ap (λ b. lists_of slot handled s (homes e) ++ cond b (handled half ∷ []) []) (ne_eqb (slot half) s apart)
      ∙ append-nil (lists_of slot handled s (homes e)))
      (λ d other. ap (lists_of slot handled s) (one.others d other))

  lists_own : (e : ℕ) (half : H) (homes new : ℕ → List H) → OneHome e half homes new → slot half ≡ s
      → lists_of slot handled s (new e) ≡ lists_of slot handled s (homes e) ++ handled half ∷ []
  lists_own e half homes new one is =
      ap (lists_of slot handled s) one.here ∙ lists-append slot handled s (homes e) (half ∷ [])
      ∙ ap (λ b. lists_of slot handled s (homes e) ++ cond b (handled half ∷ []) []) (eq-eqb (slot half) s is)

  abbrev pub Known : (ℕ → List (DataOrder H I)) → (ℕ → List H) → (ℕ → List (List I)) → List (Stay I) → Where I
      → List I → List I → Type 0
  Known orders homes asides stays half queue accepted = SlotKnows slot item_slot handled s orders homes asides
      stays half queue accepted

  -- nothing of the slot changed
  pub knows_same : (orders new : ℕ → List (DataOrder H I)) (homes later : ℕ → List H) (asides now : ℕ
      → List (List I)) (stays : List (Stay I)) (half : Where I) (queue accepted : List I)
      → ((d : ℕ) → now_of slot item_slot handled s (new d) ≡ now_of slot item_slot handled s (orders d))
      → ((d : ℕ) → gone_of slot item_slot handled s (new d) ≡ gone_of slot item_slot handled s (orders d))
      → ((d : ℕ) → lists_of slot handled s (later d) ≡ lists_of slot handled s (homes d)) → ((d : ℕ)
      → now d ≡ asides d)
      → Known orders homes asides stays half queue accepted → Known new later now stays half queue accepted
  knows_same orders new homes later asides now stays half queue accepted nows gones lists kept k = record {
    gone = λ d. gones d ∙ k.gone d;
    now = λ d. nows d ∙ k.now d;
    back = λ d. lists d ∙ k.back d ∙ ap (λ l. backs d stays ++ l) (sym (kept d));
    chain = k.chain;
    all = k.all;
    own = k.own;
  }

  -- before anything
  pub knows_nothing : (orders : ℕ → List (DataOrder H I)) (homes : ℕ → List H) (asides : ℕ → List (List I))
      → ((d : ℕ) → orders d ≡ []) → ((d : ℕ) → homes d ≡ [])
      → ((d : ℕ) → asides d ≡ []) → Known orders homes asides [] (AtFront []) [] []
  knows_nothing orders homes asides none empty quiet = record {
    gone = λ d. ap (gone_of slot item_slot handled s) (none d);
    now = λ d. ap (now_of slot item_slot handled s) (none d);
    back = λ d. ap (lists_of slot handled s) (empty d) ∙ sym (quiet d);
    chain = refl;
    all = refl;
    own = tt;
  }

  -- the half was put into the lane of a slice
  pub knows_arrive : (e : ℕ) (half : H) (orders new : ℕ → List (DataOrder H I)) (homes : ℕ → List H) (asides : ℕ
      → List (List I)) (stays : List (Stay I))
      (came queue accepted : List I) → slot half ≡ s → handled half ≡ came → OneMore e (Arrive half) orders new
      → Known orders homes asides stays (AtFront came) queue accepted
      → Known new homes asides stays (Here e came []) queue accepted
  knows_arrive e half orders new homes asides stays came queue accepted is handles one k = record {
    gone = by_index (λ d. gone_of slot item_slot handled s (new d) ≡ reaches d stays ++ []) e
        (gone_here e (Arrive half) orders new one ∙ append-nil (gone_of slot item_slot handled s (orders e))
        ∙ k.gone e)
        (λ d apart. ap (gone_of slot item_slot handled s) (one.others d apart) ∙ k.gone d);
    now = by_index (λ d. now_of slot item_slot handled s (new d) ≡ now_at d (Here e came [])) e
        (now_here e (Arrive half) orders new one ∙ ap (λ b. cond b (Some (handled half))
        (now_of slot item_slot handled s (orders e))) (eq-eqb (slot half) s is)
        ∙ ap Some (handles ∙ sym (append-nil came)) ∙ ap (λ b. cond {A = Option (List I)} b (Some (came ++ []))
        None) (sym (eq-eqb e e refl)))
        (λ d apart. ap (now_of slot item_slot handled s) (one.others d apart) ∙ k.now d
        ∙ ap (λ b. cond {A = Option (List I)} b (Some (came ++ [])) None) (sym (ne_eqb e d (λ q. apart (sym q)))));
    back = k.back;
    chain = k.chain;
    all = k.all;
    own = k.own;
  }

  -- the first item of the queue was put after it
  pub knows_item : (e : ℕ) (x : I) (orders new : ℕ → List (DataOrder H I)) (homes : ℕ → List H) (asides : ℕ
      → List (List I)) (stays : List (Stay I))
      (came items queue accepted : List I) → OneMore e (Item x) orders new
      → Known orders homes asides stays (Here e came items) (x ∷ queue) accepted
      → Known new homes asides stays (Here e came (items ++ x ∷ [])) queue accepted
  knows_item e x orders new homes asides stays came items queue accepted one k =
      let is : item_slot x ≡ s = k.own.0 in
      record {
        gone = by_index (λ d. gone_of slot item_slot handled s (new d) ≡ reaches d stays ++ []) e
            (gone_here e (Item x) orders new one ∙ append-nil (gone_of slot item_slot handled s (orders e))
            ∙ k.gone e)
            (λ d apart. ap (gone_of slot item_slot handled s) (one.others d apart) ∙ k.gone d);
        now = by_index (λ d. now_of slot item_slot handled s (new d) ≡ now_at d (Here e came (items ++ x ∷ []))) e
            (now_here e (Item x) orders new one
            ∙ ap (λ b. cond b (more (now_of slot item_slot handled s (orders e)) x)
            (now_of slot item_slot handled s (orders e))) (eq-eqb (item_slot x) s is)
            ∙ ap (λ o. more o x) (k.now e ∙ ap (λ b. cond {A = Option (List I)} b (Some (came ++ items)) None)
            (eq-eqb e e refl))
            ∙ ap Some (append_assoc came items (x ∷ []))
            ∙ ap (λ b. cond {A = Option (List I)} b (Some (came ++ (items ++ x ∷ []))) None) (sym (eq-eqb e e refl)))
            (λ d apart. ap (now_of slot item_slot handled s) (one.others d apart) ∙ k.now d
            ∙ ap (λ b. cond {A = Option (List I)} b (Some (came ++ items)) None) (ne_eqb e d (λ q. apart (sym q)))
            ∙ ap (λ b. cond {A = Option (List I)} b (Some (came ++ (items ++ x ∷ []))) None)
            (sym (ne_eqb e d (λ q. apart (sym q)))));
        back = k.back;
        chain = k.chain;
        all = k.all ∙ sym (ap (λ l. l ++ queue) (sym (append_assoc (stay_items stays) items (x ∷ [])))
            ∙ append_assoc (stay_items stays ++ items) (x ∷ []) queue);
        own = k.own.1;
      }

  -- it was told to leave
  pub knows_leave : (e : ℕ) (orders new : ℕ → List (DataOrder H I)) (homes : ℕ → List H) (asides : ℕ
      → List (List I)) (stays : List (Stay I))
      (came items queue accepted : List I) → OneMore e (Leave s) orders new
      → Known orders homes asides stays (Here e came items) queue accepted
      → Known new homes asides stays (Away e came items) queue accepted
  knows_leave e orders new homes asides stays came items queue accepted one k =
      let stood : now_of slot item_slot handled s (orders e) ≡ Some (came ++ items) =
      k.now e ∙ ap (λ b. cond {A = Option (List I)} b (Some (came ++ items)) None) (eq-eqb e e refl) in
      record {
        gone = by_index (λ d. gone_of slot item_slot handled s (new d) ≡ reaches d stays ++ away_at d
            (Away e came items)) e
            (gone_here e (Leave s) orders new one
            ∙ (λ i. (k.gone e ∙ append-nil (reaches e stays)) i ++ cond (eq-eqb s s refl i)
            (option_to_list (stood i)) [])
            ∙ ap (λ b. reaches e stays ++ cond b ((came ++ items) ∷ []) []) (sym (eq-eqb e e refl)))
            (λ d apart. ap (gone_of slot item_slot handled s) (one.others d apart) ∙ k.gone d
            ∙ ap (λ b. reaches d stays ++ cond b ((came ++ items) ∷ []) []) (sym (ne_eqb e d (λ q. apart (sym q)))));
        now = by_index (λ d. now_of slot item_slot handled s (new d) ≡ None) e
            (now_here e (Leave s) orders new one ∙ ap (λ b. cond {A = Option (List I)} b None
            (now_of slot item_slot handled s (orders e))) (eq-eqb s s refl))
            (λ d apart. ap (now_of slot item_slot handled s) (one.others d apart) ∙ k.now d
            ∙ ap (λ b. cond {A = Option (List I)} b (Some (came ++ items)) None) (ne_eqb e d (λ q. apart (sym q))));
        back = k.back;
        chain = k.chain;
        all = k.all;
        own = k.own;
      }

  -- it came home
  pub knows_home : (e : ℕ) (half : H) (orders : ℕ → List (DataOrder H I)) (homes new : ℕ → List H) (asides : ℕ
      → List (List I)) (stays : List (Stay I))
      (came items queue accepted : List I) → slot half ≡ s → OneHome e half homes new → asides e ≡ []
      → Known orders homes asides stays (Away e came items) queue accepted
      → Known orders new asides (stays ++ (record {
        at = e;
        came = came;
        items = items;
        back = handled
            half;
      }) ∷ []) (AtFront (handled half)) queue accepted
  knows_home e half orders homes new asides stays came items queue accepted is one quiet k =
      let y : Stay I = record { at = e; came = came; items = items; back = handled half } in
      record {
        gone = λ d. k.gone d ∙ sym (reaches-push d stays y) ∙ sym (append-nil (reaches d (stays ++ y ∷ [])));
        now = k.now;
        back = by_index (λ d. lists_of slot handled s (new d) ≡ backs d (stays ++ y ∷ []) ++ asides d) e
            (lists_own e half homes new one is
            ∙ ap (λ l. l ++ handled half ∷ []) (k.back e ∙ ap (λ l. backs e stays ++ l) quiet
            ∙ append-nil (backs e stays))
            ∙ ap (λ b. backs e stays ++ cond b (handled half ∷ []) []) (sym (eq-eqb e e refl))
            ∙ sym (ap (λ l. backs e (stays ++ y ∷ []) ++ l) quiet ∙ append-nil (backs e (stays ++ y ∷ []))
            ∙ backs-push e stays y))
            (λ d apart. ap (lists_of slot handled s) (one.others d apart) ∙ k.back d
            ∙ ap (λ l. l ++ asides d) (sym (backs-push d stays y
            ∙ ap (λ b. backs d stays ++ cond b (handled half ∷ []) []) (ne_eqb e d (λ q. apart (sym q)))
            ∙ append-nil (backs d stays))));
        chain = chain-push [] stays y came k.chain refl;
        all = k.all ∙ ap (λ l. l ++ queue) (sym (items-push stays y)
            ∙ sym (append-nil (stay_items (stays ++ y ∷ []))));
        own = k.own;
      }

  -- one came home that nobody awaits
  pub knows_aside : (e : ℕ) (half : H) (orders : ℕ → List (DataOrder H I)) (homes new : ℕ
      → List H) (asides now : ℕ → List (List I)) (stays : List (Stay I))
      (place : Where I) (queue accepted : List I) → slot half ≡ s → OneHome e half homes new
      → now e ≡ asides e ++ handled half ∷ []
      → ((d : ℕ) → d ≢ e → now d ≡ asides d) → Known orders homes asides stays place queue accepted
      → Known orders new now stays place queue accepted
  knows_aside e half orders homes new asides now stays place queue accepted is one here others k = record {
    gone = k.gone;
    now = k.now;
    back = by_index (λ d. lists_of slot handled s (new d) ≡ backs d stays ++ now d) e
        (lists_own e half homes new one is ∙ ap (λ l. l ++ handled half ∷ []) (k.back e)
        ∙ append_assoc (backs e stays) (asides e) (handled half ∷ [])
        ∙ ap (λ l. backs e stays ++ l) (sym here))
        (λ d apart. ap (lists_of slot handled s) (one.others d apart) ∙ k.back d
        ∙ ap (λ l. backs d stays ++ l) (sym (others d apart)));
    chain = k.chain;
    all = k.all;
    own = k.own;
  }

  -- an item was accepted
  pub knows_parked : (x : I) (orders : ℕ → List (DataOrder H I)) (homes : ℕ → List H) (asides : ℕ
      → List (List I)) (stays : List (Stay I)) (half : Where I)
      (queue accepted : List I) → item_slot x ≡ s → Known orders homes asides stays half queue accepted
      → Known orders homes asides stays half (queue ++ x ∷ []) (accepted ++ x ∷ [])
  knows_parked x orders homes asides stays half queue accepted is k = record {
    gone = k.gone;
    now = k.now;
    back = k.back;
    chain = k.chain;
    all = ap (λ l. l ++ x ∷ []) k.all ∙ append_assoc (stay_items stays ++ since_of half) queue (x ∷ []);
    own = owned_push item_slot s queue x k.own is;
  }

  -- where the half is at the front or away none of the slot stands at a slice
  pub stands_none : (orders : ℕ → List (DataOrder H I)) (homes : ℕ → List H) (asides : ℕ
      → List (List I)) (stays : List (Stay I)) (half : Where I) (queue accepted : List I)
      (d : ℕ) → now_at d half ≡ None → Known orders homes asides stays half queue accepted
      → stands slot item_slot s (orders d) ≡ false
  stands_none orders homes asides stays half queue accepted d none k = sym
      (standing slot item_slot handled s (orders d)) ∙ ap is_some (k.now d ∙ none)

  pub stands_here : (e : ℕ) (orders : ℕ → List (DataOrder H I)) (homes : ℕ → List H) (asides : ℕ
      → List (List I)) (stays : List (Stay I)) (came items queue accepted : List I)
      → Known orders homes asides stays (Here e came items) queue accepted → stands slot item_slot s (orders e) ≡ true
  stands_here e orders homes asides stays came items queue accepted k =
      sym (standing slot item_slot handled s (orders e))
      ∙ ap is_some (k.now e ∙ ap (λ b. cond {A = Option (List I)} b (Some (came ++ items)) None) (eq-eqb e e refl))
