-- Steps of pumping, and that they compose.
use Rattle.std.proofs.Common.{◌≡◌, ℕ, ◌<◌, ◌≤◌, ◌⊎◌, inl, inr, Bool, true, false, true≢false, List, [], ◌∷◌, ◌++◌}
use Rattle.std.proofs.Common.{length, map, set, get_or, refl, sym, ap, ◌∙◌, subst, arith, append-nil, append_assoc}
use Rattle.std.specs.Prelude.{nat_eq, Option, Some, None}
use Rattle.std.proofs.lemmas.List.{map-set, length-map, get_or-map, get_or-set_same, get_or-set_other, set-get_or}
use Rattle.std.proofs.lemmas.List.Elements.{All-nil, All-push, All-append, All-weaker}
use borrow.Author.Tests.{eqb-true, eqb-false}
use Rattle.lane_core.specs.Ends.{sent}
use Rattle.worker_core.specs.Desks.{Desk}
use Rattle.worker_core.specs.declared.order.Order.{Order}
use Rattle.worker_core.specs.declared.order.Order.TheVariants.{Arrive, Leave}
use Rattle.migration.specs.declared.place.ControlPlace.{ControlPlace}
use Rattle.migration.specs.declared.place.ControlState.{ControlState}
use Rattle.migration.specs.declared.place.ControlState.TheVariants.{Front, Placed, Recall, Leaving}
use Rattle.worker_core.specs.Desks.{Given, Refused, Taken, Empty}
use Rattle.migration.specs.Places.{place_at, hop_at, is_leaving}
use Rattle.migration.specs.Steps.{Serves, PlaceServed, ServedAt, Welcomes}
use Rattle.migration.specs.Passes.{stage, stage_at, Unawaited, IsRecall, IsRecallAt, Falls, sent_at, Lawful, Gave}
use Rattle.migration.specs.Passes.{Passes}
use Rattle.worker_core.proofs.AtDesks.{changed_map}

module _ {H : Type 0} where
  pub falls_same : (place : Option (ControlPlace H)) → Falls place place
  falls_same place = (omega arith, (λ slice until is. is), refl)

  falls_then : (a b c : Option (ControlPlace H)) → Falls a b → Falls b c → Falls a c
  falls_then a b c first second = (
    (let x = first.0 in let y = second.0 in omega arith),
    (λ slice until is. first.1 slice until (second.1 slice until is)),
    second.2 ∙ first.2,
  )

  -- no other place changed
  falls_set : (places : List (Option (ControlPlace H))) (slot : ℕ) (place : Option (ControlPlace H)) → slot < length places
      → Falls (place_at places slot) place
      → (k : ℕ) → Falls (place_at places k) (place_at (set places slot place) k)
  falls_set places slot place within falls k = elim (nat_eq k slot) as (λ b. nat_eq k slot ≡ b
      → Falls (place_at places k) (place_at (set places slot place) k)) [
        | true ↦ λ e. subst (λ (n : ℕ). Falls (place_at places n) (place_at (set places slot place) n))
            (sym (eqb-true k slot e))
            (subst (Falls (place_at places slot)) (sym (get_or-set_same places slot place None within)) falls)
        | false ↦ λ e. subst (Falls (place_at places k)) (sym
            (get_or-set_other places slot k place None (eqb-false k slot e))) (falls_same (place_at places k))
      ] refl

  -- a half that isn't awaited
  pub not_leaving : (state : ControlState H) → is_leaving state ≡ false → (stage state ≡ 0) ⊎ (2 ≤ stage state)
  not_leaving (Front half to) not = inl refl
  not_leaving (Placed at) not = inl refl
  not_leaving (Recall at until to) not = inr (omega arith)
  not_leaving (Leaving from to) not = absurd (true≢false not)

module _ {H : Type 0} (slot_of hop_of : H → ℕ) where
  gave_none : (places : List (Option (ControlPlace H))) (slice : ℕ) (before now : List (Order H)) → now ≡ before
      → Gave slot_of hop_of places slice before now
  gave_none places slice before now same =
      ([], same ∙ sym (append-nil before), All-nil (Lawful slot_of hop_of places slice))

  lawful_since : (places new : List (Option (ControlPlace H)))
      → ((slot : ℕ) → Falls (place_at places slot) (place_at new slot)) → (slice : ℕ) (order : Order H)
      → Lawful slot_of hop_of new slice order → Lawful slot_of hop_of places slice order
  lawful_since places new falls slice (Arrive half) lawful = lawful ∙ (falls (slot_of half)).2
  lawful_since places new falls slice (Leave slot until) lawful = (falls slot).1 slice until lawful

module _ {H : Type 0} (slot_of hop_of : H → ℕ) where
  -- one after another
  pub passes_then : (p0 p1 p2 : List (Option (ControlPlace H))) (a0 a1 a2 : List H) (d0 d1 d2 : List (Desk H))
      → Passes slot_of hop_of p0 p1 a0 a1 d0 d1 → Passes slot_of hop_of p1 p2 a1 a2 d1 d2
      → Passes slot_of hop_of p0 p2 a0 a2 d0 d2
  passes_then p0 p1 p2 a0 a1 a2 d0 d1 d2 first second =
      let Fits : List (Option (ControlPlace H)) → List (Option (ControlPlace H)) → H → Type 0 =
      λ old new half. (stage_at (place_at new (slot_of half)) ≡ 0) ⊎ (2 ≤ stage_at (place_at old (slot_of half))) in
      record {
        falls = λ slot. falls_then (place_at p0 slot) (place_at p1 slot) (place_at p2 slot) (first.falls slot)
            (second.falls slot);
        more = first.more ++ second.more;
        kept = second.kept ∙ ap (λ l. l ++ second.more) first.kept ∙ append_assoc a0 first.more second.more;
        unawaited = All-append (Fits p0 p2) first.more second.more
            (All-weaker (Fits p0 p1) (Fits p0 p2) (λ half fits. elim fits [
              | inl home ↦ inl (let a = (second.falls (slot_of half)).0 in omega arith)
              | inr far ↦ inr far
            ]) first.more first.unawaited)
            (All-weaker (Fits p1 p2) (Fits p0 p2) (λ half fits. elim fits [
              | inl home ↦ inl home
              | inr far ↦ inr (let a = (first.falls (slot_of half)).0 in omega arith)
            ]) second.more second.unawaited);
        orders = λ slice. let a = first.orders slice in let b = second.orders slice in (
          a.0 ++ b.0,
          b.1 ∙ ap (λ l. l ++ b.0) a.1 ∙ append_assoc (sent_at d0 slice) a.0 b.0,
          All-append (Lawful slot_of hop_of p0 slice) a.0 b.0 a.2
              (All-weaker (Lawful slot_of hop_of p1 slice) (Lawful slot_of hop_of p0 slice)
              (lawful_since slot_of hop_of p0 p1 first.falls slice) b.0 b.2),
        );
      }

  -- neither places nor what is aside nor orders changed
  pub passes_same : (places new : List (Option (ControlPlace H))) (aside new_aside : List H) (desks now : List (Desk H))
      → new ≡ places → new_aside ≡ aside
      → ((slice : ℕ) → sent_at now slice ≡ sent_at desks slice)
      → Passes slot_of hop_of places new aside new_aside desks now
  passes_same places new aside new_aside desks now same alike orders = record {
    falls = λ slot. subst (λ (l : List (Option (ControlPlace H))). Falls (place_at places slot) (place_at l slot))
        (sym same) (falls_same (place_at places slot));
    more = [];
    kept = alike ∙ sym (append-nil aside);
    unawaited = All-nil (λ half. (stage_at (place_at new (slot_of half)) ≡ 0)
        ⊎ (2 ≤ stage_at (place_at places (slot_of half))));
    orders = λ slice. gave_none slot_of hop_of places slice (sent_at desks slice) (sent_at now slice) (orders slice);
  }

  -- none came home
  pub passes_empty : (slice : ℕ) (places : List (Option (ControlPlace H))) (aside : List H) (desks now : List (Desk H))
      → Empty slice desks now
      → Passes slot_of hop_of places places aside aside desks now
  passes_empty slice places aside desks now none = passes_same places places aside aside desks now refl refl
      (λ other. ap (λ l. get_or l other []) (changed_map slice none.before none.now desks now none.desk
      (λ (desk : Desk H). sent desk.orders) (ap sent none.orders)))

  -- a half came home
  pub passes_home : (slice slot : ℕ) (half : H) (place : Option (ControlPlace H)) (places new : List (Option (ControlPlace H)))
      (aside : List H) (desks now : List (Desk H))
      → Taken slice half desks now → slot < length places → new ≡ set places slot place
      → Welcomes half (place_at places slot) place None
      → Passes slot_of hop_of places new aside aside desks now
  passes_home slice slot half place places new aside desks now took within is welcomes = record {
    falls = λ k. subst (λ (l : List (Option (ControlPlace H))). Falls (place_at places k) (place_at l k)) (sym is)
        (falls_set places slot place within (
          (let a = ap stage_at welcomes.3 ∙ ap stage welcomes.6.3 in omega arith),
          (λ at until told. absurd (subst (IsRecall at until) welcomes.6.3
              (subst (IsRecallAt at until) welcomes.3 told))),
          ap hop_at welcomes.3 ∙ welcomes.4 ∙ sym (ap hop_at welcomes.2),
        ) k);
    more = [];
    kept = sym (append-nil aside);
    unawaited = All-nil (λ half. (stage_at (place_at new (slot_of half)) ≡ 0)
        ⊎ (2 ≤ stage_at (place_at places (slot_of half))));
    orders = λ other. gave_none slot_of hop_of places other (sent_at desks other) (sent_at now other)
        (ap (λ l. get_or l other []) (changed_map slice took.before took.now desks now took.desk
        (λ (desk : Desk H). sent desk.orders) (ap sent took.orders)));
  }

  -- a half that wasn't awaited is kept aside
  pub passes_aside : (slice : ℕ) (half : H) (places new : List (Option (ControlPlace H))) (aside new_aside : List H)
      (desks now : List (Desk H))
      → Taken slice half desks now → new ≡ places → new_aside ≡ aside ++ half ∷ []
      → Unawaited (place_at places (slot_of half))
      → Passes slot_of hop_of places new aside new_aside desks now
  passes_aside slice half places new aside new_aside desks now took same more far =
      subst (λ (l : List (Option (ControlPlace H))). Passes slot_of hop_of places l aside new_aside desks now) (sym same)
      (record {
        falls = λ slot. falls_same (place_at places slot);
        more = half ∷ [];
        kept = more;
        unawaited = All-push (λ half. (stage_at (place_at places (slot_of half)) ≡ 0)
            ⊎ (2 ≤ stage_at (place_at places (slot_of half)))) [] half
            (All-nil (λ half. (stage_at (place_at places (slot_of half)) ≡ 0)
            ⊎ (2 ≤ stage_at (place_at places (slot_of half))))) far;
        orders = λ other. gave_none slot_of hop_of places other (sent_at desks other) (sent_at now other)
            (ap (λ l. get_or l other []) (changed_map slice took.before took.now desks now took.desk
            (λ (desk : Desk H). sent desk.orders) (ap sent took.orders)));
      })

  given_gave : (places : List (Option (ControlPlace H))) (slice : ℕ) (order : Order H) (desks now : List (Desk H))
      → Given slice order desks now
      → Lawful slot_of hop_of places slice order → (other : ℕ) → Gave slot_of hop_of places other (sent_at desks other)
      (sent_at now other)
  given_gave places slice order desks now given lawful other =
      let f : Desk H → List (Order H) = λ desk. sent desk.orders in
      let as_set : map f now ≡ set (map f desks) slice (f given.now) =
      ap (map f) given.desk.changed ∙ map-set f desks slice given.now in
      let within : slice < length (map f desks) = rw length-map given.desk.within in
      let was : get_or (map f desks) slice [] ≡ f given.before =
      get_or-map f desks slice given.before [] given.desk.within ∙ ap f (sym given.desk.there) in
      elim (nat_eq other slice) as (λ b. nat_eq other slice ≡ b
      → Gave slot_of hop_of places other (sent_at desks other) (sent_at now other)) [
        | true ↦ λ e. subst (λ (n : ℕ). Gave slot_of hop_of places n (sent_at desks n) (sent_at now n))
            (sym (eqb-true other slice e)) (
              order ∷ [],
              ap (λ l. get_or l slice []) as_set ∙ get_or-set_same (map f desks) slice (f given.now) [] within
                  ∙ given.sent ∙ ap (λ l. l ++ order ∷ []) (sym was),
              All-push (Lawful slot_of hop_of places slice) [] order
                  (All-nil (Lawful slot_of hop_of places slice)) lawful,
            )
        | false ↦ λ e. gave_none slot_of hop_of places other (sent_at desks other) (sent_at now other)
            (ap (λ l. get_or l other []) as_set ∙ get_or-set_other (map f desks) slice other (f given.now) []
            (eqb-false other slice e))
      ] refl

  refused_gave : (places : List (Option (ControlPlace H))) (slice : ℕ) (desks now : List (Desk H)) → Refused slice desks now
      → (other : ℕ) → Gave slot_of hop_of places other (sent_at desks other) (sent_at now other)
  refused_gave places slice desks now refused other =
      gave_none slot_of hop_of places other (sent_at desks other) (sent_at now other)
      (ap (λ l. get_or l other []) (changed_map slice refused.before refused.now desks now refused.desk
      (λ (desk : Desk H). sent desk.orders) refused.sent))

  -- what a state becomes as its order is offered, and the orders given
  pub record StatePasses (places : List (Option (ControlPlace H))) (old new : ControlState H)
      (desks now : List (Desk H)) : Type 0 where
    pub lower : stage new ≤ stage old
    pub told : (slice until : ℕ) → IsRecall slice until new → IsRecall slice until old
    pub gave : (slice : ℕ) → Gave slot_of hop_of places slice (sent_at desks slice) (sent_at now slice)

  state_same : (places : List (Option (ControlPlace H))) (old new : ControlState H) (desks now : List (Desk H)) → new ≡ old
      → now ≡ desks → StatePasses places old new desks now
  state_same places old new desks now same alike = record {
    lower = let a = ap stage same in omega arith;
    told = λ slice until. subst (IsRecall slice until) same;
    gave = λ slice. gave_none slot_of hop_of places slice (sent_at desks slice) (sent_at now slice)
        (ap (λ l. sent_at l slice) alike);
  }

  module _ {N : Type 0} (name : H → N) where
    serves_passes : (places : List (Option (ControlPlace H))) (slot hop : ℕ) (old new : ControlState H)
        (desks now : List (Desk H)) → hop ≡ hop_at (place_at places slot)
        → ((half told : H) (to : ℕ) → old ≡ Front half to → name told ≡ name half → slot_of told ≡ slot)
        → ((slice until : ℕ) → IsRecall slice until old → IsRecallAt slice until (place_at places slot))
        → Serves name hop_of slot hop old new desks now
        → StatePasses places old new desks now
    serves_passes places slot hop (Front half to) new desks now hopped own recall serves = elim serves.outcome [
      | inl put ↦ record {
        lower = let a = ap stage put.0 in omega arith;
        told = λ slice until is. absurd (subst (IsRecall slice until) put.0 is);
        gave = given_gave places to (Arrive serves.told) desks now put.1 (serves.hopped ∙ hopped
            ∙ ap (λ n. hop_at (place_at places n)) (sym (own half serves.told to refl serves.named)));
      }
      | inr kept ↦ record {
        lower = let a = ap stage kept.0 in omega arith;
        told = λ slice until is. absurd (subst (IsRecall slice until) kept.0 is);
        gave = refused_gave places to desks now kept.1;
      }
    ]
    serves_passes places slot hop (Placed at) new desks now hopped own recall serves =
        state_same places (Placed at) new desks now serves.0 serves.1
    serves_passes places slot hop (Recall at until to) new desks now hopped own recall serves = elim serves [
      | inl put ↦ record {
        lower = let a = ap stage put.0 in omega arith;
        told = λ slice count is. absurd (subst (IsRecall slice count) put.0 is);
        gave = given_gave places at (Leave slot until) desks now put.1 (recall at until (refl, refl));
      }
      | inr kept ↦ record {
        lower = let a = ap stage kept.0 in omega arith;
        told = λ slice count. subst (IsRecall slice count) kept.0;
        gave = refused_gave places at desks now kept.1;
      }
    ]
    serves_passes places slot hop (Leaving from to) new desks now hopped own recall serves =
        state_same places (Leaving from to) new desks now serves.0 serves.1

    served_passes : (places : List (Option (ControlPlace H))) (slot : ℕ) (old place : Option (ControlPlace H)) (aside : List H)
        (desks now : List (Desk H))
        → old ≡ place_at places slot → slot < length places
        → ((before : ControlPlace H) (half told : H) (to : ℕ) → old ≡ Some before → before.state ≡ Front half to
        → name told ≡ name half → slot_of told ≡ slot)
        → PlaceServed name hop_of slot old place desks now
        → Passes slot_of hop_of places (set places slot place) aside aside desks now
    served_passes places slot None place aside desks now is within own served =
        passes_same places (set places slot place) aside aside desks now
        (ap (set places slot) (served.0 ∙ is) ∙ set-get_or places slot None) refl
        (λ slice. ap (λ l. sent_at l slice) served.1)
    served_passes places slot (Some before) place aside desks now is within own served =
        let after = served.0 in
        let step = serves_passes places slot before.hop before.state after.state desks now (ap hop_at is)
        (λ half told to. own before half told to refl)
        (λ slice until. subst (IsRecallAt slice until) is) served.4 in record {
          falls = falls_set places slot place within (subst (λ (p : Option (ControlPlace H)). Falls p place) is (
            (let a = step.lower in let b = ap stage_at served.1 in omega arith),
            (λ slice until told. step.told slice until (subst (IsRecallAt slice until) served.1 told)),
            ap hop_at served.1 ∙ served.2,
          ));
          more = [];
          kept = sym (append-nil aside);
          unawaited = All-nil (λ half. (stage_at (place_at (set places slot place) (slot_of half)) ≡ 0)
              ⊎ (2 ≤ stage_at (place_at places (slot_of half))));
          orders = step.gave;
        }

    -- the order of a slot was offered
    pub passes_served : (places new : List (Option (ControlPlace H))) (slot : ℕ) (waits : Bool) (aside new_aside : List H)
        (desks now : List (Desk H))
        → slot < length places → new_aside ≡ aside
        → ((before : ControlPlace H) (half told : H) (to : ℕ) → place_at places slot ≡ Some before
        → before.state ≡ Front half to → name told ≡ name half → slot_of told ≡ slot)
        → ServedAt name hop_of slot waits places new desks now
        → Passes slot_of hop_of places new aside new_aside desks now
    passes_served places new slot waits aside new_aside desks now within same own served =
        subst (λ (p : List (Option (ControlPlace H)) × List H). Passes slot_of hop_of places p.0 aside p.1 desks now)
        (λ i. (sym served.1 i, sym same i))
        (served_passes places slot (place_at places slot) served.0 aside desks now refl within own served.3)
