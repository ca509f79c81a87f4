-- How what pumping makes of each slot's state, and of the halves kept aside, adds up.
use Rattle.std.proofs.Common.{◌≡◌, ℕ, ◌<◌, inl, inr, true, false, List, [], ◌∷◌, ◌++◌, length, set, refl, sym, ap}
use Rattle.std.proofs.Common.{◌∙◌, subst, append_assoc, append-nil}
use Rattle.std.specs.Prelude.{nat_eq, Option, Some, None, ◌⊎◌}
use Rattle.std.proofs.lemmas.Bool.{eqb-true, eqb-false}
use Rattle.worker_core.specs.DataDesks.{DataDesk}
use Rattle.migration.specs.declared.data_place.DataPlace.{DataPlace}
use Rattle.migration.specs.declared.data_place.DataState.{DataState}
use Rattle.migration.specs.declared.data_place.DataState.TheVariants.{Front, Placed, Recall, Leaving}
use Rattle.migration.specs.declared.data_place.UnexpectedHalf.{UnexpectedHalf}
use Rattle.migration.specs.DataPlaces.{place_at, state_at, queue_at, leaves, rests, is_settled}
use Rattle.migration.specs.DataSides.{is_lost}
use Rattle.migration.specs.DataKeeps.{PlaceKeeps}
use Rattle.migration.specs.DataSteps.{Served, Serves, ServesPlace, Welcomes}
use Rattle.migration.specs.DataPumps.{ComesHome, IsOffered, Pumps, AtState, EachState, IsUnawaited, AreUnawaited}
use Rattle.migration.specs.DataPumps.{KeepsAside, TakesHome}
use Rattle.migration.proofs.DataPasses.{at_new, at_old}
use Rattle.migration.proofs.DataQueues.{queues_stay}

module _ {H : Type 0} where
  comes_same : (a : DataState H) → ComesHome a a
  comes_same (Front half to) = refl
  comes_same (Placed at) = refl
  comes_same (Recall at to) = refl
  comes_same (Leaving from to) = inl refl

  comes_then : (a b c : DataState H) → ComesHome a b → ComesHome b c → ComesHome a c
  comes_then (Front half to) b c first then = subst (λ x. ComesHome x c) first then
  comes_then (Placed at) b c first then = subst (λ x. ComesHome x c) first then
  comes_then (Recall at to) b c first then = subst (λ x. ComesHome x c) first then
  comes_then (Leaving from to) b c (inl same) then = subst (λ x. ComesHome x c) same then
  comes_then (Leaving from to) b c (inr came) then = inr (came.0, subst (λ x. ComesHome x c) came.1 then)

  offered_same : (a : DataState H) → IsOffered a a
  offered_same (Front half to) = inl refl
  offered_same (Placed at) = refl
  offered_same (Recall at to) = inl refl
  offered_same (Leaving from to) = refl

  offered_then : (a b c : DataState H) → IsOffered a b → IsOffered b c → IsOffered a c
  offered_then (Front half to) b c (inl same) then = subst (λ x. IsOffered x c) same then
  offered_then (Front half to) b c (inr sent) then = inr (subst (λ x. IsOffered x c) sent then)
  offered_then (Placed at) b c first then = subst (λ x. IsOffered x c) first then
  offered_then (Recall at to) b c (inl same) then = subst (λ x. IsOffered x c) same then
  offered_then (Recall at to) b c (inr told) then = inr (subst (λ x. IsOffered x c) told then)
  offered_then (Leaving from to) b c first then = subst (λ x. IsOffered x c) first then

  come_front : (half : H) (from to : ℕ) (c : DataState H) → IsOffered (Front half to) c → Pumps (Leaving from to) c
  come_front half from to c (inl same) = inr (inl (half, same))
  come_front half from to c (inr sent) = inr (inr sent)

  pumped : (a b c : DataState H) → ComesHome a b → IsOffered b c → Pumps a c
  pumped (Front half to) b c first then = subst (λ x. IsOffered x c) first then
  pumped (Placed at) b c first then = subst (λ x. IsOffered x c) first then
  pumped (Recall at to) b c first then = subst (λ x. IsOffered x c) first then
  pumped (Leaving from to) b c (inl same) then = inl (subst (λ x. IsOffered x c) same then)
  pumped (Leaving from to) b c (inr came) then =
      come_front came.0 from to c (subst (λ x. IsOffered x c) came.1 then)

  -- where there is a place
  at_same : (S : DataState H → DataState H → Type 0) → ((a : DataState H) → S a a) → (a : Option (DataState H))
      → AtState S a a
  at_same S same None = refl
  at_same S same (Some a) = (a, refl, same a)

  at_then : (S T U : DataState H → DataState H → Type 0)
      → ((a b c : DataState H) → S a b → T b c → U a c) → (a b c : Option (DataState H))
      → AtState S a b → AtState T b c → AtState U a c
  at_then S T U both None b c first then = subst (λ x. AtState T x c) first then
  at_then S T U both (Some a) b c first then =
      let next = subst (λ x. AtState T x c) first.1 then in (next.0, next.1, both a first.0 next.0 first.2 next.2)

  -- a state that rests still does
  comes_rest : (a b : DataState H) → ComesHome a b → is_settled a ≡ true → is_settled b ≡ true
  comes_rest (Front half to) b comes rest = ap is_settled comes
  comes_rest (Placed at) b comes rest = ap is_settled comes
  comes_rest (Recall at to) b comes rest = ap is_settled comes ∙ rest
  comes_rest (Leaving from to) b (inl same) rest = ap is_settled same ∙ rest
  comes_rest (Leaving from to) b (inr came) rest = ap is_settled came.1

  offered_rest : (a b : DataState H) → IsOffered a b → is_settled a ≡ true → is_settled b ≡ true
  offered_rest (Front half to) b (inl same) rest = ap is_settled same
  offered_rest (Front half to) b (inr sent) rest = ap is_settled sent
  offered_rest (Placed at) b offered rest = ap is_settled offered
  offered_rest (Recall at to) b (inl same) rest = ap is_settled same ∙ rest
  offered_rest (Recall at to) b (inr told) rest = ap is_settled told ∙ rest
  offered_rest (Leaving from to) b offered rest = ap is_settled offered ∙ rest

  at_rest : (S : DataState H → DataState H → Type 0)
      → ((a b : DataState H) → S a b → is_settled a ≡ true → is_settled b ≡ true) → (a b : Option (DataState H))
      → AtState S a b → rests a ≡ true → rests b ≡ true
  at_rest S one None b step rest = ap rests step
  at_rest S one (Some a) b step rest = ap rests step.1 ∙ one a step.0 step.2 rest

  -- a state that leaves a slice still does, or its half came home
  comes_leaving : (slice : ℕ) (a b : DataState H) → ComesHome a b → leaves (Some a) ≡ Some slice
      → (leaves (Some b) ≡ Some slice) ⊎ (is_settled b ≡ true)
  comes_leaving slice (Front half to) b comes is = inr (ap is_settled comes)
  comes_leaving slice (Placed at) b comes is = inr (ap is_settled comes)
  comes_leaving slice (Recall at to) b comes is = inl (ap (λ x. leaves (Some x)) comes ∙ is)
  comes_leaving slice (Leaving from to) b (inl same) is = inl (ap (λ x. leaves (Some x)) same ∙ is)
  comes_leaving slice (Leaving from to) b (inr came) is = inr (ap is_settled came.1)

  at_leaving : (slice : ℕ) (a b : Option (DataState H)) → AtState ComesHome a b → leaves a ≡ Some slice
      → (leaves b ≡ Some slice) ⊎ (rests b ≡ true)
  at_leaving slice None b step is = inr (ap rests step)
  at_leaving slice (Some a) b step is = elim (comes_leaving slice a step.0 step.2 is) [
    | inl still ↦ inl (ap leaves step.1 ∙ still)
    | inr rest ↦ inr (ap rests step.1 ∙ rest)
  ]

module _ {H I : Type 0} where
  pub each_comes_same : (places : List (Option (DataPlace H I))) → EachState ComesHome places places
  each_comes_same places s = at_same ComesHome comes_same (state_at (place_at places s))

  pub each_offered_same : (places : List (Option (DataPlace H I))) → EachState IsOffered places places
  each_offered_same places s = at_same IsOffered offered_same (state_at (place_at places s))

  pub each_comes_then : (places mid new : List (Option (DataPlace H I))) → EachState ComesHome places mid
      → EachState ComesHome mid new → EachState ComesHome places new
  each_comes_then places mid new first then s = at_then ComesHome ComesHome ComesHome comes_then
      (state_at (place_at places s)) (state_at (place_at mid s)) (state_at (place_at new s)) (first s) (then s)

  pub each_offered_then : (places mid new : List (Option (DataPlace H I))) → EachState IsOffered places mid
      → EachState IsOffered mid new → EachState IsOffered places new
  each_offered_then places mid new first then s = at_then IsOffered IsOffered IsOffered offered_then
      (state_at (place_at places s)) (state_at (place_at mid s)) (state_at (place_at new s)) (first s) (then s)

  -- halves came home, then orders were offered, and then the states stayed
  pub each_pumped : (places home served new : List (Option (DataPlace H I))) → EachState ComesHome places home
      → EachState IsOffered home served
      → ((s : ℕ) → state_at (place_at new s) ≡ state_at (place_at served s)) → EachState Pumps places new
  each_pumped places home served new comes offered stays s = subst (AtState Pumps (state_at (place_at places s)))
      (sym (stays s))
      (at_then ComesHome IsOffered Pumps pumped (state_at (place_at places s)) (state_at (place_at home s))
      (state_at (place_at served s)) (comes s) (offered s))

  -- a step at one slot
  each_set : (S : DataState H → DataState H → Type 0) → ((a : DataState H) → S a a)
      → (places new : List (Option (DataPlace H I))) (place : Option (DataPlace H I)) (s : ℕ)
      → s < length places → new ≡ set places s place → AtState S (state_at (place_at places s)) (state_at place)
      → EachState S places new
  each_set S same places new place s within made step t = elim (nat_eq t s) as (λ b. nat_eq t s ≡ b
      → AtState S (state_at (place_at places t)) (state_at (place_at new t))) [
        | true ↦ λ e. subst (λ n. AtState S (state_at (place_at places n)) (state_at (place_at new n)))
            (sym (eqb-true t s e))
            (subst (λ p. AtState S (state_at (place_at places s)) (state_at p))
            (sym (at_new places new place s within made)) step)
        | false ↦ λ e. subst (λ p. AtState S (state_at (place_at places t)) (state_at p))
            (sym (at_old places new place s t (eqb-false t s e) made))
            (at_same S same (state_at (place_at places t)))
      ] refl

  offers : (slot : ℕ) (a b : DataState H) (old new : List (DataDesk H I)) → Serves slot a b old new → IsOffered a b
  offers slot (Front half to) b old new (inl sent) = inr sent.0
  offers slot (Front half to) b old new (inr full) = inl full.0
  offers slot (Placed at) b old new served = served.0
  offers slot (Recall at to) b old new (inl told) = inr told.0
  offers slot (Recall at to) b old new (inr full) = inl full.0
  offers slot (Leaving from to) b old new served = served.0

  offers_at : (slot_of : H → ℕ) (item_slot : I → ℕ) (handled : H → List I) (slot : ℕ)
      (place new : Option (DataPlace H I)) (desks now : List (DataDesk H I))
      → PlaceKeeps slot_of item_slot handled slot 0 place new desks now → ServesPlace slot place new desks now
      → AtState IsOffered (state_at place) (state_at new)
  offers_at slot_of item_slot handled slot None new desks now keeps serves = ap state_at keeps.0
  offers_at slot_of item_slot handled slot (Some before) new desks now keeps serves = (
    serves.0.state,
    ap state_at serves.1,
    offers slot before.state serves.0.state desks now serves.4,
  )

  -- the order of one slot was offered
  pub each_served : (slot_of : H → ℕ) (item_slot : I → ℕ) (handled : H → List I)
      (places new : List (Option (DataPlace H I))) (place : Option (DataPlace H I)) (s : ℕ)
      (desks now : List (DataDesk H I)) → s < length places → new ≡ set places s place
      → Served slot_of item_slot handled s (place_at places s) place desks now → EachState IsOffered places new
  each_served slot_of item_slot handled places new place s desks now within made served =
      each_set IsOffered offered_same places new place s within made
      (offers_at slot_of item_slot handled s (place_at places s) place desks now served.keeps served.sends)

  pub states_kept : (places new : List (Option (DataPlace H I))) (place : Option (DataPlace H I)) (s : ℕ)
      → s < length places → new ≡ set places s place
      → state_at place ≡ state_at (place_at places s) → (t : ℕ)
      → state_at (place_at new t) ≡ state_at (place_at places t)
  states_kept places new place s within made same t = elim (nat_eq t s) as (λ b. nat_eq t s ≡ b
      → state_at (place_at new t) ≡ state_at (place_at places t)) [
        | true ↦ λ e. subst (λ n. state_at (place_at new n) ≡ state_at (place_at places n))
            (sym (eqb-true t s e)) (ap state_at (at_new places new place s within made) ∙ same)
        | false ↦ λ e. ap state_at (at_old places new place s t (eqb-false t s e) made)
      ] refl

abbrev Places : Type 0 → Type 0 → Type 0
Places H I = List (Option (DataPlace H I))

module _ {H I : Type 0} (slot_of : H → ℕ) where
  -- what comes home later changes no cause
  one_later : (first places new later : Places H I) → EachState ComesHome first places
      → ((s : ℕ) → rests (state_at (place_at new s)) ≡ true → rests (state_at (place_at later s)) ≡ true)
      → (others : List (UnexpectedHalf H)) (kept : UnexpectedHalf H)
      → ((s : ℕ) → rests (state_at (place_at places s)) ≡ true → rests (state_at (place_at new s)) ≡ true)
      → IsUnawaited slot_of places new others kept → IsUnawaited slot_of first later others kept
  one_later first places new later comes rest others kept then (inr another) = inr another
  one_later first places new later comes rest others kept then (inl came) = inl (λ is.
      elim (at_leaving kept.slice (state_at (place_at first (slot_of kept.half)))
      (state_at (place_at places (slot_of kept.half))) (comes (slot_of kept.half)) is) [
        | inl still ↦ rest (slot_of kept.half) (came still)
        | inr rested ↦ rest (slot_of kept.half) (then (slot_of kept.half) rested)
      ])

  all_later : (first places new later : Places H I) → EachState ComesHome first places
      → ((s : ℕ) → rests (state_at (place_at new s)) ≡ true → rests (state_at (place_at later s)) ≡ true)
      → ((s : ℕ) → rests (state_at (place_at places s)) ≡ true → rests (state_at (place_at new s)) ≡ true)
      → (others more : List (UnexpectedHalf H))
      → AreUnawaited slot_of places new others more → AreUnawaited slot_of first later others more
  all_later first places new later comes rest then others [] are = tt
  all_later first places new later comes rest then others (kept ∷ more) are = (
    one_later first places new later comes rest others kept then are.0,
    all_later first places new later comes rest then (others ++ kept ∷ []) more are.1,
  )

  all_both : (places new : Places H I) (others some more : List (UnexpectedHalf H))
      → AreUnawaited slot_of places new others some
      → AreUnawaited slot_of places new (others ++ some) more
      → AreUnawaited slot_of places new others (some ++ more)
  all_both places new others [] more first then =
      subst (λ l. AreUnawaited slot_of places new l more) (append-nil others) then
  all_both places new others (kept ∷ some) more first then = (
    first.0,
    all_both places new (others ++ kept ∷ []) some more first.1
        (subst (λ l. AreUnawaited slot_of places new l more) (sym (append_assoc others (kept ∷ []) some)) then),
  )

  comes_rests : (places new : Places H I) → EachState ComesHome places new → (s : ℕ)
      → rests (state_at (place_at places s)) ≡ true → rests (state_at (place_at new s)) ≡ true
  comes_rests places new comes s = at_rest ComesHome comes_rest (state_at (place_at places s))
      (state_at (place_at new s)) (comes s)

  offered_rests : (places new : Places H I) → EachState IsOffered places new → (s : ℕ)
      → rests (state_at (place_at places s)) ≡ true → rests (state_at (place_at new s)) ≡ true
  offered_rests places new offered s = at_rest IsOffered offered_rest (state_at (place_at places s))
      (state_at (place_at new s)) (offered s)

  keeps_both : (places mid new : Places H I) (aside mid_aside new_aside : List (UnexpectedHalf H))
      → EachState ComesHome places mid → EachState ComesHome mid new
      → KeepsAside slot_of places mid aside mid_aside → KeepsAside slot_of mid new mid_aside new_aside
      → KeepsAside slot_of places new aside new_aside
  keeps_both places mid new aside mid_aside new_aside comes then first second = record {
    more = first.more ++ second.more;
    kept = second.kept ∙ ap (λ l. l ++ second.more) first.kept ∙ append_assoc aside first.more second.more;
    unawaited = all_both places new aside first.more second.more
        (all_later places places mid new (each_comes_same places) (comes_rests mid new then)
        (comes_rests places mid comes) aside first.more first.unawaited)
        (subst (λ l. AreUnawaited slot_of places new l second.more) first.kept
        (all_later places mid new new comes (λ s rest. rest) (comes_rests mid new then) mid_aside second.more
        second.unawaited));
  }

  keeps_none : (places new : Places H I) (aside : List (UnexpectedHalf H)) → KeepsAside slot_of places new aside aside
  keeps_none places new aside = record {
    more = [];
    kept = sym (append-nil aside);
    unawaited = tt;
  }

  -- no half came
  pub takes_none : (places : Places H I) (aside : List (UnexpectedHalf H)) → TakesHome slot_of places places aside aside
  takes_none places aside = record {
    states = each_comes_same places;
    queues = λ slot. refl;
    keeps = keeps_none places places aside;
  }

  pub takes_then : (places mid new : Places H I) (aside mid_aside new_aside : List (UnexpectedHalf H))
      → TakesHome slot_of places mid aside mid_aside → TakesHome slot_of mid new mid_aside new_aside
      → TakesHome slot_of places new aside new_aside
  takes_then places mid new aside mid_aside new_aside first then = record {
    states = each_comes_then places mid new first.states then.states;
    queues = λ slot. then.queues slot ∙ first.queues slot;
    keeps = keeps_both places mid new aside mid_aside new_aside first.states then.states first.keeps then.keeps;
  }

  -- a half came to the slot that waited for it
  pub takes_welcome : (places new : Places H I) (place : Option (DataPlace H I)) (s slice : ℕ) (half : H)
      (aside : List (UnexpectedHalf H)) → s < length places → new ≡ set places s place
      → Welcomes half slice (place_at places s) place None → TakesHome slot_of places new aside aside
  takes_welcome places new place s slice half aside within made w = record {
    states = each_set ComesHome comes_same places new place s within made
        (subst (λ x. AtState ComesHome x (state_at place)) (sym (ap state_at w.3 ∙ ap Some w.9))
        (Front half w.2, ap state_at w.4 ∙ ap Some w.10, inr (half, refl)));
    queues = queues_stay places new place s within made (ap queue_at w.4 ∙ w.5 ∙ sym (ap queue_at w.3));
    keeps = keeps_none places new aside;
  }

  -- a half was kept aside
  pub takes_aside : (places : Places H I) (kept : UnexpectedHalf H) (aside later : List (UnexpectedHalf H))
      → ((leaves (state_at (place_at places (slot_of kept.half))) ≡ Some kept.slice → ⊥)
      ⊎ (is_lost slot_of (slot_of kept.half) aside ≡ true))
      → later ≡ aside ++ kept ∷ [] → TakesHome slot_of places places aside later
  takes_aside places kept aside later cause made = record {
    states = each_comes_same places;
    queues = λ slot. refl;
    keeps = record {
      more = kept ∷ [];
      kept = made;
      unawaited = (
        elim cause [
          | inl never ↦ inl (λ is. absurd (never is))
          | inr another ↦ inr another
        ],
        tt,
      );
    };
  }

  -- orders were offered since, and the states stayed
  pub keeps_on : (places home served new : Places H I) (aside new_aside : List (UnexpectedHalf H))
      → EachState ComesHome places home → EachState IsOffered home served
      → ((s : ℕ) → state_at (place_at new s) ≡ state_at (place_at served s))
      → KeepsAside slot_of places home aside new_aside → KeepsAside slot_of places new aside new_aside
  keeps_on places home served new aside new_aside comes offered stays keeps = record {
    more = keeps.more;
    kept = keeps.kept;
    unawaited = all_later places places home new (each_comes_same places)
        (λ s rest. ap rests (stays s) ∙ offered_rests home served offered s rest) (comes_rests places home comes)
        aside keeps.more keeps.unawaited;
  }
