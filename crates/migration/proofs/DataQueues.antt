-- How what becomes of the queues adds up, and that a slot that isn't parked stays so.
use Rattle.std.proofs.Common.{◌≡◌, ℕ, zero, suc, ◌<◌, Bool, true, false, true≢false, List, [], ◌∷◌, length}
use Rattle.std.proofs.Common.{map, set, get_or, refl, sym, ap, ◌∙◌, subst, arith, length-append}
use Rattle.std.specs.Prelude.{nat_eq, not, ◌&&◌, ◌||◌, Option, Some, None}
use Rattle.std.proofs.lemmas.Bool.{eqb-true, eqb-false, eq-eqb}
use Rattle.migration.specs.declared.data_place.DataPlace.{DataPlace}
use Rattle.migration.specs.declared.data_place.DataState.{DataState}
use Rattle.migration.specs.declared.data_place.DataState.TheVariants.{Front, Placed, Recall, Leaving}
use Rattle.migration.specs.DataPlaces.{place_at, state_at, queue_at, moved_at, parks_at, is_placed}
use Rattle.migration.specs.DataPumps.{Pumps, AtState}
use Rattle.migration.specs.DataQueues.{Shortens, EachShortens, QueuesStay}
use Rattle.migration.proofs.DataShortened.{shortens_then, shortens_same}
use Rattle.migration.proofs.DataPasses.{at_new, at_old}

abbrev Places : Type 0 → Type 0 → Type 0
Places H I = List (Option (DataPlace H I))

placed_stays : {H : Type 0} (a b : DataState H) → is_placed a ≡ true → Pumps a b → is_placed b ≡ true
placed_stays (Front half to) b is pumps = absurd (true≢false (sym is))
placed_stays (Placed at) b is pumps = ap is_placed pumps
placed_stays (Recall at to) b is pumps = absurd (true≢false (sym is))
placed_stays (Leaving from to) b is pumps = absurd (true≢false (sym is))

neither : (p q : Bool) → (not p || not q) ≡ false → (p ≡ true) × (q ≡ true)
neither true true none = (refl, refl)
neither true false none = absurd (true≢false none)
neither false q none = absurd (true≢false none)

moved_none : (m other : Bool) → m ≡ false → (m && other) ≡ false
moved_none m other none = ap (λ b. b && other) none

moved_apart : (m other : Bool) → m ≡ true → (m && other) ≡ false → other ≡ false
moved_apart m other is none = sym (ap (λ b. b && other) is) ∙ none

both_true : (p q : Bool) → p ≡ true → q ≡ true → (not p || not q) ≡ false
both_true p q a b = (λ i. not (a i) || not (b i))

none_left : {I : Type 0} (old new : List I) → Shortens old new → length old ≡ 0 → length new ≡ 0
none_left old new short none =
    let n = ap length short.1 ∙ length-append short.0 new in omega arith

module _ {H I : Type 0} where
  pub each_same : (places : Places H I) → EachShortens places places
  each_same places t = shortens_same (queue_at (place_at places t)) (queue_at (place_at places t)) refl

  -- a step at one place
  pub each_shortens : (first places new : Places H I) (place : Option (DataPlace H I)) (s : ℕ) → s < length places
      → new ≡ set places s place → Shortens (queue_at (place_at places s)) (queue_at place)
      → EachShortens first places → EachShortens first new
  each_shortens first places new place s within made short before t =
      shortens_then (queue_at (place_at first t)) (queue_at (place_at places t)) (queue_at (place_at new t)) (before t)
      (elim (nat_eq t s) as (λ b. nat_eq t s ≡ b
      → Shortens (queue_at (place_at places t)) (queue_at (place_at new t))) [
        | true ↦ λ e. subst (λ (n : ℕ). Shortens (queue_at (place_at places n)) (queue_at (place_at new n)))
            (sym (eqb-true t s e))
            (subst (λ (p : Option (DataPlace H I)). Shortens (queue_at (place_at places s)) (queue_at p))
            (sym (at_new places new place s within made)) short)
        | false ↦ λ e. shortens_same (queue_at (place_at places t)) (queue_at (place_at new t))
            (ap queue_at (at_old places new place s t (eqb-false t s e) made))
      ] refl)

  pub queues_stay : (places new : Places H I) (place : Option (DataPlace H I)) (s : ℕ) → s < length places
      → new ≡ set places s place → queue_at place ≡ queue_at (place_at places s) → QueuesStay places new
  queues_stay places new place s within made same t =
      elim (nat_eq t s) as (λ b. nat_eq t s ≡ b → queue_at (place_at new t) ≡ queue_at (place_at places t)) [
        | true ↦ λ e. subst (λ (n : ℕ). queue_at (place_at new n) ≡ queue_at (place_at places n))
            (sym (eqb-true t s e)) (ap queue_at (at_new places new place s within made) ∙ same)
        | false ↦ λ e. ap queue_at (at_old places new place s t (eqb-false t s e) made)
      ] refl

  -- pumping in all
  pub pump_shortens : (places came served new : Places H I) → QueuesStay places came → QueuesStay came served
      → EachShortens served new → EachShortens places new
  pump_shortens places came served new first then last t =
      ((last t).0, sym (then t ∙ first t) ∙ (last t).1)

  rests_there : (a b : DataPlace H I) → b.moved ≡ a.moved → AtState Pumps (Some a.state) (Some b.state)
      → Shortens a.queue.items b.queue.items → parks_at (Some a) ≡ false → parks_at (Some b) ≡ false
  rests_there a b moved state short none =
      elim a.moved as (λ m. a.moved ≡ m → parks_at (Some b) ≡ false) [
        | true ↦ λ is.
            let was = neither (is_placed a.state) (nat_eq (length a.queue.items) 0)
            (moved_apart a.moved (not (is_placed a.state) || not (nat_eq (length a.queue.items) 0)) is none) in
            let now : b.state ≡ state.0 = some_same b.state state.0 state.1 in
            let placed : is_placed b.state ≡ true =
            ap is_placed now ∙ placed_stays a.state state.0 was.0 state.2 in
            let empty : length b.queue.items ≡ 0 =
            none_left a.queue.items b.queue.items short (eqb-true (length a.queue.items) 0 was.1) in
            ap (λ m. b.moved && m) (both_true (is_placed b.state) (nat_eq (length b.queue.items) 0) placed
            (eq-eqb (length b.queue.items) 0 empty)) ∙ and_false b.moved
        | false ↦ λ is. moved_none b.moved (not (is_placed b.state) || not (nat_eq (length b.queue.items) 0))
            (moved ∙ is)
      ] refl where
        some_same : (x y : DataState H) → ◌≡◌ {A = Option (DataState H)} (Some x) (Some y) → x ≡ y
        some_same x y e = ap out e where
          out : Option (DataState H) → DataState H
          out None = x
          out (Some z) = z

        and_false : (m : Bool) → (m && false) ≡ false
        and_false true = refl
        and_false false = refl

  -- a slot that isn't parked stays so
  pub rests_at : (old new : Option (DataPlace H I)) → moved_at new ≡ moved_at old
      → AtState Pumps (state_at old) (state_at new) → Shortens (queue_at old) (queue_at new)
      → parks_at old ≡ false → parks_at new ≡ false
  rests_at old None moved state short none = refl
  rests_at None (Some b) moved state short none = absurd (let no : ⊥ = cc in no)
  rests_at (Some a) (Some b) moved state short none = rests_there a b moved state short none

  read_moved : (places : Places H I) (s : ℕ) → get_or (map moved_at places) s false ≡ moved_at (place_at places s)
  read_moved [] s = refl
  read_moved (p ∷ places) zero = refl
  read_moved (p ∷ places) (suc s) = read_moved places s

  pub moved_same : (places new : Places H I) → map moved_at new ≡ map moved_at places → (s : ℕ)
      → moved_at (place_at new s) ≡ moved_at (place_at places s)
  moved_same places new same s =
      sym (read_moved new s) ∙ ap (λ l. get_or l s false) same ∙ read_moved places s
