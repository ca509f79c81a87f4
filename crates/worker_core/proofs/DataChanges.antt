-- What one changed half changes in all.
use Rattle.std.proofs.Common.{◌≡◌, ◌≢◌, ℕ, ◌<◌, inl, Bool, true, false, cond, List, [], ◌∷◌, ◌++◌}
use Rattle.std.proofs.Common.{length, map, set, get_or, refl, sym, ap, ◌∙◌, subst, arith}
use Rattle.std.specs.Prelude.{nat_eq}
use Rattle.std.proofs.lemmas.List.{length-map, length-set, map-set, get_or-map, get_or-set_same, get_or-set_other}
use Rattle.std.proofs.Math.Seq.{map-set_same}
use Rattle.std.proofs.lemmas.Bool.{eqb-true, eqb-false, eq-eqb}
use Rattle.worker_core.specs.Counts.{Rises, Lasts}
use Rattle.worker_core.proofs.Rising.{lasts_raised}
use Rattle.worker_core.specs.DataCounts.{count_at, learnt_count}
use Rattle.pc_base.specs.declared.packet.Place.{Place}
use Rattle.pc_base.specs.declared.packet.Place.TheVariants.{At}
use Rattle.worker_core.specs.DataPlaces.{with_place, before_here, brought}
use Rattle.worker_core.specs.DataSteps.{ChangedAt}

pub lasts_learnt : (learnt : Bool) (old new : ℕ) → new ≡ learnt_count learnt old → Lasts old new
lasts_learnt true old new e = lasts_raised old new e
lasts_learnt false old new e = inl e

pub lasts_at : {H : Type 0} (count : H → ℕ) (old new : List H) → map count new ≡ map count old → (k : ℕ)
    → Lasts (count_at count old k) (count_at count new k)
lasts_at count old new same k = inl (ap (λ l. get_or l k 0) same)

module _ {H N : Type 0} (name : H → N) (at : ℕ) (before after : H) (old new : List H)
    (change : ChangedAt name at before after old new) where
  pub changed-map : {A : Type 0} (f : H → A) → f after ≡ f before → map f new ≡ map f old
  changed-map f same = ap (map f) change.changed ∙ map-set_same f old at after before (same ∙ ap f change.there)

  pub changed_names : map name new ≡ map name old
  changed_names = changed-map name change.named

  pub changed_len : length new ≡ length old
  changed_len = ap length change.changed ∙ length-set old at after

  pub half_now : (none : H) → get_or new at none ≡ after
  half_now none = ap (λ l. get_or l at none) change.changed ∙ get_or-set_same old at after none change.within

  as_set : (f : H → ℕ) → map f new ≡ set (map f old) at (f after)
  as_set f = ap (map f) change.changed ∙ map-set f old at after

  pub count_now : (f : H → ℕ) → count_at f new at ≡ f after
  count_now f =
      let within : at < length (map f old) = rw length-map change.within in
      ap (λ l. get_or l at 0) (as_set f) ∙ get_or-set_same (map f old) at (f after) 0 within

  pub count_before : (f : H → ℕ) → count_at f old at ≡ f before
  count_before f = get_or-map f old at before 0 change.within ∙ ap f (sym change.there)

  count_other : (f : H → ℕ) (other : ℕ) → other ≢ at → count_at f new other ≡ count_at f old other
  count_other f other apart = ap (λ l. get_or l other 0) (as_set f) ∙ get_or-set_other (map f old) at other
      (f after) 0 apart

  -- a count that lasts at the changed half lasts at each
  pub changed_lasts : (f : H → ℕ) → Lasts (f before) (f after) → (k : ℕ) → Lasts (count_at f old k) (count_at f new k)
  changed_lasts f lasts k = elim (nat_eq k at) as (λ b. nat_eq k at ≡ b → Lasts (count_at f old k) (count_at f new k)) [
    | true ↦ λ e. subst (λ (n : ℕ). Lasts (count_at f old n) (count_at f new n)) (sym (eqb-true k at e))
        (subst (λ (p : ℕ × ℕ). Lasts p.0 p.1) (λ i. (sym (count_before f) i, sym (count_now f) i)) lasts)
    | false ↦ λ e. inl (count_other f k (eqb-false k at e))
  ] refl

  pub changed_rises : (f : H → ℕ) → Rises (f before) (f after) → Rises (count_at f old at) (count_at f new at)
  changed_rises f rises = subst (λ (p : ℕ × ℕ). Rises p.0 p.1)
      (λ i. (sym (count_before f) i, sym (count_now f) i)) rises

-- a value of the half at an index, where all values are the same
pub read_same : {H A : Type 0} (f : H → A) (k : ℕ) (old new : List H) (none : H) → map f new ≡ map f old
    → k < length new
    → f (get_or new k none) ≡ f (get_or old k none)
read_same f k old new none same within =
    let long : length new ≡ length old = sym (length-map new f) ∙ ap length same ∙ length-map old f in
    sym (get_or-map f new k none (f none) within) ∙ ap (λ l. get_or l k (f none)) same ∙ get_or-map f old k none
    (f none) (omega arith)

-- an item more that is handled here
pub stays_here : (here : ℕ) (places : List Place) → before_here here (places ++ At here ∷ []) ≡ before_here here places
stays_here here [] = ap (λ b. cond b [] (At here ∷ [])) (eq-eqb here here refl)
stays_here here (place ∷ places) = ap (with_place here place) (stays_here here places)

-- a half that changed here brings what it brought
pub changed_brings : {H N : Type 0} (name : H → N) (places : H → List Place) (here at : ℕ) (before after : H)
    (old new : List H) → ChangedAt name at before after old new
    → before_here here (places after) ≡ before_here here (places before)
    → ChangedAt (brought name places here) at before after old new
changed_brings name places here at before after old new change same = record {
  within = change.within;
  there = change.there;
  changed = change.changed;
  named = λ i. (change.named i, same i);
}
