-- What a worker has, part by part.
use Rattle.std.proofs.Common.{◌≡◌, ℕ, ◌-◌, ◌≤◌, ◌⊎◌, inl, inr, Bool, true, false, true≢false, List, map, refl, sym, ap, ◌∙◌}
use Rattle.std.proofs.Common.{Option, Some, None, subst, arith}
use Rattle.std.specs.Prelude.{nat_lt, if◌then◌else◌, IsSome, MatchBool}
use Rattle.std.proofs.lemmas.Bool.{ltb-true}
use Rattle.worker_core.specs.declared.attended.Attended.{Attended}
use Rattle.worker_core.specs.declared.attended.Attended.TheVariants.{Nothing, Came, Left}
use Rattle.worker_core.specs.declared.order.Order.{Order}
use Rattle.worker_core.specs.declared.worker.Leaving.{Leaving}
use Rattle.lane_core.specs.Ends.{raised}
use Rattle.worker_core.specs.Steps.{View, TookOrder, WentHome, NoneWent, Attends, SameButHalves, first_due, fulls_after}
use Rattle.worker_core.specs.Steps.{without_order, wrapped, cursor_without}

module _ {H : Type 0} where
  abbrev pub view : List (Order H) → List H → List H → List Leaving → (cursor fulls empties : ℕ) → View H
  view took gone held leaving cursor fulls empties = record {
    took = took;
    gone = gone;
    held = held;
    leaving = leaving;
    cursor = cursor;
    fulls = fulls;
    empties = empties;
  }

  pub view_same : (took : List (Order H)) (gone : List H) (cursor fulls empties : ℕ) (held old : List H)
      (leaving before : List Leaving) → held ≡ old → leaving ≡ before
      → view took gone held leaving cursor fulls empties ≡ view took gone old before cursor fulls empties
  view_same took gone cursor fulls empties held old leaving before same alike i =
      view took gone (same i) (alike i) cursor fulls empties

  module _ (slot_at done : H → ℕ) where
    -- no half was due
    pub none_was_due : (old : View H) → None ≡ first_due slot_at done old → NoneWent slot_at done old old
    none_was_due old none = record {
      took = refl;
      gone = refl;
      held = refl;
      leaving = refl;
      cursor = refl;
      fulls = ap (λ o. fulls_after o old.fulls) none;
      empties = refl;
    }

    -- where something was done, an order was taken, or a half went home
    pub attended_some : (attended : Attended) (old new : View H) → (attended ≡ Nothing → ⊥)
        → Attends slot_at done attended old new
        → TookOrder slot_at old new ⊎ WentHome slot_at done (without_order old) new
    attended_some Nothing old new some attends = absurd (some refl)
    attended_some (Came slot) old new some attends = inl attends.0
    attended_some Left old new some (inl told) = inl told.0
    attended_some Left old new some (inr went) = inr went

    -- where nothing was, none went home
    pub attended_none : (attended : Attended) (old new : View H) → attended ≡ Nothing
        → Attends slot_at done attended old new → NoneWent slot_at done (without_order old) new
    attended_none attended old new is attends = subst (λ (a : Attended). Attends slot_at done a old new) is attends

    -- whether a half went home
    pub home_gone : (gone : Bool) (old new : View H) → gone ≡ true
        → MatchBool gone (WentHome slot_at done old new) (NoneWent slot_at done old new) → WentHome slot_at done old new
    home_gone true old new is went = went
    home_gone false old new is went = absurd (true≢false (sym is))

    pub none_gone : (gone : Bool) (old new : View H) → gone ≡ false
        → MatchBool gone (WentHome slot_at done old new) (NoneWent slot_at done old new) → NoneWent slot_at done old new
    none_gone true old new is went = absurd (true≢false is)
    none_gone false old new is went = went

  -- behind which halves are turned
  pub same_then : {N : Type 0} (name : H → N) (slot_at done : H → ℕ) (old mid new : View H)
      → NoneWent slot_at done (without_order old) mid → SameButHalves name mid new → SameButHalves name old new
  same_then name slot_at done old mid new none same = record {
    took = same.took ∙ none.took;
    gone = same.gone ∙ none.gone;
    leaving = same.leaving ∙ none.leaving;
    cursor = same.cursor ∙ none.cursor;
    names = same.names ∙ ap (map name) none.held;
  }

-- a half that was due met a full lane home
pub met_full : (due : Option ℕ) (fulls : ℕ) → IsSome due → fulls_after due fulls ≡ raised fulls
met_full None fulls some = absurd (true≢false (sym some))
met_full (Some at) fulls some = refl

wrapped_within : (cursor len : ℕ) → wrapped cursor len ≤ len
wrapped_within cursor len = elim (nat_lt cursor len) as (λ b. nat_lt cursor len ≡ b
    → (if b then cursor else 0) ≤ len) [
      | true ↦ λ e. let l = ltb-true cursor len e in omega arith
      | false ↦ λ e. omega arith
    ] refl

-- a cursor stands within the list
pub cursor_within : (cursor at len : ℕ) → cursor_without cursor at len ≤ len
cursor_within cursor at len = wrapped_within (if nat_lt at cursor then cursor - 1 else cursor) len
