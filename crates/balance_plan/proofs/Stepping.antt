-- A step, by what is kept of loads.
use Rattle.std.proofs.Common.{◌≡◌, ℕ, ◌+◌, ◌-◌, ◌<◌, ◌≤◌, zero, suc, true, Option, Some, None, List, [], ◌∷◌, length, map, get_or, set, inl, inr, refl, sym, ap, ◌∙◌, subst, arith}
use Rattle.std.specs.List.{All, position_or_len, range_with_len, slice_get, sum_by}
use Rattle.std.specs.Option.{option_map}
use Rattle.std.proofs.lemmas.Bool.{and_parts, cases_eq}
use Rattle.std.proofs.lemmas.List.{get_or-map, get_or_default, get_or_read, length-map}
use Rattle.std.proofs.lemmas.List.Elements.{All-cons, All-nil}
use Rattle.std.proofs.lemmas.List.Folds.{find_at}
use Rattle.std.proofs.lemmas.List.Sums.{passes_at_first}
use Rattle.std.proofs.lemmas.Option.{get_or_from_slice_get, slice_get_within}
use Rattle.balance_plan.specs.Laws.{IsOf, LevelsBy}
use Rattle.balance_plan.specs.Loads.{IsBelow, SlotsRise, gone, load_of, loads_of, moved}
use Rattle.balance_plan.specs.Plan.{plan_of, step_then}
use Rattle.balance_plan.specs.Shares.{HasShares, MayGo, changed, sent}
use Rattle.balance_plan.specs.Steps.{goes, goes_first, greatest, least, may_go, step_of, step_between}
use Rattle.balance_plan.specs.declared.load.Load.{Load}
use Rattle.balance_plan.specs.declared.load.Planned.{Planned}
use Rattle.balance_plan.specs.declared.shares.Shares.{Shares}
use Rattle.balance_plan.proofs.Choosing.{least_within, may_go_says}
use Rattle.balance_plan.proofs.Moving.{Shifts, length-loads_of, load_at, moved_is, packets_stay, shifts, slot_stays, slots_rise_still, still_below, totals_shifted}

-- where a slot goes
abbrev pub to_slice : ℕ → Load → Planned
to_slice to load = record { slot = load.slot; slice = to }

pub step_is : (slices : ℕ) (loads : List Load) (totals : List ℕ) (from to gap : ℕ) → totals ≡ loads_of slices loads
    → from ≡ greatest totals → to ≡ least totals → gap ≡ load_of loads from - load_of loads to
    → step_of slices loads ≡ option_map (to_slice to) (goes from gap loads)
unfolding step_of
step_is slices loads totals from to gap kept from_is to_is gap_is =
    let first : greatest (loads_of slices loads) ≡ from = sym (from_is ∙ ap greatest kept) in
    let last : least (loads_of slices loads) ≡ to = sym (to_is ∙ ap least kept) in
    (λ i. step_between (first i) (last i) loads)
    ∙ ap (λ g. option_map (to_slice to) (goes from g loads)) (sym gap_is)

module _ (old : Shares) (slices at from to gap : ℕ) (none : Load) (has : HasShares old slices)
    (within : at < length old.loads.items) (from_in : from < slices) (to_in : to < slices)
    (may : MayGo from gap (get_or old.loads.items at none))
    (gap_is : gap ≡ load_of old.loads.items from - load_of old.loads.items to) where
  apart : from ≡ to → ⊥
  apart same = omega (arith, may.fits, may.some, gap_is, ap (load_of old.loads.items) same)

  pub loads_moved : (after : List Load) (step : Planned)
      → after ≡ set old.loads.items at (sent to (get_or old.loads.items at none))
      → step ≡ to_slice to (get_or old.loads.items at none) → after ≡ moved step old.loads.items
  loads_moved after step is step_so =
      is ∙ sym (moved_is old.loads.items has.rise at to within none)
      ∙ ap (λ s. moved s old.loads.items) (sym step_so)

  pub shares_after : (new : Shares)
      → new.loads.items ≡ set old.loads.items at (sent to (get_or old.loads.items at none))
      → new.totals.items ≡ changed old.totals.items from to (get_or old.loads.items at none).packets
      → HasShares new slices
  shares_after new is totals_so =
      let step : Planned = to_slice to (get_or old.loads.items at none) in
      let as_moved = loads_moved new.loads.items step is refl in
      let shifted = shifts old.loads.items at from to within none may.slice apart in
      record {
        rise = subst SlotsRise (sym as_moved) (slots_rise_still step old.loads.items has.rise);
        below = subst (All (IsBelow slices)) (sym as_moved) (still_below slices step old.loads.items to_in has.below);
        packets = omega (
          arith,
          has.packets,
          ap (λ ls. sum_by (λ (l : Load). l.packets) ls) is,
          packets_stay old.loads.items at to none within,
        );
        totals = totals_so
            ∙ ap (λ ns. changed ns from to (get_or old.loads.items at none).packets) has.totals
            ∙ totals_shifted slices old.loads.items
            (set old.loads.items at (sent to (get_or old.loads.items at none))) from to
            (get_or old.loads.items at none).packets from_in to_in apart shifted
            ∙ ap (loads_of slices) (sym is);
      }

-- what is read of the loads of two slices
pub gap_of : (old : Shares) (from to one other : ℕ) → HasShares old (length old.totals.items)
    → from < length old.totals.items → to < length old.totals.items → one ≡ get_or old.totals.items from one
    → other ≡ get_or old.totals.items to other
    → one - other ≡ load_of old.loads.items from - load_of old.loads.items to
gap_of old from to one other has from_in to_in one_is other_is =
    let slices : ℕ = length old.totals.items in
    let first : one ≡ load_of old.loads.items from = get_or_read old.totals.items from one from_in one_is 0
    ∙ ap (λ ns. get_or ns from 0) has.totals ∙ load_at slices old.loads.items from from_in in
    let second : other ≡ load_of old.loads.items to = get_or_read old.totals.items to other to_in other_is 0
    ∙ ap (λ ns. get_or ns to 0) has.totals ∙ load_at slices old.loads.items to to_in in
    (λ i. first i - second i)

-- the plan, by its first step
pub plan_ends : (slices most : ℕ) (loads : List Load) → step_of slices loads ≡ None → plan_of slices most loads ≡ []
unfolding plan_of
plan_ends slices zero loads none = refl
plan_ends slices (suc most) loads none =
    ap (λ o. step_then o (λ step. plan_of slices most (moved step loads))) none

pub plan_goes_on : (slices most : ℕ) (loads : List Load) (step : Planned) → step_of slices loads ≡ Some step
    → plan_of slices (suc most) loads ≡ step ∷ plan_of slices most (moved step loads)
unfolding plan_of
plan_goes_on slices most loads step some =
    ap (λ o. step_then o (λ s. plan_of slices most (moved s loads))) some

pub plan_of_none : (slices : ℕ) (loads : List Load) → plan_of slices 0 loads ≡ []
unfolding plan_of
plan_of_none slices loads = refl

-- what goes is one of the loads, and may go
record Goes (from gap : ℕ) (loads : List Load) (load : Load) : Type 0 where
  pub at : ℕ
  pub within : at < length loads
  pub is : get_or loads at load ≡ load
  pub may : MayGo from gap load

goes_says : (from gap : ℕ) (loads : List Load) (load : Load) → goes from gap loads ≡ Some load
    → Goes from gap loads load
goes_says from gap loads load found =
    let there : slice_get loads (position_or_len (goes_first from gap loads) loads) ≡ Some load =
    sym (find_at (goes_first from gap loads) loads) ∙ found in
    let at : ℕ = position_or_len (goes_first from gap loads) loads in
    let within = slice_get_within loads at load there in
    let is : get_or loads at load ≡ load = get_or_from_slice_get loads at load load there in
    let passes : goes_first from gap loads load ≡ true =
    ap (goes_first from gap loads) (sym is) ∙ passes_at_first (goes_first from gap loads) loads load within in
    record {
      at = at;
      within = within;
      is = is;
      may = may_go_says from gap load (and_parts (may_go from gap load) _ passes).0;
    }

mapped : {A B : Type 0} (f : A → B) (o : Option A) (y : B) → option_map f o ≡ Some y
    → (x : A) × (o ≡ Some x) × (f x ≡ y)
mapped f None y is = cc
mapped f (Some x) y is = (x, refl, cc)

record Steps (slices : ℕ) (loads : List Load) (step : Planned) : Type 0 where
  pub from : ℕ
  pub load : Load
  pub goes : Goes from (load_of loads from - load_of loads (least (loads_of slices loads))) loads load
  pub is : to_slice (least (loads_of slices loads)) load ≡ step

step_says : (slices : ℕ) (loads : List Load) (step : Planned) → step_of slices loads ≡ Some step
    → Steps slices loads step
unfolding step_of
step_says slices loads step some =
    let from : ℕ = greatest (loads_of slices loads) in
    let to : ℕ = least (loads_of slices loads) in
    let m = mapped (to_slice to) (goes from (load_of loads from - load_of loads to) loads) step some in
    record {
      from = from;
      load = m.0;
      goes = goes_says from (load_of loads from - load_of loads to) loads m.0 m.1;
      is = m.2;
    }

least_is_one : (slices : ℕ) (loads : List Load) → 1 ≤ slices → least (loads_of slices loads) < slices
least_is_one zero loads some = absurd (omega (arith, some))
least_is_one (suc slices) loads some =
    omega (
      arith,
      least_within (load_of loads 0) (map (load_of loads) (range_with_len (0 + 1) slices)),
      length-loads_of (suc slices) loads,
    )

pub step_is_of : (slices : ℕ) (loads : List Load) (step : Planned) → 1 ≤ slices → step_of slices loads ≡ Some step
    → IsOf slices loads step
step_is_of slices loads step some is =
    let says = step_says slices loads step is in
    record {
      slot = (says.goes.at, says.load, says.goes.within, says.goes.is, ap (λ (p : Planned). p.slot) says.is);
      slice = subst (λ n. n < slices) (ap (λ (p : Planned). p.slice) says.is) (least_is_one slices loads some);
    }

module _ (slices : ℕ) (loads : List Load) (step : Planned) (rise : SlotsRise loads)
    (below : All (IsBelow slices) loads) (is : step_of slices loads ≡ Some step) where
  abbrev says : Steps slices loads step
  says = step_says slices loads step is

  abbrev to : ℕ
  to = least (loads_of slices loads)

  from_in : says.from < slices
  from_in = subst (λ n. n < slices) says.goes.may.slice
      (subst (IsBelow slices) says.goes.is (below says.goes.at says.load says.goes.within))

  apart_too : says.from ≡ to → ⊥
  apart_too same = omega (arith, says.goes.may.fits, says.goes.may.some, ap (load_of loads) same)

  after_is : set loads says.goes.at (sent to (get_or loads says.goes.at says.load)) ≡ moved step loads
  after_is =
      sym (moved_is loads rise says.goes.at to says.goes.within says.load)
      ∙ ap (λ l. moved (to_slice to l) loads) says.goes.is
      ∙ ap (λ s. moved s loads) says.is

  shifted : Shifts loads (moved step loads) says.from to says.load.packets
  shifted =
      subst (λ after. Shifts loads after says.from to says.load.packets) after_is
      (subst (λ (l : Load). Shifts loads (set loads says.goes.at (sent to (get_or loads says.goes.at says.load)))
      says.from to l.packets) says.goes.is
      (shifts loads says.goes.at says.from to says.goes.within says.load
      (ap (λ (l : Load). l.slice) says.goes.is ∙ says.goes.may.slice) apart_too))

  pub levels : LevelsBy slices step loads
  levels = record {
    greatest = λ most bound slice inside. elim (cases_eq slice says.from) [
      | inl is_from ↦ omega (arith, ap (load_of (moved step loads)) is_from, shifted.left, bound says.from from_in)
      | inr not_from ↦ elim (cases_eq slice to) [
        | inl is_to ↦ omega (
          arith,
          ap (load_of (moved step loads)) is_to,
          shifted.joined,
          says.goes.may.fits,
          says.goes.may.some,
          bound says.from from_in,
        )
        | inr not_to ↦ omega (arith, shifted.others slice not_from not_to, bound slice inside)
      ]
    ];
    least = λ fewest bound slice inside.
        let to_in : to < slices = least_is_one slices loads (omega (arith, inside)) in
        elim (cases_eq slice says.from) [
          | inl is_from ↦ omega (
            arith,
            ap (load_of (moved step loads)) is_from,
            shifted.left,
            says.goes.may.fits,
            says.goes.may.some,
            bound to to_in,
          )
          | inr not_from ↦ elim (cases_eq slice to) [
            | inl is_to ↦ omega (arith, ap (load_of (moved step loads)) is_to, shifted.joined, bound to to_in)
            | inr not_to ↦ omega (arith, shifted.others slice not_from not_to, bound slice inside)
          ]
        ];
  }

-- a step of loads with the slot gone is one of the loads before
of_before : (slices : ℕ) (loads : List Load) (before step : Planned) → IsOf slices (moved before loads) step
    → IsOf slices loads step
of_before slices loads before step is =
    let at = is.slot.0 in
    let inside : at < length loads = omega (arith, is.slot.2, length-map loads (gone before)) in
    let none : Load = is.slot.1 in
    record {
      slot = (
        at,
        get_or loads at none,
        inside,
        get_or_default loads at (get_or loads at none) none inside,
        sym (slot_stays before (get_or loads at none))
            ∙ ap (λ (l : Load). l.slot) (sym (get_or-map (gone before) loads at none none inside) ∙ is.slot.3)
            ∙ is.slot.4,
      );
      slice = is.slice;
    }

all_before : (slices : ℕ) (loads : List Load) (before : Planned) (steps : List Planned)
    → All (IsOf slices (moved before loads)) steps → All (IsOf slices loads) steps
all_before slices loads before steps all i none within =
    of_before slices loads before (get_or steps i none) (all i none within)

all_of : (slices : ℕ) (loads : List Load) (rest : Planned → List Planned) (next : Option Planned)
    → ((step : Planned) → next ≡ Some step → IsOf slices loads step)
    → ((step : Planned) → All (IsOf slices loads) (rest step)) → All (IsOf slices loads) (step_then next rest)
all_of slices loads rest None first others = All-nil (IsOf slices loads)
all_of slices loads rest (Some step) first others =
    All-cons (IsOf slices loads) step (rest step) (first step refl) (others step)

pub plan_is_of : (slices most : ℕ) (loads : List Load) → 1 ≤ slices
    → All (IsOf slices loads) (plan_of slices most loads)
unfolding plan_of
plan_is_of slices zero loads some = All-nil (IsOf slices loads)
plan_is_of slices (suc most) loads some =
    all_of slices loads (λ step. plan_of slices most (moved step loads)) (step_of slices loads)
    (λ step is. step_is_of slices loads step some is)
    (λ step. all_before slices loads step (plan_of slices most (moved step loads))
    (plan_is_of slices most (moved step loads) some))
