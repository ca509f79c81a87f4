-- The loads of slots and slices, where a slot has gone to another slice.
use Rattle.std.proofs.Common.{◌≡◌, ℕ, ◌+◌, ◌-◌, ◌<◌, ◌==◌, Bool, true, false, cond, List, inl, inr, length, get_or, set, refl, sym, ap, ◌∙◌, subst, arith}
use Rattle.std.specs.List.{All, sum_by}
use Rattle.std.proofs.lemmas.Bool.{cases_eq, cases_order, cond-false, cond-true, eq-eqb, ne_eqb}
use Rattle.std.proofs.lemmas.List.{ext_get_or, get_or-map, get_or-set_other, get_or-set_same, length-map, length-set}
use Rattle.std.proofs.lemmas.List.FromFn.{fill_by_all, get_or-map-range_with_len, length-map-range_with_len}
use Rattle.std.proofs.lemmas.List.Sums.{sum_by-set}
use Rattle.balance_plan.specs.Loads.{IsBelow, SlotsRise, gone, load_of, loads_of, moved, share}
use Rattle.balance_plan.specs.Shares.{changed, sent}
use Rattle.balance_plan.specs.declared.load.Load.{Load}
use Rattle.balance_plan.specs.declared.load.Planned.{Planned}

-- a slot that goes keeps its number
slot_stays_by : (there : Bool) (step : Planned) (load : Load)
    → (cond there (record load { slice = step.slice }) load).slot ≡ load.slot
slot_stays_by true step load = refl
slot_stays_by false step load = refl

pub slot_stays : (step : Planned) (load : Load) → (gone step load).slot ≡ load.slot
slot_stays step load = slot_stays_by (load.slot == step.slot) step load

pub slots_rise_still : (step : Planned) (loads : List Load) → SlotsRise loads → SlotsRise (moved step loads)
slots_rise_still step loads rise i j none before within =
    let inside : j < length loads = omega (arith, within, length-map loads (gone step)) in
    let one = ap (λ (l : Load). l.slot) (get_or-map (gone step) loads i none none (omega arith))
    ∙ slot_stays step (get_or loads i none) in
    let other = ap (λ (l : Load). l.slot) (get_or-map (gone step) loads j none none inside)
    ∙ slot_stays step (get_or loads j none) in
    omega (arith, one, other, rise i j none before inside)

below_by : (slices : ℕ) (there : Bool) (step : Planned) (load : Load) → step.slice < slices → IsBelow slices load
    → IsBelow slices (cond there (record load { slice = step.slice }) load)
below_by slices true step load to below = to
below_by slices false step load to below = below

pub still_below : (slices : ℕ) (step : Planned) (loads : List Load) → step.slice < slices → All (IsBelow slices) loads
    → All (IsBelow slices) (moved step loads)
still_below slices step loads to below i none within =
    let inside : i < length loads = omega (arith, within, length-map loads (gone step)) in
    subst (IsBelow slices) (sym (get_or-map (gone step) loads i none none inside))
    (below_by slices ((get_or loads i none).slot == step.slot) step (get_or loads i none) to (below i none inside))

module _ (loads : List Load) (rise : SlotsRise loads) (at to : ℕ) (within : at < length loads) (none : Load) where
  went : Load
  went = get_or loads at none

  slots_differ : (k : ℕ) → k < length loads → (k ≡ at → ⊥) → (get_or loads k none).slot ≡ (get_or loads at none).slot
      → ⊥
  slots_differ k inside other same =
      elim (cases_order k at) [
        | inl is ↦ other is
        | inr apart ↦ elim apart [
          | inl before ↦ absurd (omega (arith, rise k at none before within, same))
          | inr behind ↦ absurd (omega (arith, rise at k none behind inside, same))
        ]
      ]

  pub moved_is : moved (record { slot = (get_or loads at none).slot; slice = to }) loads
      ≡ set loads at (sent to (get_or loads at none))
  moved_is =
      let step : Planned = record { slot = (get_or loads at none).slot; slice = to } in
      ext_get_or none (moved step loads) (set loads at (sent to (get_or loads at none)))
      (length-map loads (gone step) ∙ sym (length-set loads at (sent to (get_or loads at none))))
      (λ k below.
      let inside : k < length loads = omega (arith, below, length-map loads (gone step)) in
      get_or-map (gone step) loads k none none inside
      ∙ elim (cases_eq k at) as (λ _. gone step (get_or loads k none)
      ≡ get_or (set loads at (sent to (get_or loads at none))) k none) [
        | inl is ↦ ap (λ n. gone step (get_or loads n none)) is
            ∙ cond-true ((get_or loads at none).slot == step.slot) (sent to (get_or loads at none))
            (get_or loads at none) (eq-eqb (get_or loads at none).slot step.slot refl)
            ∙ sym (ap (λ n. get_or (set loads at (sent to (get_or loads at none))) n none) is
            ∙ get_or-set_same loads at (sent to (get_or loads at none)) none within)
        | inr other ↦ cond-false ((get_or loads k none).slot == step.slot) (sent to (get_or loads k none))
            (get_or loads k none) (ne_eqb (get_or loads k none).slot step.slot (slots_differ k inside other))
            ∙ sym (get_or-set_other loads at k (sent to (get_or loads at none)) none other)
      ])

-- what a slot adds where it is, and nothing elsewhere
pub share_here : (slice : ℕ) (load : Load) → load.slice ≡ slice → share slice load ≡ load.packets
share_here slice load is = cond-true (load.slice == slice) load.packets 0 (eq-eqb load.slice slice is)

pub share_elsewhere : (slice : ℕ) (load : Load) → (load.slice ≡ slice → ⊥) → share slice load ≡ 0
share_elsewhere slice load other = cond-false (load.slice == slice) load.packets 0 (ne_eqb load.slice slice other)

-- what a step makes of the loads of slices
pub record Shifts (loads after : List Load) (from to packets : ℕ) : Type 0 where
  pub left : load_of after from + packets ≡ load_of loads from
  pub joined : load_of after to ≡ load_of loads to + packets
  pub others : (slice : ℕ) → (slice ≡ from → ⊥) → (slice ≡ to → ⊥) → load_of after slice ≡ load_of loads slice

module _ (loads : List Load) (at from to : ℕ) (within : at < length loads) (none : Load)
    (there : (get_or loads at none).slice ≡ from) (apart : from ≡ to → ⊥) where
  shift : (slice : ℕ) → load_of (set loads at (sent to (get_or loads at none))) slice
      + share slice (get_or loads at none)
      ≡ load_of loads slice + share slice (sent to (get_or loads at none))
  shift slice = sum_by-set (share slice) loads at (sent to (get_or loads at none)) none within

  pub shifts : Shifts loads (set loads at (sent to (get_or loads at none))) from to (get_or loads at none).packets
  shifts = record {
    left = omega (
      arith,
      shift from,
      share_here from (get_or loads at none) there,
      share_elsewhere from (sent to (get_or loads at none)) (λ is. apart (sym is)),
    );
    joined = omega (
      arith,
      shift to,
      share_elsewhere to (get_or loads at none) (λ is. apart (sym there ∙ is)),
      share_here to (sent to (get_or loads at none)) refl,
    );
    others = λ slice not_from not_to. omega (
      arith,
      shift slice,
      share_elsewhere slice (get_or loads at none) (λ is. not_from (sym is ∙ there)),
      share_elsewhere slice (sent to (get_or loads at none)) (λ is. not_to (sym is)),
    );
  }

pub load_at : (slices : ℕ) (loads : List Load) (slice : ℕ) → slice < slices
    → get_or (loads_of slices loads) slice 0 ≡ load_of loads slice
load_at slices loads slice below = get_or-map-range_with_len (load_of loads) 0 slices slice slice 0 below (omega arith)

pub length-loads_of : (slices : ℕ) (loads : List Load) → length (loads_of slices loads) ≡ slices
length-loads_of slices loads = length-map-range_with_len (load_of loads) 0 slices

-- numbers where so much has gone from one place to another
changed_at : (numbers : List ℕ) (from to much k : ℕ) → from < length numbers → to < length numbers
    → (from ≡ to → ⊥) → (k ≡ from → ⊥) → (k ≡ to → ⊥) → get_or (changed numbers from to much) k 0 ≡ get_or numbers k 0
changed_at numbers from to much k from_in to_in apart not_from not_to =
    get_or-set_other (set numbers from (get_or numbers from 0 - much)) to k
    (get_or (set numbers from (get_or numbers from 0 - much)) to 0 + much) 0 not_to
    ∙ get_or-set_other numbers from k (get_or numbers from 0 - much) 0 not_from

changed_from : (numbers : List ℕ) (from to much : ℕ) → from < length numbers → (from ≡ to → ⊥)
    → get_or (changed numbers from to much) from 0 ≡ get_or numbers from 0 - much
changed_from numbers from to much from_in apart =
    get_or-set_other (set numbers from (get_or numbers from 0 - much)) to from
    (get_or (set numbers from (get_or numbers from 0 - much)) to 0 + much) 0 apart
    ∙ get_or-set_same numbers from (get_or numbers from 0 - much) 0 from_in

changed_to : (numbers : List ℕ) (from to much : ℕ) → to < length numbers → (from ≡ to → ⊥)
    → get_or (changed numbers from to much) to 0 ≡ get_or numbers to 0 + much
changed_to numbers from to much to_in apart =
    let less : List ℕ = set numbers from (get_or numbers from 0 - much) in
    get_or-set_same less to (get_or less to 0 + much) 0
    (omega (arith, to_in, length-set numbers from (get_or numbers from 0 - much)))
    ∙ ap (λ n. n + much) (get_or-set_other numbers from to (get_or numbers from 0 - much) 0 (λ is. apart (sym is)))

pub length-changed : (numbers : List ℕ) (from to much : ℕ) → length (changed numbers from to much) ≡ length numbers
length-changed numbers from to much =
    let less : List ℕ = set numbers from (get_or numbers from 0 - much) in
    length-set less to (get_or less to 0 + much) ∙ length-set numbers from (get_or numbers from 0 - much)

pub totals_shifted : (slices : ℕ) (loads after : List Load) (from to packets : ℕ) → from < slices → to < slices
    → (from ≡ to → ⊥) → Shifts loads after from to packets
    → changed (loads_of slices loads) from to packets ≡ loads_of slices after
totals_shifted slices loads after from to packets from_in to_in apart shifts =
    let many = length-loads_of slices loads in
    let from_there : from < length (loads_of slices loads) = omega arith in
    let to_there : to < length (loads_of slices loads) = omega arith in
    fill_by_all (load_of after) (changed (loads_of slices loads) from to packets) slices 0
    (length-changed (loads_of slices loads) from to packets ∙ many)
    (λ k below. elim (cases_eq k from) as (λ _. get_or (changed (loads_of slices loads) from to packets) k 0
    ≡ load_of after k) [
      | inl is ↦ ap (λ n. get_or (changed (loads_of slices loads) from to packets) n 0) is
          ∙ changed_from (loads_of slices loads) from to packets from_there apart
          ∙ omega (arith, load_at slices loads from from_in, shifts.left)
          ∙ sym (ap (load_of after) is)
      | inr not_from ↦ elim (cases_eq k to) as (λ _. get_or (changed (loads_of slices loads) from to packets) k 0
          ≡ load_of after k) [
            | inl is ↦ ap (λ n. get_or (changed (loads_of slices loads) from to packets) n 0) is
                ∙ changed_to (loads_of slices loads) from to packets to_there apart
                ∙ ap (λ n. n + packets) (load_at slices loads to to_in) ∙ sym shifts.joined
                ∙ sym (ap (load_of after) is)
            | inr not_to ↦ changed_at (loads_of slices loads) from to packets k from_there to_there apart not_from not_to
                ∙ load_at slices loads k below ∙ sym (shifts.others k not_from not_to)
          ]
    ])

-- all packets stay
pub packets_stay : (loads : List Load) (at to : ℕ) (none : Load) → at < length loads
    → sum_by (λ (l : Load). l.packets) (set loads at (sent to (get_or loads at none)))
    ≡ sum_by (λ (l : Load). l.packets) loads
packets_stay loads at to none within =
    omega (arith, sum_by-set (λ (l : Load). l.packets) loads at (sent to (get_or loads at none)) none within)
