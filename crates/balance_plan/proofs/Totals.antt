-- The loads of slices, one slot more.
use Rattle.std.proofs.Common.{◌≡◌, ℕ, ◌+◌, ◌<◌, ◌≤◌, ◌^◌, List, inl, inr, length, get_or, set, take, refl, sym, ap, ◌∙◌, subst, arith}
use Rattle.std.specs.List.{All, sum_by}
use Rattle.std.proofs.lemmas.Bool.{cases_eq}
use Rattle.std.proofs.lemmas.List.{get_or-set_other, get_or-set_same, length-set}
use Rattle.std.proofs.lemmas.List.FromFn.{fill_by_all}
use Rattle.std.proofs.lemmas.List.Sums.{sum_by_more, sum_by_more_le_part}
use Rattle.balance_plan.specs.Loads.{IsBelow, load_of, loads_of, share}
use Rattle.balance_plan.specs.declared.load.Load.{Load}
use Rattle.balance_plan.proofs.Moving.{length-loads_of, load_at, share_elsewhere, share_here}

share_small : (slice : ℕ) (load : Load) → share slice load ≤ load.packets
share_small slice load =
    elim (cases_eq load.slice slice) [
      | inl is ↦ omega (arith, share_here slice load is)
      | inr other ↦ omega (arith, share_elsewhere slice load other)
    ]

module _ (slices : ℕ) (loads : List Load) (i : ℕ) (load : Load) (totals : List ℕ) (within : i < length loads)
    (is : load ≡ get_or loads i load) (below : All (IsBelow slices) loads)
    (so_far : totals ≡ loads_of slices (take i loads)) where
  on_slice : load.slice < slices
  on_slice = subst (IsBelow slices) (sym is) (below i load within)

  total_so_far : (slice : ℕ) → slice < slices → get_or totals slice 0 ≡ load_of (take i loads) slice
  total_so_far slice inside = ap (λ ns. get_or ns slice 0) so_far ∙ load_at slices (take i loads) slice inside

  pub fits_by : sum_by (λ (l : Load). l.packets) loads < 2 ^ 63
      → get_or totals load.slice 0 + load.packets < 2 ^ 64
  fits_by few =
      omega (
        arith,
        few,
        total_so_far load.slice on_slice,
        sum_by_more_le_part (share load.slice) (λ (l : Load). l.packets) loads i load within (share_small load.slice),
        ap (λ (l : Load). l.packets) is,
      )

  more : (slice : ℕ) → load_of (take (i + 1) loads) slice ≡ load_of (take i loads) slice + share slice load
  more slice = sum_by_more (share slice) loads i load within
      ∙ ap (λ l. load_of (take i loads) slice + share slice l) (sym is)

  pub totals_more_by : (after : List ℕ)
      → after ≡ set totals load.slice (get_or totals load.slice 0 + load.packets)
      → after ≡ loads_of slices (take (i + 1) loads)
  totals_more_by after added =
      let many : length totals ≡ slices = ap length so_far ∙ length-loads_of slices (take i loads) in
      let there : load.slice < length totals = omega (arith, on_slice) in
      added ∙ fill_by_all (load_of (take (i + 1) loads))
      (set totals load.slice (get_or totals load.slice 0 + load.packets)) slices 0
      (length-set totals load.slice (get_or totals load.slice 0 + load.packets) ∙ many)
      (λ k inside. elim (cases_eq k load.slice) as (λ _.
      get_or (set totals load.slice (get_or totals load.slice 0 + load.packets)) k 0
      ≡ load_of (take (i + 1) loads) k) [
        | inl here ↦ ap (λ n. get_or (set totals load.slice (get_or totals load.slice 0 + load.packets)) n 0) here
            ∙ get_or-set_same totals load.slice (get_or totals load.slice 0 + load.packets) 0 there
            ∙ omega (arith, total_so_far load.slice on_slice, more load.slice, share_here load.slice load refl)
            ∙ sym (ap (load_of (take (i + 1) loads)) here)
        | inr other ↦
            get_or-set_other totals load.slice k (get_or totals load.slice 0 + load.packets) 0 other
            ∙ omega (arith, total_so_far k inside, more k, share_elsewhere k load (λ same. other (sym same)))
      ])

pub load_more : (slices : ℕ) (loads : List Load) (i : ℕ) (load : Load) → i < length loads
    → load ≡ get_or loads i load → All (IsBelow slices) loads → load.slice < slices
load_more slices loads i load within is below = subst (IsBelow slices) (sym is) (below i load within)

pub fits : (slices : ℕ) (loads : List Load) (i : ℕ) (load : Load) (totals : List ℕ) → i < length loads
    → load ≡ get_or loads i load → All (IsBelow slices) loads → totals ≡ loads_of slices (take i loads)
    → sum_by (λ (l : Load). l.packets) loads < 2 ^ 63 → get_or totals load.slice 0 + load.packets < 2 ^ 64
fits slices loads i load totals within is below so_far few =
    fits_by slices loads i load totals within is below so_far few

pub totals_more : (slices : ℕ) (loads : List Load) (i : ℕ) (load : Load) (totals after : List ℕ) → i < length loads
    → load ≡ get_or loads i load → All (IsBelow slices) loads → totals ≡ loads_of slices (take i loads)
    → after ≡ set totals load.slice (get_or totals load.slice 0 + load.packets)
    → after ≡ loads_of slices (take (i + 1) loads)
totals_more slices loads i load totals after within is below so_far added =
    totals_more_by slices loads i load totals within is below so_far after added
