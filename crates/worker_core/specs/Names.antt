-- Which halves came, are held and went home, told by their names.
use Rattle.std.specs.Prelude.{◌≡◌, ℕ, ◌+◌, List, [], ◌∷◌}
use Rattle.std.specs.List.{sum_by}
use Rattle.worker_core.specs.declared.order.Order.{Order}
use Rattle.worker_core.specs.declared.order.Order.TheVariants.{Arrive, Leave}

-- the halves that orders bring
abbrev pub arrivals : {H : Type 0} → List (Order H) → List H
arrivals [] = []
arrivals (Arrive half ∷ orders) = half ∷ arrivals orders
arrivals (Leave _ _ ∷ orders) = arrivals orders

-- what halves weigh, each by its name
abbrev pub weight : {H N : Type 0} → (H → N) → (N → ℕ) → List H → ℕ
weight name h halves = sum_by (λ half. h (name half)) halves

-- each name that came is held or went home, as often as it came: so it is however names are weighed
abbrev pub Kept : {H N : Type 0} → (H → N) → List (Order H) → List H → List H → Type 0
Kept {H} {N} name came held home =
    (h : N → ℕ) → weight name h (arrivals came) ≡ weight name h held + weight name h home
