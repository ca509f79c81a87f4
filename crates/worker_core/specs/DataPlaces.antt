-- Where a half handled its items: all items of a stay on the slice where it stood.
use Rattle.std.specs.Prelude.{ℕ, Bool, false, ◌==◌, if◌then◌else◌, List, [], ◌∷◌}
use Rattle.pc_base.specs.declared.packet.Place.{Place}
use Rattle.pc_base.specs.declared.packet.Place.TheVariants.{At, Closing}

-- whether a place is this slice
abbrev pub is_here : ℕ → Place → Bool
is_here here (At slice) = slice == here
is_here here Closing = false

-- a place in front of those that are left, unless it is this slice and none is left
abbrev pub with_place : ℕ → Place → List Place → List Place
with_place here place [] = if is_here here place then [] else place ∷ []
with_place here place (next ∷ left) = place ∷ next ∷ left

-- the places, without those at the end that are this slice
abbrev pub before_here : ℕ → List Place → List Place
before_here here [] = []
before_here here (place ∷ places) = with_place here place (before_here here places)

-- what a half brings to a slice: its name, and where it handled items before the stay there
abbrev pub brought : {H N : Type 0} → (H → N) → (H → List Place) → ℕ → H → N × List Place
brought name places here half = (name half, before_here here (places half))
