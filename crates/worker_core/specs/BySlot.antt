-- Lists that a side keeps by slot.
use Rattle.std.specs.Prelude.{◌≡◌, ℕ, List, ◌++◌, replicate, Option, None}

-- a list of places with some more that are free
abbrev pub Grown : {P : Type 0} → List (Option P) → List (Option P) → Type 0
Grown old new = (more : ℕ) × (new ≡ old ++ replicate more None)
