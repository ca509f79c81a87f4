use Rattle.std.proofs.Common.{ℕ, List, subst}
use Rattle.counter_half.specs.Half.{places_of}
use Rattle.gather_home.specs.DataPlaced.{AllPlaced}
use Rattle.front_core.proofs.homes.datas_home.Goals as goal

pub returns-in-Ok-again-clause-placed : goal.returns-in-Ok-again-clause-placed
returns-in-Ok-again-clause-placed g c =
    subst (λ (l : List ℕ). AllPlaced places_of l c.in-Ok-again.homes.items) c.in-Err.ensures.parts.1
    c.in-Ok-again.ensures.placed
