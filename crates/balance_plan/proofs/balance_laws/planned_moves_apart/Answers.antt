use Rattle.balance_plan.proofs.ApartLemmas.{apart}
use Rattle.balance_plan.proofs.balance_laws.planned_moves_apart.Goals as goal

pub returns : goal.returns
returns c = λ slices most entries lines. apart slices most entries lines
