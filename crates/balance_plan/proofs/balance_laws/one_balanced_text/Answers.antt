use Rattle.balance_plan.proofs.BalanceLemmas.{one_text}
use Rattle.balance_plan.proofs.balance_laws.one_balanced_text.Goals as goal

pub returns : goal.returns
returns c = one_text
