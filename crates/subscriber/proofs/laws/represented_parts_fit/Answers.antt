use Rattle.subscriber.proofs.FitLemmas.{parts_fit}
use Rattle.subscriber.proofs.laws.represented_parts_fit.Goals as goal

pub returns : goal.returns
returns c = parts_fit c.few_events_are_few.ensures.held
