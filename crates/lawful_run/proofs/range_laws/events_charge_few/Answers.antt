use Rattle.gate_model.proofs.FewCharges.{few_after}
use Rattle.lawful_run.proofs.range_laws.events_charge_few.Goals as goal

pub returns : goal.returns
returns c = λ slot events. (few_after slot events).charged
