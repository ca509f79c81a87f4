use Rattle.lawful_run.proofs.PastsIn.{lead_in}
use Rattle.lawful_run.proofs.range_laws.events_lead_in_range.Goals as goal

pub returns : goal.returns
returns c = lead_in
