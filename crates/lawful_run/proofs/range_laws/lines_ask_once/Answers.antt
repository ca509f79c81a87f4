use Rattle.lawful_run.proofs.AsksOnce.{lines_ask_once}
use Rattle.lawful_run.proofs.range_laws.lines_ask_once.Goals as goal

pub returns : goal.returns
returns c = lines_ask_once
