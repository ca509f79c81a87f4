use Rattle.std.proofs.Common.{sym, ◌∙◌}
use Rattle.check_fronts.proofs.bench.close_epoch.Goals as goal

pub close-requires-clause-controls : goal.close-requires-clause-controls
close-requires-clause-controls g c = c.in_ok-controls.ensures ∙ sym c.requires.controls

pub close-requires-clause-datas : goal.close-requires-clause-datas
close-requires-clause-datas g c = c.in_ok-datas.ensures.lanes ∙ sym c.requires.datas

pub close-requires-clause-places : goal.close-requires-clause-places
close-requires-clause-places g c = c.in_ok-datas.ensures.places ∙ c.requires.places
