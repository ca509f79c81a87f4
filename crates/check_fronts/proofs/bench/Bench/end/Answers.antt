use Rattle.check_fronts.proofs.bench.Bench.end.Goals as goal

pub close_epoch-requires : goal.close_epoch-requires
close_epoch-requires g c = c.requires.open_.workers

pub found_of-requires : goal.found_of-requires
found_of-requires g c = c.requires.setup
