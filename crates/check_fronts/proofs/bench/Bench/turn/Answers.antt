use Rattle.std.proofs.Common.{refl}
use Rattle.check_fronts.proofs.Opens.{stays_open}
use Rattle.check_fronts.proofs.bench.Bench.turn.Goals as goal

pub returns-then-is_multiple_of : goal.returns-then-is_multiple_of
returns-then-is_multiple_of g c = record {
  setup = c.requires.setup;
  open_ = stays_open c.args.self.now.opened _ c.requires.open_ c.requires.open_.workers.whole refl refl refl
      c.turn_control.ensures refl refl;
  latest = c.requires.latest;
}

pub returns-else-is_multiple_of : goal.returns-else-is_multiple_of
returns-else-is_multiple_of g c = record {
  setup = c.requires.setup;
  open_ = stays_open c.args.self.now.opened _ c.requires.open_ c.requires.open_.workers.whole refl refl refl refl
      c.turn_data.ensures.lanes c.turn_data.ensures.places;
  latest = c.requires.latest;
}
