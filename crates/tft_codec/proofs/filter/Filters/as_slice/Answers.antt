use Rattle.tft_codec.proofs.Kept.{filters_few}
use Rattle.tft_codec.proofs.filter.Filters.as_slice.Goals as goal

pub returns-clause-few : goal.returns-clause-few
returns-clause-few c = rw (← c.self.view_is) (filters_few c.self.inside.items.items c.self.invariant)
