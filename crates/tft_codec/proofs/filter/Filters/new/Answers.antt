use Rattle.tft_codec.proofs.Kept.{none_filters}
use Rattle.tft_codec.proofs.filter.Filters.new.Goals as goal

pub invariant_of-result : goal.invariant_of-result
invariant_of-result c = rw c.new.ensures.items none_filters
