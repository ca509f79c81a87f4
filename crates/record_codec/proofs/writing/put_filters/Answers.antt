use Rattle.tft_codec.proofs.Kept.{filter_at_fits}
use Rattle.record_codec.proofs.writing.put_filters.Goals as goal

pub put_filter-requires : goal.put_filter-requires
put_filter-requires c =
    filter_at_fits c.args.filters.now c.loop-filter.filter-index _ c.loop-filter-test.true c.filter-item.is
    c.requires.filters
