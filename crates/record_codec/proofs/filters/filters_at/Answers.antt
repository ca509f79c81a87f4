use Rattle.std.proofs.Common.{sym}
use Rattle.record_codec.specs.Read.{filters_differ, filter_at, listed_at}
use Rattle.record_codec.proofs.Codecs.{such_is, such_not, listed_is}
use Rattle.record_codec.proofs.MadeLemmas.{filters_made, filters_not}
use Rattle.record_codec.proofs.filters.filters_at.Goals as goal

pub returns-in-Some : goal.returns-in-Some
returns-in-Some c =
    let read = listed_is filter_at c.args.input.now.rest.now c.in_ok-count.count c.u8_at.new.input.rest.now
    c.in_ok-filters.filters.items c.filters_of.new.input.rest.now c.in_ok-count.ensures c.in_ok-filters.ensures in
    such_is filters_differ (listed_at filter_at) c.args.input.now.rest.now c.in_ok-filters.filters.items
    c.in-Some.filters
    c.filters_of.new.input.rest.now read (filters_made c.in_ok-filters.filters.items c.in-Some.ensures.made.1)
    (sym c.in-Some.ensures.made.0)

pub returns-in-None : goal.returns-in-None
returns-in-None c =
    let read = listed_is filter_at c.args.input.now.rest.now c.in_ok-count.count c.u8_at.new.input.rest.now
    c.in_ok-filters.filters.items c.filters_of.new.input.rest.now c.in_ok-count.ensures c.in_ok-filters.ensures in
    such_not filters_differ (listed_at filter_at) c.args.input.now.rest.now c.in_ok-filters.filters.items
    c.filters_of.new.input.rest.now read
    (filters_not c.u8_at.new.input.rest.now c.in_ok-count.count c.in_ok-filters.filters.items
    c.filters_of.new.input.rest.now c.known_octets.ensures c.in_ok-filters.ensures c.in-None.ensures.none)
