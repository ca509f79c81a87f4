use Rattle.std.proofs.Common.{sym, ◌∙◌}
use Rattle.record_codec.proofs.MadeLemmas.{makes_filter}
use Rattle.record_codec.proofs.filters.filter_in.Goals as goal

pub returns-in-Ok : goal.returns-in-Ok
returns-in-Ok c =
    makes_filter c.only_filter.result c.args.octets.now c.in-Ok.tft c.in-Ok.ensures.found
    (sym c.begins_one.ensures ∙ c.if-not-begins_one.false) c.only_filter.ensures
