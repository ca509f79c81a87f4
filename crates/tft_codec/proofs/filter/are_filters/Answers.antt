use Rattle.std.proofs.Common.{◌∙◌, sym}
use Rattle.std.proofs.lemmas.Bool.{false≢true}
use Rattle.tft_codec.proofs.Lists.{refuted}
use Rattle.tft_codec.proofs.Kept.{none_filters, filters_step, filter_repeated, filter_at_fits}
use Rattle.tft_codec.proofs.filter.are_filters.Goals as goal
use Rattle.tft_codec.proofs.filter.are_filters.Goals.{then-not-is_filter-via-then-not-is_filter, then-not-is_filter-via-else-not-is_filter+then-has_id}

pub loop-i-init : goal.loop-i-init
loop-i-init c = none_filters

pub returns-then-not-is_filter : goal.returns-then-not-is_filter
returns-then-not-is_filter c =
    elim c.then-not-is_filter.branch [
      | then-not-is_filter-via-then-not-is_filter w ↦ refuted
          (λ kept. false≢true
          (sym w.if-not-is_filter.true ∙ c.is_filter.ensures.1
          (filter_at_fits c.args.items.now c.loop-i.i c.index-items-i.result c.loop-i-test.true c.index-items-i.is kept)))
      | then-not-is_filter-via-else-not-is_filter+then-has_id w ↦ refuted
          (filter_repeated c.args.items.now c.loop-i.i c.index-items-i.result c.loop-i-test.true c.index-items-i.is
          (sym w.has_id.ensures ∙ w.if-has_id.true))
    ]

pub loop-i-preserved : goal.loop-i-preserved
loop-i-preserved c =
    filters_step c.args.items.now c.loop-i.i c.index-items-i.result c.loop-i-test.true c.index-items-i.is
    c.loop-i.invariant (c.is_filter.ensures.0 c.if-not-is_filter.false) (sym c.has_id.ensures ∙ c.if-has_id.false)
